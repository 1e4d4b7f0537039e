-- An S-expression as a value that a proof tells apart.
use Rattle.std.specs.Prelude.{◌≡◌, refl}
use Rattle.std.proofs.Common.{ap}
use Rattle.std.specs.Coded.{Coded, coded_list, coded_ℕ}
use base.Stored.{Gv, gnil, gnum, gcons}
use Rattle.isle_ast.specs.Trees.Coded.{left, right}
use Rattle.isle_layout.specs.SExprTree.{SExprTree, SExprTrees, sexpr_atom, sexpr_binding, sexpr_list, no_sexprs, more_sexprs}

abbrev mutual
  pub sexpr_code_of : SExprTree → Gv
  sexpr_code_of (sexpr_atom a) = gcons (gnum 0) ((coded_list coded_ℕ).code a)
  sexpr_code_of (sexpr_binding x t) = gcons (gnum 1) (gcons ((coded_list coded_ℕ).code x) (sexpr_code_of t))
  sexpr_code_of (sexpr_list ts) = gcons (gnum 2) (sexpr_codes ts)

  pub sexpr_codes : SExprTrees → Gv
  sexpr_codes no_sexprs = gnil
  sexpr_codes (more_sexprs t ts) = gcons (sexpr_code_of t) (sexpr_codes ts)

mutual
  pub sexpr_code_inj : (s t : SExprTree) → sexpr_code_of s ≡ sexpr_code_of t → s ≡ t
  sexpr_code_inj (sexpr_atom a1) (sexpr_atom a2) e =
      let a_same = (coded_list coded_ℕ).inj a1 a2 (ap (λ g. right g) e) in
      cc
  sexpr_code_inj (sexpr_binding x1 t1) (sexpr_binding x2 t2) e =
      let x_same = (coded_list coded_ℕ).inj x1 x2 (ap (λ g. left (right g)) e) in
      let t_same = sexpr_code_inj t1 t2 (ap (λ g. right (right g)) e) in
      cc
  sexpr_code_inj (sexpr_list ts1) (sexpr_list ts2) e =
      let ts_same = sexpr_codes_inj ts1 ts2 (ap (λ g. right g) e) in
      cc
  sexpr_code_inj _ _ e = cc

  pub sexpr_codes_inj : (s t : SExprTrees) → sexpr_codes s ≡ sexpr_codes t → s ≡ t
  sexpr_codes_inj no_sexprs no_sexprs e = refl
  sexpr_codes_inj (more_sexprs s ss) (more_sexprs t ts) e =
      let first = sexpr_code_inj s t (ap left e) in let rest = sexpr_codes_inj ss ts (ap right e) in cc
  sexpr_codes_inj _ _ e = cc

abbrev pub sexpr_tree_code : Coded SExprTree
sexpr_tree_code = record { code = sexpr_code_of; inj = sexpr_code_inj }

abbrev pub sexpr_trees_code : Coded SExprTrees
sexpr_trees_code = record { code = sexpr_codes; inj = sexpr_codes_inj }
