-- A tree of patterns as a value that a proof tells apart.
use Rattle.std.specs.Prelude.{◌≡◌, refl}
use Rattle.std.proofs.Common.{ap}
use Rattle.std.specs.Coded.{Coded, coded_bool, coded_ℕ, coded_ℤ}
use base.Stored.{Gv, gnil, gnum, gcons}
use Rattle.isle_ast.specs.Trees.Coded.{pos_code, ident_code, left, right}
use Rattle.isle_ast.specs.Trees.PatternTree.{PatternTree, PatternTrees, pattern_var, pattern_bind, pattern_bool, pattern_int, pattern_prim}
use Rattle.isle_ast.specs.Trees.PatternTree.{pattern_term, pattern_wildcard, pattern_and, pattern_macro_arg, no_patterns, more_patterns}

abbrev mutual
  pub pattern_code_of : PatternTree → Gv
  pattern_code_of (pattern_var x p) = gcons (gnum 0) (gcons (ident_code.code x) (pos_code.code p))
  pattern_code_of (pattern_bind x t p) = gcons (gnum 1) (gcons (ident_code.code x) (gcons (pattern_code_of t) (pos_code.code p)))
  pattern_code_of (pattern_bool b p) = gcons (gnum 2) (gcons (coded_bool.code b) (pos_code.code p))
  pattern_code_of (pattern_int n big p) = gcons (gnum 3) (gcons (coded_ℤ.code n) (gcons (coded_bool.code big) (pos_code.code p)))
  pattern_code_of (pattern_prim x p) = gcons (gnum 4) (gcons (ident_code.code x) (pos_code.code p))
  pattern_code_of (pattern_term f ts p) = gcons (gnum 5) (gcons (ident_code.code f) (gcons (pattern_codes ts) (pos_code.code p)))
  pattern_code_of (pattern_wildcard p) = gcons (gnum 6) (pos_code.code p)
  pattern_code_of (pattern_and ts p) = gcons (gnum 7) (gcons (pattern_codes ts) (pos_code.code p))
  pattern_code_of (pattern_macro_arg k p) = gcons (gnum 8) (gcons (coded_ℕ.code k) (pos_code.code p))

  pub pattern_codes : PatternTrees → Gv
  pattern_codes no_patterns = gnil
  pattern_codes (more_patterns t ts) = gcons (pattern_code_of t) (pattern_codes ts)

mutual
  pub pattern_code_inj : (s t : PatternTree) → pattern_code_of s ≡ pattern_code_of t → s ≡ t
  pattern_code_inj (pattern_var x1 p1) (pattern_var x2 p2) e =
      let x_same = ident_code.inj x1 x2 (ap (λ g. left (right g)) e) in
      let p_same = pos_code.inj p1 p2 (ap (λ g. right (right g)) e) in
      cc
  pattern_code_inj (pattern_bind x1 t1 p1) (pattern_bind x2 t2 p2) e =
      let x_same = ident_code.inj x1 x2 (ap (λ g. left (right g)) e) in
      let t_same = pattern_code_inj t1 t2 (ap (λ g. left (right (right g))) e) in
      let p_same = pos_code.inj p1 p2 (ap (λ g. right (right (right g))) e) in
      cc
  pattern_code_inj (pattern_bool b1 p1) (pattern_bool b2 p2) e =
      let b_same = coded_bool.inj b1 b2 (ap (λ g. left (right g)) e) in
      let p_same = pos_code.inj p1 p2 (ap (λ g. right (right g)) e) in
      cc
  pattern_code_inj (pattern_int n1 big1 p1) (pattern_int n2 big2 p2) e =
      let n_same = coded_ℤ.inj n1 n2 (ap (λ g. left (right g)) e) in
      let big_same = coded_bool.inj big1 big2 (ap (λ g. left (right (right g))) e) in
      let p_same = pos_code.inj p1 p2 (ap (λ g. right (right (right g))) e) in
      cc
  pattern_code_inj (pattern_prim x1 p1) (pattern_prim x2 p2) e =
      let x_same = ident_code.inj x1 x2 (ap (λ g. left (right g)) e) in
      let p_same = pos_code.inj p1 p2 (ap (λ g. right (right g)) e) in
      cc
  pattern_code_inj (pattern_term f1 ts1 p1) (pattern_term f2 ts2 p2) e =
      let f_same = ident_code.inj f1 f2 (ap (λ g. left (right g)) e) in
      let ts_same = pattern_codes_inj ts1 ts2 (ap (λ g. left (right (right g))) e) in
      let p_same = pos_code.inj p1 p2 (ap (λ g. right (right (right g))) e) in
      cc
  pattern_code_inj (pattern_wildcard p1) (pattern_wildcard p2) e =
      let p_same = pos_code.inj p1 p2 (ap (λ g. right g) e) in
      cc
  pattern_code_inj (pattern_and ts1 p1) (pattern_and ts2 p2) e =
      let ts_same = pattern_codes_inj ts1 ts2 (ap (λ g. left (right g)) e) in
      let p_same = pos_code.inj p1 p2 (ap (λ g. right (right g)) e) in
      cc
  pattern_code_inj (pattern_macro_arg k1 p1) (pattern_macro_arg k2 p2) e =
      let k_same = coded_ℕ.inj k1 k2 (ap (λ g. left (right g)) e) in
      let p_same = pos_code.inj p1 p2 (ap (λ g. right (right g)) e) in
      cc
  pattern_code_inj _ _ e = cc

  pub pattern_codes_inj : (s t : PatternTrees) → pattern_codes s ≡ pattern_codes t → s ≡ t
  pattern_codes_inj no_patterns no_patterns e = refl
  pattern_codes_inj (more_patterns s ss) (more_patterns t ts) e =
      let first = pattern_code_inj s t (ap left e) in let rest = pattern_codes_inj ss ts (ap right e) in cc
  pattern_codes_inj _ _ e = cc

abbrev pub pattern_tree_code : Coded PatternTree
pattern_tree_code = record { code = pattern_code_of; inj = pattern_code_inj }

abbrev pub pattern_trees_code : Coded PatternTrees
pattern_trees_code = record { code = pattern_codes; inj = pattern_codes_inj }
