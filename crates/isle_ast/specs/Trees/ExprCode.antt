-- A tree of expressions as a value that a proof tells apart.
use Rattle.std.specs.Prelude.{◌≡◌, refl}
use Rattle.std.proofs.Common.{ap}
use Rattle.std.specs.Coded.{Coded, coded_bool, coded_ℤ}
use base.Stored.{Gv, gnil, gnum, gcons}
use Rattle.isle_ast.specs.Trees.Coded.{pos_code, ident_code, left, right}
use Rattle.isle_ast.specs.Trees.ExprTree.{ExprTree, ExprTrees, LetTrees, expr_term, expr_var, expr_bool, expr_int, expr_prim, expr_let, no_exprs}
use Rattle.isle_ast.specs.Trees.ExprTree.{more_exprs, no_lets, more_lets}

abbrev mutual
  pub expr_code_of : ExprTree → Gv
  expr_code_of (expr_term f ts p) = gcons (gnum 0) (gcons (ident_code.code f) (gcons (expr_codes ts) (pos_code.code p)))
  expr_code_of (expr_var x p) = gcons (gnum 1) (gcons (ident_code.code x) (pos_code.code p))
  expr_code_of (expr_bool b p) = gcons (gnum 2) (gcons (coded_bool.code b) (pos_code.code p))
  expr_code_of (expr_int n big p) = gcons (gnum 3) (gcons (coded_ℤ.code n) (gcons (coded_bool.code big) (pos_code.code p)))
  expr_code_of (expr_prim x p) = gcons (gnum 4) (gcons (ident_code.code x) (pos_code.code p))
  expr_code_of (expr_let ds t p) = gcons (gnum 5) (gcons (let_codes ds) (gcons (expr_code_of t) (pos_code.code p)))

  pub expr_codes : ExprTrees → Gv
  expr_codes no_exprs = gnil
  expr_codes (more_exprs t ts) = gcons (expr_code_of t) (expr_codes ts)

  pub let_codes : LetTrees → Gv
  let_codes no_lets = gnil
  let_codes (more_lets x y t p ds) =
      gcons (ident_code.code x) (gcons (ident_code.code y) (gcons (expr_code_of t) (gcons (pos_code.code p) (let_codes ds))))

mutual
  pub expr_code_inj : (s t : ExprTree) → expr_code_of s ≡ expr_code_of t → s ≡ t
  expr_code_inj (expr_term f1 ts1 p1) (expr_term f2 ts2 p2) e =
      let f_same = ident_code.inj f1 f2 (ap (λ g. left (right g)) e) in
      let ts_same = expr_codes_inj ts1 ts2 (ap (λ g. left (right (right g))) e) in
      let p_same = pos_code.inj p1 p2 (ap (λ g. right (right (right g))) e) in
      cc
  expr_code_inj (expr_var x1 p1) (expr_var x2 p2) e =
      let x_same = ident_code.inj x1 x2 (ap (λ g. left (right g)) e) in
      let p_same = pos_code.inj p1 p2 (ap (λ g. right (right g)) e) in
      cc
  expr_code_inj (expr_bool b1 p1) (expr_bool b2 p2) e =
      let b_same = coded_bool.inj b1 b2 (ap (λ g. left (right g)) e) in
      let p_same = pos_code.inj p1 p2 (ap (λ g. right (right g)) e) in
      cc
  expr_code_inj (expr_int n1 big1 p1) (expr_int n2 big2 p2) e =
      let n_same = coded_ℤ.inj n1 n2 (ap (λ g. left (right g)) e) in
      let big_same = coded_bool.inj big1 big2 (ap (λ g. left (right (right g))) e) in
      let p_same = pos_code.inj p1 p2 (ap (λ g. right (right (right g))) e) in
      cc
  expr_code_inj (expr_prim x1 p1) (expr_prim x2 p2) e =
      let x_same = ident_code.inj x1 x2 (ap (λ g. left (right g)) e) in
      let p_same = pos_code.inj p1 p2 (ap (λ g. right (right g)) e) in
      cc
  expr_code_inj (expr_let ds1 t1 p1) (expr_let ds2 t2 p2) e =
      let ds_same = let_codes_inj ds1 ds2 (ap (λ g. left (right g)) e) in
      let t_same = expr_code_inj t1 t2 (ap (λ g. left (right (right g))) e) in
      let p_same = pos_code.inj p1 p2 (ap (λ g. right (right (right g))) e) in
      cc
  expr_code_inj _ _ e = cc

  pub expr_codes_inj : (s t : ExprTrees) → expr_codes s ≡ expr_codes t → s ≡ t
  expr_codes_inj no_exprs no_exprs e = refl
  expr_codes_inj (more_exprs s ss) (more_exprs t ts) e =
      let first = expr_code_inj s t (ap left e) in let rest = expr_codes_inj ss ts (ap right e) in cc
  expr_codes_inj _ _ e = cc

  pub let_codes_inj : (s t : LetTrees) → let_codes s ≡ let_codes t → s ≡ t
  let_codes_inj no_lets no_lets e = refl
  let_codes_inj (more_lets x1 y1 t1 p1 ds1) (more_lets x2 y2 t2 p2 ds2) e =
      let x_same = ident_code.inj x1 x2 (ap (λ g. left g) e) in
      let y_same = ident_code.inj y1 y2 (ap (λ g. left (right g)) e) in
      let t_same = expr_code_inj t1 t2 (ap (λ g. left (right (right g))) e) in
      let p_same = pos_code.inj p1 p2 (ap (λ g. left (right (right (right g)))) e) in
      let ds_same = let_codes_inj ds1 ds2 (ap (λ g. right (right (right (right g)))) e) in
      cc
  let_codes_inj _ _ e = cc

abbrev pub expr_tree_code : Coded ExprTree
expr_tree_code = record { code = expr_code_of; inj = expr_code_inj }

abbrev pub expr_trees_code : Coded ExprTrees
expr_trees_code = record { code = expr_codes; inj = expr_codes_inj }

abbrev pub let_trees_code : Coded LetTrees
let_trees_code = record { code = let_codes; inj = let_codes_inj }
