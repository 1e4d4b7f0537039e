-- A tree of kept items as a value that a proof tells apart.
use Rattle.std.specs.Prelude.{◌≡◌, refl}
use Rattle.std.proofs.Common.{ap}
use Rattle.std.specs.Coded.{Coded, coded_ℕ, coded_ℤ}
use base.Stored.{Gv, gnil, gnum, gcons}
use Rattle.isle_ast.specs.Trees.Coded.{pos_code, ident_code, left, right}
use Rattle.isle_ast.specs.Trees.ItemTree.{ItemTree, ItemTrees, item_int, item_big, item_symbol, item_at, item_list, no_items, more_items}

abbrev mutual
  pub item_code_of : ItemTree → Gv
  item_code_of (item_int n p) = gcons (gnum 0) (gcons (coded_ℤ.code n) (pos_code.code p))
  item_code_of (item_big n p) = gcons (gnum 1) (gcons (coded_ℕ.code n) (pos_code.code p))
  item_code_of (item_symbol x) = gcons (gnum 2) (ident_code.code x)
  item_code_of (item_at p) = gcons (gnum 3) (pos_code.code p)
  item_code_of (item_list ts p) = gcons (gnum 4) (gcons (item_codes ts) (pos_code.code p))

  pub item_codes : ItemTrees → Gv
  item_codes no_items = gnil
  item_codes (more_items t ts) = gcons (item_code_of t) (item_codes ts)

mutual
  pub item_code_inj : (s t : ItemTree) → item_code_of s ≡ item_code_of t → s ≡ t
  item_code_inj (item_int n1 p1) (item_int n2 p2) e =
      let n_same = coded_ℤ.inj n1 n2 (ap (λ g. left (right g)) e) in
      let p_same = pos_code.inj p1 p2 (ap (λ g. right (right g)) e) in
      cc
  item_code_inj (item_big n1 p1) (item_big n2 p2) e =
      let n_same = coded_ℕ.inj n1 n2 (ap (λ g. left (right g)) e) in
      let p_same = pos_code.inj p1 p2 (ap (λ g. right (right g)) e) in
      cc
  item_code_inj (item_symbol x1) (item_symbol x2) e =
      let x_same = ident_code.inj x1 x2 (ap (λ g. right g) e) in
      cc
  item_code_inj (item_at p1) (item_at p2) e =
      let p_same = pos_code.inj p1 p2 (ap (λ g. right g) e) in
      cc
  item_code_inj (item_list ts1 p1) (item_list ts2 p2) e =
      let ts_same = item_codes_inj ts1 ts2 (ap (λ g. left (right g)) e) in
      let p_same = pos_code.inj p1 p2 (ap (λ g. right (right g)) e) in
      cc
  item_code_inj _ _ e = cc

  pub item_codes_inj : (s t : ItemTrees) → item_codes s ≡ item_codes t → s ≡ t
  item_codes_inj no_items no_items e = refl
  item_codes_inj (more_items s ss) (more_items t ts) e =
      let first = item_code_inj s t (ap left e) in let rest = item_codes_inj ss ts (ap right e) in cc
  item_codes_inj _ _ e = cc

abbrev pub item_tree_code : Coded ItemTree
item_tree_code = record { code = item_code_of; inj = item_code_inj }

abbrev pub item_trees_code : Coded ItemTrees
item_trees_code = record { code = item_codes; inj = item_codes_inj }
