-- A value as something that a proof tells apart.
use Rattle.std.specs.Prelude.{◌≡◌, refl}
use Rattle.std.proofs.Common.{ap}
use Rattle.std.specs.Coded.{Coded, coded_ℕ, coded_ℤ, coded_bool, coded_list}
use base.Stored.{Gv, gnil, gnum, gcons}
use Rattle.isle_ast.specs.Trees.Coded.{left, right}
use Rattle.isle_rules.specs.Values.{ValueTree, ValueTrees, bool_tree, int_tree, big_tree, const_tree, opaque_tree, data_tree, no_trees, more_trees}

abbrev mutual
  pub value_code_of : ValueTree → Gv
  value_code_of (bool_tree b) = gcons (gnum 0) (coded_bool.code b)
  value_code_of (int_tree n) = gcons (gnum 1) (coded_ℤ.code n)
  value_code_of (big_tree n) = gcons (gnum 2) (coded_ℕ.code n)
  value_code_of (const_tree name) = gcons (gnum 3) ((coded_list coded_ℕ).code name)
  value_code_of (opaque_tree n) = gcons (gnum 4) (coded_ℕ.code n)
  value_code_of (data_tree name vs) = gcons (gnum 5) (gcons ((coded_list coded_ℕ).code name) (value_codes vs))

  pub value_codes : ValueTrees → Gv
  value_codes no_trees = gnil
  value_codes (more_trees v vs) = gcons (value_code_of v) (value_codes vs)

mutual
  pub value_code_inj : (v w : ValueTree) → value_code_of v ≡ value_code_of w → v ≡ w
  value_code_inj (bool_tree a) (bool_tree b) e = let same = coded_bool.inj a b (ap (λ g. right g) e) in cc
  value_code_inj (int_tree a) (int_tree b) e = let same = coded_ℤ.inj a b (ap (λ g. right g) e) in cc
  value_code_inj (big_tree a) (big_tree b) e = let same = coded_ℕ.inj a b (ap (λ g. right g) e) in cc
  value_code_inj (const_tree a) (const_tree b) e = let same = (coded_list coded_ℕ).inj a b (ap (λ g. right g) e) in cc
  value_code_inj (opaque_tree a) (opaque_tree b) e = let same = coded_ℕ.inj a b (ap (λ g. right g) e) in cc
  value_code_inj (data_tree a vs) (data_tree b ws) e =
      let name_same = (coded_list coded_ℕ).inj a b (ap (λ g. left (right g)) e) in
      let fields_same = value_codes_inj vs ws (ap (λ g. right (right g)) e) in
      cc
  value_code_inj _ _ e = cc

  pub value_codes_inj : (vs ws : ValueTrees) → value_codes vs ≡ value_codes ws → vs ≡ ws
  value_codes_inj no_trees no_trees e = refl
  value_codes_inj (more_trees v vs) (more_trees w ws) e =
      let first = value_code_inj v w (ap left e) in let rest = value_codes_inj vs ws (ap right e) in cc
  value_codes_inj _ _ e = cc

abbrev pub value_tree_code : Coded ValueTree
value_tree_code = record { code = value_code_of; inj = value_code_inj }

abbrev pub value_trees_code : Coded ValueTrees
value_trees_code = record { code = value_codes; inj = value_codes_inj }
