-- Blocks as values that a proof tells apart.
use Rattle.std.specs.Prelude.{◌≡◌, ℕ, List, Option, refl}
use Rattle.std.proofs.Common.{ap}
use Rattle.std.specs.Coded.{Coded, code_by, coded×, coded_list, coded_option, coded_ℕ, coded_bool, coded_ℤ}
use base.Stored.{Gv, gnil, gnum, gcons}
use Rattle.isle_ast.specs.declared.pos.Pos.{Pos}
use Rattle.isle_ast.specs.Trees.Coded.{pos_code, left, right}
use Rattle.isle_types.specs.declared.ids.Sym.{Sym}
use Rattle.isle_types.specs.declared.ids.TypeId.{TypeId}
use Rattle.isle_types.specs.declared.ids.VariantId.{VariantId}
use Rattle.isle_trees.specs.Tree.{Steps, done, «match», equal, loop, give, Arms, no_arm, arm}
use Rattle.isle_blocks.specs.declared.ids.TupleIndex.{TupleIndex}
use Rattle.isle_blocks.specs.declared.constraint.Constraint.{Constraint}
use Rattle.isle_blocks.specs.declared.constraint.Constraint.TheVariants as tests
use Rattle.isle_blocks.specs.Trees.Shown.{Returned, BlockShown}

-- a type is stored as its number
abbrev type_code : Coded TypeId
type_code = code_by ℕ coded_ℕ (λ id. id.0) (λ n. record { 0 = n }) (λ _. refl)

-- so is a variant
abbrev variant_code : Coded VariantId
variant_code = code_by ℕ coded_ℕ (λ id. id.0) (λ n. record { 0 = n }) (λ _. refl)

-- so is the number of its fields
abbrev place_code : Coded TupleIndex
place_code = code_by ℕ coded_ℕ (λ id. id.0) (λ n. record { 0 = n }) (λ _. refl)

-- so is a name
abbrev name_code : Coded Sym
name_code = code_by ℕ coded_ℕ (λ id. id.0) (λ n. record { 0 = n }) (λ _. refl)

-- a test, by its kind and what it holds
abbrev pub test_code_of : Constraint → Gv
test_code_of (tests.Variant ty variant fields) =
    gcons (gnum 0) (gcons (type_code.code ty) (gcons (variant_code.code variant) (place_code.code fields)))
test_code_of (tests.Struct ty fields) = gcons (gnum 1) (gcons (type_code.code ty) (place_code.code fields))
test_code_of (tests.ConstBool val ty) = gcons (gnum 2) (gcons (coded_bool.code val) (type_code.code ty))
test_code_of (tests.ConstInt val ty) = gcons (gnum 3) (gcons (coded_ℤ.code val) (type_code.code ty))
test_code_of (tests.ConstPrim val) = gcons (gnum 4) (name_code.code val)
test_code_of tests.Some = gnil

-- tests that are stored alike are the same
pub test_code_inj : (c d : Constraint) → test_code_of c ≡ test_code_of d → c ≡ d
test_code_inj (tests.Variant ty1 variant1 fields1) (tests.Variant ty2 variant2 fields2) e =
    let ty_same = type_code.inj ty1 ty2 (ap (λ g. left (right g)) e) in
    let variant_same = variant_code.inj variant1 variant2 (ap (λ g. left (right (right g))) e) in
    let fields_same = place_code.inj fields1 fields2 (ap (λ g. right (right (right g))) e) in
    cc
test_code_inj (tests.Struct ty1 fields1) (tests.Struct ty2 fields2) e =
    let ty_same = type_code.inj ty1 ty2 (ap (λ g. left (right g)) e) in
    let fields_same = place_code.inj fields1 fields2 (ap (λ g. right (right g)) e) in
    cc
test_code_inj (tests.ConstBool val1 ty1) (tests.ConstBool val2 ty2) e =
    let val_same = coded_bool.inj val1 val2 (ap (λ g. left (right g)) e) in
    let ty_same = type_code.inj ty1 ty2 (ap (λ g. right (right g)) e) in
    cc
test_code_inj (tests.ConstInt val1 ty1) (tests.ConstInt val2 ty2) e =
    let val_same = coded_ℤ.inj val1 val2 (ap (λ g. left (right g)) e) in
    let ty_same = type_code.inj ty1 ty2 (ap (λ g. right (right g)) e) in
    cc
test_code_inj (tests.ConstPrim val1) (tests.ConstPrim val2) e =
    let val_same = name_code.inj val1 val2 (ap right e) in
    cc
test_code_inj tests.Some tests.Some e = refl
test_code_inj _ _ e = cc

-- sites, by their numbers
abbrev sites_code : Coded (List ℕ)
sites_code = coded_list coded_ℕ

-- the sites that a test binds
abbrev fields_code : Coded (List (Option ℕ))
fields_code = coded_list (coded_option coded_ℕ)

-- steps and arms, by their kind and what they hold, with those after them
abbrev mutual
  pub steps_code_of : Steps Constraint → Gv
  steps_code_of done = gnil
  steps_code_of («match» binds s arms next) =
      gcons (gnum 0) (gcons (sites_code.code binds) (gcons (gnum s) (gcons (arms_code_of arms) (steps_code_of next))))
  steps_code_of (equal binds a b body next) =
      gcons (gnum 1) (gcons (sites_code.code binds) (gcons (gnum a) (gcons (gnum b) (gcons (steps_code_of body) (steps_code_of next)))))
  steps_code_of (loop binds x body next) =
      gcons (gnum 2) (gcons (sites_code.code binds) (gcons (gnum x) (gcons (steps_code_of body) (steps_code_of next))))
  steps_code_of (give binds rule next) = gcons (gnum 3) (gcons (sites_code.code binds) (gcons (gnum rule) (steps_code_of next)))

  pub arms_code_of : Arms Constraint → Gv
  arms_code_of no_arm = gnil
  arms_code_of (arm test fields body more) =
      gcons (test_code_of test) (gcons (fields_code.code fields) (gcons (steps_code_of body) (arms_code_of more)))

-- trees that are stored alike are the same
mutual
  pub steps_code_inj : (s t : Steps Constraint) → steps_code_of s ≡ steps_code_of t → s ≡ t
  steps_code_inj done done e = refl
  steps_code_inj («match» binds1 s1 arms1 next1) («match» binds2 s2 arms2 next2) e =
      let binds_same = sites_code.inj binds1 binds2 (ap (λ g. left (right g)) e) in
      let site_same = coded_ℕ.inj s1 s2 (ap (λ g. left (right (right g))) e) in
      let arms_same = arms_code_inj arms1 arms2 (ap (λ g. left (right (right (right g)))) e) in
      let next_same = steps_code_inj next1 next2 (ap (λ g. right (right (right (right g)))) e) in
      cc
  steps_code_inj (equal binds1 a1 b1 body1 next1) (equal binds2 a2 b2 body2 next2) e =
      let binds_same = sites_code.inj binds1 binds2 (ap (λ g. left (right g)) e) in
      let a_same = coded_ℕ.inj a1 a2 (ap (λ g. left (right (right g))) e) in
      let b_same = coded_ℕ.inj b1 b2 (ap (λ g. left (right (right (right g)))) e) in
      let body_same = steps_code_inj body1 body2 (ap (λ g. left (right (right (right (right g))))) e) in
      let next_same = steps_code_inj next1 next2 (ap (λ g. right (right (right (right (right g))))) e) in
      cc
  steps_code_inj (loop binds1 x1 body1 next1) (loop binds2 x2 body2 next2) e =
      let binds_same = sites_code.inj binds1 binds2 (ap (λ g. left (right g)) e) in
      let site_same = coded_ℕ.inj x1 x2 (ap (λ g. left (right (right g))) e) in
      let body_same = steps_code_inj body1 body2 (ap (λ g. left (right (right (right g)))) e) in
      let next_same = steps_code_inj next1 next2 (ap (λ g. right (right (right (right g)))) e) in
      cc
  steps_code_inj (give binds1 rule1 next1) (give binds2 rule2 next2) e =
      let binds_same = sites_code.inj binds1 binds2 (ap (λ g. left (right g)) e) in
      let rule_same = coded_ℕ.inj rule1 rule2 (ap (λ g. left (right (right g))) e) in
      let next_same = steps_code_inj next1 next2 (ap (λ g. right (right (right g))) e) in
      cc
  steps_code_inj _ _ e = cc

  pub arms_code_inj : (s t : Arms Constraint) → arms_code_of s ≡ arms_code_of t → s ≡ t
  arms_code_inj no_arm no_arm e = refl
  arms_code_inj (arm test1 fields1 body1 more1) (arm test2 fields2 body2 more2) e =
      let test_same = test_code_inj test1 test2 (ap left e) in
      let fields_same = fields_code.inj fields1 fields2 (ap (λ g. left (right g)) e) in
      let body_same = steps_code_inj body1 body2 (ap (λ g. left (right (right g))) e) in
      let more_same = arms_code_inj more1 more2 (ap (λ g. right (right (right g))) e) in
      cc
  arms_code_inj _ _ e = cc

-- a tree of steps
abbrev pub tree_code : Coded (Steps Constraint)
tree_code = record { code = steps_code_of; inj = steps_code_inj }

-- a return is stored as the triple of its parts
abbrev pub returned_code : Coded Returned
returned_code = code_by (ℕ × (Pos × ℕ)) (coded× coded_ℕ (coded× pos_code coded_ℕ)) (λ r. (r.rule, (r.pos, r.result)))
    (λ p. record { rule = p.0; pos = p.1.0; result = p.1.1 }) (λ _. refl)

-- a block is stored as its tree and its returns
abbrev pub block_code : Coded BlockShown
block_code = code_by (Steps Constraint × List Returned) (coded× tree_code (coded_list returned_code)) (λ b. (b.tree, b.returns))
    (λ p. record { tree = p.0; returns = p.1 }) (λ _. refl)
