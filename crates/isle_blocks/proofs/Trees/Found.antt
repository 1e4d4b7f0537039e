-- What is looked up for a test that a rule has.
use Rattle.std.proofs.Common.{◌≡◌, inl, inr, ℕ, zero, suc, ◌<◌, Bool, true, List, [], ◌∷◌, map, Option, Some, None, slice_get, refl}
use Rattle.std.proofs.Common.{ap, sym, ◌∙◌, arith}
use Rattle.std.proofs.Common.{◌==◌, eq-eqb}
use Rattle.std.specs.Prelude.{nat_lt}
use Rattle.std.proofs.lemmas.Bool.Decides.{nat_tests}
use Rattle.isle_types.specs.declared.ids.Sym.{Sym}
use Rattle.isle_rules.specs.declared.rules.Rule as source
use Rattle.isle_rules.specs.TypedRules.{TypedRule}
use Rattle.isle_meaning.specs.Facts.{TermFacts}
use Rattle.isle_meaning.specs.Held.{Held}
use Rattle.isle_blocks.specs.declared.ids.BindingId.{BindingId}
use Rattle.isle_blocks.specs.declared.binding.Binding.{Binding}
use Rattle.isle_blocks.specs.declared.constraint.Constraint.{Constraint}
use Rattle.isle_blocks.specs.declared.constraint.Constraint.TheVariants as tests
use Rattle.isle_blocks.specs.declared.rule.Rule.{Rule}
use Rattle.isle_blocks.specs.Constraints.{bindings_made, fields_below, variant_field, struct_field}
use Rattle.isle_blocks.specs.RuleSets.{RulesOverSites}
use Rattle.isle_blocks.specs.Tables.{IsFound}
use Rattle.isle_types.specs.Names.{AreDistinct}
use Rattle.std.specs.Option.{option_map}
use Rattle.isle_trees.specs.Premises.{IsWellMade}
use Rattle.isle_trees.specs.Rules.{has, Rules, Elem}
use Rattle.isle_trees.specs.Scopes.{is_source}
use Rattle.isle_trees.proofs.Basics.{none_or, both_and, by_made}
use Rattle.isle_blocks.specs.Trees.View.{id_of, keep, test_at, has_loop, want_at, made_by, made_at, opening, place_of, opens_field, tests_by}
use Rattle.isle_blocks.specs.Trees.View.{field_of, rules_of}
use Rattle.isle_blocks.specs.Trees.Premises.{IsRunnableSet}
use Rattle.isle_blocks.proofs.Trees.Reading.{read_some, want_test, place_sound, place_found}
use Rattle.isle_trees.proofs.Asking.{elem_append}
use Rattle.isle_blocks.proofs.Trees.WellMade.{well_made}
use Rattle.isle_blocks.proofs.Trees.Listed.{opening_is}

-- What a look-up finds is the place of the site.
pub found_place : (table : List Binding) (b : Binding) (o : Option BindingId) → AreDistinct table → IsFound table b o
    → option_map (λ (id : BindingId). id.0) o ≡ place_of b table
found_place table b (Some id) once f = sym (place_found b table id.0 once f)
found_place table b None once f = elim (none_or (place_of b table)) [
  | inl e ↦ sym e
  | inr e ↦ absurd (f (e.0) (place_sound b table (e.0) (e.1)))
]

-- a field below a number is one of the first fields
below_elem : (g : ℕ → Binding) (n : ℕ) (b : Binding) → Elem b (fields_below g n) → (i : ℕ) × (i < n) × (b ≡ g i)
below_elem g zero b m = absurd m
below_elem g (suc n) b m = elim (elem_append b (fields_below g n) (g n ∷ []) m) [
  | inl old ↦ let (i, l, e) = below_elem g n b old in (i, omega arith, e)
  | inr new ↦ elim new [ inl e ↦ (n, omega arith, e) | inr z ↦ absurd z ]
]

-- what is made alike is one
map_same : {X Y : Type 0} (f g : X → Y) (xs : List X) → ((x : X) → Elem x xs → f x ≡ g x) → map f xs ≡ map g xs
map_same f g [] h = refl
map_same f g (x ∷ xs) h = let p = h x (inl refl) in let q = map_same f g xs (λ y m. h y (inr m)) in λ i. p i ∷ q i

-- all is kept where all passes
keep_same : {A : Type 0} (p : A → Bool) (o : Option A) → ((x : A) → o ≡ Some x → p x ≡ true) → keep p o ≡ o
keep_same p None h = refl
keep_same p (Some x) h = rw (h x refl) refl

module _ (name : Sym → List ℕ) (set : RulesOverSites) (well : IsWellMade (rules_of name set))
    (opens : (i : ℕ) (r : Rule) (s : ℕ) (kind : Option ℕ) (f : ℕ) (c : Constraint) → slice_get set.rules i ≡ Some r → test_at s r ≡ Some c
    → opens_field kind f c ≡ true → opening set.rules kind s f ≡ c) where
  -- what a rule's test makes is made by it
  made_so : (i : ℕ) (r : Rule) (s : ℕ) (c : Constraint) → slice_get set.rules i ≡ Some r → test_at s r ≡ Some c → (b : Binding)
      → Elem b (bindings_made c (id_of s)) → made_by set.rules b ≡ Some (record { site = s; want = has c })
  made_so i r s (tests.Variant ty v n) at t b m =
      let (f, l, e) = below_elem (variant_field (id_of s) v) n.0 b m in
      let o : opens_field (Some v.0) f (tests.Variant ty v n) ≡ true =
      both_and (v.0 == v.0) (nat_lt f n.0) (eq-eqb v.0 v.0 refl) (grind (arith, nat_tests)) in
      let is = opens i r s (Some v.0) f (tests.Variant ty v n) at t o in
      ap (made_by set.rules) e ∙ ap (λ (d : Constraint). Some (record { site = s; want = has d })) is
  made_so i r s (tests.Struct ty n) at t b m =
      let (f, l, e) = below_elem (struct_field (id_of s)) n.0 b m in
      let o : opens_field None f (tests.Struct ty n) ≡ true = grind (arith, nat_tests) in
      let is = opens i r s None f (tests.Struct ty n) at t o in
      ap (made_by set.rules) e ∙ ap (λ (d : Constraint). Some (record { site = s; want = has d })) is
  made_so i r s (tests.ConstBool v ty) at t b m = absurd m
  made_so i r s (tests.ConstInt v ty) at t b m = absurd m
  made_so i r s (tests.ConstPrim v) at t b m = absurd m
  made_so i r s tests.Some at t b (inl e) = ap (made_by set.rules) e
  made_so i r s tests.Some at t b (inr z) = absurd z

  -- Where a test that opens a field is the one that makes it, the fields of a test that a rule has are those that it makes, each looked up.
  pub fields_looked_up : (i s : ℕ) (c : Constraint) → (rules_of name set).at i s ≡ Some (has c)
      → (rules_of name set).fields s c ≡ map (λ (b : Binding). place_of b set.sites) (bindings_made c (id_of s))
  fields_looked_up i s c e =
      let (r, at, w) = read_some (want_at s) (slice_get set.rules i) (has c) e in
      let t = want_test (has_loop s r) (test_at s r) c w in
      map_same (field_of name set s c) (λ (b : Binding). place_of b set.sites) (bindings_made c (id_of s)) (λ b m.
      keep_same (λ (x : ℕ). is_source (tests_by name) s (has c) (made_at set x)) (place_of b set.sites) (λ x q.
      let there = place_sound b set.sites x q in
      by_made (rules_of name set) s (has c) (made_at set x) well (rw there (made_so i r s c at t b m))))

module _ (name : Sym → List ℕ) (facts : TermFacts) (sources : List source.Rule) (rules : List TypedRule) (term : ℕ) (set : RulesOverSites)
    (h : IsRunnableSet name facts sources rules term set) where
  -- the set as trees see it
  abbrev R : Rules Constraint Held
  R = rules_of name set

  -- For a test that a rule has the fields are those that it makes, each looked up in the table.
  pub fields_found : (i s : ℕ) (c : Constraint) → R.at i s ≡ Some (has c)
      → R.fields s c ≡ map (λ (b : Binding). place_of b set.sites) (bindings_made c (id_of s))
  fields_found i s c e =
      fields_looked_up name set (well_made name facts sources rules term set h) (opening_is name facts sources rules term set h) i s c e
