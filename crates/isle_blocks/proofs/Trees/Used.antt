-- What a rule has, has its tests, contents of constructors' calls aside.
use Rattle.std.proofs.Common.{◌≡◌, ◌⊎◌, inl, inr, ℕ, Bool, true, false, List, [], ◌∷◌, ◌++◌, length, Option, Some, None, slice_get}
use Rattle.std.proofs.Common.{refl, ap, sym, subst, ◌∙◌}
use Rattle.std.proofs.Common.{arith}
use Rattle.std.proofs.lemmas.Option.{same_Some, none-some}
use Rattle.isle_types.specs.declared.ids.Sym.{Sym}
use Rattle.isle_rules.specs.declared.rules.Rule as source
use Rattle.isle_rules.specs.TypedRules.{TypedRule}
use Rattle.isle_meaning.specs.Facts.{TermFacts}
use Rattle.isle_meaning.specs.Held.{Held}
use Rattle.isle_meaning.specs.Sites.{Site}
use Rattle.isle_meaning.specs.Sites.{match_variant, extract_struct, match_some}
use Rattle.isle_meaning.specs.Demands.{Demand, variant_constraint, struct_constraint, some_constraint, impure_of, result_of}
use Rattle.isle_meaning.specs.Derived.{Derived}
use Rattle.isle_meaning.specs.Numbered.{Row, bool_row, int_row, prim_row, argument_row, extractor_row, constructor_row, iterator_row}
use Rattle.isle_meaning.specs.Numbered.{make_variant_row, match_variant_row, make_struct_row, extract_struct_row, make_some_row}
use Rattle.isle_meaning.specs.Numbered.{match_some_row, match_tuple_row, At}
use Rattle.isle_meaning.specs.Tested.{IsTested}
use Rattle.isle_meaning.specs.Demands.{DemandOf}
use Rattle.isle_meaning.proofs.Matching.Numbering.{one_site}
use Rattle.isle_blocks.specs.declared.ids.BindingId.{BindingId}
use Rattle.isle_blocks.specs.declared.binding.Binding.{Binding}
use Rattle.isle_blocks.specs.declared.binding.Binding.TheVariants as sites
use Rattle.isle_blocks.specs.declared.constraint.Constraint.{Constraint}
use Rattle.isle_blocks.specs.declared.rule.Rule.{Rule}
use Rattle.isle_blocks.specs.Tables.{sources_of}
use Rattle.isle_blocks.specs.Rows.{numbers_of, row_of, rows_of}
use Rattle.isle_blocks.specs.Building.Standing.{StandEach}
use Rattle.isle_blocks.specs.DefinedSets.{IsMadeAt}
use Rattle.isle_blocks.specs.RuleSets.{RulesOverSites}
use Rattle.isle_blocks.proofs.Closure.Trees.{get_row, row_get}
use Rattle.isle_trees.specs.Rules.{has, Source, Rules, Elem, Used}
use Rattle.isle_trees.specs.Premises.{HasItsTests}
use Rattle.isle_trees.proofs.Basics.{none_or}
use Rattle.isle_blocks.specs.Trees.View.{read_or, option_site, is_constructor, with_option, call_at, calls_at, made_by, rules_of}
use Rattle.isle_meaning.specs.AboutSites.Parts.{parts_of, IsOneOf}
use Rattle.isle_blocks.specs.Trees.SiteTrees.{tree_of}
use Rattle.isle_meaning.proofs.Sites.OwnTests.{HasTest, HasTests, IsConstructor, own_test, part_tests, tested_has, tested_part}
use Rattle.isle_meaning.proofs.Sites.OwnTests.{right_side_has}
use Rattle.isle_meaning.proofs.Sites.Parts.{EachSite}
use Rattle.isle_blocks.specs.Trees.Premises.{IsRunnableSet}
use Rattle.isle_blocks.proofs.Trees.Reading.{read_some, place_sound}
use Rattle.isle_trees.proofs.Asking.{elem_append}
use Rattle.isle_blocks.proofs.Trees.Buildable.{option_part}
use Rattle.isle_blocks.proofs.Trees.Standing.{pass_on, part_at}
use Rattle.isle_blocks.proofs.Trees.WellMade.{made_rule, fit_of, test_wanted}
use Rattle.isle_blocks.proofs.Trees.Listed.{variant_opens, struct_opens, some_is, opening_is, no_iterator}
use Rattle.isle_blocks.proofs.Trees.Effects.{slice_get_past}
use Rattle.isle_blocks.proofs.Trees.Asked.{asked_rule, asked_holds, tests_of, its_test, tests_are_there}

-- the entry is a constructor's call
abbrev row_constructs : Row → Bool
row_constructs (bool_row b ty) = false
row_constructs (int_row n ty) = false
row_constructs (prim_row n) = false
row_constructs (argument_row i) = false
row_constructs (extractor_row t j) = false
row_constructs (constructor_row t js i) = true
row_constructs (iterator_row j) = false
row_constructs (make_variant_row ty v js) = false
row_constructs (match_variant_row j v i) = false
row_constructs (make_struct_row ty js) = false
row_constructs (extract_struct_row j i) = false
row_constructs (make_some_row j) = false
row_constructs (match_some_row j) = false
row_constructs (match_tuple_row j i) = false

-- so is its site
same_constructs : (name : Sym → List ℕ) (b : Binding) → row_constructs (row_of name b) ≡ is_constructor b
same_constructs name (sites.ConstBool v t) = refl
same_constructs name (sites.ConstInt v t) = refl
same_constructs name (sites.ConstPrim v) = refl
same_constructs name (sites.Argument i) = refl
same_constructs name (sites.Extractor t a) = refl
same_constructs name (sites.Constructor t cs n) = refl
same_constructs name (sites.Iterator a) = refl
same_constructs name (sites.MakeVariant t v cs) = refl
same_constructs name (sites.MatchVariant a v i) = refl
same_constructs name (sites.MakeStruct t cs) = refl
same_constructs name (sites.ExtractStruct a i) = refl
same_constructs name (sites.MakeSome a) = refl
same_constructs name (sites.MatchSome a) = refl
same_constructs name (sites.MatchTuple a i) = refl

module _ (name : Sym → List ℕ) (facts : TermFacts) (sources : List source.Rule) (rules : List TypedRule) (term : ℕ) (set : RulesOverSites)
    (h : IsRunnableSet name facts sources rules term set) where
  -- the entries of the set's sites
  abbrev rows : List Row
  rows = rows_of name set.sites

  -- the set as trees see it
  abbrev R : Rules Constraint Held
  R = rules_of name set

  -- what a rule is made of
  abbrev Made : ℕ → Rule → Type 0
  Made p r = IsMadeAt name facts sources rules term set.sites p r

  -- a number's tree
  abbrev tree : ℕ → Site
  tree = tree_of name set.sites

  -- The calls of a rule, and options that they give.
  pub calls_have : (P : Site → Type 0) → ((s u : Site) → P s → IsOneOf (parts_of s) u → P u) → (ids : List BindingId) (ts : List Site)
      → StandEach rows ids ts
      → EachSite P ts → (s : ℕ) → Elem s (calls_at set.sites ids) → (t : Site) × At rows t s × P t
  calls_have P f [] ts st k s m = absurd m
  calls_have P f (id ∷ ids) [] st k s m = absurd st
  calls_have P f (id ∷ ids) (t ∷ ts) st k s m = elim (elem_append s (call_at set.sites id) (calls_at set.sites ids) m) [
    | inr rest ↦ calls_have P f ids ts (st.1) (k.1) s rest
    | inl here ↦ elim (none_or (read_or None option_site (slice_get set.sites id.0))) [
      | inl none ↦ elim (subst (λ (o : Option ℕ). Elem s (with_option o id.0)) none here) [
        | inl e ↦ (t, subst (λ (z : ℕ). At rows t z) (sym e) (st.0), k.0)
        | inr z ↦ absurd z
      ]
      | inr some ↦ elim (subst (λ (o : Option ℕ). Elem s (with_option o id.0)) (some.1) here) [
        | inl e ↦
            let (b, at, is) = read_some option_site (slice_get set.sites id.0) (some.0) (some.1) in
            let inside : Elem (some.0) (R.parts id.0) = rw (at, option_part b (some.0) is) (inl refl) in
            subst (λ (z : ℕ). (u : Site) × At rows u z × P u) (sym e) (pass_on name set.sites P f id.0 (some.0) (t, st.0, k.0) inside)
        | inr rest ↦ elim rest [
          | inl e ↦ (t, subst (λ (z : ℕ). At rows t z) (sym e) (st.0), k.0)
          | inr z ↦ absurd z
        ]
      ]
    ]
  ]

  module _ (i : ℕ) (r : Rule) (at : slice_get set.rules i ≡ Some r) (p : ℕ) (m : Made p r) where
    -- what its typed rule demands
    abbrev D : Demand → Type 0
    D = DemandOf facts m.reached.rule

    -- its right side has its tests
    right_has : HasTests (Derived D) (result_of facts (facts.partial m.reached.rule.root) m.reached.rule)
        × EachSite (HasTests (Derived D)) (impure_of facts m.reached.rule)
    right_has =
        let rule = m.reached.rule in
        let has = right_side_has facts rule (fit_of name facts sources rules term set h p r m).well in
        (has.0 (facts.partial rule.root), has.1)

    -- So has all that it has.
    pub used_has : (s : ℕ) → Used R i s → (t : Site) × At rows t s × HasTests (Derived D) t
    used_has _ (Used.by_asked s a) =
        let (t, at_t, ok) = asked_holds name facts sources rules term set h i r at p m (IsTested (Derived D))
        (tests_of name facts sources rules term set h i r at p m)
        (tested_part (Derived D)) s a in
        (t, at_t, tested_has (Derived D) (Derived D) (λ d x. x) t ok)
    used_has _ (Used.by_right s e) =
        let e' : Elem s (calls_at set.sites r.impure ++ r.result.0 ∷ []) =
        subst (λ (o : Option Rule). Elem s (read_or [] (λ (k : Rule). calls_at set.sites k.impure) o
        ++ read_or (length set.sites) (λ (k : Rule). k.result.0) o ∷ [])) at e in
        elim (elem_append s (calls_at set.sites r.impure) (r.result.0 ∷ []) e') [
          | inl c ↦ calls_have (HasTests (Derived D)) (part_tests (Derived D)) r.impure (impure_of facts m.reached.rule) m.effects (right_has.1) s c
          | inr c ↦ elim c [
            | inl q ↦ (
              _,
              subst (λ (z : ℕ). At rows (result_of facts (facts.partial m.reached.rule.root) m.reached.rule) z) (sym q) m.value,
              right_has.0,
            )
            | inr z ↦ absurd z
          ]
        ]
    used_has _ (Used.by_part_of s q u k) = pass_on name set.sites (HasTests (Derived D)) (part_tests (Derived D)) s q (used_has s u) k

    -- a constructor's call is one in the table
    constructs : (u : Site) (a : ℕ) → At rows u a → IsConstructor u → read_or false is_constructor (slice_get set.sites a) ≡ true
    constructs u a at_u (t, ss, n, q) =
        let (js, row, rest) = subst (λ (z : Site). At rows z a) q at_u in
        let (b, at_b, is) = get_row name set.sites a (constructor_row t js n) row in
        rw at_b (sym (same_constructs name b) ∙ ap row_constructs is)

    -- a field with its test has the rule's, a content may be a call's
    field_has : (s : ℕ) (b : Binding) (k : Source Constraint) (t : Site) → slice_get set.sites s ≡ Some b → At rows t s
        → HasTest (Derived D) t → made_by set.rules b ≡ Some k → (R.at i k.site ≡ Some k.want) ⊎ (R.content s ≡ true)
    field_has s (sites.MatchVariant a v f) k t e at_t tested is =
        let below = part_at name set.sites h.is.table s (sites.MatchVariant a v f) a e (0, omega arith, refl) in
        let same : t ≡ match_variant (tree a.0) v.0 f.0 =
        one_site rows t (match_variant (tree a.0) v.0 f.0) s at_t (a.0, row_get name set.sites s _ e, below) in
        let (ty, n, d, l) = subst (HasTest (Derived D)) same tested in
        let (test, has_it, what) = its_test name facts sources rules term set h i r at p m (tree a.0) a.0 (variant_constraint ty v.0 n) below d in
        let o = opening_is name facts sources rules term set h i r a.0 (Some v.0) f.0 test at has_it (variant_opens name test ty v.0 n f.0 what l) in
        inl (subst (λ (x : Source Constraint). R.at i x.site ≡ Some x.want) (same_Some _ k is)
        (test_wanted name facts sources rules term set h i a.0 r test at has_it ∙ ap (λ (c : Constraint). Some (has c)) (sym o)))
    field_has s (sites.ExtractStruct a f) k t e at_t tested is =
        let below = part_at name set.sites h.is.table s (sites.ExtractStruct a f) a e (0, omega arith, refl) in
        let same : t ≡ extract_struct (tree a.0) f.0 =
        one_site rows t (extract_struct (tree a.0) f.0) s at_t (a.0, row_get name set.sites s _ e, below) in
        let (ty, n, d, l) = subst (HasTest (Derived D)) same tested in
        let (test, has_it, what) = its_test name facts sources rules term set h i r at p m (tree a.0) a.0 (struct_constraint ty n) below d in
        let o = opening_is name facts sources rules term set h i r a.0 None f.0 test at has_it (struct_opens name test ty n f.0 what l) in
        inl (subst (λ (x : Source Constraint). R.at i x.site ≡ Some x.want) (same_Some _ k is)
        (test_wanted name facts sources rules term set h i a.0 r test at has_it ∙ ap (λ (c : Constraint). Some (has c)) (sym o)))
    field_has s (sites.MatchSome a) k t e at_t tested is =
        let below = part_at name set.sites h.is.table s (sites.MatchSome a) a e (0, omega arith, refl) in
        let same : t ≡ match_some (tree a.0) = one_site rows t (match_some (tree a.0)) s at_t (a.0, row_get name set.sites s _ e, below) in
        elim (subst (HasTest (Derived D)) same tested) [
          | inl d ↦
              let (test, has_it, what) = its_test name facts sources rules term set h i r at p m (tree a.0) a.0 some_constraint below d in
              inl (subst (λ (x : Source Constraint). R.at i x.site ≡ Some x.want) (same_Some _ k is)
              (test_wanted name facts sources rules term set h i a.0 r test at has_it ∙ ap (λ (c : Constraint). Some (has c))
              (some_is name test what)))
          | inr c ↦ inr (rw e (constructs (tree a.0) a.0 below c))
        ]
    field_has s (sites.Iterator a) k t e at_t tested is = absurd (no_iterator name facts sources rules term set h s a e)
    field_has s b k t e at_t tested is = absurd cc

  -- without a rule nothing is used but a number past the table
  past_used : (i : ℕ) → slice_get set.rules i ≡ None → (s : ℕ) → Used R i s → s ≡ length set.sites
  past_used i none _ (Used.by_asked s a) = let (r, at) = asked_rule name facts sources rules term set h i s a in absurd (none-some r (sym none ∙ at))
  past_used i none _ (Used.by_right s e) =
      elim (subst (λ (o : Option Rule). Elem s (read_or [] (λ (k : Rule). calls_at set.sites k.impure) o
      ++ read_or (length set.sites) (λ (k : Rule). k.result.0) o ∷ [])) none e) [
        | inl q ↦ q
        | inr z ↦ absurd z
      ]
  past_used i none _ (Used.by_part_of s q u k) =
      let same = past_used i none s u in
      let k' : Elem q (R.parts (length set.sites)) = subst (λ (z : ℕ). Elem q (R.parts z)) same k in
      absurd (subst (λ (o : Option Binding). Elem q (read_or [] (λ (b : Binding). numbers_of (sources_of b)) o)) (slice_get_past set.sites) k')

  -- what a rule has, has its tests, contents of calls aside
  contents : (i s : ℕ) (k : Source Constraint) → Used R i s → R.made s ≡ Some k → (R.at i k.site ≡ Some k.want) ⊎ (R.content s ≡ true)
  contents i s k u e =
      let (b, at_b, is) = read_some (made_by set.rules) (slice_get set.sites s) k e in
      elim (none_or (slice_get set.rules i)) [
        | inl none ↦
            let same = past_used i none s u in
            absurd (none-some b (sym (slice_get_past set.sites) ∙ ap (slice_get set.sites) (sym same) ∙ at_b))
        | inr there ↦
            let (r, at) = there in
            let (p, m) = made_rule name facts sources rules term set h i r at in
            let (t, at_t, ok) = used_has i r at p m s u in
            field_has i r at p m s b k t at_b at_t (own_test (Derived (DemandOf facts m.reached.rule)) t ok) is
      ]

  -- What a rule has, has its tests.
  pub has_its_tests : HasItsTests (rules_of name set)
  has_its_tests = record {
    tested = tests_are_there name facts sources rules term set h;
    contents = contents;
    call_whole = λ s x e. absurd (no_iterator name facts sources rules term set h x (record { 0 = s })
        (place_sound (sites.Iterator (record { 0 = s })) set.sites x e));
  }
