-- What the rules' tests ask has its tests, and no impure call.
use Rattle.std.proofs.Common.{◌≡◌, inl, inr, ℕ, zero, suc, true, false, List, [], ◌∷◌, Some, None, slice_get, refl, ap, sym, subst}
use Rattle.std.proofs.Common.{◌∙◌, arith, Contains}
use Rattle.std.proofs.lemmas.Option.{same_Some}
use Rattle.isle_types.specs.declared.ids.Sym.{Sym}
use Rattle.isle_rules.specs.declared.rules.Rule as source
use Rattle.isle_rules.specs.TypedRules.{TypedRule}
use Rattle.isle_meaning.specs.Facts.{TermFacts}
use Rattle.isle_meaning.specs.Held.{Held}
use Rattle.isle_meaning.specs.Sites.{Site, Sites, constructor_call, match_variant, extract_struct, match_some}
use Rattle.isle_meaning.specs.Demands.{Demand, constrained, equal, variant_constraint, struct_constraint, some_constraint}
use Rattle.isle_meaning.specs.Demands as meaning
use Rattle.isle_meaning.specs.Derived.{Derived}
use Rattle.isle_meaning.specs.Demands.{DemandOf}
use Rattle.isle_meaning.specs.Numbered.{Row, At}
use Rattle.isle_meaning.specs.Tested.{IsTested}
use Rattle.isle_meaning.proofs.Matching.Numbering.{one_site}
use Rattle.isle_meaning.proofs.Matching.Testing.{derived_is_tested}
use Rattle.isle_blocks.specs.declared.ids.BindingId.{BindingId}
use Rattle.isle_blocks.specs.declared.binding.Binding.{Binding}
use Rattle.isle_blocks.specs.declared.binding.Binding.TheVariants as sites
use Rattle.isle_blocks.specs.declared.constraint.Constraint.{Constraint}
use Rattle.isle_blocks.specs.declared.rule.Rule.{Rule}
use Rattle.isle_blocks.specs.Rows.{rows_of, test_of}
use Rattle.isle_blocks.specs.DefinedSets.{IsMadeAt}
use Rattle.isle_blocks.specs.RuleSets.{RulesOverSites}
use Rattle.isle_blocks.proofs.Closure.Trees.{row_get, one_number}
use Rattle.isle_trees.specs.Rules.{has, one_value, Source, Rules, Asked}
use Rattle.isle_trees.specs.Premises.{TestsItsFields}
use Rattle.isle_trees.proofs.Basics.{true_or}
use Rattle.isle_blocks.specs.Trees.View.{id_of, test_at, has_loop, want_at, made_by, rule_joins, is_impure, rules_of}
use Rattle.isle_meaning.specs.AboutSites.Parts.{parts_of, IsOneOf}
use Rattle.isle_blocks.specs.Trees.SiteTrees.{trees_of, tree_of}
use Rattle.isle_meaning.specs.AboutSites.ImpureCalls.{IsPure}
use Rattle.isle_meaning.specs.AboutSites.Parts.{SpeaksOf}
use Rattle.isle_blocks.specs.Trees.Premises.{IsRunnableSet}
use Rattle.isle_blocks.proofs.ClosedRules.{same_id}
use Rattle.isle_blocks.proofs.Trees.Reading.{read_some, read_true, want_test, test_found}
use Rattle.isle_blocks.proofs.Trees.Standing.{part_at, pass_on, from_at}
use Rattle.isle_meaning.proofs.Sites.OwnTests.{tested_part}
use Rattle.isle_meaning.proofs.Chains.Subtrees.{whole}
use Rattle.isle_meaning.proofs.Sites.Pure.{pure_carried, demands_are_pure}
use Rattle.isle_blocks.proofs.Trees.WellMade.{made_rule, fit_of, derived_test, test_wanted, joined_other}
use Rattle.isle_blocks.proofs.Trees.Listed.{variant_opens, struct_opens, some_is, opening_is, no_iterator, uses_no_multi}

-- what is impure is a constructor's call with a number
impure_is : (b : Binding) → is_impure b ≡ true → (t : _) × (ps : _) × (n : ℕ) × (b ≡ sites.Constructor t ps (suc n))
impure_is (sites.Constructor t ps zero) e = absurd cc
impure_is (sites.Constructor t ps (suc n)) e = (t, ps, n, refl)
impure_is b e = absurd cc

module _ (name : Sym → List ℕ) (facts : TermFacts) (sources : List source.Rule) (rules : List TypedRule) (term : ℕ) (set : RulesOverSites)
    (h : IsRunnableSet name facts sources rules term set) where
  -- the entries of the set's sites
  abbrev rows : List Row
  rows = rows_of name set.sites

  -- the set as trees see it
  abbrev R : Rules Constraint Held
  R = rules_of name set

  -- what a rule is made of
  abbrev Made : ℕ → Rule → Type 0
  Made p r = IsMadeAt name facts sources rules term set.sites p r

  -- what asks something is a rule
  pub asked_rule : (i s : ℕ) → Asked R i s → (r : Rule) × (slice_get set.rules i ≡ Some r)
  asked_rule i _ (Asked.by_demand s w e) = let (r, at, q) = read_some (want_at s) (slice_get set.rules i) w e in (r, at)
  asked_rule i _ (Asked.by_class a b e) = let (r, at, q) = read_true (rule_joins a b) (slice_get set.rules i) e in (r, at)
  asked_rule i _ (Asked.by_part s p a m) = asked_rule i s a

  -- at one place stands one rule
  same_rule : (i : ℕ) (r k : Rule) → slice_get set.rules i ≡ Some r → slice_get set.rules i ≡ Some k → k ≡ r
  same_rule i r k e f = same_Some k r (sym f ∙ e)

  module _ (i : ℕ) (r : Rule) (at : slice_get set.rules i ≡ Some r) (p : ℕ) (m : Made p r) where
    -- what its typed rule demands
    abbrev D : Demand → Type 0
    D = DemandOf facts m.reached.rule

    -- what holds of all that is derived, and of parts, holds of all that is asked
    pub asked_holds : (P : Site → Type 0) → ((d : Demand) → Derived D d → SpeaksOf P d) → ((s u : Site) → P s → IsOneOf (parts_of s) u → P u)
        → (s : ℕ) → Asked R i s → (t : Site) × At rows t s × P t
    asked_holds P f g _ (Asked.by_demand s (has c) e) =
        let (k, ak, q) = read_some (want_at s) (slice_get set.rules i) (has c) e in
        let t = subst (λ (x : Rule). test_at s x ≡ Some c) (same_rule i r k at ak) (want_test (has_loop s k) (test_at s k) c q) in
        let (v, av, dv) = derived_test name facts sources rules term set h p r m s c t in
        (v, av, f (constrained v (test_of name c)) dv)
    asked_holds P f g _ (Asked.by_demand s one_value e) =
        absurd (uses_no_multi name facts sources rules term set h (i ∷ []) i s (inl refl) e)
    asked_holds P f g _ (Asked.by_class a b e) =
        let (k, ak, q) = read_true (rule_joins a b) (slice_get set.rules i) e in
        let j = subst (λ (x : Rule). rule_joins a b x ≡ true) (same_rule i r k at ak) q in
        let (s, u, here, same, none) = joined_other name facts sources rules term set h p r m a b j in
        (s, here, (f (equal s u) same).0)
    asked_holds P f g _ (Asked.by_part s q a n) = pass_on name set.sites P g s q (asked_holds P f g s a) n

    -- What is derived is tested.
    pub tests_of : (d : Demand) → Derived D d → SpeaksOf (IsTested (Derived D)) d
    tests_of (constrained s c) e =
        derived_is_tested facts m.reached.rule (fit_of name facts sources rules term set h p r m).well (constrained s c) e
    tests_of (equal s u) e =
        derived_is_tested facts m.reached.rule (fit_of name facts sources rules term set h p r m).well (equal s u) e

    -- a derived test is the rule's
    pub its_test : (t : Site) (a : ℕ) (c : meaning.Constraint) → At rows t a → Derived D (constrained t c)
        → (test : Constraint) × (test_at a r ≡ Some test) × (test_of name test ≡ c)
    its_test t a c at_a e =
        let closed = m.closed in
        let (id, test, inside, at_id, is) = closed.tests.all t c e in
        let table = h.is.table in
        let same : id.0 ≡ a = one_number name set.sites h.injective table t id.0 a at_id at_a in (
          test,
          test_found r a test closed.ascending (subst (λ (x : BindingId). Contains r.constraints (x, test)) (same_id id (id_of a) same) inside),
          is,
        )

    -- a number's tree
    abbrev tree : ℕ → Site
    tree = tree_of name set.sites

    -- a field whose site is tested has its own test
    pub field_tested : (s : ℕ) (b : Binding) (k : Source Constraint) (t : Site) → slice_get set.sites s ≡ Some b → At rows t s
        → IsTested (Derived D) t → made_by set.rules b ≡ Some k → R.at i k.site ≡ Some k.want
    field_tested s (sites.MatchVariant a v f) k t e at_t tested is =
        let table = h.is.table in
        let below = part_at name set.sites table s (sites.MatchVariant a v f) a e (0, omega arith, refl) in
        let same : t ≡ match_variant (tree a.0) v.0 f.0 =
        one_site rows t (match_variant (tree a.0) v.0 f.0) s at_t (a.0, row_get name set.sites s _ e, below) in
        let ((ty, n, d, l), rest) = subst (IsTested (Derived D)) same tested in
        let (test, has_it, what) = its_test (tree a.0) a.0 (variant_constraint ty v.0 n) below d in
        let o = opening_is name facts sources rules term set h i r a.0 (Some v.0) f.0 test at has_it (variant_opens name test ty v.0 n f.0 what l) in
        subst (λ (x : Source Constraint). R.at i x.site ≡ Some x.want) (same_Some _ k is)
        (test_wanted name facts sources rules term set h i a.0 r test at has_it ∙ ap (λ (c : Constraint). Some (has c)) (sym o))
    field_tested s (sites.ExtractStruct a f) k t e at_t tested is =
        let table = h.is.table in
        let below = part_at name set.sites table s (sites.ExtractStruct a f) a e (0, omega arith, refl) in
        let same : t ≡ extract_struct (tree a.0) f.0 =
        one_site rows t (extract_struct (tree a.0) f.0) s at_t (a.0, row_get name set.sites s _ e, below) in
        let ((ty, n, d, l), rest) = subst (IsTested (Derived D)) same tested in
        let (test, has_it, what) = its_test (tree a.0) a.0 (struct_constraint ty n) below d in
        let o = opening_is name facts sources rules term set h i r a.0 None f.0 test at has_it (struct_opens name test ty n f.0 what l) in
        subst (λ (x : Source Constraint). R.at i x.site ≡ Some x.want) (same_Some _ k is)
        (test_wanted name facts sources rules term set h i a.0 r test at has_it ∙ ap (λ (c : Constraint). Some (has c)) (sym o))
    field_tested s (sites.MatchSome a) k t e at_t tested is =
        let table = h.is.table in
        let below = part_at name set.sites table s (sites.MatchSome a) a e (0, omega arith, refl) in
        let same : t ≡ match_some (tree a.0) = one_site rows t (match_some (tree a.0)) s at_t (a.0, row_get name set.sites s _ e, below) in
        let (d, rest) = subst (IsTested (Derived D)) same tested in
        let (test, has_it, what) = its_test (tree a.0) a.0 some_constraint below d in
        subst (λ (x : Source Constraint). R.at i x.site ≡ Some x.want) (same_Some _ k is)
        (test_wanted name facts sources rules term set h i a.0 r test at has_it ∙ ap (λ (c : Constraint). Some (has c)) (some_is name test what))
    field_tested s (sites.Iterator a) k t e at_t tested is = absurd (no_iterator name facts sources rules term set h s a e)
    field_tested s b k t e at_t tested is = absurd cc

    -- a field that is asked has its own test
    asked_tested : (s : ℕ) (k : Source Constraint) → Asked R i s → R.made s ≡ Some k → R.at i k.site ≡ Some k.want
    asked_tested s k a e =
        let (t, at_t, tested) = asked_holds (IsTested (Derived D)) tests_of (tested_part (Derived D)) s a in
        let (b, at_b, is) = read_some (made_by set.rules) (slice_get set.sites s) k e in
        field_tested s b k t at_b at_t tested is

    -- What is derived has no impure call.
    pub pure_of : (d : Demand) → Derived D d → SpeaksOf IsPure d
    pure_of d e =
        let run = h.runnable in
        (demands_are_pure facts m.reached.rule (run.pure p m.reached.rule m.reached.at m.reached.of_term)).0 d e

  -- Each field that tests ask has its test.
  pub tests_are_there : TestsItsFields R
  tests_are_there i s k a e =
      let (r, at) = asked_rule i s a in let (p, m) = made_rule name facts sources rules term set h i r at in asked_tested i r at p m s k a e

  -- an impure call's site
  pub effect_site : (t : Site) (s : ℕ) → At rows t s → R.effect s ≡ true → (f : ℕ) × (ss : Sites) × (n : ℕ) × (t ≡ constructor_call f ss (suc n))
  effect_site t s at_t e =
      let (b, at, imp) = read_true is_impure (slice_get set.sites s) e in
      let (f, ps, n, q) = impure_is b imp in
      let at' : slice_get set.sites s ≡ Some (sites.Constructor f ps (suc n)) = at ∙ ap Some q in
      let table = h.is.table in
      let there = from_at name set.sites (tree_of name set.sites) s (sites.Constructor f ps (suc n)) at'
      (λ part inside. part_at name set.sites table s (sites.Constructor f ps (suc n)) part at' inside) in (
        f.0,
        trees_of (tree_of name set.sites) ps,
        n,
        one_site rows t (constructor_call f.0 (trees_of (tree_of name set.sites) ps) (suc n))
            s at_t there,
      )

  -- Tests ask no impure call.
  pub asked_is_pure : (i s : ℕ) → Asked R i s → R.effect s ≡ false
  asked_is_pure i s a =
      let (r, at) = asked_rule i s a in let (p, m) = made_rule name facts sources rules term set h i r at in
      let (t, at_t, pure) = asked_holds i r at p m IsPure (pure_of i r at p m) pure_carried.down s a in
      elim (true_or (R.effect s)) [
        | inl e ↦ let (f, ss, n, q) = effect_site t s at_t e in
            absurd (subst IsPure q pure (constructor_call f ss (suc n)) (whole (constructor_call f ss (suc n))) tt)
        | inr e ↦ e
      ]
