-- A rule of a set matches exactly where what its typed rule demands holds of what the sites hold.
use Rattle.std.proofs.Common.{refl, inl, inr, ◌≡◌, ◌≢◌, ◌↔◌, ℕ, true, List, Some, slice_get, ap, sym, subst}
use Rattle.std.proofs.Common.{◌∙◌}
use Rattle.std.proofs.lemmas.Option.{same_Some}
use Rattle.isle_types.specs.declared.ids.Sym.{Sym}
use Rattle.isle_rules.specs.declared.rules.Rule as source
use Rattle.isle_rules.specs.TypedRules.{TypedRule}
use Rattle.isle_meaning.specs.Facts.{TermFacts}
use Rattle.isle_meaning.specs.Held.{Held}
use Rattle.isle_meaning.specs.Held as holding
use Rattle.isle_meaning.specs.Holds as holds
use Rattle.isle_meaning.specs.Sites.{Site}
use Rattle.isle_meaning.specs.Demands.{Demand, constrained, equal}
use Rattle.isle_meaning.specs.Demands as demands
use Rattle.isle_meaning.specs.Derived.{Closed, demanded}
use Rattle.isle_meaning.specs.Demands.{DemandOf}
use Rattle.isle_meaning.specs.Numbered.{Row, At}
use Rattle.isle_meaning.proofs.Matching.Closing.{from_closed}
use Rattle.isle_meaning.proofs.Matching.Numbering.{one_site}
use Rattle.isle_meaning.proofs.Matching.Proper.{closed_holds_proper}
use Rattle.isle_blocks.specs.declared.ids.BindingId.{BindingId}
use Rattle.isle_blocks.specs.declared.constraint.Constraint.{Constraint}
use Rattle.isle_blocks.specs.declared.rule.Rule.{Rule}
use Rattle.isle_blocks.specs.AddedRules.{IsMultiCall}
use Rattle.isle_blocks.specs.DefinedSets.{IsMadeAt}
use Rattle.isle_blocks.specs.RuleSets.{RulesOverSites}
use Rattle.isle_blocks.specs.Rows.{rows_of, test_of}
use Rattle.isle_blocks.specs.Trees.Bags.{IsAskedSite, RulesMatchByNumbers}
use Rattle.isle_blocks.specs.Trees.ElaboratedSets.{IsElaboratedSet}
use Rattle.isle_blocks.specs.Trees.View.{id_of, test_at, has_loop, rule_joins, rules_of}
use Rattle.isle_blocks.proofs.Trees.Buildable.{test_of_rule, loop_of_rule}
use Rattle.isle_blocks.proofs.Trees.Elaborated.{kinds_of, derived_test, its_test, test_wanted, loop_site, loop_wanted}
use Rattle.isle_blocks.proofs.Trees.Exact.{passed_meets, met_passes}
use Rattle.isle_blocks.proofs.Trees.Chosen.{zip_left}
use Rattle.isle_blocks.proofs.Trees.Matched.{passed}
use Rattle.isle_blocks.proofs.Trees.Reading.{read_true, loop_found}
use Rattle.isle_trees.specs.Got.{Got, gives}
use Rattle.isle_trees.specs.Answers.{Answers, HasValue}
use Rattle.isle_trees.specs.Rules.{Want, has, one_value, Rules, Meets, Matches}

module _ (name : Sym → List ℕ) (facts : TermFacts) (sources : List source.Rule) (rules : List TypedRule) (term : ℕ) (set : RulesOverSites)
    (h : IsElaboratedSet name facts sources rules term set) (v : Answers Held) (val : Site → Got Held) (i : ℕ) (r : Rule)
    (at : slice_get set.rules i ≡ Some r) (p : ℕ) (m : IsMadeAt name facts sources rules term set.sites p r)
    (say : (s : Site) (k : ℕ) → At (rows_of name set.sites) s k → IsAskedSite facts m.reached.rule s → val s ≡ v k) where
  -- the entries of the set's sites
  abbrev rows : List Row
  rows = rows_of name set.sites

  -- the set as trees see it
  abbrev R : Rules Constraint Held
  R = rules_of name set

  -- the typed rule
  abbrev rule : TypedRule
  rule = m.reached.rule

  -- what it demands
  abbrev D : Demand → Type 0
  D = DemandOf facts rule

  -- at one place stands one rule
  same_rule : (k : Rule) → slice_get set.rules i ≡ Some k → k ≡ r
  same_rule k e = same_Some k r (sym e ∙ at)

  -- where the rule matches its closed demands hold
  holds_closed : Matches R v i → (d : Demand) → Closed D d → holds.Holds val d
  holds_closed w (constrained t e) k =
      let closed = m.closed in
      let (id, test, inside, at_id, is) = closed.tests.all t e k in
      let (test', has_it, what) = its_test name facts sources rules term set h p r m t id.0 e at_id k in
      let met = w.wants id.0 (has test') (test_wanted name facts sources rules term set h i id.0 r test' at has_it) in
      let (x, g, q) = passed name set test' (v id.0) met in (
        x,
        say t id.0 at_id (inl (constrained t e, k, refl)) ∙ g,
        subst (λ (d : demands.Constraint). holding.Meets d x) what
            (passed_meets name test' x q),
      )
  holds_closed w (equal s u) k =
      let closed = m.closed in
      let (x, y, at_x, at_y, joined) = closed.equalities.all s u k in
      let differ : x.0 ≢ y.0 = λ q. (k.1) (one_site rows s u y.0 (subst (At rows s) q at_x) at_y) in
      let j : R.joins i x.0 y.0 ≡ true = rw at joined in
      let (g, same) = w.equals x.0 y.0 j differ in
      (g.0, say s x.0 at_x (inl (equal s u, k.0, inl refl)) ∙ g.1, say u y.0 at_y (inl (equal s u, k.0, inr refl)) ∙ sym same ∙ g.1)

  -- and each multi call that it uses has a list
  holds_lists : Matches R v i → (s : Site) → IsMultiCall facts (facts.partial rule.root) rule s → HasValue (val s)
  holds_lists w s multi =
      let calls = m.calls in
      let (id, inside, at_id) = calls.all s multi in
      let (x, e) = w.wants id.0 one_value (loop_wanted name facts sources rules term set h i r at p m id.0 (loop_found r id.0 inside)) in
      (x, say s id.0 at_id (inr multi) ∙ e)

  module _ (closed : (d : Demand) → Closed D d → holds.Holds val d)
      (lists : (s : Site) → IsMultiCall facts (facts.partial rule.root) rule s → HasValue (val s)) where
    -- where both do each want is met
    want_met : (s : ℕ) (w : Want Constraint) → R.at i s ≡ Some w → Meets R w (v s)
    want_met s one_value e =
        let (k, ak, l) = loop_of_rule name facts sources rules term set h.injective h.is i s e in
        let (t, at_t, multi, list) =
        loop_site name facts sources rules term set h p r m s (subst (λ (z : Rule). has_loop s z ≡ true) (same_rule k ak) l) in
        let (x, g) = lists t multi in (x, sym (say t s at_t (inr multi)) ∙ g)
    want_met s (has test) e =
        let (k, ak, t) = test_of_rule name facts sources rules term set h.injective h.is i s test e in
        let (u, au, du) = derived_test name facts sources rules term set h p r m s test
        (subst (λ (z : Rule). test_at s z ≡ Some test) (same_rule k ak) t) in
        let (x, g, met) = closed (constrained u (test_of name test)) du in
        let there : v s ≡ gives x = sym (say u s au (inl (constrained u (test_of name test), du, refl))) ∙ g in
        rw there (met_passes name test x met)

    -- and each equality
    equal_met : (a b : ℕ) → R.joins i a b ≡ true → a ≢ b → HasValue (v a) × (v a ≡ v b)
    equal_met a b e differ =
        let (k, ak, j) = read_true (rule_joins a b) (slice_get set.rules i) e in
        let j' = subst (λ (z : Rule). rule_joins a b z ≡ true) (same_rule k ak) j in
        let made = m.closed in
        let (s, u, here, there, left) = made.equalities.left (id_of a) (id_of b) (λ q. differ (ap (λ (z : BindingId). z.0) q)) j' in
        let (x, g, o) = closed (equal s u) left in
        let first : v a ≡ gives x = sym (say s a here (inl (equal s u, left.0, inl refl))) ∙ g in
        let second : v b ≡ gives x = sym (say u b there (inl (equal s u, left.0, inr refl))) ∙ o in
        ((x, first), first ∙ sym second)

  -- A rule matches exactly where its demands hold, and its multi calls have lists.
  pub matches_by_numbers : holds.Respects val → Matches (rules_of name set) v i
      ↔ (((d : Demand) → DemandOf facts rule d → holds.IsProper d → holds.Holds val d)
      × ((s : Site) → IsMultiCall facts (facts.partial rule.root) rule s → HasValue (val s)))
  matches_by_numbers respects =
      let kinds = kinds_of name facts sources rules term set h p r m in (
        λ w. (
          λ d k n. from_closed val respects facts h.types D (λ e q. kinds.suit e (demanded q)) (holds_closed w) d k n,
          holds_lists w,
        ),
        λ both.
            let closed = closed_holds_proper val respects D (both.0) in
            record { wants = want_met closed (both.1); equals = equal_met closed (both.1) },
      )

pub rules_match_by_numbers : RulesMatchByNumbers
rules_match_by_numbers name facts sources rules term set h v val respects i p rule at_place at_rule say =
    let (r, at, m) = zip_left (IsMadeAt name facts sources rules term set.sites) h.is.places set.rules i p h.is.made at_place in
    let same : m.reached.rule ≡ rule = same_Some m.reached.rule rule (sym m.reached.at ∙ at_rule) in
    subst (λ (z : TypedRule). Matches (rules_of name set) v i
    ↔ (((d : Demand) → DemandOf facts z d → holds.IsProper d → holds.Holds val d)
    × ((s : Site) → IsMultiCall facts (facts.partial z.root) z s → HasValue (val s)))) same
    (matches_by_numbers name facts sources rules term set h v val i r at p m
    (λ s k here asked. say s k here (subst (λ (z : TypedRule). IsAskedSite facts z s) same asked)) respects)
