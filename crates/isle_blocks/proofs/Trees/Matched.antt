-- What the tests ask is known under completions that cover, and a rule matches exactly where its typed rule does.
use Rattle.std.proofs.Common.{◌≡◌, ◌≢◌, ◌↔◌, inl, ℕ, true, List, [], ◌∷◌, Option, Some, slice_get, refl, ap, sym, subst}
use Rattle.std.proofs.Common.{◌∙◌}
use Rattle.std.proofs.lemmas.Option.{same_Some}
use Rattle.isle_types.specs.declared.ids.Sym.{Sym}
use Rattle.isle_rules.specs.declared.rules.Rule as source
use Rattle.isle_rules.specs.TypedRules.{TypedRule}
use Rattle.isle_meaning.specs.Values.{Value, Values}
use Rattle.isle_meaning.specs.Facts.{TermFacts}
use Rattle.isle_meaning.specs.Answers.{Completion}
use Rattle.isle_meaning.specs.Held.{Held, value, IsAnswered}
use Rattle.isle_meaning.specs.Held as holding
use Rattle.isle_meaning.specs.Holds as holds
use Rattle.isle_meaning.specs.Matching as matching
use Rattle.isle_meaning.specs.Scopes.{Covers}
use Rattle.isle_meaning.specs.Sites.{Site}
use Rattle.isle_meaning.specs.Demands.{Demand, constrained, equal}
use Rattle.isle_meaning.specs.Demands as demands
use Rattle.isle_meaning.specs.Derived.{Closed}
use Rattle.isle_meaning.specs.Laws.Matching.{Settles}
use Rattle.isle_meaning.specs.Demands.{DemandOf}
use Rattle.isle_meaning.specs.Numbered.{Row}
use Rattle.isle_meaning.proofs.Matching.Known.{known}
use Rattle.isle_meaning.proofs.Matching.Whole.{matches_by_closed}
use Rattle.isle_blocks.specs.declared.ids.BindingId.{BindingId}
use Rattle.isle_blocks.specs.declared.constraint.Constraint.{Constraint}
use Rattle.isle_blocks.specs.declared.rule.Rule.{Rule}
use Rattle.isle_blocks.specs.Rows.{rows_of, test_of}
use Rattle.isle_blocks.specs.DefinedSets.{IsMadeAt}
use Rattle.isle_blocks.specs.RuleSets.{RulesOverSites}
use Rattle.isle_trees.specs.Got.{Got, unknown, fails, gives}
use Rattle.isle_trees.specs.Answers.{Answers, HasValue}
use Rattle.isle_trees.specs.Rules.{Want, has, one_value, Rules, Meets, Matches, passes_got}
use Rattle.isle_trees.specs.Premises.{KnowsAsked}
use Rattle.isle_blocks.specs.Trees.Compare.{meets}
use Rattle.isle_blocks.specs.Trees.View.{id_of, test_at, rule_joins, rules_of}
use Rattle.isle_blocks.specs.Trees.SiteTrees.{tree_of, held_by}
use Rattle.isle_blocks.specs.Trees.Premises.{IsRunnableSet}
use Rattle.isle_blocks.proofs.Trees.Exact.{passed_meets, met_passes}
use Rattle.isle_blocks.proofs.Trees.Reading.{read_true}
use Rattle.isle_blocks.proofs.Trees.Standing.{tree_one}
use Rattle.isle_meaning.proofs.Matching.Later.{later}
use Rattle.isle_meaning.proofs.Sites.Covered.{answered_part, demands_are_answered}
use Rattle.isle_blocks.proofs.Trees.WellMade.{made_rule, fit_of, derived_test, wanted_test, test_wanted}
use Rattle.isle_blocks.proofs.Trees.Listed.{uses_no_multi}
use Rattle.isle_blocks.proofs.Trees.Asked.{asked_rule, asked_holds, its_test}

-- What passes is there.
pub passed : (name : Sym → List ℕ) (set : RulesOverSites) (d : Constraint) (g : Got Held) → passes_got (rules_of name set) d g ≡ true
    → (x : Held) × (g ≡ gives x) × (meets name d x ≡ true)
passed name set d unknown e = absurd cc
passed name set d fails e = absurd cc
passed name set d (gives x) e = (x, refl, e)

module _ (name : Sym → List ℕ) (facts : TermFacts) (sources : List source.Rule) (rules : List TypedRule) (term : ℕ) (set : RulesOverSites)
    (h : IsRunnableSet name facts sources rules term set) (c : Completion) (args : Values) where
  -- the entries of the set's sites
  abbrev rows : List Row
  rows = rows_of name set.sites

  -- the set as trees see it
  abbrev R : Rules Constraint Held
  R = rules_of name set

  -- what a rule is made of
  abbrev Made : ℕ → Rule → Type 0
  Made p r = IsMadeAt name facts sources rules term set.sites p r

  -- a number's tree
  abbrev tree : ℕ → Site
  tree = tree_of name set.sites

  -- All that tests ask is known.
  pub knows_asked : (done : List (Option Value))
      → ((p : ℕ) (rule : TypedRule) → slice_get rules p ≡ Some rule → rule.root ≡ term → Covers facts c args rule)
      → KnowsAsked R (held_by name set.sites facts c args done)
  knows_asked done covers i s a e =
      let (r, at) = asked_rule name facts sources rules term set h i s a in
      let (p, m) = made_rule name facts sources rules term set h i r at in
      let (t, at_t, answered) = asked_holds name facts sources rules term set h i r at p m (IsAnswered facts c args [])
      (demands_are_answered facts c args m.reached.rule (covers p m.reached.rule m.reached.at m.reached.of_term))
      (answered_part facts c args) s a in
      let here = subst (IsAnswered facts c args []) (sym (tree_one name set.sites h.is.table t s at_t)) answered in
      let now = known facts c args [] (tree s) here in
      now (sym (later facts c args [] done (tree s) now) ∙ e)

  module _ (i : ℕ) (r : Rule) (at : slice_get set.rules i ≡ Some r) (p : ℕ) (m : Made p r) where
    -- what its typed rule demands
    abbrev D : Demand → Type 0
    D = DemandOf facts m.reached.rule

    -- what a site holds
    abbrev val : Site → Got Held
    val s = value facts c args [] s

    -- what a number's does
    abbrev v : Answers Held
    v = held_by name set.sites facts c args []

    -- where the rule matches its closed demands hold
    holds_closed : Matches R v i → (d : Demand) → Closed D d → holds.Holds val d
    holds_closed w (constrained t e) k =
        let closed = m.closed in
        let (id, test, inside, at_id, is) = closed.tests.all t e k in
        let (test', has_it, what) = its_test name facts sources rules term set h i r at p m t id.0 e at_id k in
        let met = w.wants id.0 (has test') (test_wanted name facts sources rules term set h i id.0 r test' at has_it) in
        let (x, g, q) = passed name set test' (v id.0) met in
        let tree_is = tree_one name set.sites h.is.table t id.0 at_id in (
          x,
          subst (λ (z : Site). val z ≡ gives x) tree_is g,
          subst (λ (d : demands.Constraint). holding.Meets d x) what (passed_meets name test' x q),
        )
    holds_closed w (equal s u) k =
        let closed = m.closed in
        let (x, y, at_x, at_y, joined) = closed.equalities.all s u k in
        let is_s = tree_one name set.sites h.is.table s x.0 at_x in
        let is_u = tree_one name set.sites h.is.table u y.0 at_y in
        let differ : x.0 ≢ y.0 = λ q. (k.1) (sym is_s ∙ ap tree q ∙ is_u) in
        let j : R.joins i x.0 y.0 ≡ true = rw at joined in
        let (g, same) = w.equals x.0 y.0 j differ in
        (g.0, subst (λ (z : Site). val z ≡ gives (g.0)) is_s (g.1), subst (λ (z : Site). val z ≡ gives (g.0)) is_u (sym same ∙ g.1))

    -- where they hold each want is met
    want_met : ((d : Demand) → Closed D d → holds.Holds val d) → (s : ℕ) (w : Want Constraint) → R.at i s ≡ Some w → Meets R w (v s)
    want_met f s one_value e = absurd (uses_no_multi name facts sources rules term set h (i ∷ []) i s (inl refl) e)
    want_met f s (has test) e =
        let (k, ak, t) = wanted_test name facts sources rules term set h i s test e in
        let t' = subst (λ (z : Rule). test_at s z ≡ Some test) (same_Some k r (sym ak ∙ at)) t in
        let (u, au, du) = derived_test name facts sources rules term set h p r m s test t' in
        let (x, g, met) = f (constrained u (test_of name test)) du in
        let is = tree_one name set.sites h.is.table u s au in
        let there : v s ≡ gives x = subst (λ (z : Site). val z ≡ gives x) (sym is) g in
        rw there (met_passes name test x met)

    -- and each equality
    equal_met : ((d : Demand) → Closed D d → holds.Holds val d) → (a b : ℕ) → R.joins i a b ≡ true → a ≢ b → HasValue (v a) × (v a ≡ v b)
    equal_met f a b e differ =
        let (k, ak, j) = read_true (rule_joins a b) (slice_get set.rules i) e in
        let j' = subst (λ (z : Rule). rule_joins a b z ≡ true) (same_Some k r (sym ak ∙ at)) j in
        let closed = m.closed in
        let (s, u, here, there, left) = closed.equalities.left (id_of a) (id_of b) (λ q. differ (ap (λ (z : BindingId). z.0) q)) j' in
        let (x, g, o) = f (equal s u) left in
        let is_s = tree_one name set.sites h.is.table s a here in
        let is_u = tree_one name set.sites h.is.table u b there in
        let first : v a ≡ gives x = subst (λ (z : Site). val z ≡ gives x) (sym is_s) g in
        let second : v b ≡ gives x = subst (λ (z : Site). val z ≡ gives x) (sym is_u) o in
        ((x, first), first ∙ sym second)

    -- so the rule matches
    closed_matches : ((d : Demand) → Closed D d → holds.Holds val d) → Matches R v i
    closed_matches f = record { wants = want_met f; equals = equal_met f }

    -- A rule of the set matches exactly where its typed rule does.
    pub matches_as_typed : Settles facts c args m.reached.rule
        → Matches R (held_by name set.sites facts c args []) i ↔ matching.Matches facts c args m.reached.rule
    matches_as_typed settles =
        let law = matches_by_closed facts h.runnable.types c args m.reached.rule (fit_of name facts sources rules term set h p r m) settles in
        (λ w. law.1 (holds_closed w), λ w. closed_matches (law.0 w))
