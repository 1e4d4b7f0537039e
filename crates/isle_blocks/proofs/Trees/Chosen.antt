-- A walk of a rule set's tree chooses as the typed rules do.
use Rattle.std.proofs.Common.{◌≡◌, ◌↔◌, ℕ, zero, suc, ◌<◌, List, [], ◌∷◌, length, Some, None, slice_get, refl, ap, sym, subst, ◌∙◌, arith}
use Rattle.std.specs.Prelude.{ℤ, ◌≤ℤ◌}
use Rattle.std.specs.List.{AllZip}
use Rattle.std.proofs.lemmas.Option.{same_Some, none-some, slice_get_within}
use Rattle.isle_types.specs.declared.ids.Sym.{Sym}
use Rattle.isle_rules.specs.declared.rules.Rule as source
use Rattle.isle_rules.specs.TypedRules.{TypedRule}
use Rattle.isle_meaning.specs.Values.{Values, count}
use Rattle.isle_meaning.specs.Facts.{TermFacts}
use Rattle.isle_meaning.specs.Answers.{Completion, IsAllowed}
use Rattle.isle_meaning.specs.Held.{Held}
use Rattle.isle_meaning.specs.Matching as matching
use Rattle.isle_meaning.specs.Scopes.{Covers}
use Rattle.isle_meaning.specs.Laws.Matching.{Settles}
use Rattle.isle_meaning.proofs.Matching.Whole.{unreachable_is_dead}
use Rattle.isle_blocks.specs.declared.constraint.Constraint.{Constraint}
use Rattle.isle_blocks.specs.declared.rule.Rule.{Rule}
use Rattle.isle_blocks.specs.DefinedSets.{IsMadeAt}
use Rattle.isle_blocks.specs.RuleSets.{RulesOverSites}
use Rattle.isle_blocks.proofs.Counting.{place_of}
use Rattle.isle_blocks.proofs.Sets.GatheredRules.{zipped_back}
use Rattle.isle_trees.specs.Answers.{Answers}
use Rattle.isle_trees.specs.Tree.{Steps}
use Rattle.isle_trees.specs.Rules.{Rules, Elem, Matches}
use Rattle.isle_trees.specs.Builds.{Builds, IsTreeOf}
use Rattle.isle_trees.specs.Scopes.{nothing_known}
use Rattle.isle_trees.specs.Walk.{Outcome, chooses, ends, waits, stops, walk}
use Rattle.isle_trees.specs.Choice.{IsSure}
use Rattle.isle_trees.proofs.Whole.{whole_sure, whole_run}
use Rattle.isle_trees.specs.Machine.{run}
use Rattle.isle_blocks.specs.Trees.View.{rules_of}
use Rattle.isle_blocks.specs.Trees.SiteTrees.{held_by}
use Rattle.isle_blocks.specs.Trees.Makes.{makes_of, AllowsDone}
use Rattle.isle_blocks.specs.Trees.Premises.{IsRunnableSet}
use Rattle.isle_blocks.specs.Trees.Choices.{HavePriorities, AreAllLeft, IsRuleOf, CoversTerm, MayBothBe, SaysOf}
use Rattle.isle_meaning.proofs.Sites.Kinded.{typed_count}
use Rattle.isle_blocks.proofs.Trees.WellMade.{well_made}
use Rattle.isle_blocks.proofs.Trees.Listed.{uses_no_multi, are_listed}
use Rattle.isle_blocks.proofs.Trees.Effects.{is_single}
use Rattle.isle_blocks.proofs.Trees.Respected.{respects, held_agree}
use Rattle.isle_blocks.proofs.Trees.Answered.{answers_are_strict, answers_are_made_by_parts}
use Rattle.isle_blocks.proofs.Trees.Matched.{knows_asked, matches_as_typed}

-- What stands at a place of the first list has its own in the second.
pub zip_left : {A B : Type 0} (R : A → B → Type 0) (xs : List A) (ys : List B) (i : ℕ) (x : A) → AllZip R xs ys → slice_get xs i ≡ Some x
    → (y : B) × (slice_get ys i ≡ Some y) × R x y
zip_left R [] [] i x h e = absurd (none-some x e)
zip_left R [] (z ∷ ys) i x h e = absurd h
zip_left R (z ∷ xs) [] i x h e = absurd h
zip_left R (z ∷ xs) (y ∷ ys) zero x h e = (y, refl, subst (λ (w : _). R w y) (same_Some z x e) (h.0))
zip_left R (z ∷ xs) (y ∷ ys) (suc i) x h e = zip_left R xs ys i x (h.1) e

-- Below the length something stands.
pub get_there : {A : Type 0} (xs : List A) (i : ℕ) → i < length xs → (x : A) × (slice_get xs i ≡ Some x)
get_there [] i l = absurd (omega arith)
get_there (x ∷ xs) zero l = (x, refl)
get_there (x ∷ xs) (suc i) l = get_there xs i (omega arith)

-- No answers to impure calls are allowed.
pub no_done : (name : Sym → List ℕ) (set : RulesOverSites) (facts : TermFacts) → AllowsDone name set.sites facts []
no_done name set facts s f n ss at e = absurd (none-some _ e)

module _ (name : Sym → List ℕ) (facts : TermFacts) (sources : List source.Rule) (rules : List TypedRule) (term : ℕ) (set : RulesOverSites)
    (h : IsRunnableSet name facts sources rules term set) where
  -- the set as trees see it
  abbrev R : Rules Constraint Held
  R = rules_of name set

  -- what a rule is made of
  abbrev Made : ℕ → Rule → Type 0
  Made p r = IsMadeAt name facts sources rules term set.sites p r

  -- Each rule of the set, with its place.
  pub placed_rule : (i : ℕ) (r : Rule) → slice_get set.rules i ≡ Some r → (p : ℕ) × (slice_get h.is.places i ≡ Some p) × Made p r
  placed_rule i r e = zipped_back Made h.is.places set.rules h.is.made i r e

  -- The rule of each place.
  pub rule_placed : (i p : ℕ) → slice_get h.is.places i ≡ Some p → (r : Rule) × (slice_get set.rules i ≡ Some r) × Made p r
  rule_placed i p e = zip_left Made h.is.places set.rules i p h.is.made e

  -- Allowed answers that cover a rule settle whether it matches.
  pub settles : (c : Completion) (args : Values) → IsAllowed facts c → count args ≡ length h.runnable.types → (p : ℕ) (rule : TypedRule)
      → IsRuleOf rules term p rule
      → Covers facts c args rule → Settles facts c args rule
  settles c args allowed takes p rule is covers =
      let fit = h.runnable.fit p rule is.listed is.of_term in
      let typed = fit.typed in
      let many = typed_count facts h.runnable.types fit.var_types rule.args h.runnable.types typed.args in
      record { allowed = allowed; takes = takes ∙ sym many; covers = covers }

  module _ (c : Completion) (args : Values) (allowed : IsAllowed facts c) (takes : count args ≡ length h.runnable.types)
      (covers : CoversTerm facts c args rules term) where
    -- what a number's site holds
    abbrev v : Answers Held
    v = held_by name set.sites facts c args []

    -- a rule of the set that matches is a typed rule that does
    to_typed : (i : ℕ) (r : Rule) (at : slice_get set.rules i ≡ Some r) (p : ℕ) (m : Made p r) → Matches R v i
        → IsRuleOf rules term p m.reached.rule × matching.Matches facts c args m.reached.rule
    to_typed i r at p m w =
        let is : IsRuleOf rules term p m.reached.rule = record { listed = m.reached.at; of_term = m.reached.of_term } in (
          is,
          (matches_as_typed name facts sources rules term set h c args i r at p m
              (settles c args allowed takes p m.reached.rule is (covers p m.reached.rule is))).0 w,
        )

    -- and a typed rule that matches is one of the set's
    from_typed : (p : ℕ) (rule : TypedRule) → IsRuleOf rules term p rule → matching.Matches facts c args rule
        → (i : ℕ) × (r : Rule) × (slice_get set.rules i ≡ Some r) × (m : Made p r) × Matches R v i × (m.reached.rule ≡ rule)
    from_typed p rule is w =
        let fit = h.runnable.fit p rule is.listed is.of_term in
        let may = λ (n : _). unreachable_is_dead facts h.runnable.types c args rule fit n w in
        let inside = (h.is.listed.all p).1 (record { rule = rule; at = is.listed; of_term = is.of_term; may = may }) in
        let (i, at_place) = place_of h.is.places p inside in
        let (r, at, m) = rule_placed i p at_place in
        let same : m.reached.rule ≡ rule = same_Some m.reached.rule rule (sym m.reached.at ∙ is.listed) in
        let is' : IsRuleOf rules term p m.reached.rule = record { listed = m.reached.at; of_term = m.reached.of_term } in
        let matches = (matches_as_typed name facts sources rules term set h c args i r at p m
        (settles c args allowed takes p m.reached.rule is' (covers p m.reached.rule is'))).1 (subst (matching.Matches facts c args) (sym same) w) in
        (i, r, at, m, matches, same)

    module _ (priorities : HavePriorities sources rules) where
      -- its priority
      prio_is : (i : ℕ) (r : Rule) → slice_get set.rules i ≡ Some r → (p : ℕ) (m : Made p r) → R.prio i ≡ m.reached.rule.priority
      prio_is i r at p m = rw at (m.told.prio ∙ priorities p m.source m.reached.rule m.source_at m.reached.at)

      -- what a sure outcome says of the typed rules
      says : (left : List ℕ) → AreAllLeft set left → (o : Outcome) → IsSure R v left o → ((i : ℕ) → Elem i left → i < length set.rules)
          → SaysOf facts c args rules term h.is.places o
      says left all (chooses i b e) sure within =
          let (r, at) = get_there set.rules i (within i (sure.0)) in
          let (p, at_place, m) = placed_rule i r at in
          let (is, matches) = to_typed i r at p m (sure.1) in (
            p,
            m.reached.rule,
            at_place,
            record {
              is = is;
              matches = matches;
              greatest = λ j other is_other w.
                  let (k, q, at_k, n, matched, same) = from_typed j other is_other w in
                  let low = (sure.2) k (all k (slice_get_within set.rules k q at_k)) matched in
                  let one : R.prio i ≡ m.reached.rule.priority = prio_is i r at p m in
                  let two : R.prio k ≡ other.priority = prio_is k q at_k j n ∙ ap (λ (x : TypedRule). x.priority) same in
                  subst (λ (x : ℤ). x ≤ℤ m.reached.rule.priority) two (subst (λ (x : ℤ). R.prio k ≤ℤ x) one low);
            },
          )
      says left all ends sure within = λ p rule is w.
          let (i, r, at, m, matched, same) = from_typed p rule is w in sure i (all i (slice_get_within set.rules i r at)) matched
      says left all (waits s) sure within = tt
      says left all stops sure within = sure

  -- The outcome of a run under its own answers says what the typed rules choose under any answers that cover them.
  pub walks_choose : HavePriorities sources rules → (left : List ℕ) → AreAllLeft set left → ((i : ℕ) → Elem i left → i < length set.rules)
      → (T : Steps Constraint) → Builds (rules_of name set) left nothing_known T → (c d : Completion) (args : Values) → MayBothBe facts c d
      → count args ≡ length h.runnable.types → CoversTerm facts d args rules term
      → SaysOf facts d args rules term h.is.places (walk (rules_of name set) (held_by name set.sites facts c args []) T)
  walks_choose priorities left all within T builds c d args may takes covers =
      let tree : IsTreeOf R left T = record {
        made = well_made name facts sources rules term set h;
        single = is_single name facts sources rules term set h;
        no_multi = uses_no_multi name facts sources rules term set h left;
        builds = builds;
      } in
      let sure = whole_sure R left T (held_by name set.sites facts c args []) (held_by name set.sites facts d args []) tree
      (respects name facts sources rules term set h c args [] may.first takes (no_done name set facts))
      (held_agree name facts sources rules term set h c d args [] may.construct may.extract)
      (knows_asked name facts sources rules term set h d args [] (λ p rule at root. covers p rule (record { listed = at; of_term = root })))
      (answers_are_strict name set h.is.table facts d args []) in
      says d args may.second takes covers priorities left all
      (walk R (held_by name set.sites facts c args []) T) sure within

  -- A rule of the set matches exactly where the typed rule at its place does.
  pub rules_match : (c : Completion) (args : Values) (i p : ℕ) (rule : TypedRule) → slice_get h.is.places i ≡ Some p → slice_get rules p ≡ Some rule
      → Settles facts c args rule → Matches (rules_of name set) (held_by name set.sites facts c args []) i ↔ matching.Matches facts c args rule
  rules_match c args i p rule at_place at_rule settled =
      let (r, at, m) = rule_placed i p at_place in
      let same : m.reached.rule ≡ rule = same_Some m.reached.rule rule (sym m.reached.at ∙ at_rule) in
      subst (λ (x : TypedRule). Matches R (held_by name set.sites facts c args []) i ↔ matching.Matches facts c args x) same
      (matches_as_typed name facts sources rules term set h c args i r at p m (subst (Settles facts c args) (sym same) settled))

  -- A machine does as the walk.
  pub machine_walks : (left : List ℕ) (T : Steps Constraint) → Builds (rules_of name set) left nothing_known T → (c : Completion) (args : Values)
      → IsAllowed facts c → count args ≡ length h.runnable.types
      → run (rules_of name set) (makes_of name set.sites facts c args []) T (λ s. None)
      ≡ walk (rules_of name set) (held_by name set.sites facts c args []) T
  machine_walks left T builds c args allowed takes =
      whole_run R left T (makes_of name set.sites facts c args []) (held_by name set.sites facts c args [])
      (well_made name facts sources rules term set h) (are_listed name facts sources rules term set h) builds
      (respects name facts sources rules term set h c args [] allowed takes (no_done name set facts))
      (answers_are_made_by_parts name set h.is.table facts c args [])
