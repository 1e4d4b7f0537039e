-- Errors of rules: where they stand, and that rules with some aren't faultless.
use Rattle.std.proofs.Common.{◌≡◌, ◌<◌, ℕ, suc, List, [], ◌∷◌, ◌++◌, map, length, Option, Some, arith, refl, sym, subst, ap, inl, inr}
use Rattle.std.specs.List.{All, AllZip, cons_option}
use Rattle.std.specs.Option.{option_map}
use Rattle.std.proofs.lemmas.List.{length-map, length-append, map-append}
use Rattle.std.proofs.lemmas.List.Elements.{All-nil, All-cons, All-append, All-push, All-pop, All-map, All-head, All-tail}
use Rattle.std.proofs.lemmas.List.Sorted.{All-permutation, IsPermutation-map, length_permutation}
use Rattle.std.proofs.lemmas.Option.{slice_get_cases}
use Rattle.isle_ast.specs.Errors.{ErrorAt, span_at}
use Rattle.isle_ast.specs.declared.error.Error.{Error}
use Rattle.isle_ast.specs.declared.error.Span.{Span}
use Rattle.isle_ast.specs.declared.pos.Pos.{Pos}
use Rattle.isle_containers.proofs.Lists.{slice_get-kept, slice_get-last}
use Rattle.isle_types.proofs.Zipped.{all_at}
use Rattle.isle_rules.specs.declared.rules.Rule.{Rule}
use Rattle.isle_rules.specs.TypedRules.{TypedRule}
use Rattle.isle_rules.specs.TypedTrees.{TypedRuleAt}
use Rattle.isle_meaning.specs.Facts.{TermFacts}
use Rattle.isle_rules.specs.Shown.RulesShown.{IsShownRule}
use Rattle.isle_blocks.specs.declared.report.RulePlace.{RulePlace}
use Rattle.isle_blocks.specs.Reports.{AreGroups, no_pairs, headed, IsGroup, IsReport, error_of, error_by, positions, partners, partner_count}
use Rattle.isle_blocks.specs.RuleFaults.{IsUnreachableAt, AreFaultless, TellUnreachable, no_rules_told, one_may_match, one_never_matches}
use Rattle.isle_blocks.specs.RuleFaults.{unreachable_error, size_error_at, places_from, ListsEach, TellRivals, IsTooLargeAt, AreRuleErrors, of_size, of_rules}
use Rattle.isle_blocks.proofs.RuleFaults.Faultless.{faultless_within}
use Rattle.isle_blocks.proofs.RuleFaults.SizeFaults.{within_before}

-- ---- errors of rules stand where the rules do

-- a rule stands at such a position
abbrev pub RuleAt : (Pos → Type 0) → TypedRule → Type 0
RuleAt At rule = At rule.pos

-- typed rules stand where the rules do that show them
pub typed_placed : (At : Pos → Type 0) (names : List (List ℕ)) (typed : List TypedRule) (rules : List Rule) → AllZip (IsShownRule names) typed rules
    → All (TypedRuleAt At) rules → All (RuleAt At) typed
typed_placed At names [] [] each placed = All-nil (RuleAt At)
typed_placed At names [] (rule ∷ rules) each placed = absurd each
typed_placed At names (made ∷ typed) [] each placed = absurd each
typed_placed At names (made ∷ typed) (rule ∷ rules) each placed =
    All-cons (RuleAt At) made typed (subst At each.0.pos (All-head (TypedRuleAt At) rule rules placed))
    (typed_placed At names typed rules each.1 (All-tail (TypedRuleAt At) rule rules placed))

module _ (At : Pos → Type 0) where
  abbrev PlaceAt : RulePlace → Type 0
  PlaceAt place = At place.pos

  abbrev SpanAt : Span → Type 0
  SpanAt span = At span.from

  places_at : (number : ℕ) (rules : List TypedRule) → All (RuleAt At) rules → All PlaceAt (places_from number rules)
  places_at number [] placed = All-nil PlaceAt
  places_at number (rule ∷ rules) placed =
      All-cons PlaceAt _ (places_from (suc number) rules) (All-head (RuleAt At) rule rules placed)
      (places_at (suc number) rules (All-tail (RuleAt At) rule rules placed))

  spans_at : (head : Pos) (others : List Pos) → At head → All At others → All SpanAt (span_at head ∷ map span_at others)
  spans_at head others here placed = All-cons SpanAt (span_at head) (map span_at others) here (All-map SpanAt span_at others placed)

  -- an error of a rule that never matches stands at the rule
  unreachable_at : (facts : TermFacts) (rules : List TypedRule) (errors : List Error) → TellUnreachable facts rules errors
      → All (RuleAt At) rules → All (ErrorAt At) errors
  unreachable_at facts rules errors no_rules_told placed = All-nil (ErrorAt At)
  unreachable_at facts rules errors (one_may_match {rules = before} {errors = told} rule may tells) placed =
      unreachable_at facts before told tells (All-pop (RuleAt At) (before ++ rule ∷ []) before (Some rule) refl placed).0
  unreachable_at facts rules errors (one_never_matches {rules = before} {errors = told} rule never tells) placed =
      let split = All-pop (RuleAt At) (before ++ rule ∷ []) before (Some rule) refl placed in
      All-push (ErrorAt At) told (unreachable_error rule.pos) (unreachable_at facts before told tells split.0)
      (record { named = omega arith; placed = All-cons SpanAt (span_at rule.pos) [] split.1 (All-nil SpanAt) })

  module _ (rules : List RulePlace) (placed : All PlaceAt rules) where
    positions_at : (places : List ℕ) → All At (positions rules places)
    positions_at [] = All-nil At
    positions_at (place ∷ places) =
        let Of = λ (o : Option RulePlace). All At (cons_option (option_map (λ (rule : RulePlace). rule.pos) o) (positions rules places)) in
        elim ((slice_get_cases rules place).1) [
          | inl (rule, within, at, same) ↦
              subst Of (sym at) (All-cons At rule.pos (positions rules places) (all_at PlaceAt rules placed place rule at) (positions_at places))
          | inr (past, none) ↦ subst Of (sym none) (positions_at places)
        ]

    -- a group names positions of rules
    group_at : (fault : _) (place : ℕ) (pairs : List (ℕ × ℕ)) (group : _) → IsGroup fault rules place pairs group
        → All SpanAt (span_at group.head.pos ∷ map span_at group.others)
    group_at fault place pairs group is =
        spans_at group.head.pos group.others (all_at PlaceAt rules placed place group.head is.head_is)
        (All-permutation At (positions rules (partners fault place pairs)) group.others is.moved (positions_at (partners fault place pairs)))

    -- so do the errors of groups of a kind, where each group's does
    groups_at : (fault : _) (pairs : List (ℕ × ℕ)) (groups : List _) → AreGroups fault rules pairs groups
        → ((place : ℕ) (ps : List (ℕ × ℕ)) (group : _) → IsGroup fault rules place ps group → ErrorAt At (error_by fault group))
        → All (ErrorAt At) (map error_of groups)
    groups_at fault pairs groups no_pairs each = All-nil (ErrorAt At)
    groups_at fault pairs groups (headed {pairs = ps} {i} {group} {groups = others} some greatest is rest) each =
        All-cons (ErrorAt At) (error_of group) (map error_of others)
        (subst (λ kind. ErrorAt At (error_by kind group)) (sym is.fault_is) (each i ps group is))
        (groups_at fault _ others rest each)

    -- an error of rules that overlap or are shadowed names positions of rules
    report_at : (overlaps shadows : List (ℕ × ℕ)) (errors : List Error) → IsReport rules overlaps shadows errors → All (ErrorAt At) errors
    report_at overlaps shadows errors report =
        let overlapping = groups_at _ overlaps report.overlapping report.overlapping_are
        (λ place ps group is. record { named = omega arith; placed = group_at _ place ps group is }) in
        let shadowing = groups_at _ shadows report.shadowing report.shadowing_are
        (λ place ps group is. record { named = omega arith; placed = group_at _ place ps group is }) in
        let both = All-append (ErrorAt At) (map error_of report.overlapping) (map error_of report.shadowing) overlapping shadowing in
        subst (All (ErrorAt At)) (sym report.errors_are)
        (All-permutation (ErrorAt At) (map error_of (report.overlapping ++ report.shadowing)) (map error_of report.sorted)
        (IsPermutation-map error_of (report.overlapping ++ report.shadowing) report.sorted report.moved)
        (subst (All (ErrorAt At)) (sym (map-append error_of report.overlapping report.shadowing)) both))

  size_at : (pos : Pos) → At pos → ErrorAt At (size_error_at pos)
  size_at pos here = record { named = omega arith; placed = All-cons SpanAt (span_at pos) [] here (All-nil SpanAt) }

  -- each error of rules names positions of rules
  pub rule_errors_at : (facts : TermFacts) (rules : List TypedRule) (errors : List Error) → All (RuleAt At) rules → AreRuleErrors facts rules errors
      → All (ErrorAt At) errors
  rule_errors_at facts rules errors placed (of_size pos alone large) =
      let stands = subst At (sym large.here) (all_at (RuleAt At) rules placed large.place large.rule large.at) in
      subst (All (ErrorAt At)) (sym alone) (All-cons (ErrorAt At) (size_error_at pos) [] (size_at pos stands) (All-nil (ErrorAt At)))
  rule_errors_at facts rules errors placed (of_rules unreachable between within told rivals joined some) =
      subst (All (ErrorAt At)) (sym joined)
      (All-append (ErrorAt At) unreachable between (unreachable_at facts rules unreachable told placed)
      (report_at (places_from 0 rules) (places_at 0 rules placed) rivals.overlaps rivals.shadows between rivals.report))

-- ---- rules with errors aren't faultless

no_unreachable : (facts : TermFacts) (rules : List TypedRule) (errors : List Error) → TellUnreachable facts rules errors
    → ((i : ℕ) → IsUnreachableAt facts rules i → ⊥) → length errors ≡ 0
no_unreachable facts rules errors no_rules_told reachable = refl
no_unreachable facts rules errors (one_may_match {rules = before} {errors = told} rule may tells) reachable =
    no_unreachable facts before told tells (λ i never.
    reachable i (record { rule = never.rule; at = slice_get-kept before (rule ∷ []) i never.rule never.at; never = never.never }))
no_unreachable facts rules errors (one_never_matches {rules = before} {errors = told} rule never tells) reachable =
    absurd (reachable (length before) (record { rule = rule; at = slice_get-last before rule; never = never }))

no_pairs_listed : (P : ℕ → ℕ → Type 0) (pairs : List (ℕ × ℕ)) → ListsEach P pairs → ((i j : ℕ) → P i j → ⊥) → pairs ≡ []
no_pairs_listed P [] lists none = refl
no_pairs_listed P (pair ∷ pairs) lists none = absurd (none pair.0 pair.1 ((lists.all pair.0 pair.1).0 (0, omega arith, refl)))

no_groups : (fault : _) (rules : List RulePlace) (pairs : List (ℕ × ℕ)) (groups : List _) → pairs ≡ [] → AreGroups fault rules pairs groups
    → length groups ≡ 0
no_groups fault rules pairs groups none no_pairs = refl
no_groups fault rules pairs groups none (headed {pairs = ps} {i} {group} {groups = others} some greatest is rest) =
    let zero : partner_count fault i ps ≡ 0 = ap (partner_count fault i) none in
    let more : 0 < partner_count fault i ps = some in absurd (omega (arith, zero, more))

no_rivals : (facts : TermFacts) (rules : List TypedRule) (errors : List Error) → AreFaultless facts rules → TellRivals facts rules errors
    → length errors ≡ 0
no_rivals facts rules errors faultless told =
    let places = places_from 0 rules in
    let report = told.report in
    let first = no_groups _ places told.overlaps report.overlapping (no_pairs_listed _ told.overlaps told.overlaps_are faultless.apart)
    report.overlapping_are in
    let second = no_groups _ places told.shadows report.shadowing (no_pairs_listed _ told.shadows told.shadows_are faultless.seen)
    report.shadowing_are in
    let both = length-append report.overlapping report.shadowing in
    let sorted = length_permutation (report.overlapping ++ report.shadowing) report.sorted report.moved in
    let mapped = length-map report.sorted error_of in
    let same : length errors ≡ length (map error_of report.sorted) = ap length report.errors_are in
    omega (arith, first, second, both, sorted, mapped, same)

-- the size is kept where the rules of each term fit in one table
never_too_large : (facts : TermFacts) (rules : List TypedRule) (pos : Pos) → AreFaultless facts rules → IsTooLargeAt facts rules pos → ⊥
never_too_large facts rules pos faultless large =
    let term = large.rule.root in
    large.too_large (within_before facts rules term (suc large.place) (faultless_within facts rules faultless term))

-- rules with errors aren't faultless
pub faulty : (facts : TermFacts) (rules : List TypedRule) (errors : List Error) → AreRuleErrors facts rules errors → AreFaultless facts rules → ⊥
faulty facts rules errors (of_size pos alone large) faultless = never_too_large facts rules pos faultless large
faulty facts rules errors (of_rules unreachable between within told rivals joined some) faultless =
    let first = no_unreachable facts rules unreachable told faultless.reachable in
    let second = no_rivals facts rules between faultless rivals in
    let both = length-append unreachable between in
    let same : length errors ≡ length (unreachable ++ between) = ap length joined in
    omega (arith, first, second, both, same, some)
