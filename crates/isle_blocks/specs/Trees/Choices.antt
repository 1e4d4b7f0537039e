-- The choice of a walk, as the typed rules say it.
use Rattle.std.specs.Prelude.{◌≡◌, ◌<◌, ◌≤ℤ◌, ℕ, List, Some, slice_get, length}
use Rattle.isle_rules.specs.declared.rules.Rule as source
use Rattle.isle_rules.specs.TypedRules.{TypedRule}
use Rattle.isle_meaning.specs.Values.{Value, Values}
use Rattle.isle_meaning.specs.Facts.{TermFacts}
use Rattle.isle_meaning.specs.Answers.{Completion, IsAllowed}
use Rattle.isle_meaning.specs.Matching.{Matches}
use Rattle.isle_meaning.specs.Scopes.{Covers}
use Rattle.isle_blocks.specs.RuleSets.{RulesOverSites}
use Rattle.isle_trees.specs.Rules.{Elem}
use Rattle.isle_trees.specs.Walk.{Outcome, chooses, ends, waits, stops}
use Rattle.isle_meaning.specs.AboutSites.Agreeing.{AgreeIfKnown}

-- the rules as they are written have the typed rules' priorities
abbrev pub HavePriorities : List source.Rule → List TypedRule → Type 0
HavePriorities sources rules =
    (p : ℕ) (s : source.Rule) (rule : TypedRule) → slice_get sources p ≡ Some s → slice_get rules p ≡ Some rule → s.prio ≡ rule.priority

-- all rules of the set are left
abbrev pub AreAllLeft : RulesOverSites → List ℕ → Type 0
AreAllLeft set left = (i : ℕ) → i < length set.rules → Elem i left

-- a rule of a term, by its place
pub record IsRuleOf (rules : List TypedRule) (term place : ℕ) (rule : TypedRule) : Type 0 where
  pub listed : slice_get rules place ≡ Some rule
  pub of_term : rule.root ≡ term

-- the completion covers each rule of the term
abbrev pub CoversTerm : TermFacts → Completion → Values → List TypedRule → ℕ → Type 0
CoversTerm facts c args rules term = (place : ℕ) (rule : TypedRule) → IsRuleOf rules term place rule → Covers facts c args rule

-- two completions that the declarations allow, which agree on calls that aren't `multi` where both answer
pub record MayBothBe (facts : TermFacts) (c d : Completion) : Type 0 where
  pub first : IsAllowed facts c
  pub second : IsAllowed facts d
  pub construct : (t : ℕ) (vs : Values) → AgreeIfKnown (c.construct t vs) (d.construct t vs)
  pub extract : (t : ℕ) (v : Value) → AgreeIfKnown (c.extract t v) (d.extract t v)

-- the rule matches, and none of the term that matches has a greater priority
pub record IsChosen (facts : TermFacts) (c : Completion) (args : Values) (rules : List TypedRule) (term place : ℕ) (rule : TypedRule) : Type 0 where
  pub is : IsRuleOf rules term place rule
  pub matches : Matches facts c args rule
  pub greatest : (i : ℕ) (other : TypedRule) → IsRuleOf rules term i other → Matches facts c args other → other.priority ≤ℤ rule.priority

-- What a walk's outcome says of the typed rules: the rule at this place of the set's rules is chosen, or none matches.
abbrev pub SaysOf : TermFacts → Completion → Values → List TypedRule → ℕ → List ℕ → Outcome → Type 0
SaysOf facts c args rules term places (chooses i b e) =
    (place : ℕ) × (rule : TypedRule) × (slice_get places i ≡ Some place) × IsChosen facts c args rules term place rule
SaysOf facts c args rules term places ends = (place : ℕ) (rule : TypedRule) → IsRuleOf rules term place rule → Matches facts c args rule → ⊥
SaysOf facts c args rules term places (waits s) = Unit {0}
SaysOf facts c args rules term places stops = ⊥
