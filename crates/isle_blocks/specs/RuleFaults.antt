-- Faults of the rules that definitions make: rules that never match, rules that overlap or are shadowed, and too many sites.
use Rattle.std.specs.Prelude.{◌≡◌, ◌<◌, ◌≤◌, ◌↔◌, ℕ, suc, false, List, [], ◌∷◌, ◌++◌, length, take, Contains, Some, slice_get, codes}
use Rattle.isle_ast.specs.Errors.{span_at}
use Rattle.isle_ast.specs.declared.pos.Pos.{Pos}
use Rattle.isle_ast.specs.declared.error.Error.{Error}
use Rattle.isle_ast.specs.declared.error.Error.TheVariants.{SizeError, UnreachableError}
use Rattle.isle_types.specs.Names.{AreDistinct}
use Rattle.isle_rules.specs.TypedRules.{TypedRule}
use Rattle.isle_meaning.specs.Facts.{TermFacts}
use Rattle.isle_meaning.specs.Sites.{Site}
use Rattle.isle_meaning.specs.Demands.{result_of}
use Rattle.isle_meaning.specs.Faults.{IsUnreachable, Overlaps, Shadows}
use Rattle.isle_meaning.specs.Demands.{DemandOf}
use Rattle.isle_meaning.specs.Needs.{needs_of, IsNeeded}
use Rattle.isle_meaning.specs.Numbered.{Row}
use Rattle.isle_blocks.specs.declared.report.RulePlace.{RulePlace}
use Rattle.isle_blocks.specs.Closure.{Stands, HasAllFields}
use Rattle.isle_blocks.specs.Reports.{IsReport}

-- what a rule demands asks two tests of one site, or makes a value a part of itself, so that it never matches
abbrev pub NeverMatches : TermFacts → TypedRule → Type 0
NeverMatches facts rule = IsUnreachable (DemandOf facts rule)

-- what it demands asks for nothing of the kind
abbrev pub MayMatch : TermFacts → TypedRule → Type 0
MayMatch facts rule = NeverMatches facts rule → ⊥

-- the rule at a place never matches
pub record IsUnreachableAt (facts : TermFacts) (rules : List TypedRule) (i : ℕ) : Type 0 where
  pub rule : TypedRule
  pub at : slice_get rules i ≡ Some rule
  pub never : NeverMatches facts rule

-- the rule at a place is one of a term, and may match
pub record MayMatchAt (facts : TermFacts) (rules : List TypedRule) (term i : ℕ) : Type 0 where
  pub rule : TypedRule
  pub at : slice_get rules i ≡ Some rule
  pub of_term : rule.root ≡ term
  pub may : MayMatch facts rule

-- two rules of one term that gives one answer, each of which may match
pub record AreRivals (facts : TermFacts) (rules : List TypedRule) (i j : ℕ) : Type 0 where
  pub term : ℕ
  pub first : MayMatchAt facts rules term i
  pub second : MayMatchAt facts rules term j
  pub single : facts.multi term ≡ false

-- two rules, the first the earlier, that have one priority and may match together
pub record AreOverlapping (facts : TermFacts) (rules : List TypedRule) (i j : ℕ) : Type 0 where
  pub rivals : AreRivals facts rules i j
  pub in_order : i < j
  pub overlap : Overlaps (DemandOf facts rivals.first.rule) rivals.first.rule.priority (DemandOf facts rivals.second.rule) rivals.second.rule.priority

-- a rule, and one of lower priority that it leaves nothing to match
pub record IsShadowing (facts : TermFacts) (rules : List TypedRule) (i j : ℕ) : Type 0 where
  pub rivals : AreRivals facts rules i j
  pub shadow : Shadows (DemandOf facts rivals.first.rule) (DemandOf facts rivals.second.rule) rivals.first.rule.priority rivals.second.rule.priority

-- a rule's result: in a term that may fail the made option of its right side
abbrev pub own_result : TermFacts → TypedRule → Site
own_result facts rule = result_of facts (facts.partial rule.root) rule

-- a table has each site that a rule needs, and that of its result
pub record NeedsStand (facts : TermFacts) (table : List Row) (rule : TypedRule) : Type 0 where
  pub needed : (s : Site) → IsNeeded (needs_of facts rule) s → Stands table s
  pub result : Stands table (own_result facts rule)

-- and all fields that the rule's demands open
pub record SitesStand (facts : TermFacts) (table : List Row) (rule : TypedRule) : Type 0 where
  pub own : NeedsStand facts table rule
  pub fields : HasAllFields (DemandOf facts rule) table

-- a table of at most 65,536 sites has the sites of all rules of a term that may match
pub record FitTogether (facts : TermFacts) (rules : List TypedRule) (term : ℕ) : Type 0 where
  pub table : List Row
  pub few : length table ≤ 65536
  pub stand : (i : ℕ) (reached : MayMatchAt facts rules term i) → SitesStand facts table reached.rule

-- a table of at most 65,536 sites has those that a rule needs and that of its result
pub record FitsAlone (facts : TermFacts) (rule : TypedRule) : Type 0 where
  pub table : List Row
  pub few : length table ≤ 65536
  pub own : NeedsStand facts table rule

-- each rule of a term fits alone, whether it may match or not, and those that may match fit together
pub record AreWithinSize (facts : TermFacts) (rules : List TypedRule) (term : ℕ) : Type 0 where
  pub alone : (i : ℕ) (rule : TypedRule) → slice_get rules i ≡ Some rule → rule.root ≡ term → FitsAlone facts rule
  pub together : FitTogether facts rules term

-- rules without a fault: each may match, none overlap, none is shadowed, and those of a term fit in one table
pub record AreFaultless (facts : TermFacts) (rules : List TypedRule) : Type 0 where
  pub reachable : (i : ℕ) → IsUnreachableAt facts rules i → ⊥
  pub apart : (i j : ℕ) → AreOverlapping facts rules i j → ⊥
  pub seen : (i j : ℕ) → IsShadowing facts rules i j → ⊥
  pub fit : (term : ℕ) → FitTogether facts rules term

abbrev pub unreachable_message : List ℕ
unreachable_message = codes "no values meet all that this rule demands"

abbrev pub unreachable_error : Pos → Error
unreachable_error pos = UnreachableError unreachable_message (span_at pos)

-- what a size error says of the rule at which the sites of its term's rules are too many
abbrev pub sites_message : List ℕ
sites_message = codes "the rules of this term have too many sites"

-- the size error at a rule's position
abbrev pub size_error_at : Pos → Error
size_error_at pos = SizeError sites_message (span_at pos)

-- the errors of the rules that never match, one each, in the order of the rules
pub data TellUnreachable (facts : TermFacts) : List TypedRule → List Error → Type 0 where
  no_rules_told : TellUnreachable facts [] []
  one_may_match : {rules : List TypedRule} {errors : List Error} (rule : TypedRule) → MayMatch facts rule
      → TellUnreachable facts rules errors → TellUnreachable facts (rules ++ rule ∷ []) errors
  one_never_matches : {rules : List TypedRule} {errors : List Error} (rule : TypedRule) → NeverMatches facts rule
      → TellUnreachable facts rules errors → TellUnreachable facts (rules ++ rule ∷ []) (errors ++ unreachable_error rule.pos ∷ [])

-- how faults name rules, the first of which has this number: by their positions, then by their numbers
abbrev pub places_from : ℕ → List TypedRule → List RulePlace
places_from number [] = []
places_from number (rule ∷ rules) = record { pos = rule.pos; id = record { 0 = number } } ∷ places_from (suc number) rules

-- the pairs with P, each once
pub record ListsEach (P : ℕ → ℕ → Type 0) (pairs : List (ℕ × ℕ)) : Type 0 where
  pub all : (i j : ℕ) → Contains pairs (i, j) ↔ P i j
  pub once : AreDistinct pairs

-- the errors of the rules that overlap or are shadowed
pub record TellRivals (facts : TermFacts) (rules : List TypedRule) (errors : List Error) : Type 0 where
  pub overlaps : List (ℕ × ℕ)
  pub shadows : List (ℕ × ℕ)
  pub overlaps_are : ListsEach (AreOverlapping facts rules) overlaps
  pub shadows_are : ListsEach (IsShadowing facts rules) shadows
  pub report : IsReport (places_from 0 rules) overlaps shadows errors

-- The rule at a position is the first that is too large: the rules of each term with a smaller number are within the size, and so
-- are those of its own term before it, but not with it.
pub record IsTooLargeAt (facts : TermFacts) (rules : List TypedRule) (pos : Pos) : Type 0 where
  pub place : ℕ
  pub rule : TypedRule
  pub at : slice_get rules place ≡ Some rule
  pub here : pos ≡ rule.pos
  pub lesser : (term : ℕ) → term < rule.root → AreWithinSize facts rules term
  pub before : AreWithinSize facts (take place rules) rule.root
  pub too_large : AreWithinSize facts (take (suc place) rules) rule.root → ⊥

-- one size error alone, at the first rule that is too large
pub record IsOneSizeFault (facts : TermFacts) (rules : List TypedRule) (errors : List Error) : Type 0 where
  pub pos : Pos
  pub alone : errors ≡ size_error_at pos ∷ []
  pub too_large : IsTooLargeAt facts rules pos

-- The errors of faulty rules: one size error alone, or, where no rule is too large, the rules that never match, and then those that
-- overlap or are shadowed.
pub data AreRuleErrors (facts : TermFacts) (rules : List TypedRule) (errors : List Error) : Type 0 where
  of_size : (pos : Pos) → errors ≡ size_error_at pos ∷ [] → IsTooLargeAt facts rules pos → AreRuleErrors facts rules errors
  of_rules : (unreachable between : List Error) → ((term : ℕ) → AreWithinSize facts rules term) → TellUnreachable facts rules unreachable
      → TellRivals facts rules between → errors ≡ unreachable ++ between → 0 < length errors → AreRuleErrors facts rules errors

-- What is wrong with rules is told in one way.
abbrev pub RuleErrorsAreDetermined : Type 0
RuleErrorsAreDetermined = (facts : TermFacts) (rules : List TypedRule) (one other : List Error)
    → AreRuleErrors facts rules one → AreRuleErrors facts rules other → one ≡ other
