-- Rules of equal priority.
use Rattle.std.specs.Prelude.{◌≡◌, ℕ, false, List}
use Rattle.isle_rules.specs.TypedRules.{TypedRule}
use Rattle.isle_meaning.specs.Answers.{Completion}
use Rattle.isle_meaning.specs.Facts.{TermFacts}
use Rattle.isle_meaning.specs.Matching.{Matches}
use Rattle.isle_meaning.specs.Values.{Values}
use Rattle.isle_blocks.specs.RuleFaults.{AreFaultless}
use Rattle.isle_blocks.specs.Trees.Choices.{IsRuleOf}
use Rattle.isle_blocks.specs.Trees.Premises.{IsRunnableTerm}

-- Of rules without a fault, two of equal priority of a term that asks no `multi` term and is none never both match, whatever calls are
-- answered.
abbrev pub EqualPrioritiesNeverBothMatch : Type 0
EqualPrioritiesNeverBothMatch = (facts : TermFacts) (rules : List TypedRule) (term : ℕ) → AreFaultless facts rules → IsRunnableTerm facts rules term
    → facts.multi term ≡ false → (c : Completion) (args : Values) (i j : ℕ) (one other : TypedRule) → IsRuleOf rules term i one
    → IsRuleOf rules term j other → one.priority ≡ other.priority → Matches facts c args one → Matches facts c args other → i ≡ j
