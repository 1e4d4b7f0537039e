use Rattle.std.proofs.Common.{List, take}
use Rattle.isle_rules.specs.TypedRules.{TypedRule}
use Rattle.isle_meaning.specs.Facts.{TermFacts}
use Rattle.isle_blocks.specs.RuleFaults.{TellUnreachable}
use Rattle.isle_blocks.proofs.RuleFaults.UnreachableErrors.{Tells}
use Rattle.isle_blocks.proofs.term_sets.unreachable_errors.Given as goal

abbrev pub invariant-loop-place : goal.invariant-loop-place
invariant-loop-place l = (facts : TermFacts) (typed : List TypedRule) → Tells facts typed l.rules l.lost
    → TellUnreachable facts (take l.place typed) l.errors.items
