use Rattle.std.proofs.Common.{◌≡◌, ◌<◌, ℕ, length}
use Rattle.isle_blocks.specs.DefinedSets.{AreDefined, facts_by, rules_by}
use Rattle.isle_blocks.specs.Inside.GatheredSets.{AreSetsBelow, MarksThose, IsLostBelow}
use Rattle.isle_blocks.specs.RuleFaults.{AreWithinSize}
use Rattle.isle_blocks.proofs.term_sets.rule_sets.Given as goal

abbrev pub invariant-loop-term : goal.invariant-loop-term
invariant-loop-term l = (length l.lost.items ≡ length l.termenv.rules)
    × ((d : AreDefined l.termenv) → AreSetsBelow l.termenv d l.term l.sets.items
    × MarksThose (IsLostBelow l.termenv d l.term) l.initial.lost.items l.lost.items
    × ((lesser : ℕ) → lesser < l.term → AreWithinSize (facts_by l.termenv d) (rules_by l.termenv d) lesser))
