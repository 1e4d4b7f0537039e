use Rattle.std.proofs.Common.{List, ℕ, length, take}
use Rattle.isle_program.specs.Inside.Facts.Callers.{AreCallers}
use Rattle.isle_program.proofs.facts.callers.callers.Given as goal

abbrev pub invariant-loop-rule : goal.invariant-loop-rule
invariant-loop-rule l = (names : List (List ℕ)) → AreCallers names (length l.termenv.terms) (take l.rule-index l.rule-items) l.lists.items
