use Rattle.std.proofs.Common.{All, take}
use Rattle.isle_coverage.specs.Inside.Reached.{KeepsMarks}
use Rattle.isle_coverage.proofs.stuck.are_closed.Given as goal

-- the rules so far keep marks
abbrev pub invariant-loop-rule : goal.invariant-loop-rule
invariant-loop-rule l = All (KeepsMarks l.marks) (take l.rule-index l.rules)
