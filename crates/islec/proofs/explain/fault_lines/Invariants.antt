use Rattle.std.proofs.Common.{take}
use Rattle.std.specs.Prelude.{string_bytes}
use Rattle.islec.specs.Reasons.{ExplainEach}
use Rattle.islec.proofs.explain.fault_lines.Given as goal

-- the lines of the faults so far
abbrev pub invariant-loop-place : goal.invariant-loop-place
invariant-loop-place l = ExplainEach l.files.value (take l.place l.faults) (string_bytes l.lines)
