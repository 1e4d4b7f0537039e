use Rattle.std.proofs.Common.{take}
use Rattle.std.specs.Prelude.{string_bytes}
use Rattle.islec.specs.Terms.{AreTermLines}
use Rattle.islec.proofs.terms.term_lines.Given as goal

-- the lines of the terms so far
abbrev pub invariant-loop-term : goal.invariant-loop-term
invariant-loop-term l = AreTermLines l.explain l.program (take l.term-index l.terms) (string_bytes l.lines)
