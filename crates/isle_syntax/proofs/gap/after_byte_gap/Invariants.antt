use Rattle.std.proofs.Common.{length}
use Rattle.isle_syntax.specs.Tokens.Finding.{gap_of}
use Rattle.isle_syntax.proofs.Tokens.Gaps.{GapTurns}
use Rattle.isle_syntax.proofs.gap.after_byte_gap.Given as goal

abbrev pub invariant-gaps : goal.invariant-gaps
invariant-gaps l = GapTurns (gap_of l.bytes) l.rest

abbrev pub decreases-gaps : goal.decreases-gaps
decreases-gaps l = length l.rest
