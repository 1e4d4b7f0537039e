use Rattle.std.proofs.Common.{◌≡◌, length}
use Rattle.isle_syntax.specs.Tokens.Gaps.{after_run, in_line}
use Rattle.isle_syntax.proofs.gap.after_line.Given as goal

abbrev pub invariant-bytes : goal.invariant-bytes
invariant-bytes l = after_run in_line l.rest ≡ after_run in_line l.bytes

abbrev pub decreases-bytes : goal.decreases-bytes
decreases-bytes l = length l.rest
