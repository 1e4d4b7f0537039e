use Rattle.std.proofs.Common.{◌≡◌, length}
use Rattle.isle_syntax.specs.Tokens.Gaps.{after_run}
use Rattle.isle_syntax.specs.Tokens.Integers.{continues_digits}
use Rattle.isle_syntax.proofs.number.after_digits.Given as goal

abbrev pub invariant-bytes : goal.invariant-bytes
invariant-bytes l = after_run (continues_digits l.radix) l.rest ≡ after_run (continues_digits l.radix) l.bytes

abbrev pub decreases-bytes : goal.decreases-bytes
decreases-bytes l = length l.rest
