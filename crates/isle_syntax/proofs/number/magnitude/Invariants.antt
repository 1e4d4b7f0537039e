use Rattle.std.proofs.Common.{◌≡◌, ◌<◌, ◌^◌, length}
use Rattle.isle_syntax.specs.Tokens.Integers.{spelt, spelt_after}
use Rattle.isle_syntax.proofs.number.magnitude.Given as goal

abbrev pub invariant-digits : goal.invariant-digits
invariant-digits l = record { fits : l.value < 2 ^ 128; same : spelt_after l.radix l.value l.rest ≡ spelt l.radix l.digits }

abbrev pub decreases-digits : goal.decreases-digits
decreases-digits l = length l.rest
