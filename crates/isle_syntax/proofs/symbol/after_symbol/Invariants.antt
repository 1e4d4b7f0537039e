use Rattle.std.proofs.Common.{◌≡◌, length}
use Rattle.isle_syntax.specs.Tokens.Gaps.{after_run}
use Rattle.isle_syntax.specs.Tokens.TokensOf.{continues_symbol}
use Rattle.isle_syntax.proofs.symbol.after_symbol.Given as goal

abbrev pub invariant-bytes : goal.invariant-bytes
invariant-bytes l = after_run continues_symbol l.rest ≡ after_run continues_symbol l.bytes

abbrev pub decreases-bytes : goal.decreases-bytes
decreases-bytes l = length l.rest
