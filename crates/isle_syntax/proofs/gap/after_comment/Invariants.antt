use Rattle.std.proofs.Common.{◌≡◌, ◌+◌, ◌≤◌, length}
use Rattle.isle_syntax.specs.Tokens.Finding.{after_comment}
use Rattle.isle_syntax.proofs.gap.after_comment.Given as goal

abbrev pub invariant-bytes : goal.invariant-bytes
invariant-bytes l = record { few : l.open + length l.rest ≤ length l.bytes; same : after_comment l.open l.rest ≡ after_comment 0 l.bytes }

abbrev pub decreases-bytes : goal.decreases-bytes
decreases-bytes l = length l.rest
