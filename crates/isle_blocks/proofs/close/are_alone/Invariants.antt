use Rattle.std.proofs.Common.{◌≡◌, ◌<◌, ℕ, get_or}
use Rattle.isle_blocks.proofs.close.are_alone.Given as goal

-- the sites so far are alone
abbrev pub invariant-loop-a : goal.invariant-loop-a
invariant-loop-a l = (b : ℕ) → b < l.a → get_or l.class b 0 ≡ b
