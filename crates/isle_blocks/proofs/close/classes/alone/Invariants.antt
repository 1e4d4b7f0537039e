use Rattle.std.proofs.Common.{◌≡◌, ◌<◌, ℕ, vec_len, get_or}
use Rattle.isle_blocks.proofs.close.classes.alone.Given as goal

abbrev pub invariant-loop-a : goal.invariant-loop-a
invariant-loop-a l = (vec_len l.class ≡ l.a) × ((j : ℕ) → j < l.a → get_or l.class.items j 0 ≡ j)
