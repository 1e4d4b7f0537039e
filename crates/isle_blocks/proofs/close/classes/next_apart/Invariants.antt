use Rattle.std.proofs.Common.{◌≡◌, ◌⊎◌, vec_len, get_or}
use Rattle.std.specs.Prelude.{Contains}
use Rattle.isle_blocks.specs.Inside.ClosureStates.{AllPairs}
use Rattle.isle_blocks.proofs.close.classes.next_apart.Given as goal

abbrev pub invariant-loop-a : goal.invariant-loop-a
invariant-loop-a l = record {
  fewer : AllPairs l.pending.items (λ a b. Contains l.initial.pending.items (a, b));
  taken : AllPairs l.initial.pending.items (λ a b. Contains l.pending.items (a, b) ⊎ (get_or l.class a 0 ≡ get_or l.class b 0));
}

abbrev pub decreases-loop-a : goal.decreases-loop-a
decreases-loop-a l = vec_len l.pending
