use Rattle.std.proofs.Common.{◌<◌, ◌⊎◌, ℕ, get_or}
use Rattle.std.specs.Prelude.{Contains}
use Rattle.isle_blocks.specs.Inside.ClosureStates.{AllPairs, AreLikeFields, IsLikeAmong}
use Rattle.isle_blocks.proofs.close.classes.push_like.Given as goal

-- the like fields of the members so far are listed
abbrev pub invariant-loop-member : goal.invariant-loop-member
invariant-loop-member l = record {
  pushed : AllPairs l.pending.items (λ a b. Contains l.initial.pending.items (a, b) ⊎ IsLikeAmong l.sites l.members l.keep l.test a b);
  kept : AllPairs l.initial.pending.items (λ a b. Contains l.pending.items (a, b));
  all : (k f g : ℕ) → k < l.member-index → AreLikeFields l.sites (get_or l.members k 0) l.keep l.test f g → Contains l.pending.items (f, g);
}
