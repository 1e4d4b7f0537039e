use Rattle.std.proofs.Common.{◌<◌, ◌⊎◌, ℕ}
use Rattle.std.specs.Prelude.{Contains}
use Rattle.isle_blocks.specs.Inside.ClosureStates.{AllPairs, AreLikeFields}
use Rattle.isle_blocks.proofs.close.classes.push_fields.Given as goal

-- the like fields below the index are listed
abbrev pub invariant-loop-index : goal.invariant-loop-index
invariant-loop-index l = record {
  pushed : AllPairs l.pending.items (λ a b. Contains l.initial.pending.items (a, b) ⊎ AreLikeFields l.sites l.member l.keep l.fn.test a b);
  kept : AllPairs l.initial.pending.items (λ a b. Contains l.pending.items (a, b));
  all : (f g : ℕ) (like : AreLikeFields l.sites l.member l.keep l.fn.test f g) → like.index < l.index → Contains l.pending.items (f, g);
}
