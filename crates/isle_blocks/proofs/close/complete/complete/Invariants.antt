use Rattle.std.proofs.Common.{◌<◌, ◌≤◌, ◌-◌, ℕ, length}
use Rattle.isle_blocks.specs.Inside.ClosureStates.{Grows, HasFields}
use Rattle.isle_blocks.specs.Inside.FieldOrder.{AreFieldsBefore}
use Rattle.isle_blocks.proofs.close.complete.complete.Given as goal

-- the sites before this one have their fields
abbrev pub invariant-loop-site : goal.invariant-loop-site
invariant-loop-site l = record {
  within : l.site ≤ length l.sites;
  bound : l.site ≤ 65536;
  grows : Grows l.own l.initial.sites l.initial.class.items l.sites l.class.items;
  added : (a : ℕ) → a < l.site → HasFields l.own l.sites l.class.items a;
  ordered : AreFieldsBefore (length l.initial.sites) l.sites l.site 0;
}

abbrev pub decreases-loop-site : goal.decreases-loop-site
decreases-loop-site l = 65536 - l.site
