use Rattle.std.proofs.Common.{◌<◌, ◌≤◌, ℕ, length}
use Rattle.isle_blocks.specs.Inside.ClosureFields.{kind_of}
use Rattle.isle_blocks.specs.Inside.ClosureStates.{Grows, HasField}
use Rattle.isle_blocks.specs.Inside.FieldOrder.{AreFieldsBefore}
use Rattle.isle_blocks.proofs.close.complete.add_fields.Given as goal

-- the fields below the index are there
abbrev pub invariant-loop-index : goal.invariant-loop-index
invariant-loop-index l = record {
  bound : length l.sites ≤ 65536;
  grows : Grows l.own l.initial.sites l.initial.class.items l.sites l.class.items;
  added : (i : ℕ) → i < l.index → HasField l.sites (kind_of l.opening.variant) l.site i;
  ordered : (first : ℕ) → AreFieldsBefore first l.initial.sites l.site 0 → AreFieldsBefore first l.sites l.site l.index;
}
