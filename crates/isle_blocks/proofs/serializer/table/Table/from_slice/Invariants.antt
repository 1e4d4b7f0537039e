use Rattle.std.proofs.Common.{length, ◌-◌, map}
use Rattle.isle_blocks.specs.Inside.Trees.Tables.{IsCut}
use Rattle.isle_blocks.proofs.serializer.table.Table.from_slice.Given as goal

abbrev pub invariant-rows : goal.invariant-rows
invariant-rows g l = IsCut l.items l.at (map (λ r. r.value.items) l.rows.items)

abbrev pub decreases-rows : goal.decreases-rows
decreases-rows g l = length l.items - l.at
