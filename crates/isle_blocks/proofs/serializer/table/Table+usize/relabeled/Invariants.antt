use Rattle.std.proofs.Common.{◌≡◌, map, take}
use Rattle.isle_blocks.specs.Inside.Trees.Work.{relabel}
use Rattle.isle_blocks.proofs.serializer.table.Table+usize.relabeled.Given as goal

abbrev pub invariant-loop-row : goal.invariant-loop-row
invariant-loop-row l = map (λ r. r.value.items) l.rows.items ≡ map (map (relabel l.from l.to))
    (map (λ r. r.value.items) (take l.row-index l.row-items))
