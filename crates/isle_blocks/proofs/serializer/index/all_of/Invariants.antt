use Rattle.isle_blocks.specs.Rows.{numbers_of}
use Rattle.isle_blocks.specs.Inside.Trees.Builder.{items_at}
use Rattle.isle_blocks.proofs.Trees.Marking.Dependents.{AreGathered}
use Rattle.isle_blocks.proofs.serializer.index.all_of.Given as goal

abbrev pub invariant-loop-list : goal.invariant-loop-list
invariant-loop-list l =
    AreGathered l.initial.marks l.marks (numbers_of l.all.items) (λ i. numbers_of (items_at l.lists i)) l.list-index
