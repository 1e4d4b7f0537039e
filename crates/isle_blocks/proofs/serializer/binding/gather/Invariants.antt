use Rattle.std.proofs.Common.{take}
use Rattle.isle_trees.specs.Inside.Gathering.{Gathers}
use Rattle.isle_blocks.specs.Rows.{numbers_of}
use Rattle.isle_blocks.proofs.serializer.binding.gather.Given as goal

abbrev pub invariant-loop-site : goal.invariant-loop-site
invariant-loop-site l =
    Gathers (numbers_of (take l.site-index l.sites)) l.initial.marks l.marks (numbers_of l.initial.list.items) (numbers_of l.list.items)
