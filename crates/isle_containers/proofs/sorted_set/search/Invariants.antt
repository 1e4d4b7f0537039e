use Rattle.std.proofs.Common.{◌-◌}
use Rattle.isle_containers.specs.SortedMaps.{entries_at}
use Rattle.isle_containers.proofs.OrderedMembers.{IsBetween}
use Rattle.isle_containers.proofs.sorted_set.search.Given as goal

abbrev pub invariant-loop-low : goal.invariant-loop-low
invariant-loop-low g l = IsBetween g.K.Ord.cmp l.key (entries_at l.members l.order) l.low l.high

abbrev pub decreases-loop-low : goal.decreases-loop-low
decreases-loop-low g l = l.high - l.low
