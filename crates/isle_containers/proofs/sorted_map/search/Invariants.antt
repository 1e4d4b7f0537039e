use Rattle.std.proofs.Common.{◌-◌}
use Rattle.std.specs.Map.{keys_of}
use Rattle.isle_containers.specs.SortedMaps.{entries_at}
use Rattle.isle_containers.proofs.Searches.{IsNarrowedTo}
use Rattle.isle_containers.proofs.sorted_map.search.Given as goal

abbrev pub invariant-loop-low : goal.invariant-loop-low
invariant-loop-low g l = IsNarrowedTo g.K.Ord.cmp l.key (keys_of (entries_at l.entries l.places)) l.low l.high l.comparisons

abbrev pub decreases-loop-low : goal.decreases-loop-low
decreases-loop-low g l = l.high - l.low
