use Rattle.isle_containers.proofs.SortedPlaces.{IsSortedIndex-nil}
use Rattle.isle_containers.proofs.sorted_map.SortedMap.with_capacity.Goals as goal

pub invariant_of-result : goal.invariant_of-result
invariant_of-result g c = rw (c.in_ok-entries.ensures.items, c.in_ok-places.ensures.items) (IsSortedIndex-nil g.K.Ord.cmp)
