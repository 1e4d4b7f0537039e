use Rattle.isle_containers.proofs.SortedPlaces.{IsSortedIndex-nil}
use Rattle.isle_containers.proofs.sorted_map.SortedMap.new.Goals as goal

pub invariant_of-result : goal.invariant_of-result
invariant_of-result g c = rw (c.new.ensures.items, c.new-2.ensures.items) (IsSortedIndex-nil g.K.Ord.cmp)
