use Rattle.isle_containers.proofs.OrderedMembers.{IsOrderOf-nil}
use Rattle.isle_containers.proofs.sorted_set.SortedSet.new.Goals as goal

pub invariant_of-result : goal.invariant_of-result
invariant_of-result g c = rw (c.new.ensures.items, c.new-2.ensures.items) (IsOrderOf-nil g.K.Ord.cmp)
