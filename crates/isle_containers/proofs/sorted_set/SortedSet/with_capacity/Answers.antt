use Rattle.isle_containers.proofs.OrderedMembers.{IsOrderOf-nil}
use Rattle.isle_containers.proofs.sorted_set.SortedSet.with_capacity.Goals as goal

pub invariant_of-result : goal.invariant_of-result
invariant_of-result g c = rw (c.in_ok-members.ensures.items, c.in_ok-order.ensures.items) (IsOrderOf-nil g.K.Ord.cmp)
