use Rattle.std.proofs.Common.{rules, subst}
use Rattle.isle_containers.specs.SortedSets.{AreUnequal}
use Rattle.isle_containers.proofs.OrderedMembers.{are_unequal}
use Rattle.isle_containers.proofs.sorted_set.SortedSet.len.Goals as goal

pub returns-clause-count : goal.returns-clause-count
returns-clause-count g c = rw (← c.self.view_is, ← c.self.invariant.as_many) (search rules)

pub returns-clause-once : goal.returns-clause-once
returns-clause-once g c = subst (AreUnequal g.K.Ord.cmp) c.self.view_is (are_unequal g.met.K.Ord.total c.self.invariant)
