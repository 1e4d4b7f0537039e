use Rattle.std.proofs.Common.{rules}
use Rattle.isle_containers.proofs.SortedPlaces.{length-entries_at}
use Rattle.isle_containers.proofs.sorted_map.SortedMap.len.Goals as goal

pub returns-clause-count : goal.returns-clause-count
returns-clause-count g c = rw (← c.self.view_is, length-entries_at _ _ c.self.invariant.in_range) (search rules)
