use Rattle.std.proofs.Common.{◌∙◌}
use Rattle.isle_containers.proofs.SortedPlaces.{length-entries_at}
use Rattle.isle_containers.proofs.SortedEdits.{position_is}
use Rattle.isle_containers.proofs.sorted_map.SortedMap.find.Goals as goal

pub returns-clause-place : goal.returns-clause-place
returns-clause-place g c =
    let found = rw (c.deref.ensures.value, c.deref-2.ensures.value) at c.search-found.ensures.found in
    c.ok.ensures.value ∙ rw (← c.self.view_is) (position_is g.met.K.Ord.total _ c.self.invariant _ found)

pub returns-clause-comparisons : goal.returns-clause-comparisons
returns-clause-comparisons g c =
    rw (← c.self.view_is, length-entries_at _ _ c.self.invariant.in_range, ← c.deref-2.ensures.value) c.search-found.ensures.comparisons
