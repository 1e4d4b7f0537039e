use Rattle.std.proofs.Common.{rules, sym}
use Rattle.isle_containers.proofs.SortedEdits.{at_in_range, place_in_range, lookup_found, lookup_absent}
use Rattle.isle_containers.proofs.sorted_map.SortedMap.get.Goals as goal

pub index-requires : goal.index-requires
index-requires g c =
    let found = rw (c.deref.ensures.value, c.deref-2.ensures.value, c.in-Ok.is) at c.search.ensures.found in
    let below = at_in_range g.met.K.Ord.total _ c.self.invariant found in
    search rules

pub index-requires-in-Ok : goal.index-requires-in-Ok
index-requires-in-Ok g c =
    let found = rw (c.deref.ensures.value, c.deref-2.ensures.value, c.in-Ok.is) at c.search.ensures.found in
    let below = place_in_range g.met.K.Ord.total _ c.self.invariant found c.index.ensures in
    search rules

pub returns-in-Ok : goal.returns-in-Ok
returns-in-Ok g c =
    let found = rw (c.deref.ensures.value, c.deref-2.ensures.value, c.in-Ok.is) at c.search.ensures.found in
    rw (← c.self.view_is) (sym (lookup_found g.met.K.Ord.total _ c.self.invariant found _ _ c.index.ensures c.index-in-Ok.ensures))

pub returns-in-Err : goal.returns-in-Err
returns-in-Err g c =
    let absent = rw (c.deref.ensures.value, c.deref-2.ensures.value, c.in-Err.is) at c.search.ensures.found in
    rw (← c.self.view_is) (sym (lookup_absent g.met.K.Ord.total _ c.self.invariant absent))
