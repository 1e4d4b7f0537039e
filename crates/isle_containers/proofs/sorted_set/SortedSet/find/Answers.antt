use Rattle.std.proofs.Common.{rules, sym, ap, ◌∙◌, Some}
use Rattle.std.proofs.lemmas.List.{get_or_default}
use Rattle.isle_containers.proofs.OrderedMembers.{found_within, number_found, number_absent}
use Rattle.isle_containers.proofs.sorted_set.SortedSet.find.Goals as goal

pub index-requires : goal.index-requires
index-requires g c =
    let found = rw (c.deref.ensures.value, c.deref-2.ensures.value, c.in-Ok.is) at c.search.ensures in
    let below = found_within g.met.K.Ord.total c.self.invariant _ found in
    search rules

pub returns-in-Ok : goal.returns-in-Ok
returns-in-Ok g c =
    let found = rw (c.deref.ensures.value, c.deref-2.ensures.value, c.in-Ok.is) at c.search.ensures in
    let within = found_within g.met.K.Ord.total c.self.invariant _ found in
    let number = c.index.ensures ∙ get_or_default c.self.inside.order.items c.in-Ok.at _ 0 within in
    ap Some number ∙ sym (rw (← c.self.view_is) (number_found g.met.K.Ord.total c.self.invariant _ found))

pub returns-in-Err : goal.returns-in-Err
returns-in-Err g c =
    let absent = rw (c.deref.ensures.value, c.deref-2.ensures.value, c.in-Err.is) at c.search.ensures in
    sym (rw (← c.self.view_is) (number_absent g.met.K.Ord.total c.self.invariant _ absent))
