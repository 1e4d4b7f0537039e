use Rattle.std.proofs.Common.{◌<◌, ◌≤◌, length, ap, sym, ◌∙◌}
use Rattle.std.specs.Option.{option_map}
use Rattle.isle_containers.proofs.SortedPlaces.{slice_get-entries_at, slice_get-entries_past}
use Rattle.isle_containers.proofs.sorted_map.SortedMap.entry.Goals as goal

pub returns-in_err-at : goal.returns-in_err-at
returns-in_err-at g c =
    let past : length c.self.inside.places.items ≤ c.args.place = rw (← c.deref.ensures.value) (c.in_err-at.ensures.lookup.3) in
    ap (option_map (λ e. (e.0.now, e.1.now))) c.from_residual.ensures
    ∙ rw (← c.self.view_is) (sym (slice_get-entries_past _ _ c.args.place c.self.invariant.in_range past))

pub returns : goal.returns
returns g c =
    let lt : c.args.place < length c.self.inside.places.items = rw (← c.deref.ensures.value) (c.in_ok-at.ensures.lookup.3.0) in
    let here = rw c.deref.ensures.value at c.in_ok-at.ensures.lookup.1 in
    rw (← c.self.view_is)
    (sym (slice_get-entries_at _ _ c.args.place _ c.index-entry.result.now c.self.invariant.in_range lt here c.index-entry.ensures))
