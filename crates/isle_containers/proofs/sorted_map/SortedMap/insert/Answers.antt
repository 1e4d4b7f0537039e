use Rattle.std.proofs.Common.{rules, ◌≡◌, sym, ◌∙◌, ap, Some, None}
use Rattle.std.specs.BTreeMap.{insert_entry, is_at}
use Rattle.std.specs.Map.{lookup}
use Rattle.isle_containers.proofs.SortedEdits.{at_in_range, place_in_range, lookup_found, lookup_absent, gap_in_range, replaced_view, replaced_index}
use Rattle.isle_containers.proofs.SortedEdits.{added_view, added_index}
use Rattle.isle_containers.proofs.sorted_map.SortedMap.insert.Goals as goal

pub index-place-requires : goal.index-place-requires
index-place-requires g c =
    let found = rw (c.deref.ensures.value, c.deref-2.ensures.value, c.in-Ok.is) at c.search.ensures.found in
    let below = at_in_range g.met.K.Ord.total _ c.self.invariant found in
    search rules

pub index_mut-requires : goal.index_mut-requires
index_mut-requires g c =
    let found = rw (c.deref.ensures.value, c.deref-2.ensures.value, c.in-Ok.is) at c.search.ensures.found in
    let below = place_in_range g.met.K.Ord.total _ c.self.invariant found c.index-place.ensures in
    search rules

pub invariant_of-self : goal.invariant_of-self
invariant_of-self g c =
    let found = rw (c.deref.ensures.value, c.deref-2.ensures.value, c.in-Ok.is) at c.search.ensures.found in
    replaced_index g.met.K.Ord.total _ c.self.invariant found _ c.index-place.ensures c.index_mut.ensures.value

pub returns-in-Ok-clause-ok : goal.returns-in-Ok-clause-ok
returns-in-Ok-clause-ok g c =
    let found = rw (c.deref.ensures.value, c.deref-2.ensures.value, c.in-Ok.is) at c.search.ensures.found in
    replaced_view g.met.K.Ord.total _ c.self.invariant found c.replace.new.dest c.index-place.ensures c.index_mut.ensures.value
    ∙ ap (insert_entry g.K.Ord.cmp _ c.args.key) c.replace.ensures.after
    ∙ ap (λ es. insert_entry g.K.Ord.cmp es c.args.key c.args.value) c.self.view_is

pub returns-in-Ok-clause-replaced : goal.returns-in-Ok-clause-replaced
returns-in-Ok-clause-replaced g c =
    let found = rw (c.deref.ensures.value, c.deref-2.ensures.value, c.in-Ok.is) at c.search.ensures.found in
    ap Some c.replace.ensures.value
    ∙ rw (← c.self.view_is) (sym (lookup_found g.met.K.Ord.total _ c.self.invariant found _ _ c.index-place.ensures c.index_mut.ensures.value))

pub add_entry-requires : goal.add_entry-requires
add_entry-requires g c =
    let absent = rw (c.deref.ensures.value, c.deref-2.ensures.value, c.in-Err.is) at c.search.ensures.found in
    gap_in_range g.met.K.Ord.total _ c.self.invariant absent

pub returns-in_err-add_entry-in-Err-clause-refused : goal.returns-in_err-add_entry-in-Err-clause-refused
returns-in_err-add_entry-in-Err-clause-refused g c =
    let absent = rw (c.deref.ensures.value, c.deref-2.ensures.value, c.in-Err.is) at c.search.ensures.found in
    let gone : lookup (is_at (g.K.Ord.cmp c.args.key)) c.args.self.now ≡ None = rw (← c.self.view_is)
    (lookup_absent g.met.K.Ord.total _ c.self.invariant absent) in
    search rules

pub invariant_of-self-in-Err : goal.invariant_of-self-in-Err
invariant_of-self-in-Err g c =
    let absent = rw (c.deref.ensures.value, c.deref-2.ensures.value, c.in-Err.is) at c.search.ensures.found in
    rw (c.in_ok-add_entry-in-Err.ensures.entries, c.in_ok-add_entry-in-Err.ensures.places)
    (added_index g.met.K.Ord.total _ c.self.invariant absent c.args.value)

pub returns-in_ok-add_entry-in-Err-clause-ok : goal.returns-in_ok-add_entry-in-Err-clause-ok
returns-in_ok-add_entry-in-Err-clause-ok g c =
    let absent = rw (c.deref.ensures.value, c.deref-2.ensures.value, c.in-Err.is) at c.search.ensures.found in
    rw (c.in_ok-add_entry-in-Err.ensures.entries, c.in_ok-add_entry-in-Err.ensures.places, ← c.self.view_is)
    (added_view g.met.K.Ord.total _ c.self.invariant absent c.args.value)

pub returns-in_ok-add_entry-in-Err-clause-replaced : goal.returns-in_ok-add_entry-in-Err-clause-replaced
returns-in_ok-add_entry-in-Err-clause-replaced g c =
    let absent = rw (c.deref.ensures.value, c.deref-2.ensures.value, c.in-Err.is) at c.search.ensures.found in
    rw (← c.self.view_is) (sym (lookup_absent g.met.K.Ord.total _ c.self.invariant absent))
