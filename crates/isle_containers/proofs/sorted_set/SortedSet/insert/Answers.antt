use Rattle.std.proofs.Common.{rules, ◌≡◌, get_or, ◌++◌, ◌∷◌, [], sym, ap, ◌∙◌, Some, None}
use Rattle.std.proofs.lemmas.List.{get_or_default}
use Rattle.isle_containers.specs.SortedSets.{number_in}
use Rattle.isle_containers.proofs.OrderedMembers.{found_within, number_found, gap_within, number_absent, number_added, order_added}
use Rattle.isle_containers.proofs.sorted_set.SortedSet.insert.Goals as goal

pub index-requires : goal.index-requires
index-requires g c =
    let found = rw (c.deref.ensures.value, c.deref-2.ensures.value, c.in-Ok.is) at c.search.ensures in
    let below = found_within g.met.K.Ord.total c.self.invariant _ found in
    search rules

pub returns-in-Ok-clause-number : goal.returns-in-Ok-clause-number
returns-in-Ok-clause-number g c =
    let found = rw (c.deref.ensures.value, c.deref-2.ensures.value, c.in-Ok.is) at c.search.ensures in
    let within = found_within g.met.K.Ord.total c.self.invariant _ found in
    let number = c.index.ensures ∙ get_or_default c.self.inside.order.items c.in-Ok.at _ 0 within in
    rw (← c.self.view_is) (number_found g.met.K.Ord.total c.self.invariant _ found) ∙ sym (ap Some number)

pub returns-in-Ok-clause-members : goal.returns-in-Ok-clause-members
returns-in-Ok-clause-members g c =
    let found = rw (c.deref.ensures.value, c.deref-2.ensures.value, c.in-Ok.is) at c.search.ensures in
    let there : number_in g.K.Ord.cmp c.args.self.now c.args.key ≡ Some (get_or c.self.inside.order.items c.in-Ok.at 0) = rw (← c.self.view_is)
    (number_found g.met.K.Ord.total c.self.invariant _ found) in
    rw there (search rules)

pub add_member-requires : goal.add_member-requires
add_member-requires g c =
    let absent = rw (c.deref.ensures.value, c.deref-2.ensures.value, c.in-Err.is) at c.search.ensures in
    gap_within g.met.K.Ord.total c.self.invariant _ absent

pub returns-in_err-add_member-in-Err-clause-refused : goal.returns-in_err-add_member-in-Err-clause-refused
returns-in_err-add_member-in-Err-clause-refused g c =
    let absent = rw (c.deref.ensures.value, c.deref-2.ensures.value, c.in-Err.is) at c.search.ensures in
    let gone : number_in g.K.Ord.cmp c.args.self.now c.args.key ≡ None = rw (← c.self.view_is)
    (number_absent g.met.K.Ord.total c.self.invariant _ absent) in
    search rules

pub invariant_of-self-in-Err : goal.invariant_of-self-in-Err
invariant_of-self-in-Err g c =
    let absent = rw (c.deref.ensures.value, c.deref-2.ensures.value, c.in-Err.is) at c.search.ensures in
    rw (c.in_ok-add_member-in-Err.ensures.members, c.in_ok-add_member-in-Err.ensures.order)
    (order_added g.met.K.Ord.total c.self.invariant _ absent)

pub returns-in_ok-add_member-in-Err-clause-number : goal.returns-in_ok-add_member-in-Err-clause-number
returns-in_ok-add_member-in-Err-clause-number g c =
    let absent = rw (c.deref.ensures.value, c.deref-2.ensures.value, c.in-Err.is) at c.search.ensures in
    ap (λ all. number_in g.K.Ord.cmp all c.args.key) c.in_ok-add_member-in-Err.ensures.members
    ∙ number_added g.met.K.Ord.total c.self.invariant _ absent ∙ ap Some (sym (c.len-number.ensures ∙ c.self.inside.members.ok.0))

pub returns-in_ok-add_member-in-Err-clause-members : goal.returns-in_ok-add_member-in-Err-clause-members
returns-in_ok-add_member-in-Err-clause-members g c =
    let absent = rw (c.deref.ensures.value, c.deref-2.ensures.value, c.in-Err.is) at c.search.ensures in
    let gone : number_in g.K.Ord.cmp c.args.self.now c.args.key ≡ None = rw (← c.self.view_is)
    (number_absent g.met.K.Ord.total c.self.invariant _ absent) in
    rw gone (c.in_ok-add_member-in-Err.ensures.members ∙ ap (λ all. all ++ c.args.key ∷ []) c.self.view_is)
