use Rattle.std.proofs.Common.{arith, sym, ap, subst, ◌∙◌, ◌<◌, length, slice_set, ℕ, ◌/◌, ◌%◌}
use Rattle.std.proofs.lemmas.Option.{slice_get_within, get_or_from_slice_get}
use Rattle.isle_blocks.proofs.Trees.Tables.{place_row, set_row, are_set}
use Rattle.isle_blocks.proofs.serializer.table.Table.set.Goals as goal

pub index_mut-requires : goal.index_mut-requires
index_mut-requires g c =
    let k = place_row (λ r. r.value.items) c.self.inside.rows.items c.args.place c.self.invariant
    (subst (λ l. c.args.place < length l) (sym c.self.view_is) c.requires) in
    let h = slice_get_within c.self.inside.rows.items (c.args.place / 128) k.0 k.1 in
    omega (arith, c.self.inside.rows.ok)

pub set_item-requires : goal.set_item-requires
set_item-requires g c =
    let k = place_row (λ r. r.value.items) c.self.inside.rows.items c.args.place c.self.invariant
    (subst (λ l. c.args.place < length l) (sym c.self.view_is) c.requires) in
    subst (λ (n : ℕ). c.args.place % 128 < n) (ap (λ r. length r.value.items)
    (sym (c.index_mut.ensures.value ∙ get_or_from_slice_get c.self.inside.rows.items (c.args.place / 128) k.0 c.index_mut.result.now k.1))) k.2

pub invariant_of-self : goal.invariant_of-self
invariant_of-self g c =
    let k = place_row (λ r. r.value.items) c.self.inside.rows.items c.args.place c.self.invariant
    (subst (λ l. c.args.place < length l) (sym c.self.view_is) c.requires) in
    are_set (λ r. r.value.items) c.self.inside.rows.items (c.args.place / 128) k.0 c.set_item.new.row c.self.invariant k.1
    (c.set_item.ensures.size ∙ ap (λ r. length r.value.items)
    (c.index_mut.ensures.value ∙ get_or_from_slice_get c.self.inside.rows.items (c.args.place / 128) k.0 c.index_mut.result.now k.1))

pub invariant_of-self-2 : goal.invariant_of-self-2
invariant_of-self-2 g c =
    let k = place_row (λ r. r.value.items) c.self.inside.rows.items c.args.place c.self.invariant
    (subst (λ l. c.args.place < length l) (sym c.self.view_is) c.requires) in
    are_set (λ r. r.value.items) c.self.inside.rows.items (c.args.place / 128) k.0 c.set_item.new.row c.self.invariant k.1
    (c.set_item.ensures.size ∙ ap (λ r. length r.value.items)
    (c.index_mut.ensures.value ∙ get_or_from_slice_get c.self.inside.rows.items (c.args.place / 128) k.0 c.index_mut.result.now k.1))

pub returns : goal.returns
returns g c =
    let k = place_row (λ r. r.value.items) c.self.inside.rows.items c.args.place c.self.invariant
    (subst (λ l. c.args.place < length l) (sym c.self.view_is) c.requires) in
    let is = c.index_mut.ensures.value ∙ get_or_from_slice_get c.self.inside.rows.items (c.args.place / 128) k.0 c.index_mut.result.now k.1 in
    set_row (λ r. r.value.items) c.self.inside.rows.items c.args.place k.0 c.set_item.new.row c.args.item c.self.invariant k.1 k.2
    (c.in_ok-set_item.ensures.set ∙ ap (λ r. slice_set r.value.items (c.args.place % 128) c.args.item) is)
    ∙ ap (λ l. slice_set l c.args.place c.args.item) c.self.view_is
