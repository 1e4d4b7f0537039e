use Rattle.std.proofs.Common.{sym, ap, ◌∙◌, slice_get, ◌/◌, ◌%◌}
use Rattle.isle_blocks.proofs.Trees.Tables.{get_row, item_of}
use Rattle.std.specs.Option.{option_map}
use Rattle.isle_blocks.proofs.serializer.table.Table.get.Goals as goal

pub returns-in-Some : goal.returns-in-Some
returns-in-Some g c =
    c.item_at.ensures
    ∙ (ap (λ l. slice_get l (c.args.place % 128)) (c.as_slice.ensures.value ∙ ap (λ v. v.items) c.deref-in-Some.ensures)
    ∙ (ap (λ o. item_of (option_map (λ r. r.value.items) o) (c.args.place % 128))
    (c.in-Some.ensures ∙ ap (λ l. slice_get l (c.args.place / 128)) c.deref.ensures.value)
    ∙ (sym (get_row (λ r. r.value.items) c.self.inside.rows.items c.args.place c.self.invariant)
    ∙ ap (λ l. slice_get l c.args.place) c.self.view_is)))

pub returns-in-None : goal.returns-in-None
returns-in-None g c =
    ap (λ o. item_of (option_map (λ r. r.value.items) o) (c.args.place % 128))
    (c.in-None.ensures ∙ ap (λ l. slice_get l (c.args.place / 128)) c.deref.ensures.value)
    ∙ (sym (get_row (λ r. r.value.items) c.self.inside.rows.items c.args.place c.self.invariant)
    ∙ ap (λ l. slice_get l c.args.place) c.self.view_is)
