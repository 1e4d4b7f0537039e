use Rattle.std.proofs.Common.{arith, sym, ap, subst, ◌∙◌, ◌∷◌, [], map, ◌-◌, ◌+◌, ◌≡◌, take, drop}
use Rattle.isle_blocks.specs.Inside.Trees.Tables.{IsCut}
use Rattle.isle_blocks.proofs.Trees.Tables.{cut_more}
use Rattle.std.proofs.lemmas.List.{map-append}
use Rattle.isle_blocks.proofs.serializer.table.Table.from_slice.Goals as goal

pub rows-preserved : goal.rows-preserved
rows-preserved g c =
    let n = c.min.result in
    let back : c.rows.at + n - c.rows.at ≡ n = omega arith in
    let is = c.in_ok-new_row.ensures ∙ ap (λ k. take k (drop c.rows.at c.args.items.now)) back in
    subst (IsCut c.args.items.now (c.rows.at + n))
    (sym (ap (map (λ r. r.value.items)) c.in_ok-push.ensures.items ∙ map-append (λ r. r.value.items) c.rows.rows.items
    (c.in_ok-new_row.field-0 ∷ [])))
    (cut_more c.args.items.now c.in_ok-new_row.field-0.value.items c.rows.at n (map (λ r. r.value.items) c.rows.rows.items) c.rows.invariant
    (omega (arith, c.rows-test.true)) c.min.ensures is)
