use Rattle.std.proofs.Common.{arith, ap, ◌∙◌, map, length, ◌≡◌, ℕ, take}
use Rattle.std.proofs.Math.Seq.{take-length}
use Rattle.isle_blocks.specs.Inside.Trees.Work.{relabel}
use Rattle.isle_blocks.proofs.Trees.Tables.{all_mapped}
use Rattle.isle_blocks.proofs.serializer.table.Table+usize.relabeled.Goals as goal

pub invariant_of-result : goal.invariant_of-result
invariant_of-result c =
    let all : take c.loop-row.row-index c.deref-row-items.result.now ≡ c.self.inside.rows.items =
    let end : c.loop-row.row-index ≡ length c.deref-row-items.result.now = omega (arith, c.loop-row.auto.row-index-end, c.loop-row-test.false) in
    ap (λ (n : ℕ). take n c.deref-row-items.result.now) end ∙ (take-length c.deref-row-items.result.now ∙ c.deref-row-items.ensures.value) in
    (all_mapped (relabel c.args.from c.args.to) (map (λ r. r.value.items) c.self.inside.rows.items)
    (map (λ r. r.value.items) c.loop-row.rows.items) c.self.invariant
    (c.loop-row.invariant ∙ ap (λ l. map (map (relabel c.args.from c.args.to)) (map (λ r. r.value.items) l)) all)).0

pub returns : goal.returns
returns c =
    let all : take c.loop-row.row-index c.deref-row-items.result.now ≡ c.self.inside.rows.items =
    let end : c.loop-row.row-index ≡ length c.deref-row-items.result.now = omega (arith, c.loop-row.auto.row-index-end, c.loop-row-test.false) in
    ap (λ (n : ℕ). take n c.deref-row-items.result.now) end ∙ (take-length c.deref-row-items.result.now ∙ c.deref-row-items.ensures.value) in
    (all_mapped (relabel c.args.from c.args.to) (map (λ r. r.value.items) c.self.inside.rows.items)
    (map (λ r. r.value.items) c.loop-row.rows.items) c.self.invariant
    (c.loop-row.invariant ∙ ap (λ l. map (map (relabel c.args.from c.args.to)) (map (λ r. r.value.items) l)) all)).1
    ∙ ap (map (relabel c.args.from c.args.to)) c.self.view_is
