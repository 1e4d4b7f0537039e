use Rattle.std.proofs.Common.{◌≡◌, ◌+◌, ◌++◌, suc, [], ◌∷◌, take, sym, ◌∙◌, ap, arith, get_or}
use Rattle.std.proofs.Math.Seq.{take-suc}
use Rattle.isle_values.proofs.worlds.table.copies.Goals as goal

pub loop-value-preserved : goal.loop-value-preserved
loop-value-preserved c =
    let vs = c.args.values.now in let i = c.loop-value.value-index in
    let next : suc i ≡ i + 1 = omega arith in
    let same : c.in_ok-clone.field-0 ≡ get_or vs i c.value-item.result = c.in_ok-clone.ensures.cases ∙ c.value-item.is in
    c.in_ok-push.ensures.items ∙ ap (λ l. l ++ c.in_ok-clone.field-0 ∷ []) c.loop-value.invariant ∙ ap (λ v. take i vs ++ v ∷ []) same
    ∙ sym (take-suc vs i c.value-item.result c.loop-value-test.true) ∙ ap (λ n. take n vs) next
