use Rattle.std.proofs.Common.{◌<◌, ◌∙◌, List, Option, Bor, ap, arith, fold, length, sym, take}
use Rattle.std.proofs.lemmas.List.Sums.{fold_more}
use Rattle.isle_types.specs.declared.ids.TypeId.{TypeId}
use Rattle.isle_blocks.specs.declared.ids.BindingId.{BindingId}
use Rattle.isle_blocks.specs.declared.constraint.Constraint.{Constraint}
use Rattle.isle_tell.proofs.TreeTexts.Entries.{entry_is}
use Rattle.isle_tell.specs.TreeTexts.DotTypes.{with_test}
use Rattle.isle_tell.proofs.trees.tested.add_rule.Goals as goal

pub loop-place-preserved : goal.loop-place-preserved
loop-place-preserved c =
    let tests = c.args.tests.now in
    let old : List (Option TypeId) = c.args.types.now.items in
    let i = c.loop-place.place in
    let e : Bor BindingId × Bor Constraint = c.unwrap.result in
    let within : i < length tests = let t = c.loop-place-test.true in let n = c.len-place-end.ensures.count in omega (arith, t, n) in
    c.add_test.ensures
    ∙ ap (λ (l : List (Option TypeId)). with_test l (e.0.now, e.1.now)) c.loop-place.invariant
    ∙ ap (with_test (fold with_test old (take i tests))) (sym (entry_is tests i _ e c.entry.ensures c.unwrap.ensures (e.0.now, e.1.now)))
    ∙ sym (fold_more with_test old tests i (e.0.now, e.1.now) within)
