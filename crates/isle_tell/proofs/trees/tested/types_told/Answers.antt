use Rattle.std.proofs.Common.{◌∙◌, None, List, Option, ap, arith, fold, length, replicate, sym, take}
use Rattle.std.proofs.lemmas.List.Sums.{fold_more}
use Rattle.isle_types.specs.declared.ids.TypeId.{TypeId}
use Rattle.isle_tell.specs.TreeTexts.DotTypes.{with_rule}
use Rattle.isle_tell.proofs.trees.tested.types_told.Goals as goal

pub loop-rule-preserved : goal.loop-rule-preserved
loop-rule-preserved c =
    let none : List (Option TypeId) = replicate (length c.args.sites.now) None in
    let rules = c.args.rules.now in let i = c.loop-rule.rule-index in
    c.add_rule.ensures
    ∙ ap (λ (l : List (Option TypeId)). with_rule l c.rule-item.result) c.loop-rule.invariant
    ∙ ap (with_rule (fold with_rule none (take i rules))) c.rule-item.is
    ∙ sym (fold_more with_rule none rules i c.rule-item.result (omega (arith, c.loop-rule-test.true)))
