use Rattle.std.proofs.Common.{◌+◌, ◌++◌, drop, sym, ap, ◌∙◌, append_assoc}
use Rattle.isle_rules.proofs.Visiting.VisitRuns.{cut}
use Rattle.isle_program.specs.Facts.Reach.{terms_in_iflets}
use Rattle.isle_program.proofs.facts.made.push_of_iflets.Goals as goal

pub loop-iflet-preserved : goal.loop-iflet-preserved
loop-iflet-preserved c = λ names.
    let iflets = c.args.iflets.now in let i = c.loop-iflet.iflet-index in let now = c.loop-iflet.made.items in
    ap (λ l. l ++ terms_in_iflets names (drop (i + 1) iflets)) (c.in_ok-push_of_expr.ensures names)
    ∙ append_assoc now _ _
    ∙ ap (λ l. now ++ terms_in_iflets names l) (sym (cut iflets i c.iflet-item.result c.loop-iflet-test.true c.iflet-item.is))
    ∙ c.loop-iflet.invariant names
