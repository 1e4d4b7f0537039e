use Rattle.std.proofs.Common.{◌∙◌}
use Rattle.std.specs.Map.{update_all}
use Rattle.isle_rules.proofs.Visiting.CopiedScopes.{same_var, all_inserted}
use Rattle.isle_rules.proofs.visit.scope.copy_of.Goals as goal

pub loop-var-init : goal.loop-var-init
loop-var-init g c = λ q.
    let given = c.into_iter-var-iterator.ensures.into_iter_gives in
    rw (c.new-copy.ensures.empty, given.0) (all_inserted c.args.vars.now.entries q given.4)

pub loop-var-preserved : goal.loop-var-preserved
loop-var-preserved g c = λ q.
    let left = rw c.in-Some.ensures.steps at c.loop-var.invariant q in
    (λ i. update_all same_var (λ v. c.in_ok-insert.ensures.updates.0 v i) c.next.new.self q) ∙ left
