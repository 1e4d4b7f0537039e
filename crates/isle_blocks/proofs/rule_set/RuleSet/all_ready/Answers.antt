use Rattle.std.proofs.Common.{[], add-one}
use Rattle.isle_trees.specs.Rules.{below}
use Rattle.isle_blocks.specs.Inside.Trees.Builder.{scope_of, users_at}
use Rattle.isle_blocks.specs.Inside.Trees.Marking.{is_testable}
use Rattle.isle_blocks.proofs.Trees.Marking.Ready.{kept_more}
use Rattle.isle_blocks.proofs.rule_set.RuleSet.all_ready.Goals as goal

pub loop-site-preserved : goal.loop-site-preserved
loop-site-preserved c =
    rw add-one (kept_more (is_testable (users_at c.args.index.now) (scope_of c.args.self.now c.args.known.now) c.args.marks.now)
    (below c.loop-site.site) c.loop-site.site [] _ _ c.loop-site.invariant c.in_ok-push_ready.ensures)
