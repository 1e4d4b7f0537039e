use Rattle.std.proofs.Common.{take}
use Rattle.isle_blocks.specs.Rows.{numbers_of}
use Rattle.isle_blocks.specs.Inside.Trees.Builder.{scope_of, users_at}
use Rattle.isle_blocks.specs.Inside.Trees.Marking.{is_testable}
use Rattle.isle_blocks.specs.Trees.View.{id_of}
use Rattle.isle_blocks.proofs.Trees.Binding.{numbers_more}
use Rattle.isle_blocks.proofs.Trees.Marking.Ready.{kept_more}
use Rattle.isle_blocks.proofs.rule_set.RuleSet.add_ready.Goals as goal

pub loop-site-preserved : goal.loop-site-preserved
loop-site-preserved c =
    rw (numbers_more c.args.sites.now c.loop-site.site-index (id_of 0) c.loop-site-test.true)
    (kept_more (is_testable (users_at c.args.index.now) (scope_of c.args.self.now c.args.known.now) c.args.marks.now)
    (numbers_of (take c.loop-site.site-index c.args.sites.now)) _ _ _ _ c.loop-site.invariant c.in_ok-push_ready.ensures)
