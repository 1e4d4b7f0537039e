use Rattle.std.proofs.Common.{take}
use Rattle.isle_blocks.specs.Rows.{numbers_of}
use Rattle.isle_blocks.specs.Inside.Trees.Builder.{rules_in}
use Rattle.isle_blocks.specs.Trees.View.{id_of}
use Rattle.isle_blocks.proofs.Trees.Binding.{numbers_more, written_more}
use Rattle.isle_blocks.proofs.rule_set.RuleSet.push_each.Goals as goal

pub loop-site-preserved : goal.loop-site-preserved
loop-site-preserved c =
    rw (numbers_more c.args.sites.now c.loop-site.site-index (id_of 0) c.loop-site-test.true)
    (written_more (rules_in c.args.self.now) (numbers_of (take c.loop-site.site-index c.args.sites.now)) _ _ _ _
    c.loop-site.invariant c.in_ok-push_own.ensures)
