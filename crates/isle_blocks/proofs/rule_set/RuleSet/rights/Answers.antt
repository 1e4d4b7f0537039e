use Rattle.std.proofs.Common.{take}
use Rattle.std.proofs.lemmas.List.{take_more}
use Rattle.isle_blocks.specs.Trees.View.{id_of}
use Rattle.isle_blocks.proofs.Trees.Binding.{calls_more}
use Rattle.isle_blocks.proofs.rule_set.RuleSet.rights.Goals as goal

pub loop-site-preserved : goal.loop-site-preserved
loop-site-preserved c =
    let ids = c.as_slice-site-items.result.now in
    rw (take_more ids c.loop-site.site-index (id_of 0) c.loop-site-test.true)
    (calls_more c.args.self.now.sites (take c.loop-site.site-index ids) _ _ _ c.loop-site.invariant c.in_ok-push_call.ensures)
