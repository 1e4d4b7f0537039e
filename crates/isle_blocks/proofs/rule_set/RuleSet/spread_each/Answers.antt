use Rattle.std.proofs.Common.{◌∙◌, take}
use Rattle.isle_blocks.specs.Rows.{numbers_of}
use Rattle.isle_blocks.specs.Inside.Trees.Builder.{rules_in, scope_of}
use Rattle.isle_blocks.specs.Trees.View.{id_of}
use Rattle.isle_blocks.proofs.Trees.Binding.{number_elem, numbers_more}
use Rattle.isle_blocks.proofs.Trees.Marking.Spreading.{spreads_more, spreads_none}
use Rattle.isle_blocks.proofs.rule_set.RuleSet.spread_each.Goals as goal

pub loop-site-init : goal.loop-site-init
loop-site-init c = spreads_none (rules_in c.args.self.now) (scope_of c.args.self.now c.args.known.now) c.args.marks.now
    (numbers_of c.args.list.now.items)

pub spread_one-requires-clause-size : goal.spread_one-requires-clause-size
spread_one-requires-clause-size c = c.loop-site.invariant.size ∙ c.requires.size

pub spread_one-requires-clause-site : goal.spread_one-requires-clause-site
spread_one-requires-clause-site c = c.requires.below _ (number_elem c.args.sites.now c.loop-site.site-index (id_of 0) c.loop-site-test.true)

pub loop-site-preserved : goal.loop-site-preserved
loop-site-preserved c =
    rw (numbers_more c.args.sites.now c.loop-site.site-index (id_of 0) c.loop-site-test.true)
    (spreads_more (rules_in c.args.self.now) (scope_of c.args.self.now c.args.known.now) (numbers_of (take c.loop-site.site-index c.args.sites.now)) _
    c.args.marks.now c.loop-site.marks c.spread_one.new.marks (numbers_of c.args.list.now.items) (numbers_of c.loop-site.list.items)
    (numbers_of c.spread_one.new.list.items) c.loop-site.invariant c.in_ok-spread_one.ensures)
