use Rattle.std.proofs.Common.{take, refl, ◌∙◌}
use Rattle.isle_trees.proofs.Building.Emission.{emits_each_more, emits_each_none}
use Rattle.isle_blocks.specs.Rows.{numbers_of}
use Rattle.isle_blocks.specs.Inside.Trees.Builder.{rules_in, scope_of}
use Rattle.isle_blocks.specs.Trees.View.{id_of}
use Rattle.isle_blocks.proofs.Trees.Binding.{number_elem, numbers_more}
use Rattle.isle_blocks.proofs.Trees.Known.{same_known_trans}
use Rattle.isle_blocks.proofs.rule_set.RuleSet.emit_rights.Goals as goal

pub loop-site-init : goal.loop-site-init
loop-site-init c = record {
  each = emits_each_none (rules_in c.args.self.now) (scope_of c.args.self.now c.args.known.now) (numbers_of c.args.order.now.items);
  same = record { passed = refl; labels = refl; emitted = refl };
}

pub emit-requires-clause-site : goal.emit-requires-clause-site
emit-requires-clause-site c = c.requires.below _ (number_elem c.args.sites.now c.loop-site.site-index (id_of 0) c.loop-site-test.true)

pub emit-requires-clause-size : goal.emit-requires-clause-size
emit-requires-clause-size c = c.loop-site.invariant.same.emitted ∙ c.requires.size

pub loop-site-preserved : goal.loop-site-preserved
loop-site-preserved c = record {
  each = rw (numbers_more c.args.sites.now c.loop-site.site-index (id_of 0) c.loop-site-test.true)
      (emits_each_more _ _ _ _ (numbers_of (take c.loop-site.site-index c.args.sites.now)) _ _ _ _ c.loop-site.invariant.each
      c.in_ok-emit.ensures.one);
  same = same_known_trans _ _ _ c.loop-site.invariant.same c.in_ok-emit.ensures.known;
}
