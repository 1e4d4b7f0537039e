use Rattle.std.proofs.Common.{arith, ◌<◌, ℕ, length, ap, sym, ◌∙◌}
use Rattle.std.proofs.Math.ListN.{length-map}
use Rattle.isle_trees.specs.Search.{added_at}
use Rattle.isle_trees.proofs.Building.Bound.{users_more}
use Rattle.isle_blocks.specs.Rows.{numbers_of}
use Rattle.isle_blocks.specs.Inside.Trees.Builder.{items_at}
use Rattle.isle_blocks.proofs.Trees.Indexed.{adds_once, number_at, number_low}
use Rattle.isle_blocks.proofs.serializer.index.add_each.Goals as goal

pub add_rule-requires : goal.add_rule-requires
add_rule-requires c =
    let k = c.loop-site.invariant.size in
    let l = number_low c.args.sites.now c.loop-site.site-index (length c.args.lists.now.items) c.requires.below c.loop-site-test.true in
    omega (arith, k, l)

pub loop-site-preserved : goal.loop-site-preserved
loop-site-preserved c =
    let sites = c.args.sites.now in
    let at = c.loop-site.site-index in
    let lists = c.loop-site.lists.items in
    let within : at < length (numbers_of sites) = simp length-map c.loop-site-test.true in
    record {
      size = c.add_rule.ensures.size ∙ c.loop-site.invariant.size;
      added = λ s. adds_once c.args.rule (items_at c.args.lists.now.items s) (items_at lists s) (c.loop-site.invariant.added s) _ s
          (items_at c.add_rule.new.lists.items s) (c.in_ok-add_rule.ensures.added s);
      here = users_more (numbers_of sites) at c.args.rule (items_at lists) (items_at c.add_rule.new.lists.items) within
          (λ s. c.in_ok-add_rule.ensures.added s ∙ ap (λ (k : ℕ). added_at (items_at lists s) k c.args.rule s) (sym (number_at sites at)))
          c.loop-site.invariant.here;
    }
