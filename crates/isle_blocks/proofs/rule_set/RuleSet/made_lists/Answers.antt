use Rattle.std.proofs.Common.{arith, ◌∙◌, ◌≡◌, ℕ, length, subst, slice_get}
use Rattle.isle_trees.specs.Search.{AreMadeBelow}
use Rattle.isle_trees.proofs.Building.Asked.{made_step}
use Rattle.isle_blocks.specs.Rows.{numbers_of}
use Rattle.isle_blocks.specs.Inside.Trees.Builder.{items_at, rules_in, source_in}
use Rattle.isle_blocks.proofs.Trees.Openers.{made_source}
use Rattle.isle_blocks.proofs.rule_set.RuleSet.made_lists.Goals as goal

pub loop-site-preserved : goal.loop-site-preserved
loop-site-preserved c = record {
  size = c.add_made.ensures.size ∙ c.loop-site.invariant.size;
  made = λ s. made_step (rules_in c.args.self.now) c.loop-site.site s (numbers_of (items_at c.loop-site.lists.items s))
      (numbers_of (items_at c.add_made.new.lists.items s)) (source_in (slice_get c.args.self.now.sites c.loop-site.site))
      (made_source c.args.self.now c.loop-site.site) (c.in_ok-add_made.ensures.added s) (c.loop-site.invariant.made s);
}

pub returns : goal.returns
returns c s =
    let P : ℕ → Type 0 = λ n. AreMadeBelow (rules_in c.args.self.now) n s (numbers_of (items_at c.loop-site.lists.items s)) in
    let e : c.loop-site.site ≡ length c.args.self.now.sites = omega arith in
    subst P e (c.loop-site.invariant.made s)
