use Rattle.std.proofs.Common.{◌<◌, ℕ, List, ap, sym, ◌∙◌, arith, get_or, length, subst}
use Rattle.isle_trees.specs.Ranking.{AllBelow}
use Rattle.isle_trees.specs.Rules.{Elem}
use Rattle.isle_blocks.specs.declared.ids.BindingId.{BindingId}
use Rattle.isle_blocks.specs.Rows.{numbers_of}
use Rattle.isle_blocks.specs.Inside.Trees.Builder.{items_at, rules_in}
use Rattle.isle_blocks.specs.Inside.Trees.Marking.{ListsAt}
use Rattle.isle_blocks.specs.Trees.View.{id_of}
use Rattle.isle_blocks.proofs.Trees.Binding.{number_elem, number_get, numbers_length}
use Rattle.isle_blocks.proofs.Trees.Marking.Dependents.{listing_all, listing_more, listing_none}
use Rattle.isle_blocks.proofs.rule_set.RuleSet.dependent_lists.Goals as goal

pub all_of-requires : goal.all_of-requires
all_of-requires c i x m = let l = (c.requires.asked i).below x m in let e = c.site_count.ensures.count in omega (arith, l, e)

pub loop-site-init : goal.loop-site-init
loop-site-init c = record {
  size = c.in_ok-lists.ensures.size ∙ c.site_count-2.ensures.count;
  listing = listing_none (rules_in c.args.self.now) (length c.args.self.now.sites) (λ p. numbers_of (items_at c.in_ok-lists.lists.items p))
      (λ p. ap numbers_of (c.in_ok-lists.ensures.empty p));
}

pub add_dependent-requires-clause-site : goal.add_dependent-requires-clause-site
add_dependent-requires-clause-site c =
    let P : List BindingId → Type 0 = λ l. AllBelow (numbers_of l) c.site_count.result in
    let below = subst P (sym c.deref-site-items.ensures.value) c.in_ok-sites.ensures.below in
    let l = below _ (number_elem c.deref-site-items.result.now c.loop-site.site-index (id_of 0) c.loop-site-test.true) in
    let e = c.site_count.ensures.count in
    let k = c.loop-site.invariant.size in
    omega (arith, l, e, k)

pub loop-site-preserved : goal.loop-site-preserved
loop-site-preserved c =
    let R = rules_in c.args.self.now in
    let sites = c.deref-site-items.result.now in
    let i = c.loop-site.site-index in
    let n = numbers_length sites in
    let site : ℕ = (get_or sites i (id_of 0)).0 in
    let old = λ (p : ℕ). numbers_of (items_at c.loop-site.lists.items p) in
    let new = λ (p : ℕ). numbers_of (items_at c.add_dependent.new.lists.items p) in
    let low : site < length c.args.self.now.sites =
    let B : List BindingId → Type 0 = λ l. AllBelow (numbers_of l) c.site_count.result in
    let below = subst B (sym c.deref-site-items.ensures.value) c.in_ok-sites.ensures.below in
    let l = below _ (number_elem sites i (id_of 0) c.loop-site-test.true) in
    let e = c.site_count.ensures.count in omega (arith, l, e) in
    let at = number_get sites i in
    let P : ℕ → Type 0 = λ s. ListsAt s (R.parts s) old new in
    record {
      size = c.in_ok-add_dependent.ensures.size ∙ c.loop-site.invariant.size;
      listing = listing_more R (length c.args.self.now.sites) (numbers_of sites) i old new (let l = c.loop-site-test.true in omega arith)
          (omega (arith, low, at)) (subst P (sym at) c.in_ok-add_dependent.ensures.lists) c.loop-site.invariant.listing;
    }

pub returns : goal.returns
returns c =
    let sites = c.deref-site-items.result.now in
    let n = numbers_length sites in
    let F : List BindingId → Type 0 = λ l. (i x : ℕ) → Elem x (numbers_of (items_at c.args.asked.now i)) → Elem x (numbers_of l) in
    listing_all (rules_in c.args.self.now) (length c.args.self.now.sites) c.loop-site.site-index (λ i. numbers_of (items_at c.args.asked.now i))
    (numbers_of sites) (λ p. numbers_of (items_at c.loop-site.lists.items p)) (let l = c.loop-site-test.false in omega arith) c.requires.asked
    (subst F (sym c.deref-site-items.ensures.value) c.in_ok-sites.ensures.full) c.loop-site.invariant.listing
