use Rattle.std.proofs.Common.{refl, ℕ, List, ap, sym, ◌∙◌, ◌<◌, arith, get_or, subst}
use Rattle.isle_trees.specs.Rules.{Elem}
use Rattle.isle_trees.specs.Search.{added_at}
use Rattle.isle_blocks.specs.Rows.{numbers_of}
use Rattle.isle_blocks.specs.Inside.Trees.Builder.{items_at}
use Rattle.isle_blocks.specs.Inside.Trees.Marking.{ListsAt}
use Rattle.isle_blocks.specs.Trees.View.{id_of}
use Rattle.isle_blocks.proofs.Trees.Binding.{number_elem, number_get, numbers_length}
use Rattle.isle_blocks.proofs.Trees.Marking.Dependents.{lists_all, lists_more, lists_none}
use Rattle.isle_blocks.proofs.rule_set.RuleSet.add_dependent.Goals as goal

pub loop-part-init : goal.loop-part-init
loop-part-init c = record { size = refl; lists = lists_none c.args.site.0 (λ p. numbers_of (items_at c.args.lists.now.items p)) }

pub add_site-requires : goal.add_site-requires
add_site-requires c =
    let items = c.parts-part-items.result.now in
    let part = get_or items c.loop-part.part-index (id_of 0) in
    let P : List ℕ → Type 0 = λ l. Elem part.0 l in
    let l : part.0 < c.args.site.0 =
    c.requires.lower c.args.site.0 part.0 (subst P c.parts-part-items.ensures
    (number_elem items c.loop-part.part-index (id_of 0) c.loop-part-test.true)) in
    let m = c.requires.site in
    let n = c.loop-part.invariant.size in
    omega (arith, l, m, n)

pub loop-part-preserved : goal.loop-part-preserved
loop-part-preserved c =
    let items = c.parts-part-items.result.now in
    let i = c.loop-part.part-index in
    let s = c.args.site.0 in
    let n = numbers_length items in
    record {
      size = c.add_site.ensures.size ∙ c.loop-part.invariant.size;
      lists = lists_more s (numbers_of items) i (λ p. numbers_of (items_at c.args.lists.now.items p))
          (λ p. numbers_of (items_at c.loop-part.lists.items p))
          (λ p. numbers_of (items_at c.add_site.new.lists.items p)) (let l = c.loop-part-test.true in omega arith)
          (λ p. c.in_ok-add_site.ensures.added p
          ∙ ap (λ (k : ℕ). added_at (numbers_of (items_at c.loop-part.lists.items p)) k s p) (sym (number_get items i)))
          c.loop-part.invariant.lists;
    }

pub returns : goal.returns
returns c =
    let items = c.parts-part-items.result.now in
    let n = numbers_length items in
    let old = λ (p : ℕ). numbers_of (items_at c.args.lists.now.items p) in
    let new = λ (p : ℕ). numbers_of (items_at c.loop-part.lists.items p) in
    let P : List ℕ → Type 0 = λ l. ListsAt c.args.site.0 l old new in
    record {
      size = c.loop-part.invariant.size;
      lists = subst P c.parts-part-items.ensures
          (lists_all c.args.site.0 (numbers_of items) c.loop-part.part-index old new (let l = c.loop-part-test.false in omega arith)
          c.loop-part.invariant.lists);
    }
