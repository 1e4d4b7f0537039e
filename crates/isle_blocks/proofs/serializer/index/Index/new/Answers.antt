use Rattle.std.proofs.Common.{length, List, subst, sym}
use Rattle.std.specs.Global.{Vec}
use Rattle.isle_trees.specs.Search.{IsAskedBy}
use Rattle.isle_blocks.specs.declared.ids.BindingId.{BindingId}
use Rattle.isle_trees.proofs.Building.Asked.{index_of}
use Rattle.isle_blocks.specs.Rows.{numbers_of}
use Rattle.isle_blocks.specs.Inside.Trees.Builder.{items_at, rules_in}
use Rattle.isle_blocks.proofs.Trees.Indexed.{made_below}
use Rattle.isle_blocks.proofs.serializer.index.Index.new.Goals as goal

pub dependent_lists-requires-clause-asked : goal.dependent_lists-requires-clause-asked
dependent_lists-requires-clause-asked c i =
    let set = c.args.set.now in
    let P : List (Vec BindingId) → Type 0 = λ l. IsAskedBy (rules_in set) (length set.sites) i (numbers_of (items_at l i)) in
    subst P (sym c.deref-2.ensures.value) (c.in_ok-asked.ensures i)

pub returns : goal.returns
returns c = record {
  is = index_of (rules_in c.args.set.now) (length c.args.set.now.sites) (λ i. numbers_of (items_at c.in_ok-asked.asked.items i))
      (λ s. numbers_of (items_at c.in_ok-made.made.items s)) (items_at c.in_ok-users.users.items) c.in_ok-asked.ensures c.in_ok-made.ensures
      c.in_ok-users.ensures.users (made_below c.args.set.now);
  dependents = c.in_ok-dependents.ensures;
  openers = c.in_ok-openers.ensures;
  classes = c.in_ok-classes.ensures.classes;
}
