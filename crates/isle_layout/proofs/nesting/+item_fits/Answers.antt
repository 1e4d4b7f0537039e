use Rattle.std.proofs.Common.{refl}
use Rattle.isle_ast.specs.Trees.ItemShape.{item_of, items_of}
use Rattle.isle_layout.specs.Nesting.{item_nesting, item_nestings}
use Rattle.isle_layout.proofs.Nestings.{rest_fits, first_fits}
use Rattle.isle_layout.proofs.nesting.+item_fits.Goals as goal

pub items_fit-loop-item-preserved : goal.items_fit-loop-item-preserved
items_fit-loop-item-preserved t c =
    rest_fits (λ x. item_nesting (item_of x)) (λ xs. item_nestings (items_of xs)) c.args.depth_left c.args.items.now
    c.loop-item.item-index c.item-item.result
    (λ x xs. refl) c.loop-item-test.true c.item-item.is (c.if-not-item_fits.ensures.0 refl) c.loop-item.invariant

pub items_fit-returns-then-not-item_fits : goal.items_fit-returns-then-not-item_fits
items_fit-returns-then-not-item_fits t c = (
  λ never. absurd cc,
  λ all. c.if-not-item_fits.ensures.1
      (first_fits (λ x. item_nesting (item_of x)) (λ xs. item_nestings (items_of xs)) c.args.depth_left c.args.items.now
      c.loop-item.item-index c.item-item.result
      (λ x xs. refl) c.loop-item-test.true c.item-item.is c.loop-item.invariant all),
)
