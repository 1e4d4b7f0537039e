use Rattle.std.proofs.Common.{refl, sym, ◌∙◌}
use Rattle.isle_ast.specs.Trees.ItemShape.{item_of, items_of}
use Rattle.isle_layout.specs.Writable.{writable_item, writable_items}
use Rattle.isle_layout.proofs.Nestings.{rest_pass, first_fails}
use Rattle.isle_layout.proofs.writable.+writable_item.Goals as goal

pub writable_items-loop-item-preserved : goal.writable_items-loop-item-preserved
writable_items-loop-item-preserved t c =
    rest_pass (λ x. writable_item (item_of x)) (λ xs. writable_items (items_of xs)) (writable_items (items_of c.args.items.now))
    c.args.items.now c.loop-item.item-index
    c.item-item.result (λ x xs. refl) c.loop-item-test.true c.item-item.is (sym c.writable_item.ensures ∙ c.if-not-writable_item.false)
    c.loop-item.invariant

pub writable_items-returns-then-not-writable_item : goal.writable_items-returns-then-not-writable_item
writable_items-returns-then-not-writable_item t c =
    first_fails (λ x. writable_item (item_of x)) (λ xs. writable_items (items_of xs)) (writable_items (items_of c.args.items.now))
    c.args.items.now c.loop-item.item-index
    c.item-item.result (λ x xs. refl) c.loop-item-test.true c.item-item.is (sym c.writable_item.ensures ∙ c.if-not-writable_item.true)
    c.loop-item.invariant
