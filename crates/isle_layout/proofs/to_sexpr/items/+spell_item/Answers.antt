use Rattle.std.proofs.Common.{ap, ◌∙◌, arith, ◌++◌}
use Rattle.isle_ast.specs.Trees.ItemShape.{item_of}
use Rattle.isle_layout.specs.Spellings.{item_sexpr}
use Rattle.isle_layout.proofs.Layouts.Spellings.{item_sexprs_taken, mapped_more}
use Rattle.isle_layout.proofs.to_sexpr.items.+spell_item.Goals as goal

pub add_items-returns : goal.add_items-returns
add_items-returns t c =
    c.loop-item.invariant ∙ ap (λ ts. c.args.list ++ ts) (item_sexprs_taken c.loop-item.item-index c.args.items.now (omega arith))

pub add_items-loop-item-preserved : goal.add_items-loop-item-preserved
add_items-loop-item-preserved t c =
    mapped_more c.args.list (λ i. item_sexpr (item_of i)) c.args.items.now c.loop-item.item-index c.item-item.result _ _ _
    c.loop-item-test.true c.item-item.is c.loop-item.invariant c.in_ok-spell_item.ensures c.in_ok-longer.ensures
