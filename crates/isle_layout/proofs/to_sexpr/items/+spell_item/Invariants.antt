use Rattle.std.proofs.Common.{◌≡◌, ◌++◌, map, take}
use Rattle.isle_ast.specs.Trees.ItemShape.{item_of}
use Rattle.isle_layout.specs.Spellings.{item_sexpr}
use Rattle.isle_layout.proofs.to_sexpr.items.+spell_item.Given as goal

abbrev pub invariant-add_items-loop-item : goal.invariant-add_items-loop-item
invariant-add_items-loop-item l =
    l.longer ≡ l.initial.longer ++ map (λ i. item_sexpr (item_of i)) (take l.item-index l.items)
