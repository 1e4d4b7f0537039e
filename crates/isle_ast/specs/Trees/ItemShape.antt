-- A kept item as a tree: its children are trees already.
use Rattle.std.specs.Prelude.{List, map}
use Rattle.isle_ast.specs.declared.ast.KeptItem.{KeptItem}
use Rattle.isle_ast.specs.declared.ast.KeptItem.TheVariants.{Int, Big, Symbol, At, List as Nested}
use Rattle.isle_ast.specs.Trees.ItemTree.{ItemTree, ItemTrees, item_int, item_big, item_symbol, item_at, item_list, item_list_of}

abbrev pub item_of : KeptItem → ItemTree
item_of (Int n p) = item_int n p
item_of (Big n p) = item_big n p
item_of (Symbol x) = item_symbol x
item_of (At p) = item_at p
item_of (Nested ts p) = item_list ts p

abbrev pub items_of : List KeptItem → ItemTrees
items_of ps = item_list_of (map item_of ps)
