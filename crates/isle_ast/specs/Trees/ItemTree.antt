-- Items of kept definitions as contracts see them.
use Rattle.std.specs.Prelude.{ℕ, ℤ, ◌+◌, max, List, [], ◌∷◌}
use Rattle.isle_ast.specs.declared.pos.Pos.{Pos}
use Rattle.isle_ast.specs.declared.ast.Ident.{Ident}

mutual
  pub data ItemTree : Type 0 where
    item_int : ℤ → Pos → ItemTree
    item_big : ℕ → Pos → ItemTree
    item_symbol : Ident → ItemTree
    item_at : Pos → ItemTree
    item_list : ItemTrees → Pos → ItemTree

  pub data ItemTrees : Type 0 where
    no_items : ItemTrees
    more_items : ItemTree → ItemTrees → ItemTrees

-- the trees of a list
abbrev pub item_list_of : List ItemTree → ItemTrees
item_list_of [] = no_items
item_list_of (t ∷ ts) = more_items t (item_list_of ts)

-- where the first token of an item stands
abbrev pub item_pos : ItemTree → Pos
item_pos (item_int _ pos) = pos
item_pos (item_big _ pos) = pos
item_pos (item_symbol name) = name.1
item_pos (item_at pos) = pos
item_pos (item_list _ pos) = pos

-- how deep lists nest
abbrev mutual
  pub item_height : ItemTree → ℕ
  item_height (item_int _ _) = 0
  item_height (item_big _ _) = 0
  item_height (item_symbol _) = 0
  item_height (item_at _) = 0
  item_height (item_list ts _) = item_heights ts + 1

  pub item_heights : ItemTrees → ℕ
  item_heights no_items = 0
  item_heights (more_items t ts) = max (item_height t) (item_heights ts)
