use Rattle.std.proofs.Common.{◌≡◌, map, ◌+◌, ◌*◌, length}
use Rattle.isle_ast.specs.Trees.ItemShape.{item_of}
use Rattle.isle_syntax.specs.Inside.Reading.Parsing.{bounds}
use Rattle.isle_syntax.specs.Inside.Reading.Readers.{after_close, rest_of}
use Rattle.isle_syntax.specs.Inside.Reading.TreeReading.{item}
use Rattle.isle_syntax.proofs.Reading.Loops.{Turns}
use Rattle.isle_syntax.proofs.parser.Parser.+item.Given as goal

abbrev pub decreases-parse_item : goal.decreases-parse_item
decreases-parse_item l = 3 * l.depth_left + 1

abbrev pub decreases-parse_item_list : goal.decreases-parse_item_list
decreases-parse_item_list l = 3 * l.depth_left

abbrev pub decreases-parse_items : goal.decreases-parse_items
decreases-parse_items l = 3 * l.depth_left + 2

abbrev pub invariant-parse_items-items : goal.invariant-parse_items-items
invariant-parse_items-items l = record {
  turns : Turns after_close (item l.depth_left) (rest_of (item l.depth_left) l.initial.self.left) (map item_of l.items.items) l.self.left;
  same : bounds l.self ≡ bounds l.initial.self;
}

abbrev pub decreases-parse_items-items : goal.decreases-parse_items-items
decreases-parse_items-items l = length l.self.left
