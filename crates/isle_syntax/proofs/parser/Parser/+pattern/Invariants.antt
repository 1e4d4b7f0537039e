use Rattle.std.proofs.Common.{◌≡◌, ◌≤◌, map, ◌+◌, ◌*◌, length}
use Rattle.isle_ast.specs.Trees.PatternShape.{pattern_of}
use Rattle.isle_syntax.specs.Inside.Reading.Parsing.{bounds}
use Rattle.isle_syntax.specs.Inside.Reading.Readers.{after_close, rest_of, read_map}
use Rattle.isle_ast.specs.Trees.Chain.{bound}
use Rattle.isle_syntax.specs.Inside.Reading.TreeReading.{pattern}
use Rattle.isle_syntax.proofs.Reading.Loops.{Turns}
use Rattle.isle_syntax.proofs.parser.Parser.+pattern.Given as goal

abbrev pub decreases-parse_pattern : goal.decreases-parse_pattern
decreases-parse_pattern l = 4 * length l.self.now.left + 2

abbrev pub decreases-parse_unbound : goal.decreases-parse_unbound
decreases-parse_unbound l = 4 * length l.self.now.left + 1

abbrev pub decreases-parse_pattern_list : goal.decreases-parse_pattern_list
decreases-parse_pattern_list l = 4 * length l.self.now.left

abbrev pub decreases-parse_patterns : goal.decreases-parse_patterns
decreases-parse_patterns l = 4 * length l.self.now.left + 3

-- what a pattern reads from the start is what one reads from here, bound to the names
abbrev pub invariant-parse_pattern-names : goal.invariant-parse_pattern-names
invariant-parse_pattern-names l = record {
  reads : pattern l.depth_left l.initial.self.left ≡ read_map (bound l.names.items) (pattern l.depth_left l.self.left);
  same : bounds l.self ≡ bounds l.initial.self;
  less : length l.self.left ≤ length l.initial.self.left;
}

abbrev pub decreases-parse_pattern-names : goal.decreases-parse_pattern-names
decreases-parse_pattern-names l = length l.self.left

abbrev pub invariant-parse_patterns-all : goal.invariant-parse_patterns-all
invariant-parse_patterns-all l = record {
  turns : Turns after_close (pattern l.depth_left) (rest_of (pattern l.depth_left) l.initial.self.left) (map pattern_of l.patterns.items) l.self.left;
  same : bounds l.self ≡ bounds l.initial.self;
  less : length l.self.left ≤ length l.initial.self.left;
}

abbrev pub decreases-parse_patterns-all : goal.decreases-parse_patterns-all
decreases-parse_patterns-all l = length l.self.left
