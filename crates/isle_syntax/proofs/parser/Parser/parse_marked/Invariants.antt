use Rattle.std.proofs.Common.{◌≡◌, List, length}
use Rattle.std.specs.List.{list_any}
use Rattle.isle_syntax.specs.Inside.Reading.Parsing.{bounds}
use Rattle.isle_syntax.specs.Grammar.DefGrammar.{Mark, is_extern_mark, is_nodebug_mark}
use Rattle.isle_syntax.specs.Inside.Reading.DefReading.{no_mark, mark, marks}
use Rattle.isle_syntax.proofs.Reading.Loops.{Turns}
use Rattle.isle_syntax.proofs.parser.Parser.parse_marked.Given as goal

abbrev pub invariant-marks : goal.invariant-marks
invariant-marks l = record {
  found : List Mark;
  turns : Turns no_mark mark (marks l.initial.self.left) found l.self.left;
  externs : l.is_extern ≡ list_any is_extern_mark found;
  nodebugs : l.is_nodebug ≡ list_any is_nodebug_mark found;
  same : bounds l.self ≡ bounds l.initial.self;
}

abbrev pub decreases-marks : goal.decreases-marks
decreases-marks l = length l.self.left
