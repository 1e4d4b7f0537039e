use Rattle.std.proofs.Common.{◌≡◌, length}
use Rattle.isle_syntax.specs.Inside.Reading.Parsing.{bounds}
use Rattle.isle_syntax.specs.Inside.Reading.Readers.{at_end, all_of}
use Rattle.isle_syntax.specs.Inside.Reading.DefReading.{def}
use Rattle.isle_syntax.specs.Grammar.Verdict.{max_nesting}
use Rattle.isle_syntax.proofs.Reading.Loops.{Turns}
use Rattle.isle_syntax.proofs.parser.Parser.parse_defs.Given as goal

abbrev pub invariant-defs : goal.invariant-defs
invariant-defs l = record {
  turns : Turns at_end (def max_nesting) (all_of (def max_nesting) l.initial.self.left) l.defs.items l.self.left;
  same : bounds l.self ≡ bounds l.initial.self;
}

abbrev pub decreases-defs : goal.decreases-defs
decreases-defs l = length l.self.left
