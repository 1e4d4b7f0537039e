use Rattle.std.proofs.Common.{◌≡◌, length}
use Rattle.isle_syntax.specs.Inside.Reading.Parsing.{bounds}
use Rattle.isle_syntax.specs.Inside.Reading.Readers.{after_close, rest_of}
use Rattle.isle_syntax.specs.Inside.Reading.DefReading.{identifier}
use Rattle.isle_syntax.proofs.Reading.Loops.{Turns}
use Rattle.isle_syntax.proofs.parser.Parser.parse_idents.Given as goal

abbrev pub invariant-idents : goal.invariant-idents
invariant-idents l = record {
  turns : Turns after_close identifier (rest_of identifier l.initial.self.left) l.idents.items l.self.left;
  same : bounds l.self ≡ bounds l.initial.self;
}

abbrev pub decreases-idents : goal.decreases-idents
decreases-idents l = length l.self.left
