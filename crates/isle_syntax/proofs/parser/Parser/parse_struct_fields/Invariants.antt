use Rattle.std.proofs.Common.{◌≡◌, length}
use Rattle.isle_syntax.specs.Inside.Reading.Parsing.{bounds}
use Rattle.isle_syntax.specs.Inside.Reading.Readers.{after_close, rest_of}
use Rattle.isle_syntax.specs.Inside.Reading.DefReading.{field}
use Rattle.isle_syntax.proofs.Reading.Loops.{Turns}
use Rattle.isle_syntax.proofs.parser.Parser.parse_struct_fields.Given as goal

abbrev pub invariant-fields : goal.invariant-fields
invariant-fields l = record {
  turns : Turns after_close (field l.depth_left) (rest_of (field l.depth_left) l.initial.self.left) l.fields.items l.self.left;
  same : bounds l.self ≡ bounds l.initial.self;
}

abbrev pub decreases-fields : goal.decreases-fields
decreases-fields l = length l.self.left
