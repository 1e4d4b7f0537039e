use Rattle.std.proofs.Common.{◌≡◌, length}
use Rattle.isle_syntax.specs.Inside.Reading.Parsing.{bounds}
use Rattle.isle_syntax.specs.Inside.Reading.Readers.{after_close, rest_of}
use Rattle.isle_syntax.specs.Inside.Reading.DefReading.{variant}
use Rattle.isle_syntax.proofs.Reading.Loops.{Turns}
use Rattle.isle_syntax.proofs.parser.Parser.parse_type_variants.Given as goal

abbrev pub invariant-variants : goal.invariant-variants
invariant-variants l = record {
  turns : Turns after_close (variant l.depth_left) (rest_of (variant l.depth_left) l.initial.self.left) l.variants.items l.self.left;
  same : bounds l.self ≡ bounds l.initial.self;
}

abbrev pub decreases-variants : goal.decreases-variants
decreases-variants l = length l.self.left
