use Rattle.std.proofs.Common.{◌≡◌, List, length}
use Rattle.isle_ast.specs.declared.ast.Ident.{Ident}
use Rattle.isle_syntax.specs.Inside.Reading.Parsing.{bounds}
use Rattle.isle_syntax.specs.Inside.Reading.Readers.{after_close, rest_of}
use Rattle.isle_syntax.specs.Grammar.DefGrammar.{numbered}
use Rattle.isle_syntax.specs.Inside.Reading.DefReading.{identifier}
use Rattle.isle_syntax.proofs.Reading.Loops.{Turns}
use Rattle.isle_syntax.proofs.parser.Parser.parse_tuple_fields.Given as goal

abbrev pub invariant-types : goal.invariant-types
invariant-types l = record {
  found : List Ident;
  turns : Turns after_close identifier (rest_of identifier l.initial.self.left) found l.self.left;
  numbers : l.fields.items ≡ numbered 0 found;
  same : bounds l.self ≡ bounds l.initial.self;
}

abbrev pub decreases-types : goal.decreases-types
decreases-types l = length l.self.left
