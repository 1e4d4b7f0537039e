use Rattle.std.proofs.Common.{◌≡◌, length}
use Rattle.isle_syntax.specs.Inside.Reading.Parsing.{bounds}
use Rattle.isle_syntax.specs.Inside.Reading.DefReading.{rule_body}
use Rattle.isle_syntax.proofs.Productions.BodyTurns.{BodyTurns}
use Rattle.isle_syntax.proofs.parser.Parser.parse_body.Given as goal

abbrev pub invariant-clauses : goal.invariant-clauses
invariant-clauses l = record {
  turns : BodyTurns l.depth_left (rule_body l.depth_left l.initial.self.left) l.iflets.items l.self.left;
  same : bounds l.self ≡ bounds l.initial.self;
}

abbrev pub decreases-clauses : goal.decreases-clauses
decreases-clauses l = length l.self.left
