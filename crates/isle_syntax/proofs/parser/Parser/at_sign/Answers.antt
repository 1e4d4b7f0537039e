use Rattle.std.proofs.Common.{sym, ◌∙◌}
use Rattle.isle_syntax.proofs.Reading.Taking.{at_gives}
use Rattle.isle_syntax.proofs.parser.Parser.at_sign.Goals as goal

pub returns-in_ok-take-in-At : goal.returns-in_ok-take-in-At
returns-in_ok-take-in-At c =
    at_gives c.args.self.now c.kind.new.self c.take.new.self c.in_ok-take-in-At.field-0 c.in_ok-kind.ensures.known c.in_ok-take-in-At.ensures.taken
    (sym c.in-At.is ∙ c.in_ok-kind.ensures.kind)
