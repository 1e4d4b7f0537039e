use Rattle.std.proofs.Common.{sym, ◌∙◌}
use Rattle.isle_syntax.proofs.Reading.Taking.{close_gives}
use Rattle.isle_syntax.proofs.parser.Parser.close.Goals as goal

pub returns-in_ok-_close-in-Close : goal.returns-in_ok-_close-in-Close
returns-in_ok-_close-in-Close c =
    close_gives c.args.self.now c.kind.new.self c.take.new.self _ c.in_ok-kind.ensures.known c.in_ok-_close-in-Close.ensures.taken (sym c.in-Close.is
    ∙ c.in_ok-kind.ensures.kind)
