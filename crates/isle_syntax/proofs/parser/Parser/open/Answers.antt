use Rattle.std.proofs.Common.{sym, ap, ◌∙◌, arith}
use Rattle.isle_syntax.specs.Inside.Reading.Readers.{done}
use Rattle.isle_syntax.proofs.Reading.Taking.{open_gives, deep_refuses, placed_place}
use Rattle.isle_syntax.proofs.parser.Parser.open.Goals as goal

pub returns-in-Open-clause-opened : goal.returns-in-Open-clause-opened
returns-in-Open-clause-opened c =
    rw c.if-depth_left-eq0.true (deep_refuses c.args.self.now c.kind.new.self c.too_deep.result c.in_ok-kind.ensures.known (sym c.in-Open.is
    ∙ c.in_ok-kind.ensures.kind) c.too_deep.ensures)

pub returns-in_ok-take-in-Open-2-clause-opened : goal.returns-in_ok-take-in-Open-2-clause-opened
returns-in_ok-take-in-Open-2-clause-opened c =
    let token = c.in_ok-take-in-Open-2.field-0 in
    let gives = open_gives c.args.self.now c.kind.new.self c.take.new.self token c.in_ok-kind.ensures.known c.in_ok-take-in-Open-2.ensures.taken
    c.args.depth_left (omega arith) (sym c.in-Open-2.is ∙ c.in_ok-kind.ensures.kind) in
    (gives.0 ∙ ap (λ p. done p c.take.new.self.left) (placed_place token.0 token.1), gives.1)
