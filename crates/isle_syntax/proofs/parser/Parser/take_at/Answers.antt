use Rattle.std.proofs.Common.{sym, ap, ◌∙◌}
use Rattle.isle_syntax.specs.Inside.Reading.KindOf.{kind_at}
use Rattle.isle_syntax.specs.Tokens.PlacedTokens.{placed}
use Rattle.isle_syntax.proofs.Reading.Taking.{at_then, given_bounds}
use Rattle.isle_syntax.proofs.parser.Parser.take_at.Goals as goal

pub returns-in_ok-_at-in-At-clause-taken : goal.returns-in_ok-_at-in-At-clause-taken
returns-in_ok-_at-in-At-clause-taken c =
    let taken = c.in_ok-_at-in-At.ensures.taken in
    let at = sym c.in-At.is ∙ c.kind_of.ensures ∙ sym (ap kind_at (sym (ap (λ u. u.left) c.self.view_is) ∙ c.in-Some.ensures.token)) in (
      at_then c.args.self.now.left c.take.new.self.left (placed c.in_ok-_at-in-At._at) at taken.first,
      given_bounds c.args.self.now c.take.new.self c.in_ok-_at-in-At._at taken,
    )
