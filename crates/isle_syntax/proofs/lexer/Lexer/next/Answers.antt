use Rattle.isle_syntax.specs.Tokens.RemainingTokens.{Source}
use Rattle.isle_syntax.proofs.Tokens.Remaining.{looked_remaining}
use Rattle.isle_syntax.proofs.lexer.Lexer.next.Goals as goal

pub returns-in-Token-clause-remaining : goal.returns-in-Token-clause-remaining
returns-in-Token-clause-remaining c =
    let source : Source = record { file = c.self.inside.file; size = c.self.inside.size } in
    looked_remaining source c.look-lookahead.result.0 c.look-lookahead.result.1 c.look-lookahead.result.2.now c.self.inside.rest.now
    c.look-lookahead.ensures.same c.look-lookahead.ensures.ahead c.look-lookahead.ensures.not_failed
