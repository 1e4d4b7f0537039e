use Rattle.std.proofs.Common.{subst}
use Rattle.isle_syntax.specs.Tokens.RemainingTokens.{Source}
use Rattle.isle_syntax.specs.Tokens.LexerCalls.{IsRemaining}
use Rattle.isle_syntax.proofs.Tokens.Remaining.{ahead_remaining}
use Rattle.isle_syntax.proofs.lexer.Lexer.peek.Goals as goal

pub returns-in-Token-clause-remaining : goal.returns-in-Token-clause-remaining
returns-in-Token-clause-remaining c =
    let source : Source = record { file = c.self.inside.file; size = c.self.inside.size } in
    subst IsRemaining c.self.view_is (ahead_remaining source c.self.inside.lookahead c.self.inside.start c.self.inside.rest.now c.self.invariant)

pub returns-in_default-clause-remaining : goal.returns-in_default-clause-remaining
returns-in_default-clause-remaining c =
    let source : Source = record { file = c.self.inside.file; size = c.self.inside.size } in
    subst IsRemaining c.self.view_is (ahead_remaining source c.self.inside.lookahead c.self.inside.start c.self.inside.rest.now c.self.invariant)
