use Rattle.std.proofs.Common.{subst}
use Rattle.isle_syntax.specs.Tokens.RemainingTokens.{Source}
use Rattle.isle_syntax.specs.Tokens.LexerCalls.{IsRemaining}
use Rattle.isle_syntax.proofs.Tokens.Remaining.{ahead_remaining}
use Rattle.isle_syntax.proofs.lexer.Lexer.allocator.Goals as goal

pub returns : goal.returns
returns c =
    let source : Source = record { file = c.self.inside.file; size = c.self.inside.size } in
    subst IsRemaining c.self.view_is (ahead_remaining source c.self.inside.lookahead c.self.inside.start c.self.inside.rest.now c.self.invariant)
