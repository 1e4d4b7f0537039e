use Rattle.std.proofs.Common.{length}
use Rattle.isle_syntax.specs.Tokens.RemainingTokens.{Source}
use Rattle.isle_syntax.proofs.Tokens.Remaining.{looked_tokens, looked_only, looked_remaining}
use Rattle.isle_syntax.proofs.lexer.Lexer.new.Goals as goal

pub returns-clause-tokens : goal.returns-clause-tokens
returns-clause-tokens c =
    let source : Source = record { file = c.args.file; size = length c.args.src.now } in
    looked_tokens source c.look-lookahead.result.0 c.look-lookahead.result.1 c.look-lookahead.result.2.now c.args.src.now
    c.look-lookahead.ensures.same

pub returns-clause-remaining : goal.returns-clause-remaining
returns-clause-remaining c =
    let source : Source = record { file = c.args.file; size = length c.args.src.now } in
    looked_remaining source c.look-lookahead.result.0 c.look-lookahead.result.1 c.look-lookahead.result.2.now c.args.src.now
    c.look-lookahead.ensures.same c.look-lookahead.ensures.ahead c.look-lookahead.ensures.not_failed

pub returns-clause-only : goal.returns-clause-only
returns-clause-only c =
    let source : Source = record { file = c.args.file; size = length c.args.src.now } in
    looked_only source c.look-lookahead.result.0 c.look-lookahead.result.1 c.look-lookahead.result.2.now c.args.src.now c.look-lookahead.ensures.same
