use Rattle.std.proofs.Common.{subst}
use Rattle.std.specs.Prelude.{IfOk, IfErr}
use Rattle.isle_ast.specs.Errors.{IfFault}
use Rattle.isle_syntax.specs.Tokens.RemainingTokens.{RemainingTokens}
use Rattle.isle_syntax.specs.Tokens.LexerCalls.{IsRemaining}
use Rattle.isle_syntax.specs.Grammar.Verdict.{IsSpelt, IsFaultOf}
use Rattle.isle_syntax.proofs.parser.parse_untold.Goals as goal

pub returns-clause-spelt : goal.returns-clause-spelt
returns-clause-spelt c = subst (λ (u : RemainingTokens). IfOk c.parse_defs.result (λ defs. IsSpelt u defs.items)) c.new.ensures
    c.parse_defs.ensures.spelt

pub returns-clause-fault : goal.returns-clause-fault
returns-clause-fault c = subst (λ (u : RemainingTokens). IfErr c.parse_defs.result (λ refusal. IfFault refusal (IsFaultOf u))) c.new.ensures
    c.parse_defs.ensures.fault

pub returns-clause-remaining : goal.returns-clause-remaining
returns-clause-remaining c = subst IsRemaining c.new.ensures c.parse_defs.ensures.remaining
