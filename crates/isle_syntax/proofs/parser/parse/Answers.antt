use Rattle.std.proofs.lemmas.Result.{IfErr-weaker}
use Rattle.isle_ast.specs.Errors.{IfKind, IsOfKinds, parse_error, size_error}
use Rattle.isle_syntax.specs.Grammar.Verdict.{FaultAt, DeepAt}
use Rattle.isle_syntax.proofs.ErrorKinds.{fault_spans, deep_spans, of_both_kinds}
use Rattle.isle_syntax.proofs.Positions.VerdictPositions.{spelt_places, refusal_places, spelt_no_macro_args}
use Rattle.isle_syntax.proofs.Positions.RuleOrder.{spelt_ascends}
use Rattle.isle_syntax.proofs.parser.parse.Goals as goal

pub returns-clause-spelt : goal.returns-clause-spelt
returns-clause-spelt c = c.parse_told.ensures.spelt

pub returns-clause-fault : goal.returns-clause-fault
returns-clause-fault c =
    let fault = c.parse_told.ensures.fault in
    IfErr-weaker c.parse_told.result _ (IfKind parse_error (FaultAt c.args.lexer)) (fault_spans (FaultAt c.args.lexer) (DeepAt c.args.lexer)) fault

pub returns-clause-too_deep : goal.returns-clause-too_deep
returns-clause-too_deep c =
    let fault = c.parse_told.ensures.fault in
    IfErr-weaker c.parse_told.result _ (IfKind size_error (DeepAt c.args.lexer)) (deep_spans (FaultAt c.args.lexer) (DeepAt c.args.lexer)) fault

pub returns-clause-kinds : goal.returns-clause-kinds
returns-clause-kinds c =
    let fault = c.parse_told.ensures.fault in
    IfErr-weaker c.parse_told.result _ (IsOfKinds parse_error size_error) (of_both_kinds (FaultAt c.args.lexer) (DeepAt c.args.lexer)) fault

pub returns-clause-placed : goal.returns-clause-placed
returns-clause-placed c = spelt_places c.args.lexer c.parse_told.ensures.remaining c.parse_told.result
    (returns-clause-spelt c)

pub returns-clause-refused : goal.returns-clause-refused
returns-clause-refused c = refusal_places c.args.lexer c.parse_told.ensures.remaining c.parse_told.result
    c.parse_told.ensures.fault

pub returns-clause-no_macro_args : goal.returns-clause-no_macro_args
returns-clause-no_macro_args c = spelt_no_macro_args c.args.lexer c.parse_told.result (returns-clause-spelt c)

pub returns-clause-ascending : goal.returns-clause-ascending
returns-clause-ascending c = spelt_ascends c.args.lexer c.parse_told.ensures.remaining c.parse_told.result
    (returns-clause-spelt c)
