use Rattle.std.proofs.Common.{List, ℕ, sym, subst}
use Rattle.std.proofs.lemmas.Result.{err_from_is_err_and}
use Rattle.isle_syntax.specs.declared.lexer.Token.{Token}
use Rattle.isle_program.specs.declared.program.Program.{Program}
use Rattle.isle_values.specs.declared.queries.QueryFault.{QueryFault}
use Rattle.isle_values.specs.declared.queries.QueryFault.TheVariants.{Q1, Q2, Q3, Q4, Memory}
use Rattle.isle_values.specs.Values.TextTokens.{AreTokensOf}
use Rattle.isle_values.specs.Queries.{RefusesName, RefusesText, IsTextOf}
use Rattle.isle_values.proofs.queries.query.Goals as goal

-- a refusal of a name is one of a text that begins with it
refused_name : (program : Program) (text name : List ℕ) (rest : List Token) → IsTextOf text name rest → (fault : QueryFault)
    → RefusesName program name fault
    → RefusesText program text fault
refused_name program text name rest is Q1 h = (name, rest, is, h)
refused_name program text name rest is Q2 (term, named, not) = (name, rest, term, is, named, not)
refused_name program text name rest is Q3 h = absurd h
refused_name program text name rest is Q4 h = absurd h
refused_name program text name rest is (Memory e) h = tt

pub returns-in_err-term-clause-refused : goal.returns-in_err-term-clause-refused
returns-in_err-term-clause-refused c =
    let e = err_from_is_err_and c.from_residual.result c.from_residual.ensures.1 in
    rw (e.1, e.2) (refused_name c.args.program.now c.args.text.now c.in-Some.name.now c.in-Some.rest.now
    (c.as_slice.result.now, subst (AreTokensOf c.args.text.now) (sym c.as_slice.ensures.value) c.in-Ok.ensures.tokens, c.in-Some.ensures.some)
    c.in_err-term.field-0.0 c.in_err-term.ensures.refused)
