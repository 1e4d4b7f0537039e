use Rattle.std.proofs.Common.{ap, string_bytes}
use Rattle.std.proofs.lemmas.Result.{err_from_is_err_and}
use Rattle.isle_syntax.specs.Grammar.Verdict.{IsWhole}
use Rattle.isle_syntax.proofs.Productions.OneReading.{spells_of, refusal_in}
use Rattle.isle_layout.proofs.Keeping.ReadAgain.{read_again, read_is_faultless, kept_again}
use Rattle.isle_layout.proofs.keep.keep.Goals as goal

pub returns-in_err-_defs-clause-fault : goal.returns-in_err-_defs-clause-fault
returns-in_err-_defs-clause-fault c =
    let lexer = c.new.result in
    let e = err_from_is_err_and c.from_residual.result c.from_residual.ensures.1 in
    let whole : IsWhole c.args.text.now lexer = record { size = ap (λ s. s.size) c.new.ensures.source; tokens = c.new.ensures.tokens } in
    let number = ap (λ s. s.file) c.new.ensures.source in
    rw (e.1, e.2) (refusal_in c.args.file c.args.text.now lexer _ whole number c.in_err-_defs.ensures.fault c.in_err-_defs.ensures.too_deep
    c.in_err-_defs.ensures.kinds)

pub returns-clause-same_definitions : goal.returns-clause-same_definitions
returns-clause-same_definitions c =
    let lexer = c.new.result in
    let defs = c.in_ok-_defs._defs.items in
    let whole : IsWhole c.args.text.now lexer = record { size = ap (λ s. s.size) c.new.ensures.source; tokens = c.new.ensures.tokens } in
    let number = ap (λ s. s.file) c.new.ensures.source in
    let spells = spells_of c.args.file c.args.text.now lexer defs whole number c.in_ok-_defs.ensures.spelt in (
      defs,
      spells,
      read_again c.args.file c.args.text.now (string_bytes c.in_ok-lay_out.field-0) defs c.in_ok-lay_out.ensures.tokens spells,
    )

pub returns-clause-accepted_again : goal.returns-clause-accepted_again
returns-clause-accepted_again c =
    let same = returns-clause-same_definitions c in
    read_is_faultless (string_bytes c.in_ok-lay_out.field-0) same.0 same.2

pub returns-clause-kept_again : goal.returns-clause-kept_again
returns-clause-kept_again c =
    let same = returns-clause-same_definitions c in
    kept_again c.args.width (string_bytes c.in_ok-lay_out.field-0) same.0 c.in_ok-lay_out.ensures.settled same.2
