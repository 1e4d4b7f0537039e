use Rattle.std.proofs.Common.{ap, ◌∙◌, string_bytes}
use Rattle.std.proofs.lemmas.Result.{err_from_is_err_and}
use Rattle.std.proofs.lemmas.Str.{IsUtf8-string_bytes}
use Rattle.isle_syntax.specs.Grammar.Verdict.{IsWhole}
use Rattle.isle_layout.specs.Prints.{print_of}
use Rattle.isle_syntax.proofs.Productions.OneReading.{spells_of, refusal_in}
use Rattle.isle_layout.proofs.ReadsBack.Formatted.{never_refused, formatted_settles, settled_is_faultless}
use Rattle.isle_layout.proofs.format.format.Goals as goal

pub unreachable-requires : goal.unreachable-requires
unreachable-requires c =
    never_refused c.in-Err-Fault.field-0 c.in-Err-Fault.field-0-0 c.as_slice.result.now c.in_ok-defs.defs.items c.in-Err-Fault.field-0-is
    c.as_slice.ensures.value c.in_ok-defs.ensures.no_macro_args
    c.in-Err-Fault.ensures.fault

pub returns-in_err-defs-clause-fault : goal.returns-in_err-defs-clause-fault
returns-in_err-defs-clause-fault c =
    let lexer = c.new.result in
    let e = err_from_is_err_and c.from_residual.result c.from_residual.ensures.1 in
    let whole : IsWhole c.args.text.now lexer = record { size = ap (λ s. s.size) c.new.ensures.source; tokens = c.new.ensures.tokens } in
    let number = ap (λ s. s.file) c.new.ensures.source in
    rw (e.1, e.2) (refusal_in c.args.file c.args.text.now lexer _ whole number c.in_err-defs.ensures.fault c.in_err-defs.ensures.too_deep
    c.in_err-defs.ensures.kinds)

pub returns-in-Ok-clause-text : goal.returns-in-Ok-clause-text
returns-in-Ok-clause-text c =
    let lexer = c.new.result in
    let defs = c.in_ok-defs.defs.items in
    let whole : IsWhole c.args.text.now lexer = record { size = ap (λ s. s.size) c.new.ensures.source; tokens = c.new.ensures.tokens } in
    let number = ap (λ s. s.file) c.new.ensures.source in (
      defs,
      spells_of c.args.file c.args.text.now lexer defs whole number c.in_ok-defs.ensures.spelt,
      c.in-Ok.ensures.text ∙ ap (print_of c.args.width) c.as_slice.ensures.value,
    )

pub returns-in-Ok-clause-settled : goal.returns-in-Ok-clause-settled
returns-in-Ok-clause-settled c =
    formatted_settles c.args.file c.args.width c.args.text.now (string_bytes c.in-Ok.text) (IsUtf8-string_bytes c.in-Ok.text)
    (returns-in-Ok-clause-text c)

pub returns-in-Ok-clause-accepted_again : goal.returns-in-Ok-clause-accepted_again
returns-in-Ok-clause-accepted_again c =
    settled_is_faultless c.args.width (string_bytes c.in-Ok.text) (returns-in-Ok-clause-settled c)
