use Rattle.std.proofs.lemmas.Result.{err_from_is_err_and}
use Rattle.isle_terms.proofs.PlainTemplates.{plain_templates}
use Rattle.isle_program.proofs.Compiling.Layers.{text_faults, type_faults, term_faults}
use Rattle.isle_program.proofs.compiler.definitions_of.Goals as goal

pub returns-in_err-parsed-clause-faults : goal.returns-in_err-parsed-clause-faults
returns-in_err-parsed-clause-faults c =
    let p = err_from_is_err_and c.from_residual.result c.from_residual.ensures.1 in
    rw (p.1, p.2) (text_faults c.args.files.now c.in_err-parsed.field-0.0 c.in_err-parsed.ensures.fault)

pub returns-in_err-tyenv-clause-faults : goal.returns-in_err-tyenv-clause-faults
returns-in_err-tyenv-clause-faults c =
    let p = err_from_is_err_and c.from_residual-in_err-tyenv.result c.from_residual-in_err-tyenv.ensures.1 in
    rw (p.1, p.2) (type_faults c.args.files.now c.as_slice-defs.result.now c.in_err-tyenv.field-0.0
    (rw c.as_slice-defs.ensures.value c.in_ok-parsed.ensures.spelt) c.in_err-tyenv.ensures.faults c.in_err-tyenv.ensures.refused)

pub from_ast-requires : goal.from_ast-requires
from_ast-requires c = record {
  environment = c.in_ok-tyenv.ensures.made;
  plain = plain_templates c.as_slice-defs.result.now (rw c.as_slice-defs.ensures.value c.in_ok-parsed.ensures.no_macro_args);
}

pub returns-in_err-termenv-clause-faults : goal.returns-in_err-termenv-clause-faults
returns-in_err-termenv-clause-faults c =
    let p = err_from_is_err_and c.from_residual-in_err-termenv.result c.from_residual-in_err-termenv.ensures.1 in
    let made = c.in_ok-tyenv.ensures.made in
    rw (p.1, p.2) (term_faults c.args.files.now c.as_slice-defs.result.now made.environment c.in_err-termenv.field-0.0
    (rw c.as_slice-defs.ensures.value c.in_ok-parsed.ensures.spelt) made.makes c.in_ok-tyenv.ensures.within
    (c.in_err-termenv.ensures.faults made.environment made.shows) (c.in_err-termenv.ensures.refused made.environment made.shows))

pub returns-in_err-termenv-clause-printable : goal.returns-in_err-termenv-clause-printable
returns-in_err-termenv-clause-printable c =
    let p = err_from_is_err_and c.from_residual-in_err-termenv.result c.from_residual-in_err-termenv.ensures.1 in
    rw (p.1, p.2)
    (c.in_err-termenv.ensures.printable c.args.files.now
    (rw c.as_slice-defs.ensures.value c.in_ok-parsed.ensures.placed))

pub returns-clause-shown : goal.returns-clause-shown
returns-clause-shown c =
    let made = c.in_ok-tyenv.ensures.made in
    record {
      defs = c.as_slice-defs.result.now;
      types = made.environment;
      spelt = rw c.as_slice-defs.ensures.value c.in_ok-parsed.ensures.spelt;
      made = made.makes;
      within = c.in_ok-tyenv.ensures.within;
      once = c.syms-names.ensures.once;
      terms = c.in_ok-termenv.ensures.made made.environment made.shows;
      expands = c.in_ok-termenv.ensures.expands;
    }

pub returns-clause-placed : goal.returns-clause-placed
returns-clause-placed c =
    c.in_ok-termenv.ensures.placed c.args.files.now (rw c.as_slice-defs.ensures.value c.in_ok-parsed.ensures.placed)
