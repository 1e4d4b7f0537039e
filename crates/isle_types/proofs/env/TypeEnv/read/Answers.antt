use Rattle.std.proofs.Common.{◌≡◌, inl, inr, [], ap, sym, ◌∙◌}
use Rattle.isle_types.specs.TypeTables.{TypeTables}
use Rattle.isle_types.proofs.FaultLists.{faults_same}
use Rattle.isle_types.proofs.ShownTypes.{shows_cleared}
use Rattle.isle_types.proofs.Reading.{read_environment, no_items, some_items}
use Rattle.std.proofs.lemmas.Result.{err_from_is_err_and}
use Rattle.isle_types.proofs.ReportedFaults.{reported_then}
use Rattle.isle_types.proofs.Refusals.{refused_makes_none}
use Rattle.isle_types.proofs.TypePositions.{faults_printable, made_placed}
use Rattle.isle_types.proofs.env.TypeEnv.read.Goals as goal

pub returns-then-not-is_empty-clause-faults : goal.returns-then-not-is_empty-clause-faults
returns-then-not-is_empty-clause-faults c =
    let errors = c.take_errors-errors.result in
    inr (
      faults_same c.args.defs.now c.collect_constants.new.self.errors errors.items c.take_errors-errors.ensures.taken
          c.in_ok-collect_constants.ensures.faults,
      some_items errors c.is_empty.result c.is_empty.ensures c.if-not-is_empty.true,
    )

pub returns-clause-made : goal.returns-clause-made
returns-clause-made c =
    let errors = c.take_errors-errors.result in
    let clean : c.collect_constants.new.self.errors ≡ [] = sym c.take_errors-errors.ensures.taken
    ∙ no_items errors c.is_empty.result c.is_empty.ensures c.if-not-is_empty.false in
    let constants = c.in_ok-collect_constants.ensures.read clean in
    let types = c.in_ok-collect_types.ensures.read constants.0 in
    let once = c.in_ok-collect_names.ensures.once types.0 in
    let read = read_environment c.args.defs.now c.collect_types.new.self c.collect_constants.new.self once c.collect_types.ensures.named types.1
    constants.1 c.collect_constants.ensures.kept c.collect_constants.ensures.same in
    record {
      environment = read.0;
      makes = read.1.0;
      shows = shows_cleared c.collect_constants.new.self c.take_errors-errors.new.self read.0 c.take_errors-errors.ensures.none_left read.1.1;
      once = c.take_errors-errors.ensures.once;
    }

pub returns-then-not-is_empty-clause-refused : goal.returns-then-not-is_empty-clause-refused
returns-then-not-is_empty-clause-refused c = λ have.
    refused_makes_none c.args.defs.now c.take_errors-errors.result.items (returns-then-not-is_empty-clause-faults c) have.0 have.1.0 have.1.1

pub returns-then-not-is_empty-clause-printable : goal.returns-then-not-is_empty-clause-printable
returns-then-not-is_empty-clause-printable c = λ files placed.
    faults_printable files c.args.defs.now c.take_errors-errors.result.items placed (returns-then-not-is_empty-clause-faults c)

pub returns-in_err-collect_types-clause-refused : goal.returns-in_err-collect_types-clause-refused
returns-in_err-collect_types-clause-refused c =
    let e = err_from_is_err_and c.from_residual-in_err-collect_types.result c.from_residual-in_err-collect_types.ensures.1 in
    rw (e.1, e.2) (reported_then c.in_err-collect_types.field-0.0 _ _
    (λ errors alone have. refused_makes_none c.args.defs.now errors.items
    (inl alone) have.0 have.1.0 have.1.1) c.in_err-collect_types.ensures.too_large)

pub returns-in_err-collect_types-clause-printable : goal.returns-in_err-collect_types-clause-printable
returns-in_err-collect_types-clause-printable c = λ files placed.
    let e = err_from_is_err_and c.from_residual-in_err-collect_types.result c.from_residual-in_err-collect_types.ensures.1 in
    rw (e.1, e.2) (reported_then c.in_err-collect_types.field-0.0 _ _
    (λ errors alone. faults_printable files c.args.defs.now errors.items placed (inl alone)) c.in_err-collect_types.ensures.too_large)

pub returns-clause-placed : goal.returns-clause-placed
returns-clause-placed c = λ files placed.
    let made = returns-clause-made c in
    made_placed files c.args.defs.now c.take_errors-errors.new.self made.environment placed made.makes made.shows
    (ap (λ (tables : TypeTables). tables.errors) c.take_errors-errors.ensures.none_left)
