use Rattle.std.proofs.lemmas.Result.{err_from_is_err_and}
use Rattle.isle_types.proofs.env.TypeEnv.from_ast.Goals as goal

pub returns-in_err-read-clause-faults : goal.returns-in_err-read-clause-faults
returns-in_err-read-clause-faults c =
    let e = err_from_is_err_and c.from_residual-in_err-read.result c.from_residual-in_err-read.ensures.1 in
    rw (e.1, e.2) (c.in_err-read.ensures.faults)

pub returns-in_err-read-clause-refused : goal.returns-in_err-read-clause-refused
returns-in_err-read-clause-refused c =
    let e = err_from_is_err_and c.from_residual-in_err-read.result c.from_residual-in_err-read.ensures.1 in
    rw (e.1, e.2) (c.in_err-read.ensures.refused)

pub returns-in_err-read-clause-printable : goal.returns-in_err-read-clause-printable
returns-in_err-read-clause-printable c = λ files placed.
    let e = err_from_is_err_and c.from_residual-in_err-read.result c.from_residual-in_err-read.ensures.1 in
    rw (e.1, e.2) (c.in_err-read.ensures.printable files placed)
