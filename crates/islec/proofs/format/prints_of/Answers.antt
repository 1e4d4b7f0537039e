use Rattle.std.proofs.Common.{◌≡◌, ◌<◌, ◌≤◌, ◌∙◌, ap, length, map, string_bytes, String, List, arith}
use Rattle.std.specs.Global.{Global}
use Rattle.std.proofs.lemmas.Result.{err_from_is_err_and}
use Rattle.islec.proofs.PrintsLemmas.{prints_all, prints_fault, prints_pushed, strings_pushed}
use Rattle.islec.proofs.format.prints_of.Goals as goal

pub loop-file-preserved : goal.loop-file-preserved
loop-file-preserved c =
    let within : c.loop-file.file < length c.args.files.now = grind arith in
    prints_pushed c.args.printing.keep c.args.printing.width c.loop-file.file c.args.files.now _ _ _ within c.loop-file.invariant
    c.in_ok-print.ensures.text
    (ap (λ (l : List (String Global)). map string_bytes l) c.in_ok-push.ensures.items ∙ strings_pushed c.loop-file.prints.items c.in_ok-print.print)

pub returns-in_err-print-clause-fault : goal.returns-in_err-print-clause-fault
returns-in_err-print-clause-fault c =
    let within : c.loop-file.file < length c.args.files.now = grind arith in
    let e = err_from_is_err_and c.from_residual.result c.from_residual.ensures.1 in
    rw (e.1, e.2) (prints_fault c.args.printing.keep c.args.printing.width c.loop-file.file c.args.files.now _ c.in_err-print.field-0.0 within
    c.loop-file.invariant c.in_err-print.ensures.fault)

pub returns-clause-prints : goal.returns-clause-prints
returns-clause-prints c =
    let most : length c.args.files.now ≤ c.loop-file.file = grind arith in
    prints_all c.args.printing.keep c.args.printing.width c.loop-file.file c.args.files.now _ most c.loop-file.invariant
