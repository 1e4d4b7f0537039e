use Rattle.std.proofs.Common.{rules, codes}
use Rattle.std.proofs.lemmas.Result.{IfOk-weaker}
use Rattle.clap.specs.Words.{new_app}
use Rattle.islec.specs.Commands.{IsCommand}
use Rattle.islec.proofs.CommandLemmas.{adds}
use Rattle.islec.proofs.line.check_command.Goals as goal

pub returns : goal.returns
returns c =
    let start : IsCommand (new_app (codes "check")) c.about.result = record { is = search rules; local = search rules } in
    let one = adds _ _ _ _ _ start c.terms.ensures c.in_ok-arg.ensures in
    let two = adds _ _ _ _ _ one c.warn.ensures c.in_ok-arg-2.ensures in
    let three = adds _ _ _ _ _ two c.explain.ensures c.in_ok-arg-3.ensures in
    let four = adds _ _ _ _ _ three c.missing.ensures c.in_ok-arg-4.ensures in
    let five = adds _ _ _ _ _ four c.partial.ensures c.in_ok-arg-5.ensures in
    let six = adds _ _ _ _ _ five c.steps_at_most.ensures c.in_ok-arg-6.ensures in
    IfOk-weaker c.arg-7.result _ _ (λ new added. adds _ new _ _ _ six c.rule_files.ensures added) c.arg-7.ensures
