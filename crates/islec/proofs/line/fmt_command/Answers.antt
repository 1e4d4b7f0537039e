use Rattle.std.proofs.Common.{rules, codes}
use Rattle.std.proofs.lemmas.Result.{IfOk-weaker}
use Rattle.clap.specs.Words.{new_app}
use Rattle.islec.specs.Commands.{IsCommand}
use Rattle.islec.proofs.CommandLemmas.{adds}
use Rattle.islec.proofs.line.fmt_command.Goals as goal

pub returns : goal.returns
returns c =
    let start : IsCommand (new_app (codes "fmt")) c.about.result = record { is = search rules; local = search rules } in
    let one = adds _ _ _ _ _ start c.width.ensures c.in_ok-arg.ensures in
    let two = adds _ _ _ _ _ one c.keep.ensures c.in_ok-arg-2.ensures in
    let three = adds _ _ _ _ _ two c.check_layout.ensures c.in_ok-arg-3.ensures in
    let four = adds _ _ _ _ _ three c.diff.ensures c.in_ok-arg-4.ensures in
    let five = adds _ _ _ _ _ four c.write.ensures c.in_ok-arg-5.ensures in
    IfOk-weaker c.arg-6.result _ _ (λ new added. adds _ new _ _ _ five c.rule_files.ensures added) c.arg-6.ensures
