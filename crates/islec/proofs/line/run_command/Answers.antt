use Rattle.std.proofs.Common.{codes}
use Rattle.std.proofs.lemmas.Result.{IfOk-weaker}
use Rattle.clap.specs.Words.{new_app}
use Rattle.islec.specs.Commands.{IsCommand}
use Rattle.islec.proofs.CommandLemmas.{adds}
use Rattle.islec.proofs.line.run_command.Goals as goal

pub returns : goal.returns
returns c =
    let start : IsCommand (new_app (codes "run")) c.started.result = c.started.ensures in
    let one = adds _ _ _ _ _ start c.world.ensures c.in_ok-arg.ensures in
    let two = adds _ _ _ _ _ one c.depth.ensures c.in_ok-arg-2.ensures in
    let three = adds _ _ _ _ _ two c.plain.ensures c.in_ok-arg-3.ensures in
    let four = adds _ _ _ _ _ three c.steps.ensures c.in_ok-arg-4.ensures in
    let five = adds _ _ _ _ _ four c.trace.ensures c.in_ok-arg-5.ensures in
    let six = adds _ _ _ _ _ five c.coverage.ensures c.in_ok-arg-6.ensures in
    let seven = adds _ _ _ _ _ six c.unanswered.ensures c.in_ok-arg-7.ensures in
    let eight = adds _ _ _ _ _ seven c.explain.ensures c.in_ok-arg-8.ensures in
    IfOk-weaker c.arg-9.result _ _ (λ new added. adds _ new _ _ _ eight c.rule_files.ensures added) c.arg-9.ensures
