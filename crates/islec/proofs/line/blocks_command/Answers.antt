use Rattle.std.proofs.Common.{rules, codes}
use Rattle.std.proofs.lemmas.Result.{IfOk-weaker}
use Rattle.clap.specs.Words.{new_app}
use Rattle.islec.specs.Commands.{IsArgument, IsCommand, dot, term}
use Rattle.islec.proofs.CommandLemmas.{adds}
use Rattle.islec.proofs.line.blocks_command.Goals as goal

pub returns : goal.returns
returns c =
    let term_is : IsArgument term c.action-term.result = record { is = search rules; local = search rules } in
    let dot_is : IsArgument dot c.action-dot.result = record { is = search rules; local = search rules } in
    let start : IsCommand (new_app (codes "blocks")) c.about.result = record { is = search rules; local = search rules } in
    let one = adds _ _ _ _ _ start term_is c.in_ok-arg.ensures in
    let two = adds _ _ _ _ _ one dot_is c.in_ok-arg-2.ensures in
    IfOk-weaker c.arg-3.result _ _ (λ new added. adds _ new _ _ _ two c.rule_files.ensures added) c.arg-3.ensures
