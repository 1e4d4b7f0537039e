use Rattle.std.proofs.Common.{rules, codes}
use Rattle.std.proofs.lemmas.Result.{IfOk-weaker}
use Rattle.clap.specs.Words.{new_app}
use Rattle.islec.specs.Commands.{IsCommand, with_required, with_version}
use Rattle.islec.proofs.CommandLemmas.{joins}
use Rattle.islec.proofs.line.command.Goals as goal

pub returns : goal.returns
returns c =
    let start : IsCommand
    (with_required (with_version (new_app (codes "islec")))) c.subcommand_required.result = record { is = search rules; local = search rules } in
    let one = joins _ _ _ _ _ start c.in_ok-run_command.ensures c.in_ok-subcommand.ensures in
    let two = joins _ _ _ _ _ one c.in_ok-check_command.ensures c.in_ok-subcommand-2.ensures in
    let three = joins _ _ _ _ _ two c.in_ok-blocks_command.ensures c.in_ok-subcommand-3.ensures in
    IfOk-weaker c.subcommand-4.result _ _ (λ new added. joins _ _ new _ _ three c.in_ok-fmt_command.ensures added) c.subcommand-4.ensures
