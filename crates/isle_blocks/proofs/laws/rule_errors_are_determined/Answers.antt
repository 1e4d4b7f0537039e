use Rattle.isle_blocks.proofs.RuleFaults.OneReport as report
use Rattle.isle_blocks.proofs.laws.rule_errors_are_determined.Goals as goal

pub returns : goal.returns
returns c = report.rule_errors_are_determined
