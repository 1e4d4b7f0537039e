use Rattle.isle_blocks.proofs.RuleFaults.SharedPairs.{reports_list_each_once}
use Rattle.isle_blocks.proofs.laws.reports_list_each_once.Goals as goal

pub returns : goal.returns
returns c = reports_list_each_once
