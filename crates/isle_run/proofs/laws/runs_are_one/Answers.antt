use Rattle.isle_run.proofs.Blocks.Runs.{runs_by_trees_are_one, deeper_runs_by_trees_are_one, runs_by_rules_are_one, deeper_runs_by_rules_are_one}
use Rattle.isle_run.proofs.laws.runs_are_one.Goals as goal

pub returns : goal.returns
returns c = record {
  by_trees = runs_by_trees_are_one;
  by_rules = runs_by_rules_are_one;
  by_trees_deeper = deeper_runs_by_trees_are_one;
  by_rules_deeper = deeper_runs_by_rules_are_one;
}
