use Rattle.isle_run.proofs.Blocks.Runs.{runs_by_trees_say_so, runs_by_rules_say_so}
use Rattle.isle_run.proofs.laws.runs_say_so.Goals as goal

pub returns : goal.returns
returns c = record { by_trees = runs_by_trees_say_so; by_rules = runs_by_rules_say_so }
