use Rattle.isle_run.proofs.Covering.Covered as its
use Rattle.isle_run.proofs.laws.covered_calls_are_never_stuck.Goals as goal

pub returns : goal.returns
returns c = record { by_trees = its.covered_calls_are_never_stuck_by_trees; by_rules = its.covered_calls_are_never_stuck_by_rules }
