use Rattle.isle_run.proofs.Covering.Covered as its
use Rattle.isle_run.proofs.laws.missed_calls_are_not_answered.Goals as goal

pub returns : goal.returns
returns c = record { by_trees = its.missed_calls_are_not_answered_by_trees; by_rules = its.missed_calls_are_not_answered_by_rules }
