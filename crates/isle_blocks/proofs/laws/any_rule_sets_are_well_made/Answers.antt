use Rattle.isle_blocks.proofs.Trees.Elaborated as its
use Rattle.isle_blocks.proofs.laws.any_rule_sets_are_well_made.Goals as goal

pub returns-clause-made : goal.returns-clause-made
returns-clause-made c = its.well_made

pub returns-clause-listed : goal.returns-clause-listed
returns-clause-listed c = its.are_listed
