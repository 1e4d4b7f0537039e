use Rattle.isle_blocks.proofs.Trees.Bags.Decided as its
use Rattle.isle_blocks.proofs.laws.matching_is_decided.Goals as goal

pub returns-clause-decided : goal.returns-clause-decided
returns-clause-decided c = its.matching_is_decided

pub returns-clause-listed : goal.returns-clause-listed
returns-clause-listed c = its.matching_rules_are_listed
