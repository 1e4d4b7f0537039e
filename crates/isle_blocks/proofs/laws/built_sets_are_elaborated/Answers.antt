use Rattle.isle_blocks.proofs.Trees.Bags.DefinedMany as its
use Rattle.isle_blocks.proofs.laws.built_sets_are_elaborated.Goals as goal

pub returns-clause-sets : goal.returns-clause-sets
returns-clause-sets c = its.built_sets_are_elaborated

pub returns-clause-multi : goal.returns-clause-multi
returns-clause-multi c = its.built_multi_terms
