use Rattle.isle_blocks.proofs.Trees.Defined as its
use Rattle.isle_blocks.proofs.laws.built_sets_are_runnable.Goals as goal

pub returns : goal.returns
returns c = its.built_sets_are_runnable
