use Rattle.isle_blocks.proofs.Trees.Defined as its
use Rattle.isle_blocks.proofs.laws.definitions_have_priorities.Goals as goal

pub returns : goal.returns
returns c = its.definitions_have_priorities
