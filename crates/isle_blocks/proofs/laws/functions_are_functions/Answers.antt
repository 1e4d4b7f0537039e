use Rattle.isle_blocks.proofs.Trees.Bags.Functional as its
use Rattle.isle_blocks.proofs.laws.functions_are_functions.Goals as goal

pub returns : goal.returns
returns c = its.functions_are_functions
