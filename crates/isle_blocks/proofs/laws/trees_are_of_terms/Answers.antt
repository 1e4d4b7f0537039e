use Rattle.isle_blocks.proofs.Trees.TermTrees.Whole as its
use Rattle.isle_blocks.proofs.laws.trees_are_of_terms.Goals as goal

pub returns : goal.returns
returns c = its.trees_are_of_terms
