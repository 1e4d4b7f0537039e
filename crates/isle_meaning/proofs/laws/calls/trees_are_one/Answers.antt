use Rattle.isle_meaning.proofs.Chains.Trees as its
use Rattle.isle_meaning.proofs.laws.calls.trees_are_one.Goals as goal

pub returns : goal.returns
returns c = its.one_tree
