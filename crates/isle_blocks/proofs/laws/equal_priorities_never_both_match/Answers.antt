use Rattle.isle_blocks.proofs.Trees.Promises.Ties as its
use Rattle.isle_blocks.proofs.laws.equal_priorities_never_both_match.Goals as goal

pub returns : goal.returns
returns c = its.equal_priorities_never_both_match
