use Rattle.isle_blocks.proofs.Trees.Answered as its
use Rattle.isle_blocks.proofs.laws.open_sites_are_calls.Goals as goal

pub returns : goal.returns
returns c = its.open_sites_are_calls
