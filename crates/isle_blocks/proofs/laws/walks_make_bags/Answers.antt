use Rattle.isle_blocks.proofs.Trees.Bags.Functional as its
use Rattle.isle_blocks.proofs.laws.walks_make_bags.Goals as goal

pub returns : goal.returns
returns c = its.walks_make_bags
