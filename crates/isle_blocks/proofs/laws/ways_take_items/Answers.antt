use Rattle.isle_blocks.proofs.Trees.Bags.Ways as its
use Rattle.isle_blocks.proofs.laws.ways_take_items.Goals as goal

pub returns : goal.returns
returns c = its.ways_take_items
