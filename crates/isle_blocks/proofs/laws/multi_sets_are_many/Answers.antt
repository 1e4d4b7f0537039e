use Rattle.isle_blocks.proofs.Trees.Bags.Many as its
use Rattle.isle_blocks.proofs.laws.multi_sets_are_many.Goals as goal

pub returns : goal.returns
returns c = its.is_many
