use Rattle.isle_blocks.proofs.Trees.Bags.AtPlaces as its
use Rattle.isle_blocks.proofs.laws.sites_hold_their_values.Goals as goal

pub returns : goal.returns
returns c = its.sites_hold_their_values
