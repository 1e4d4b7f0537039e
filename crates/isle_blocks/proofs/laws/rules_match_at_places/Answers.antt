use Rattle.isle_blocks.proofs.Trees.Bags.AtPlaces as its
use Rattle.isle_blocks.proofs.laws.rules_match_at_places.Goals as goal

pub returns : goal.returns
returns c = its.rules_match_at_places
