use Rattle.isle_blocks.proofs.Trees.Found.{found_place}
use Rattle.isle_blocks.proofs.laws.found_sites_are_places.Goals as goal

pub returns : goal.returns
returns c = found_place
