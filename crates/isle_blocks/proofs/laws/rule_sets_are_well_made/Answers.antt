use Rattle.isle_blocks.proofs.Trees.WellMade.{well_made}
use Rattle.isle_blocks.proofs.laws.rule_sets_are_well_made.Goals as goal

pub returns : goal.returns
returns c = well_made
