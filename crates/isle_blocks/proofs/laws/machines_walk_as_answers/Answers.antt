use Rattle.isle_blocks.proofs.Trees.Chosen.{machine_walks}
use Rattle.isle_blocks.proofs.laws.machines_walk_as_answers.Goals as goal

pub returns : goal.returns
returns c = machine_walks
