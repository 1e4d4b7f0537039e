use Rattle.isle_blocks.proofs.Trees.Chosen.{walks_choose}
use Rattle.isle_blocks.proofs.laws.walks_choose_as_typed.Goals as goal

pub returns : goal.returns
returns c = walks_choose
