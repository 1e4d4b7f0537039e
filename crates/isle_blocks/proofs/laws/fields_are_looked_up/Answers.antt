use Rattle.isle_blocks.proofs.Trees.Found.{fields_found}
use Rattle.isle_blocks.proofs.laws.fields_are_looked_up.Goals as goal

pub returns : goal.returns
returns c = fields_found
