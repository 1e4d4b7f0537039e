use Rattle.isle_blocks.proofs.EqualSites.{binding-decides}
use Rattle.isle_blocks.proofs.laws.equal_bindings_are_one.Goals as goal

pub returns : goal.returns
returns c = binding-decides
