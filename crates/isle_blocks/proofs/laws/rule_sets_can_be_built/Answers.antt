use Rattle.isle_blocks.proofs.Trees.Buildable.{is_buildable, each_can_be_built}
use Rattle.isle_blocks.proofs.laws.rule_sets_can_be_built.Goals as goal

pub returns-clause-sets : goal.returns-clause-sets
returns-clause-sets c = is_buildable

pub returns-clause-checked : goal.returns-clause-checked
returns-clause-checked c = each_can_be_built
