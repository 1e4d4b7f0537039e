use Rattle.isle_blocks.proofs.Trees.Listed.{are_listed}
use Rattle.isle_blocks.proofs.laws.rule_sets_are_listed.Goals as goal

pub returns : goal.returns
returns c = are_listed
