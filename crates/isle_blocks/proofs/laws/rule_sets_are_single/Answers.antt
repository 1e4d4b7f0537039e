use Rattle.isle_blocks.proofs.Trees.Effects.{is_single}
use Rattle.isle_blocks.proofs.laws.rule_sets_are_single.Goals as goal

pub returns : goal.returns
returns c = is_single
