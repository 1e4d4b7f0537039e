use Rattle.isle_blocks.proofs.Trees.Listed.{uses_no_multi}
use Rattle.isle_blocks.proofs.laws.rule_sets_use_no_multi_call.Goals as goal

pub returns : goal.returns
returns c = uses_no_multi
