use Rattle.isle_blocks.proofs.Trees.Chosen.{rules_match}
use Rattle.isle_blocks.proofs.laws.rules_match_as_typed.Goals as goal

pub returns : goal.returns
returns c = rules_match
