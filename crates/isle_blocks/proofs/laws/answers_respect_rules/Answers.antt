use Rattle.isle_blocks.proofs.Trees.Respected.{respects}
use Rattle.isle_blocks.proofs.laws.answers_respect_rules.Goals as goal

pub returns : goal.returns
returns c = respects
