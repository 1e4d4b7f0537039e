use Rattle.isle_blocks.proofs.Trees.Answered as its
use Rattle.isle_blocks.proofs.laws.answers_are_made_by_parts.Goals as goal

pub returns : goal.returns
returns c = its.answers_are_made_by_parts
