use Rattle.isle_blocks.proofs.Trees.Bags.MatchedByNumbers as its
use Rattle.isle_blocks.proofs.laws.rules_match_by_numbers.Goals as goal

pub returns : goal.returns
returns c = its.rules_match_by_numbers
