use Rattle.isle_terms.proofs.Sizes.RuleSizes.{rules_small}
use Rattle.isle_terms.proofs.laws.rules_of_definitions_keep_sizes.Goals as goal

pub returns : goal.returns
returns c = rules_small
