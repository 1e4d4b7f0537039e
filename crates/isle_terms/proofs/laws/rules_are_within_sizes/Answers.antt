use Rattle.isle_terms.proofs.Sizes.ShownSizes.{rules_sized}
use Rattle.isle_terms.proofs.laws.rules_are_within_sizes.Goals as goal

pub returns : goal.returns
returns c = rules_sized
