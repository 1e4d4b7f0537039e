use Rattle.isle_terms.proofs.Sizes.TypedSizes.{rule_small}
use Rattle.isle_terms.proofs.laws.typed_rules_keep_sizes.Goals as goal

pub returns : goal.returns
returns c = rule_small
