use Rattle.isle_terms.proofs.Sizes.RuleSizes.{rules_fit}
use Rattle.isle_terms.proofs.laws.rules_fit_their_terms.Goals as goal

pub returns : goal.returns
returns c = rules_fit
