use Rattle.isle_meaning.proofs.Matching.MadeFields as its
use Rattle.isle_meaning.proofs.laws.matching.rules_of_definitions_fit.Goals as goal

pub returns : goal.returns
returns c = its.rules_of_definitions_fit
