use Rattle.isle_meaning.proofs.Matching.Bridging as its
use Rattle.isle_meaning.proofs.laws.matching.elaborated_rules_fit.Goals as goal

pub returns : goal.returns
returns c = its.elaborated_rules_fit
