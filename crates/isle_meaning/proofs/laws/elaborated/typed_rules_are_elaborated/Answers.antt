use Rattle.isle_meaning.proofs.Matching.Bridging as its
use Rattle.isle_meaning.proofs.laws.elaborated.typed_rules_are_elaborated.Goals as goal

pub returns : goal.returns
returns c = its.typed_rules_are_elaborated
