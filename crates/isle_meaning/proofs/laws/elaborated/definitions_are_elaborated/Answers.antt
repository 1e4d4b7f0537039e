use Rattle.isle_meaning.proofs.Matching.MadeFields as its
use Rattle.isle_meaning.proofs.laws.elaborated.definitions_are_elaborated.Goals as goal

pub returns : goal.returns
returns c = its.definitions_are_elaborated
