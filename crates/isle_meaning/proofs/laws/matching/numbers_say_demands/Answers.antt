use Rattle.isle_meaning.proofs.Matching.Numbering as its
use Rattle.isle_meaning.proofs.laws.matching.numbers_say_demands.Goals as goal

pub returns : goal.returns
returns c = its.numbers_say_demands
