use Rattle.isle_meaning.proofs.Matching.Whole as its
use Rattle.isle_meaning.proofs.laws.matching.unreachable_is_dead.Goals as goal

pub returns : goal.returns
returns c = its.unreachable_is_dead
