use Rattle.isle_meaning.proofs.Chains.Joined as its
use Rattle.isle_meaning.proofs.laws.calls.end_stays.Goals as goal

pub returns : goal.returns
returns c = its.end_stays
