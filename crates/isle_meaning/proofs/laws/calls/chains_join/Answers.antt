use Rattle.isle_meaning.proofs.Chains.Joined as its
use Rattle.isle_meaning.proofs.laws.calls.chains_join.Goals as goal

pub returns : goal.returns
returns c = its.chains_join
