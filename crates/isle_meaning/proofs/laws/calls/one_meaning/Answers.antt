use Rattle.isle_meaning.proofs.Chains.One as its
use Rattle.isle_meaning.proofs.laws.calls.one_meaning.Goals as goal

pub returns : goal.returns
returns c = its.one_meaning
