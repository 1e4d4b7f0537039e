use Rattle.isle_meaning.proofs.Chains.Ends as its
use Rattle.isle_meaning.proofs.laws.calls.ends_are_asked.Goals as goal

pub returns : goal.returns
returns c = its.ends_are_asked
