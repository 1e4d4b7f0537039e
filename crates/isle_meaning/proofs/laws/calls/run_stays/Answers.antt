use Rattle.isle_meaning.proofs.Calls.Staying as its
use Rattle.isle_meaning.proofs.laws.calls.run_stays.Goals as goal

pub returns : goal.returns
returns c = its.run_stays
