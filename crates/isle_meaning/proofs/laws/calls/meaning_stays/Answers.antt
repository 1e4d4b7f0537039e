use Rattle.isle_meaning.proofs.Chains.Deeper as its
use Rattle.isle_meaning.proofs.laws.calls.meaning_stays.Goals as goal

pub returns : goal.returns
returns c = its.stays_deeper
