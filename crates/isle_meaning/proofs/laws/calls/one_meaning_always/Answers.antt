use Rattle.isle_meaning.proofs.Chains.Always as its
use Rattle.isle_meaning.proofs.laws.calls.one_meaning_always.Goals as goal

pub returns : goal.returns
returns c = its.one_meaning_always
