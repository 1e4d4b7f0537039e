use Rattle.isle_meaning.proofs.Chains.Always as its
use Rattle.isle_meaning.proofs.laws.calls.completions_extend.Goals as goal

pub returns : goal.returns
returns c = its.completions_extend
