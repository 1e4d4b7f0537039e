use Rattle.isle_meaning.proofs.Chains.Always as its
use Rattle.isle_meaning.proofs.laws.calls.meanings_are_typed.Goals as goal

pub returns : goal.returns
returns c = its.meanings_are_typed
