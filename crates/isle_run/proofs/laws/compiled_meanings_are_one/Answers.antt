use Rattle.isle_run.proofs.Chains.Compiled as its
use Rattle.isle_run.proofs.laws.compiled_meanings_are_one.Goals as goal

pub returns : goal.returns
returns c = its.compiled_meanings_are_one
