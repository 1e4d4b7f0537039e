use Rattle.isle_run.proofs.Chains.Compiled as its
use Rattle.isle_run.proofs.laws.premises_can_be_met.Goals as goal

pub returns : goal.returns
returns c = its.premises_can_be_met
