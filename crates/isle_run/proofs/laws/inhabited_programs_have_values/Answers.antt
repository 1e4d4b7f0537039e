use Rattle.isle_run.proofs.Chains.Inhabiting as its
use Rattle.isle_run.proofs.laws.inhabited_programs_have_values.Goals as goal

pub returns : goal.returns
returns c = its.inhabited_programs_have_values
