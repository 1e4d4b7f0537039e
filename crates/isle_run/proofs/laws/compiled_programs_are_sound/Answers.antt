use Rattle.isle_run.proofs.Chains.Sound as its
use Rattle.isle_run.proofs.laws.compiled_programs_are_sound.Goals as goal

pub returns : goal.returns
returns c = its.compiled_programs_are_sound
