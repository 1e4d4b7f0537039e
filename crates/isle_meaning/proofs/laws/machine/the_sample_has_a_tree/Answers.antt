use Rattle.isle_meaning.proofs.Machine.Sample as its
use Rattle.isle_meaning.proofs.laws.machine.the_sample_has_a_tree.Goals as goal

pub returns-clause-sound : goal.returns-clause-sound
returns-clause-sound c = its.the_sample_is_sound

pub returns-clause-tree : goal.returns-clause-tree
returns-clause-tree c = its.the_sample_meets_the_premises

pub returns-clause-runs : goal.returns-clause-runs
returns-clause-runs c = its.the_sample_is_run

pub returns-clause-fails : goal.returns-clause-fails
returns-clause-fails c = its.the_sample_fails
