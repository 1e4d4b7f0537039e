use Rattle.isle_meaning.proofs.Machine.Beginnings as its
use Rattle.isle_meaning.proofs.laws.machine.machine_runs_begin_so.Goals as goal

pub returns-clause-so : goal.returns-clause-so
returns-clause-so g c = its.machine_begins

pub returns-clause-stops : goal.returns-clause-stops
returns-clause-stops g c = its.machine_stops

pub returns-clause-pure : goal.returns-clause-pure
returns-clause-pure g c = its.pure_machine_runs_are_silent
