use Rattle.std.proofs.Common.{◌≡◌, true}
use Rattle.isle_meaning.proofs.Calls.Beginnings.{plain_begins, pure_begins_empty}
use Rattle.isle_meaning.proofs.laws.calls.plain_runs_begin_so.Goals as goal

pub returns-clause-so : goal.returns-clause-so
returns-clause-so c = plain_begins

pub returns-clause-pure : goal.returns-clause-pure
returns-clause-pure c = λ p w runs sound n t args made may pure. pure_begins_empty p w (λ t. runs t ≡ true) sound n t args made pure may
