use Rattle.isle_syntax.proofs.Productions.OneReading.{spells_of, fault_in}
use Rattle.isle_syntax.proofs.laws.read_is_spelt.Goals as goal

pub returns-clause-spelt : goal.returns-clause-spelt
returns-clause-spelt c = spells_of

pub returns-clause-fault : goal.returns-clause-fault
returns-clause-fault c = fault_in
