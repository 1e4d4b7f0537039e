use Rattle.isle_meaning.proofs.Calls.Spending as its
use Rattle.isle_meaning.proofs.laws.calls.no_cycles_none_spent.Goals as goal

pub returns : goal.returns
returns c = its.no_cycles_none_spent
