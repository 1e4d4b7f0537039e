use Rattle.isle_meaning.proofs.Calls.One as its
use Rattle.isle_meaning.proofs.laws.calls.plain_runs_are_one.Goals as goal

pub returns : goal.returns
returns c = its.plain_runs_are_one
