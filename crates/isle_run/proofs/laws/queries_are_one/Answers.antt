use Rattle.isle_values.proofs.GroundValues.QueryTexts.{one_call, no_call, one_fault}
use Rattle.isle_run.proofs.laws.queries_are_one.Goals as goal

pub returns : goal.returns
returns c = record { call = one_call; refused = no_call; fault = one_fault }
