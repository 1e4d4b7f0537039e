use Rattle.isle_meaning.proofs.Chains.Elaborated as its
use Rattle.isle_meaning.proofs.laws.calls.typed_rules_call_well.Goals as goal

pub returns : goal.returns
returns c = its.typed_rules_call_well
