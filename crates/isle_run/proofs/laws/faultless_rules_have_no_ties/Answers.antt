use Rattle.isle_run.proofs.Chains.Compiled as its
use Rattle.isle_run.proofs.laws.faultless_rules_have_no_ties.Goals as goal

pub returns : goal.returns
returns c = its.faultless_rules_have_no_ties
