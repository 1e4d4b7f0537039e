use Rattle.isle_rules.proofs.OneTermEnvironment.{one_term_environment}
use Rattle.isle_terms.proofs.laws.definitions_make_one_environment.Goals as goal

pub returns : goal.returns
returns c = one_term_environment
