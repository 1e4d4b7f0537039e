use Rattle.isle_rules.proofs.Sound.RuleScopes.{rules_keep_scopes}
use Rattle.isle_terms.proofs.laws.rules_of_definitions_keep_scopes.Goals as goal

pub returns : goal.returns
returns c = rules_keep_scopes
