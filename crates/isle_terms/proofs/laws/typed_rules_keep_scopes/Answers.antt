use Rattle.isle_rules.proofs.Sound.RuleScopes.{rule_keeps_scopes}
use Rattle.isle_terms.proofs.laws.typed_rules_keep_scopes.Goals as goal

pub returns : goal.returns
returns c = rule_keeps_scopes
