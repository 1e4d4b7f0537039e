use Rattle.isle_rules.proofs.Sound.RuleTypes.{rule_typed}
use Rattle.isle_terms.proofs.laws.typed_rules_are_typed.Goals as goal

pub returns : goal.returns
returns c = rule_typed
