use Rattle.isle_rules.proofs.Sound.RuleTypes.{rules_typed}
use Rattle.isle_terms.proofs.laws.rules_of_definitions_are_typed.Goals as goal

pub returns : goal.returns
returns c = rules_typed
