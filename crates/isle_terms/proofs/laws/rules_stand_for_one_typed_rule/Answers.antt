use Rattle.isle_rules.proofs.RuleLaws.{one_rule}
use Rattle.isle_terms.proofs.laws.rules_stand_for_one_typed_rule.Goals as goal

pub returns : goal.returns
returns c = one_rule
