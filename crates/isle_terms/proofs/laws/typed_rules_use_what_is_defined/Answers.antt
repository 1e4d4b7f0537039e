use Rattle.isle_rules.proofs.Visiting.SoundRules.{typed_rule_sound}
use Rattle.isle_terms.proofs.laws.typed_rules_use_what_is_defined.Goals as goal

pub returns : goal.returns
returns g c = λ finds tyenv env declared levels max tree typed made shows elaborates shown.
    typed_rule_sound g.V.RuleVisitor.rule_steps g.V.PatternVisitor.PatternVisitor.pattern_step g.V.ExprVisitor.ExprVisitor.expr_step finds
    tyenv env declared levels max tree typed typed.name made shows elaborates shown
