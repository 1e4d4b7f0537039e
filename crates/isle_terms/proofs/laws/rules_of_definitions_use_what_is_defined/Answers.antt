use Rattle.isle_rules.proofs.Visiting.SoundRules.{rules_sound}
use Rattle.isle_terms.proofs.laws.rules_of_definitions_use_what_is_defined.Goals as goal

pub returns : goal.returns
returns g c = λ finds tyenv env types levels max defs shows.
    rules_sound g.V.RuleVisitor.rule_steps g.V.PatternVisitor.PatternVisitor.pattern_step g.V.ExprVisitor.ExprVisitor.expr_step finds
    tyenv env types levels max defs shows
