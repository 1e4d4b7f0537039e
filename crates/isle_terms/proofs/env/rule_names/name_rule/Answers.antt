use Rattle.std.proofs.Common.{None, Some, ap, sym, subst}
use Rattle.isle_terms.specs.Inside.Collecting.NamedItems.{name_shown}
use Rattle.isle_rules.specs.Shown.RulesShown.{IsShownName}
use Rattle.isle_terms.proofs.Showing.RulesShown.{rule_kept}
use Rattle.isle_terms.proofs.Collections.RuleNames.{shown_named, number_put, number_unnamed, no_name}
use Rattle.isle_terms.proofs.env.rule_names.name_rule.Goals as goal
use Rattle.isle_terms.proofs.env.rule_names.name_rule.Goals.{in-Some+in-Ok+in_ok-insert, in_default}

pub returns-clause-shown : goal.returns-clause-shown
returns-clause-shown c = λ typed shown. elim c.match-name.branch [
  | in-Some+in-Ok+in_ok-insert w ↦
      let names = w.intern_mut.new.self.names in
      rw (w.rule-is, w.tyenv-is) (shown_named names typed c.args.rule (name_shown c.args.name) (Some w.in-Ok.sym)
      (rule_kept c.args.tyenv.now.names names w.intern_mut.ensures.same.kept typed c.args.rule shown)
      (subst (λ name. IsShownName names (name_shown name) (Some w.in-Ok.sym)) (sym w.in-Some.is) w.in-Ok.ensures.symbol))
  | in_default w ↦
      rw (w.rule-is, w.tyenv-is) (shown_named c.args.tyenv.now.names typed c.args.rule (name_shown c.args.name) None shown
      (subst (λ name. IsShownName c.args.tyenv.now.names name None) (sym (no_name c.args.name w.in_default.not-Some)) tt))
]

pub returns-clause-numbered : goal.returns-clause-numbered
returns-clause-numbered c = λ before typed numbering counted. elim c.match-name.branch [
  | in-Some+in-Ok+in_ok-insert w ↦
      let names = w.intern_mut.new.self.names in
      rw (w.numbers-is, w.tyenv-is) (number_put c.args.tyenv.now.names names before (record typed { name = name_shown c.args.name })
      w.in-Some.name.now.0 w.in-Ok.sym c.args.rule.id c.args.numbers.now w.insert.new.self w.intern_mut.ensures.same.kept w.syms.ensures.once
      (ap name_shown w.in-Some.is) w.in-Ok.ensures.symbol counted w.in_ok-insert.ensures.values numbering)
  | in_default w ↦
      rw (w.numbers-is, w.tyenv-is) (number_unnamed c.args.tyenv.now.names before (record typed { name = name_shown c.args.name })
      c.args.numbers.now (no_name c.args.name w.in_default.not-Some) numbering)
]
