use Rattle.std.proofs.Common.{map, sym, ap, ◌∙◌, refl}
use Rattle.isle_ast.specs.declared.ast.Rule.{Rule as RuleTree}
use Rattle.isle_terms.specs.Inside.Collecting.DefinitionChecks.{is_ill_root}
use Rattle.isle_terms.proofs.Collections.Checking.{item_at, each_ill, each_well, each_done, past_mapped}
use Rattle.isle_terms.proofs.env.checks.check_roots.Goals as goal
use Rattle.isle_terms.proofs.env.checks.check_roots.Goals.{then-is_ill_root+in_ok-report, else-is_ill_root}

pub loop-rule-preserved : goal.loop-rule-preserved
loop-rule-preserved c = λ names is_names.
    let items = map (λ rule. rule.now) c.args.rules.now in
    let i = c.loop-rule.rule-index in
    let here = item_at (λ rule. rule.now) c.args.rules.now i c.rule-item.result c.loop-rule-test.true c.rule-item.is in
    elim c.if-is_ill_root.branch [
      | then-is_ill_root+in_ok-report w ↦ each_ill items (is_ill_root names) (λ (rule : RuleTree). rule.pos) i _ c.if-is_ill_root.errors.items _ _
          here
          (ap (λ v. v.items) w.errors-is ∙ w.in_ok-report.ensures.1) (sym (c.is_ill_root.ensures names is_names)
          ∙ w.if-is_ill_root.true) refl (c.loop-rule.invariant names is_names)
      | else-is_ill_root w ↦ each_well items (is_ill_root names) (λ (rule : RuleTree). rule.pos) i _ c.if-is_ill_root.errors.items here (ap (λ v.
          v.items) w.errors-is)
          (sym (c.is_ill_root.ensures names is_names) ∙ w.if-is_ill_root.false) (c.loop-rule.invariant names is_names)
    ]

pub returns : goal.returns
returns c = λ names is_names. each_done (map (λ rule. rule.now) c.args.rules.now) (is_ill_root names) (λ (rule : RuleTree). rule.pos)
    c.loop-rule.rule-index
    (past_mapped (λ rule. rule.now) c.args.rules.now c.loop-rule.rule-index c.loop-rule-test.false) (c.loop-rule.invariant names is_names)
