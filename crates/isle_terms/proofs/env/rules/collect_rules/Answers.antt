use Rattle.std.proofs.Common.{map, ap, sym, subst, ◌∙◌, ◌+◌, take}
use Rattle.std.proofs.lemmas.Result.{err_from_is_err_and}
use Rattle.isle_types.specs.declared.ids.RuleId.{RuleId}
use Rattle.isle_types.proofs.Zipped.{all_at}
use Rattle.isle_types.proofs.Tables.{more_then}
use Rattle.isle_terms.specs.Inside.Collecting.Checks.{Checks}
use Rattle.isle_terms.specs.Inside.Collecting.RuleChecks.{HasSomeRoot, IsIllAmong, AreTyped}
use Rattle.isle_terms.proofs.Collections.Checking.{item_at, past_mapped}
use Rattle.isle_terms.proofs.Showing.MoreNames.{shows_still}
use Rattle.isle_terms.proofs.Collections.RulesCollected.{rule_reported, rule_alone, rule_added, rules_done}
use Rattle.isle_terms.proofs.env.rules.collect_rules.Goals as goal
use Rattle.isle_terms.proofs.env.rules.collect_rules.Goals.{in-Ok+in_ok-push-in-Ok, in-Err+in_ok-keep_fault-in-Err}

pub returns-in_err-keep_fault-in-Err-clause-size : goal.returns-in_err-keep_fault-in-Err-clause-size
returns-in_err-keep_fault-in-Err-clause-size c = λ declared shows known roots.
    let e = err_from_is_err_and c.from_residual-in_err-keep_fault-in-Err.result c.from_residual-in_err-keep_fault-in-Err.ensures.1 in
    let trees = map (λ rule. rule.now) c.args.rules.now in
    let i = c.loop-rule.rule-index in
    let tree = c.rule-item.result.now in
    let here = item_at (λ rule. rule.now) c.args.rules.now i c.rule-item.result c.loop-rule-test.true c.rule-item.is in
    let still = shows_still c.args.tyenv.now c.loop-rule.tyenv c.args.termenv.now declared shows c.loop-rule.invariant.same known in
    let root = all_at (HasSomeRoot declared) trees roots i tree here in
    rw (e.1, e.2)
    (rule_alone declared c.args.levels c.args.max_nodes trees i tree c.in-Err.refusal c.in_err-keep_fault-in-Err.field-0.0 here
    (c.in-Err.ensures.fault declared still root) c.in_err-keep_fault-in-Err.ensures.size)

pub loop-rule-preserved : goal.loop-rule-preserved
loop-rule-preserved c = record {
  checked = λ declared shows known roots.
      let levels = c.args.levels in
      let max = c.args.max_nodes in
      let trees = map (λ rule. rule.now) c.args.rules.now in
      let i = c.loop-rule.rule-index in
      let tree = c.rule-item.result.now in
      let here = item_at (λ rule. rule.now) c.args.rules.now i c.rule-item.result c.loop-rule-test.true c.rule-item.is in
      let still = shows_still c.args.tyenv.now c.loop-rule.tyenv c.args.termenv.now declared shows c.loop-rule.invariant.same known in
      let root = all_at (HasSomeRoot declared) trees roots i tree here in
      let before = c.loop-rule.invariant.checked declared shows known roots in
      let made = c.loop-rule.all in
      let more = c.typed_rule.new.tyenv.names in
      elim c.match-typed_rule.branch [
        | in-Ok+in_ok-push-in-Ok w ↦
            let read = w.in-Ok.ensures.typed declared still root in
            subst (λ rules. Checks (IsIllAmong declared levels trees) (AreTyped declared levels max (take (i + 1) trees) more rules)
            c.args.errors.now.items c.match-typed_rule.errors.items)
            (sym (ap (λ v. v.items) w.all-is ∙ w.in_ok-push-in-Ok.ensures.items))
            (rule_added declared levels max trees c.match-typed_rule.errors.items c.loop-rule.tyenv.names more i made.items tree read.0
            w.in-Ok.typed (ap (λ v. v.items) w.errors-is) c.typed_rule.ensures.same.kept here read.1 read.2
            (ap (λ (id : RuleId). id.0) w.in-Ok.ensures.id ∙ c.len.ensures ∙ made.ok.0) before)
        | in-Err+in_ok-keep_fault-in-Err w ↦
            subst (λ errors. Checks (IsIllAmong declared levels trees)
            (AreTyped declared levels max (take (i + 1) trees) more c.match-typed_rule.all.items) c.args.errors.now.items errors)
            (sym (ap (λ v. v.items) w.errors-is))
            (rule_reported declared levels max trees i tree w.in-Err.refusal here (w.in-Err.ensures.fault declared still root)
            w.in_ok-keep_fault-in-Err.ensures.kept before)
      ];
  same = more_then _ _ _ c.loop-rule.invariant.same c.typed_rule.ensures.same;
}

pub returns-clause-checked : goal.returns-clause-checked
returns-clause-checked c = λ declared shows known roots.
    rules_done declared c.args.levels c.args.max_nodes (map (λ rule. rule.now) c.args.rules.now) c.loop-rule.tyenv.names c.loop-rule.rule-index
    c.loop-rule.all.items (past_mapped (λ rule. rule.now) c.args.rules.now c.loop-rule.rule-index c.loop-rule-test.false)
    (c.loop-rule.invariant.checked declared shows known roots)
