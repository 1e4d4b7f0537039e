use Rattle.std.proofs.Common.{◌∙◌, ap, sym, subst, map, Bor}
use Rattle.std.specs.Prelude.{All}
use Rattle.std.specs.List.{AllZip}
use Rattle.isle_ast.specs.declared.ast.Rule.{Rule as RuleTree}
use Rattle.isle_types.proofs.Tables.{more_then}
use Rattle.isle_rules.specs.Elaboration.{ElaboratesRule}
use Rattle.isle_terms.specs.TypingFaults.{IsLoneSize}
use Rattle.isle_rules.specs.Shown.RulesShown.{IsShownRule}
use Rattle.isle_terms.specs.Inside.Collecting.NamedItems.{name_shown}
use Rattle.isle_terms.specs.Inside.Collecting.RuleChecks.{HasSomeRoot, IsIllAmong, IsLargeAmong}
use Rattle.isle_terms.specs.Inside.Collecting.RuleNames.{with_names, AreNamedRules}
use Rattle.isle_terms.specs.declared.env.from_ast.TheConstants.{MAX_LEVELS, MAX_NODES}
use Rattle.isle_terms.proofs.Collections.Answered.{fault_then}
use Rattle.isle_terms.proofs.Collections.CheckedTyping.{checks_wider}
use Rattle.isle_terms.proofs.Collections.DeclaredFaults.{kept_by_none, from_none}
use Rattle.isle_terms.proofs.Collections.RulesTyped.{declared_of, rules_complete, as_many_names, ill_rules_break, large_rules_listed}
use Rattle.isle_terms.proofs.Collections.ToldErrors.{told_is_listed}
use Rattle.isle_terms.proofs.env.from_ast.typed_rules.Goals as goal

pub returns-in-Err-clause-faults : goal.returns-in-Err-clause-faults
returns-in-Err-clause-faults c = λ types defs are whole.
    let trees = ap (map (λ (rule : Bor RuleTree). rule.now)) c.as_slice-rules.ensures.value ∙ are.rules in
    let rooted = subst (All (HasSomeRoot (declared_of whole))) (sym trees) whole.rooted in
    fault_then c.in-Err.refusal (λ errors alone. large_rules_listed c.args.tyenv.now c.args.env.now types MAX_LEVELS MAX_NODES defs whole
    errors.items (subst (λ all. IsLoneSize (IsLargeAmong (declared_of whole) MAX_LEVELS MAX_NODES all) errors.items) trees alone))
    (c.in-Err.ensures.size (declared_of whole) whole.shown whole.symbols rooted)

pub returns-in-Err-refuse-clause-faults : goal.returns-in-Err-refuse-clause-faults
returns-in-Err-refuse-clause-faults c = λ types defs are whole.
    let trees = ap (map (λ (rule : Bor RuleTree). rule.now)) c.as_slice-rules.ensures.value ∙ are.rules in
    let rooted = subst (All (HasSomeRoot (declared_of whole))) (sym trees) whole.rooted in
    let checks = c.in-Ok.ensures.checked (declared_of whole) whole.shown whole.symbols rooted in
    let started = from_none c.new-errors.result.items c.new-errors.ensures.items checks in
    let broken = checks_wider (λ at ill. ill_rules_break c.args.tyenv.now c.args.env.now types MAX_LEVELS defs whole at
    (subst (λ all. IsIllAmong (declared_of whole) MAX_LEVELS all at) trees ill)) (λ kept. kept) started in
    told_is_listed types c.args.env.now.expands MAX_LEVELS MAX_NODES defs c.collect_rules-all.new.errors.items c.in-Err-refuse.refusal
    c.told_once.result broken c.in-Err-refuse.ensures.err c.told_once.ensures

pub returns-in-Ok-name_rules-clause-made : goal.returns-in-Ok-name_rules-clause-made
returns-in-Ok-name_rules-clause-made c = λ types defs are whole names.
    let trees = ap (map (λ (rule : Bor RuleTree). rule.now)) c.as_slice-rules.ensures.value ∙ are.rules in
    let rooted = subst (All (HasSomeRoot (declared_of whole))) (sym trees) whole.rooted in
    let checks = c.in-Ok.ensures.checked (declared_of whole) whole.shown whole.symbols rooted in
    let started = from_none c.new-errors.result.items c.new-errors.ensures.items checks in
    let made = kept_by_none c.collect_rules-all.new.errors.items started c.in-Ok-refuse.ensures.ok in
    let stand = subst (λ all. AllZip (ElaboratesRule (declared_of whole) MAX_LEVELS MAX_NODES) all made.typed) trees made.stand in
    let shown = made.shown in
    let many = as_many_names (ElaboratesRule (declared_of whole) MAX_LEVELS MAX_NODES) defs c.args.rule_names.now name_shown made.typed
    (IsShownRule c.collect_rules-all.new.tyenv.names) c.in-Ok.typed.items names stand shown in
    rules_complete c.args.tyenv.now c.name_rules.new.tyenv c.args.env.now types MAX_LEVELS MAX_NODES defs made.typed c.in-Ok-name_rules.named whole
    (more_then c.args.tyenv.now c.collect_rules-all.new.tyenv c.name_rules.new.tyenv c.collect_rules-all.ensures.same c.name_rules.ensures.same) stand
    (subst (λ own. AreNamedRules c.name_rules.new.tyenv.names (with_names made.typed own) c.in-Ok-name_rules.named) names
    (c.in-Ok-name_rules.ensures.named made.typed shown made.numbers many))
