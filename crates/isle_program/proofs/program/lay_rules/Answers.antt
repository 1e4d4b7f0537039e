use Rattle.std.proofs.Common.{◌+◌, List, [], ◌∷◌, ◌++◌, take, sym, subst, arith}
use Rattle.std.specs.List.{AllZip}
use Rattle.std.proofs.lemmas.Slice.Zip.{all_zipped_more}
use Rattle.isle_types.proofs.DefinitionTurns.{take_here}
use Rattle.isle_rules.specs.declared.rules.Rule.{Rule}
use Rattle.isle_program.specs.Plain.LaidOut.Rules.{IsRuleLaidOut}
use Rattle.isle_program.specs.declared.laid.LaidRule.{LaidRule}
use Rattle.isle_program.proofs.program.lay_rules.Goals as goal

pub loop-rule-preserved : goal.loop-rule-preserved
loop-rule-preserved c = λ types.
    let R : Rule → LaidRule → Type 0 = IsRuleLaidOut types c.args.termenv.now in
    let i = c.loop-rule.rule-index in
    let rule = c.rule-item.result in
    let all : List Rule = c.rules-rule-items.result.now in
    let before : List Rule = take i c.args.termenv.now.rules in
    let laid : R rule c.in_ok-new.field-0 = c.in_ok-new.ensures types in
    subst (λ (rules : List Rule). AllZip R (take (i + 1) rules) c.push.new.self.items) c.rules-rule-items.ensures
    (subst (λ (rules : List Rule). AllZip R rules c.push.new.self.items) (sym (take_here all i rule (omega arith) c.rule-item.is))
    (subst (λ (own : List LaidRule). AllZip R (take i all ++ rule ∷ []) own) (sym c.in_ok-push.ensures.items)
    (subst (λ (rules : List Rule). AllZip R (take i rules ++ rule ∷ []) (c.loop-rule.laid.items ++ c.in_ok-new.field-0 ∷ []))
    (sym c.rules-rule-items.ensures)
    (all_zipped_more R before c.loop-rule.laid.items rule c.in_ok-new.field-0 (c.loop-rule.invariant types) laid))))
