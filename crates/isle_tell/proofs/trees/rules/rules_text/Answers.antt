use Rattle.std.proofs.Common.{◌++◌, ◌∙◌, [], ap, arith, subst, sym}
use Rattle.std.specs.Prelude.{string_bytes}
use Rattle.isle_tell.specs.TreeTexts.Names.{AreTexts, no_texts}
use Rattle.isle_tell.specs.TreeTexts.Rules.{IsRuleText}
use Rattle.isle_tell.proofs.TreeTexts.Joined.{texts_next}
use Rattle.isle_tell.proofs.trees.rules.rules_text.Goals as goal

pub loop-rule-init : goal.loop-rule-init
loop-rule-init c = subst (AreTexts (IsRuleText c.args.program.now c.args.files.now) []) (sym c.new-text.ensures.bytes) no_texts

pub loop-rule-preserved : goal.loop-rule-preserved
loop-rule-preserved c =
    texts_next (IsRuleText c.args.program.now c.args.files.now) c.args.rules.now c.loop-rule.rule-index c.rule-item.result
    (omega (arith, c.loop-rule-test.true)) c.rule-item.is (string_bytes c.loop-rule.text) (string_bytes c.in_ok-one.one)
    (string_bytes c.push_str.new.self)
    c.loop-rule.invariant c.in_ok-one.ensures
    (c.in_ok-push_str.ensures.bytes ∙ ap (λ l. string_bytes c.loop-rule.text ++ l) c.as_str.ensures.value)
