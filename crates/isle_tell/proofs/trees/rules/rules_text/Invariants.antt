use Rattle.std.proofs.Common.{take}
use Rattle.std.specs.Prelude.{string_bytes}
use Rattle.isle_tell.specs.TreeTexts.Names.{AreTexts}
use Rattle.isle_tell.specs.TreeTexts.Rules.{IsRuleText}
use Rattle.isle_tell.proofs.trees.rules.rules_text.Given as goal

abbrev pub invariant-loop-rule : goal.invariant-loop-rule
invariant-loop-rule l = AreTexts (IsRuleText l.program l.files) (take l.rule-index l.rules) (string_bytes l.text)
