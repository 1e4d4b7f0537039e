use Rattle.std.proofs.Common.{◌≡◌, ◌∙◌, List, ap, subst}
use Rattle.std.proofs.lemmas.Result.{IfOk-weaker}
use Rattle.std.specs.Prelude.{string_bytes}
use Rattle.isle_blocks.specs.declared.binding.Binding.{Binding}
use Rattle.isle_blocks.specs.declared.rule.Rule.{Rule}
use Rattle.isle_blocks.specs.Trees.Shown.{BlockShown}
use Rattle.isle_blocks.specs.Trees.Views.{shown_steps}
use Rattle.isle_tell.specs.TreeTexts.Names.{AreTexts}
use Rattle.isle_tell.specs.TreeTexts.Rules.{IsRuleText}
use Rattle.isle_tell.specs.TreeTexts.Sites.{sites_text}
use Rattle.isle_tell.specs.TreeTexts.Steps.{steps_text}
use Rattle.isle_tell.proofs.TreeTexts.Joined.{set_lines}
use Rattle.isle_tell.proofs.trees.set_text.Goals as goal

pub returns : goal.returns
returns c =
    let program = c.args.program.now in let files = c.args.files.now in
    let own : List Rule = c.args.set.now.rules in
    let tree : BlockShown = c.args.tree.now in
    let steps : steps_text program files c.rules-2.result.now 2 (shown_steps c.steps.result).tree ≡ steps_text program files own 2 tree.tree =
    ap (λ (l : List Rule). steps_text program files l 2 (shown_steps c.steps.result).tree) c.rules-2.ensures
    ∙ ap (λ (b : BlockShown). steps_text program files own 2 b.tree) c.steps.ensures in
    IfOk-weaker c.format.result _ _
    (λ text is. record {
      built = c.requires;
      rules = string_bytes c.in_ok-rules.rules;
      told = subst (λ (l : List Rule). AreTexts (IsRuleText program files) l (string_bytes c.in_ok-rules.rules))
          c.rules.ensures c.in_ok-rules.ensures;
      is =
          is
          ∙ set_lines _ _ _ _ _ _ (string_bytes c.in_ok-rules.rules) _ _ c.index-number.ensures c.name-name.ensures
          (c.in_ok-sites.ensures ∙ ap (λ (l : List Binding). sites_text program 0 l) c.bindings.ensures) (c.in_ok-steps.ensures ∙ steps);
    })
    c.format.ensures.ok
