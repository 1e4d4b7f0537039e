use Rattle.std.proofs.Common.{◌∙◌, List, ap, codes}
use Rattle.std.proofs.lemmas.Result.{IfOk-weaker}
use Rattle.std.specs.List.{flat_map}
use Rattle.isle_blocks.specs.declared.ids.BindingId.{BindingId}
use Rattle.isle_tell.specs.TreeTexts.Rules.{equal_line, sites_line}
use Rattle.isle_tell.proofs.TreeTexts.Joined.{rule_lines}
use Rattle.isle_tell.proofs.trees.rules.rule_text.Goals as goal

pub returns : goal.returns
returns c = IfOk-weaker c.format.result _ _
    (λ text is. record {
      sets = c.in_ok-sets.sets.items;
      listed = c.in_ok-sets.ensures;
      is =
          is
          ∙ rule_lines _ _ _ _ _ _ _ _ _ _ _ _ c.in_ok-heading.ensures c.in_ok-tests.ensures
          (c.in_ok-equals.ensures ∙ ap (λ (l : List (List BindingId)). flat_map equal_line l) c.as_slice.ensures.value)
          (c.in_ok-iterators.ensures ∙ ap (λ (l : List BindingId). sites_line (codes "iterators") l) c.as_slice-2.ensures)
          (c.in_ok-impure.ensures ∙ ap (λ (l : List BindingId). sites_line (codes "impure") l) c.as_slice-3.ensures) c.index-result.ensures;
    })
    c.format.ensures.ok
