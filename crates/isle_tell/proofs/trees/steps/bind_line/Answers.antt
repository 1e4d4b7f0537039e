use Rattle.std.proofs.Common.{◌∙◌}
use Rattle.std.proofs.lemmas.Result.{IfOk-weaker}
use Rattle.isle_tell.proofs.TreeTexts.Joined.{bind_lines}
use Rattle.isle_tell.proofs.trees.steps.bind_line.Goals as goal

pub returns : goal.returns
returns c = IfOk-weaker c.format.result _ _ (λ text is. is ∙ bind_lines _ _ _ _ c.in_ok-indent.ensures c.in_ok-sites.ensures) c.format.ensures.ok
