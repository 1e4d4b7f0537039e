use Rattle.std.proofs.Common.{◌∙◌, sym, ap}
use Rattle.std.proofs.lemmas.Result.{IfOk-weaker}
use Rattle.isle_blocks.specs.Trees.Nodes.{fields_of}
use Rattle.isle_tell.specs.TreeTexts.Names.{fields_text}
use Rattle.isle_tell.proofs.TreeTexts.Joined.{fields_joined}
use Rattle.isle_tell.proofs.trees.names.spaced_fields.Goals as goal

pub returns-in-Some : goal.returns-in-Some
returns-in-Some c = IfOk-weaker c.joined_fields.result _ _
    (λ text is. is ∙ fields_joined c.in-Some.first.now c.in-Some.others.now ∙ ap (λ fields. fields_text (fields_of fields))
    (sym c.in-Some.ensures.cases.0))
    c.joined_fields.ensures
