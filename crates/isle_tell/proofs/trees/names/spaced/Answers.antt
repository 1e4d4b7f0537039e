use Rattle.std.proofs.Common.{◌∙◌, sym, ap}
use Rattle.std.proofs.lemmas.Result.{IfOk-weaker}
use Rattle.isle_blocks.specs.Rows.{numbers_of}
use Rattle.isle_tell.specs.TreeTexts.Names.{numbers_text}
use Rattle.isle_tell.proofs.TreeTexts.Joined.{numbers_joined}
use Rattle.isle_tell.proofs.trees.names.spaced.Goals as goal

pub returns-in-Some : goal.returns-in-Some
returns-in-Some c = IfOk-weaker c.joined.result _ _
    (λ text is. is ∙ numbers_joined c.in-Some.first.now c.in-Some.others.now ∙ ap (λ ids. numbers_text (numbers_of ids))
    (sym c.in-Some.ensures.cases.0))
    c.joined.ensures
