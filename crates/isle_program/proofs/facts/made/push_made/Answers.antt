use Rattle.std.proofs.Common.{◌++◌, ap, ◌∙◌, append_assoc}
use Rattle.std.proofs.lemmas.Result.{on_ok_weaker}
use Rattle.isle_rules.specs.Shown.ShownRules.{built_shown}
use Rattle.isle_program.specs.Facts.Reach.{terms_in, terms_in_iflets}
use Rattle.isle_program.proofs.facts.made.push_made.Goals as goal

pub returns : goal.returns
returns c = on_ok_weaker c.push_of_expr.result
    (λ all names. all names ∙ ap (λ l. l ++ terms_in (built_shown names c.args.rule.now.rhs)) (c.in_ok-push_of_iflets.ensures names)
    ∙ append_assoc c.args.made.now.items _ _
    ∙ ap (λ l. c.args.made.now.items ++ (terms_in_iflets names l ++ terms_in (built_shown names c.args.rule.now.rhs))) c.as_slice.ensures)
    c.push_of_expr.ensures
