use Rattle.std.proofs.Common.{◌+◌, ap, ◌∙◌, arith}
use Rattle.std.specs.Fmt.{char_count}
use Rattle.isle_layout.specs.Layout.{within}
use Rattle.isle_layout.proofs.Layouts.SExprInnermost.{name_counted, names_counted}
use Rattle.isle_layout.proofs.sexpr.SExpr.names_length.Goals as goal

pub loop-at-preserved : goal.loop-at-preserved
loop-at-preserved c =
    let n = c.loop-at.invariant.0 in
    let name = c.text_length.ensures ∙ ap (λ text. within c.args.width (char_count text)) c.as_str.ensures in
    let before = c.sum_within-length.ensures.sum n _ c.loop-at.invariant.1 name in (
      (n + char_count c.in-Binding.name) + 3,
      c.sum_within-length-in-Binding.ensures.sum _ 3 before c.at_most.ensures,
      name_counted c.loop-at.at.now c.get-at.result.now n _ _ c.in-Binding.is c.get-at.ensures ∙ c.loop-at.invariant.2,
    )

pub returns : goal.returns
returns c =
    let total = c.loop-at.invariant.2 in
    let none = names_counted c.loop-at.at.now c.in_default.not-Binding in
    c.loop-at.invariant.1 ∙ ap (within c.args.width) (omega (arith, total, none))
