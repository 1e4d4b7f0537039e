use Rattle.std.proofs.Common.{◌≡◌, ◌+◌, ap, ◌∙◌}
use Rattle.isle_ast.specs.Positions.Lines.{line_starts, starts_up_to}
use Rattle.isle_ast.proofs.Positions.LineStarts.{starts_are_counted}
use Rattle.isle_ast.proofs.files.File.line.Goals as goal

pub returns : goal.returns
returns c =
    let text = c.args.self.now.text in
    let starts : c.self.inside.line_map ≡ line_starts text = c.self.invariant ∙ ap (λ f. line_starts f.text) c.self.view_is in
    ap (λ n. n + 1) (c.line.ensures.value ∙ (ap (λ s. starts_up_to s c.args.offset) starts ∙ starts_are_counted text c.args.offset))
