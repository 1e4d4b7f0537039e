use Rattle.std.proofs.Common.{◌≡◌, ◌+◌, ◌-◌, ◌∷◌, slice_index, ap, ◌∙◌}
use Rattle.isle_ast.specs.Positions.Lines.{line_starts, starts_up_to}
use Rattle.isle_ast.proofs.Positions.LineStarts.{starts_are_counted}
use Rattle.isle_ast.proofs.files.File.column.Goals as goal

pub returns : goal.returns
returns c =
    let text = c.args.self.now.text in
    let offset = c.args.offset in
    let starts : c.self.inside.line_map ≡ line_starts text = c.self.invariant ∙ ap (λ f. line_starts f.text) c.self.view_is in
    let of_text = ap (λ s. slice_index (0 ∷ s) (starts_up_to s offset)) starts in
    let counted = ap (λ n. slice_index (0 ∷ line_starts text) n) (starts_are_counted text offset) in
    ap (λ start. offset - start + 1) (c.start.ensures.value ∙ (of_text ∙ counted))
