use Rattle.std.proofs.Common.{◌≡◌, ◌+◌, ◌-◌, ◌++◌, ◌∷◌, ℕ, List, ◌∙◌, ap}
use Rattle.std.specs.Prelude.{slice_index, codes, decimal}
use Rattle.isle_ast.specs.Positions.Lines.{line_starts, starts_up_to, newlines_before, line_number, column_number}
use Rattle.islec.proofs.world.placed_fault.Goals as goal

-- the line and the column of an offset, by a map of the starts of lines
line_is : (text map : List ℕ) (offset line : ℕ) → ((p : ℕ) → starts_up_to map p ≡ newlines_before text p) → line ≡ starts_up_to map offset + 1
    → line ≡ line_number text offset
line_is text map offset line counts is = is ∙ ap (λ n. n + 1) (counts offset)

column_is : (text map : List ℕ) (offset column : ℕ) → map ≡ line_starts text → ((p : ℕ) → starts_up_to map p ≡ newlines_before text p)
    → column ≡ offset - slice_index (0 ∷ map) (starts_up_to map offset) + 1 → column ≡ column_number text offset
column_is text map offset column starts counts is =
    is ∙ ap (λ n. offset - slice_index (0 ∷ map) n + 1) (counts offset) ∙ ap
    (λ (m : List ℕ). offset - slice_index (0 ∷ m) (newlines_before text offset) + 1) starts

pub returns : goal.returns
returns c =
    let line = line_is c.args.text.now c.in_ok-map.map c.args.offset c.line_of-line.result c.in_ok-map.ensures.counts c.line_of-line.ensures in
    let column = column_is c.args.text.now c.in_ok-map.map c.args.offset c.column_of-column.result c.in_ok-map.ensures.starts
    c.in_ok-map.ensures.counts c.column_of-column.ensures in
    let place = c.as_str-place.ensures.value ∙ c.in_ok-placed.ensures.ok ∙ ap
    (λ n. c.args.name.now ++ (codes ":" ++ (decimal n ++ (codes ":" ++ decimal c.column_of-column.result)))) line
    ∙ ap (λ n. c.args.name.now ++ (codes ":" ++ (decimal (line_number c.args.text.now c.args.offset) ++ (codes ":" ++ decimal n)))) column in
    c.in_ok-told.ensures.ok ∙ ap (λ p. p ++ (codes ": " ++ (c.args.kind.now ++ codes "\n"))) place
