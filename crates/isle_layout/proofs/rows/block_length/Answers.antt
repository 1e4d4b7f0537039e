use Rattle.std.proofs.Common.{◌≡◌, ◌∙◌, ap, sym, true, false, None, if◌then◌else◌}
use Rattle.std.specs.Fmt.{char_count}
use Rattle.isle_layout.specs.Layout.{within}
use Rattle.isle_layout.specs.Keeping.Pieces.{trimmed_lines}
use Rattle.isle_layout.specs.Keeping.Rows.{has_newline}
use Rattle.isle_layout.proofs.Keeping.BlockLines.{newlines_same, same_unless_newline}
use Rattle.isle_layout.proofs.rows.block_length.Goals as goal

pub returns-then-has_newline : goal.returns-then-has_newline
returns-then-has_newline c =
    let text = c.args.text.now in
    let broken : has_newline (trimmed_lines text) ≡ true = newlines_same text ∙ sym c.has_newline.ensures ∙ c.if-has_newline.true in
    ap (λ b. if b then None else within c.args.width (char_count (trimmed_lines text))) (sym broken)

pub returns-else-has_newline : goal.returns-else-has_newline
returns-else-has_newline c =
    let text = c.args.text.now in
    let unbroken : has_newline (trimmed_lines text) ≡ false = newlines_same text ∙ sym c.has_newline.ensures ∙ c.if-has_newline.false in
    c.text_length.ensures ∙ ap (λ t. within c.args.width (char_count t)) (sym (same_unless_newline text unbroken))
    ∙ ap (λ b. if b then None else within c.args.width (char_count (trimmed_lines text))) (sym unbroken)
