use Rattle.std.proofs.Common.{◌∙◌, ap, subst, sym}
use Rattle.std.specs.Str.{IsCharBoundary}
use Rattle.isle_layout.specs.Inside.Changes.{line_length}
use Rattle.isle_layout.proofs.ChangesLemmas.LinesOf.{line_boundary}
use Rattle.isle_layout.proofs.changes.lines.split_line.Goals as goal

pub split_at-requires : goal.split_at-requires
split_at-requires c =
    subst (IsCharBoundary c.args.text.now) (sym (c.line_length.ensures ∙ ap line_length c.as_bytes.ensures.value))
    (line_boundary c.args.text.now c.utf8.text)
