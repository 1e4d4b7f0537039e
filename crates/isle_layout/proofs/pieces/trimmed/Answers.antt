use Rattle.std.proofs.Common.{sym, ◌∙◌, ap, subst}
use Rattle.isle_layout.specs.Keeping.Pieces.{trimmed}
use Rattle.isle_layout.proofs.Keeping.Trimming.{IsFront, trimmed_front, front_boundary}
use Rattle.isle_layout.proofs.pieces.trimmed.Goals as goal

pub split_at-requires : goal.split_at-requires
split_at-requires c =
    front_boundary (subst (IsFront c.args.text.now) (sym (c.trimmed_bytes.ensures ∙ ap trimmed c.as_bytes.ensures.value))
    (trimmed_front c.args.text.now))

pub returns : goal.returns
returns c =
    let same = c.trimmed_bytes.ensures ∙ ap trimmed c.as_bytes.ensures.value in
    c.split_at.ensures.front ∙ (subst (IsFront c.args.text.now) (sym same) (trimmed_front c.args.text.now)).same ∙ same
