use Rattle.std.proofs.Common.{◌∙◌, ap}
use Rattle.isle_layout.specs.Keeping.Pieces.{after_piece}
use Rattle.isle_syntax.proofs.Tokens.Cuts.{ending_is_end}
use Rattle.isle_layout.proofs.Keeping.Cutting.{cut_utf8}
use Rattle.isle_layout.proofs.pieces.cut.Goals as goal

pub split_at_end-requires-clause-end : goal.split_at_end-requires-clause-end
split_at_end-requires-clause-end c =
    ending_is_end (cut_utf8 c.args.text.now _ c.utf8.text (c.after_piece-kind.ensures.rest ∙ ap after_piece c.as_bytes.ensures.value)).ending

pub split_at_end-requires-clause-text : goal.split_at_end-requires-clause-text
split_at_end-requires-clause-text c =
    (cut_utf8 c.args.text.now _ c.utf8.text (c.after_piece-kind.ensures.rest ∙ ap after_piece c.as_bytes.ensures.value)).utf8
