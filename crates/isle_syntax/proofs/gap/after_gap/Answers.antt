use Rattle.std.proofs.Common.{◌≡◌, sym, subst, ◌∙◌, ap}
use Rattle.isle_syntax.specs.Tokens.Finding.{gap_of}
use Rattle.isle_syntax.proofs.Tokens.Cuts.{ending_is_end}
use Rattle.isle_syntax.proofs.Tokens.Gaps.{gap_found}
use Rattle.isle_syntax.proofs.Tokens.GapCuts.{Cut, cut_self, cut_gap}
use Rattle.isle_syntax.proofs.gap.after_gap.Goals as goal

cut : (c : goal.After-after_byte_gap) → Cut c.args.text.now c.after_byte_gap.result.now
cut c =
    let text = c.args.text.now in
    let same : c.after_byte_gap.result.now ≡ gap_of text = c.after_byte_gap.ensures ∙ ap gap_of c.as_bytes.ensures.value in
    subst (Cut text) (sym same) (cut_gap (gap_found text) (cut_self text c.utf8.text))

pub end_of-requires-clause-end : goal.end_of-requires-clause-end
end_of-requires-clause-end c = ending_is_end (cut c).ending

pub end_of-requires-clause-text : goal.end_of-requires-clause-text
end_of-requires-clause-text c = (cut c).utf8
