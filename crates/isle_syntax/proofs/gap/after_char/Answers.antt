use Rattle.std.proofs.Common.{sym, subst, ◌∙◌, ap}
use Rattle.std.specs.Str.{IsUtf8}
use Rattle.isle_syntax.specs.Tokens.Ends.{IsEnd}
use Rattle.isle_syntax.specs.Tokens.Gaps.{after_first}
use Rattle.isle_syntax.proofs.Tokens.Cuts.{after_first-utf8, ending_self, ending_first, ending_is_end}
use Rattle.isle_syntax.proofs.gap.after_char.Goals as goal

pub end_of-requires-clause-end : goal.end_of-requires-clause-end
end_of-requires-clause-end c =
    let text = c.args.text.now in
    let same = c.after_first.ensures ∙ ap after_first c.as_bytes.ensures.value in
    subst (IsEnd text) (sym same) (ending_is_end (ending_first text (ending_self text)))

pub end_of-requires-clause-text : goal.end_of-requires-clause-text
end_of-requires-clause-text c =
    let same = c.after_first.ensures ∙ ap after_first c.as_bytes.ensures.value in
    subst IsUtf8 (sym same) (after_first-utf8 c.args.text.now c.utf8.text c.requires)
