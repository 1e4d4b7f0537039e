use Rattle.std.proofs.Common.{sym, ◌∙◌}
use Rattle.std.proofs.lemmas.Bool.{iff_false}
use Rattle.isle_callers.proofs.ByteLemmas.{byte_in-unread, byte_in-other}
use Rattle.isle_callers.proofs.example.bytes.byte_in.Goals as goal

pub returns-in_default : goal.returns-in_default
returns-in_default c =
    sym (byte_in-unread c.args.value.now c.as_str.result.now c.in_default.field-0 (c.as_str.ensures.value ∙ c.in_ok-text.ensures.text)
    c.in_default.ensures.value.0)

pub returns : goal.returns
returns c =
    sym (byte_in-other c.args.value.now c.as_str.result.now c.in-Ok.byte (c.as_str.ensures.value ∙ c.in_ok-text.ensures.text) c.in-Ok.ensures.value.0
    (λ e. iff_false c.are_same.ensures c.if-are_same.false (e ∙ sym c.in_ok-number.ensures)))
