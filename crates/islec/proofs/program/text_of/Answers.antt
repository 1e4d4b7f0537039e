use Rattle.std.proofs.Common.{◌≡◌, ◌∙◌, ℕ, ap, subst, sym, true≢false}
use Rattle.std.specs.Str.{valid_up_to}
use Rattle.std.specs.Str.Lossy.{utf8_valid_len}
use Rattle.islec.specs.Beginnings.{IsUnreadFor}
use Rattle.islec.specs.declared.cause.Cause.TheVariants.{NotUtf8}
use Rattle.islec.proofs.program.text_of.Goals as goal

pub returns-in-Err-clause-refused : goal.returns-in-Err-clause-refused
returns-in-Err-clause-refused c =
    let at : c.valid_up_to-at.result ≡ utf8_valid_len c.args.bytes.items =
    c.valid_up_to-at.ensures ∙ ap valid_up_to c.utf8_error.ensures ∙ c.in-Err.ensures.valid_len in
    let why = subst (λ (n : ℕ). IsUnreadFor c.args.name (NotUtf8 n) c.unread.result) at c.unread.ensures in
    (λ utf8. absurd (true≢false (sym (rw c.in-Err.is at c.from_utf8.ensures.succeeds utf8))), why)
