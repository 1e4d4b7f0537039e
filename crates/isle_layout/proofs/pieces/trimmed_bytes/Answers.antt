use Rattle.std.proofs.Common.{sym, ◌∙◌}
use Rattle.isle_layout.proofs.Keeping.Trimming.{trimmed_last, trimmed_stays, trimmed_short}
use Rattle.isle_layout.proofs.pieces.trimmed_bytes.Goals as goal

pub returns-then-not-is_space : goal.returns-then-not-is_space
returns-then-not-is_space c =
    sym (trimmed_stays c.bytes.left.now c.in-len1-up.len_at_least (sym c.is_space.ensures ∙ c.if-not-is_space.true)) ∙ c.bytes.invariant

pub bytes-preserved : goal.bytes-preserved
bytes-preserved c =
    trimmed_last c.bytes.left.now c.in-len1-up.len_at_least (sym c.is_space.ensures ∙ c.if-not-is_space.false) ∙ c.bytes.invariant

pub returns : goal.returns
returns c = sym (trimmed_short c.bytes.left.now c.in_default.len_below) ∙ c.bytes.invariant
