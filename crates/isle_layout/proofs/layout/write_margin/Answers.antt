use Rattle.std.proofs.Common.{◌∙◌, ◌++◌, ap, sym, append_assoc, add-one, codes, string_bytes}
use Rattle.isle_layout.specs.Keeping.LaidOut.{margin}
use Rattle.isle_layout.proofs.Keeping.Margins.{margin_more}
use Rattle.isle_layout.proofs.layout.write_margin.Goals as goal

pub loop-level-preserved : goal.loop-level-preserved
loop-level-preserved c =
    let level = c.loop-level.level in
    c.in_ok-push_str.ensures.bytes ∙ ap (λ b. b ++ codes "    ") c.loop-level.invariant
    ∙ append_assoc (string_bytes c.args.out.now) (margin level) (codes "    ")
    ∙ ap (λ m. string_bytes c.args.out.now ++ m) (margin_more level ∙ ap margin (sym (add-one level)))
