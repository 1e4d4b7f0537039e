use Rattle.std.proofs.Common.{ℕ, not, is_some, rules}
use Rattle.std.proofs.lemmas.Fn.{filter_same}
use Rattle.isle_blocks.specs.Reports.{partner}
use Rattle.isle_blocks.proofs.report.take_out.Goals as goal

pub returns : goal.returns
returns c =
    filter_same _ (λ (pair : ℕ × ℕ). not (is_some (partner c.args.fault c.args.place pair))) _ (λ x b f k. search rules) _ _
    c.retain.ensures.filtered
