use Rattle.std.proofs.Common.{inl, inr}
use Rattle.std.proofs.lemmas.Bool.Decides.{Decides-ltb}
use Rattle.isle_blocks.proofs.RuleFaults.Grouping.{below_by_count}
use Rattle.isle_blocks.proofs.report.is_below.Goals as goal

pub returns-else-counts-first : goal.returns-else-counts-first
returns-else-counts-first c =
    let decided = Decides-ltb _ _ in (
      λ t. below_by_count c.args.rules.now c.args.counts.now c.args.second c.args.first c.requires.second_in c.requires.first_in (decided.0 t),
      λ b. elim b.below [ inl lt ↦ decided.1 lt | inr (e, less) ↦ absurd (c.if-counts-first.false e) ],
    )
