use Rattle.std.proofs.Common.{◌≡◌, length, sym, ◌∙◌, arith}
use Rattle.std.proofs.lemmas.Bool.{false≢true}
use Rattle.isle_blocks.proofs.RuleFaults.Grouping.{best_takes, best_keeps, greatest_from_best}
use Rattle.isle_blocks.proofs.report.greatest.Goals as goal
use Rattle.isle_blocks.proofs.report.greatest.Goals.{then-is_below, else-is_below}

pub loop-place-preserved : goal.loop-place-preserved
loop-place-preserved c = elim c.if-is_below.branch [
  | then-is_below w ↦ rw w.best-is (best_takes _ _ _ _ c.loop-place.invariant (c.is_below.ensures.0 w.if-is_below.true))
  | else-is_below w ↦ rw w.best-is (best_keeps _ _ _ _ c.loop-place.invariant (omega arith)
      (λ b. false≢true (sym w.if-is_below.false ∙ c.is_below.ensures.1 b)))
]

pub returns : goal.returns
returns c =
    let done : c.loop-place.place ≡ length c.args.rules.now = omega arith in
    greatest_from_best _ _ _ (rw (← done) c.loop-place.invariant)
