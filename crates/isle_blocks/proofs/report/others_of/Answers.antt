use Rattle.std.proofs.Common.{◌<◌, ◌++◌, ◌∷◌, [], length, get_or, sym, ap, ◌∙◌, arith}
use Rattle.std.proofs.lemmas.Option.{slice_get-get_or}
use Rattle.isle_blocks.proofs.RuleFaults.Grouping.{positions_some, positions_none, partner_in_range, any_place}
use Rattle.isle_blocks.proofs.report.others_of.Goals as goal
use Rattle.isle_blocks.proofs.report.others_of.Goals.{in-Some+in_ok-push, in_default}

pub loop-pair-preserved : goal.loop-pair-preserved
loop-pair-preserved c = elim c.match-partner_in.branch [
  | in-Some+in_ok-push w ↦
      let inside : w.in-Some.other < length c.args.rules.now =
      partner_in_range c.args.fault c.args.head (length c.args.rules.now) c.args.pairs.now c.loop-pair.pair-index w.in-Some.other c.requires
      (omega arith) (sym w.in-Some.ensures) in
      ap (λ v. v.items) w.others-is ∙ w.in_ok-push.ensures.items
      ∙ ap (λ ps. ps ++ (get_or c.args.rules.now w.in-Some.other any_place).pos ∷ []) c.loop-pair.invariant
      ∙ sym (positions_some c.args.rules.now c.args.fault c.args.head c.args.pairs.now c.loop-pair.pair-index w.in-Some.other
      (get_or c.args.rules.now w.in-Some.other any_place) (0, 0) (omega arith) (sym w.in-Some.ensures)
      (slice_get-get_or c.args.rules.now w.in-Some.other any_place inside))
  | in_default w ↦
      ap (λ v. v.items) w.others-is ∙ c.loop-pair.invariant
      ∙ sym (positions_none c.args.rules.now c.args.fault c.args.head c.args.pairs.now c.loop-pair.pair-index
      (0, 0) (omega arith) (sym w.in_default.ensures))
]
