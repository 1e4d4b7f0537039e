use Rattle.std.proofs.Common.{◌+◌, ◌∙◌, ap, arith, drop, map, sym}
use Rattle.isle_layout.specs.declared.changes.hunks.Place.{Place}
use Rattle.isle_layout.specs.Changes.Hunks.{hunk_end, is_shown}
use Rattle.isle_layout.specs.Inside.Changes.{edit_of}
use Rattle.isle_layout.proofs.ChangesLemmas.Slices.{from_on}
use Rattle.isle_layout.proofs.ChangesLemmas.Shown.{hunk_end-shown, hunk_end-hidden, steps_left}
use Rattle.isle_layout.proofs.changes.hunks.hunk_end.Goals as goal

pub loop-i-preserved : goal.loop-i-preserved
loop-i-preserved c =
    let i = c.loop-i.i in
    let steps = c.args.steps.now in
    let rest = map edit_of (drop (i + 1) steps) in
    let shown = ap (λ s. is_shown c.loop-i.end (map edit_of s)) (sym (from_on steps i)) ∙ sym c.is_shown.ensures ∙ c.if-not-is_shown.false in
    record {
      old = omega arith;
      new = omega arith;
      end =
          c.loop-i.invariant.end
          ∙ hunk_end-shown c.loop-i.end (map edit_of (drop i steps)) rest _ (steps_left steps i _ c.loop-i-test.true) shown
          ∙ ap (λ (p : Place). hunk_end p rest) (sym c.behind-end.ensures.place);
    }

pub returns-then-not-is_shown : goal.returns-then-not-is_shown
returns-then-not-is_shown c =
    let i = c.loop-i.i in
    let steps = c.args.steps.now in
    let hidden = ap (λ s. is_shown c.loop-i.end (map edit_of s)) (sym (from_on steps i)) ∙ sym c.is_shown.ensures ∙ c.if-not-is_shown.true in
    sym (c.loop-i.invariant.end ∙ hunk_end-hidden c.loop-i.end (map edit_of (drop i steps)) hidden)
