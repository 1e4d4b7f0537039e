use Rattle.std.proofs.Common.{◌≡◌, ◌+◌, ◌++◌, ◌∙◌, ap, arith, drop, get_or, false, map, string_bytes, sym}
use Rattle.std.proofs.Common.{[], String, Global}
use Rattle.isle_layout.specs.declared.changes.script.Mark.TheVariants.{Kept}
use Rattle.isle_layout.specs.declared.changes.script.Step.{Step}
use Rattle.isle_layout.specs.declared.changes.hunks.Place.{Place}
use Rattle.isle_layout.specs.Changes.Hunks.{hunk_header, hunks, line_text, is_shown, start}
use Rattle.isle_layout.specs.Inside.Changes.{edit_of}
use Rattle.isle_layout.proofs.ChangesLemmas.Slices.{from_on}
use Rattle.isle_layout.proofs.ChangesLemmas.Shown.{steps_left, step_text, written_more, wrote_nothing, wrote_line, wrote_first}
use Rattle.isle_layout.proofs.changes.hunks.write_hunks.Goals as goal
use Rattle.isle_layout.proofs.changes.hunks.write_hunks.Goals.{then-shown+in_ok-write_line, then-not-was_shown+in_ok-write_header, else-not-was_shown, else-shown}

pub loop-i-preserved : goal.loop-i-preserved
loop-i-preserved c =
    let i = c.loop-i.i in
    let steps = c.args.steps.now in
    let script = map edit_of (drop i steps) in
    let rest = map edit_of (drop (i + 1) steps) in
    let out = string_bytes c.loop-i.out in
    let all = string_bytes c.args.out.now ++ hunks false start (map edit_of steps) in
    let by = ap (λ s. is_shown c.loop-i.place (map edit_of s)) (sym (from_on steps i)) ∙ sym c.is_shown-shown.ensures in
    let header = ap (λ s. string_bytes c.loop-i.out ++ hunk_header c.loop-i.place (map edit_of s)) (from_on steps i) in
    let d : Step = record { mark = Kept; line = record { ref_ptr = (0, 0); now = [] } } in
    let step = edit_of (get_or steps i d) in
    let wrote : string_bytes c.if-shown.out ≡ out ++ step_text c.loop-i.was_shown c.is_shown-shown.result c.loop-i.place script step =
    elim c.if-shown.branch [
      | then-shown+in_ok-write_line w ↦
          let line = ap string_bytes w.out-is ∙ w.in_ok-write_line.ensures in
          elim w.if-not-was_shown.branch [
            | then-not-was_shown+in_ok-write_header w' ↦
                wrote_first c.loop-i.was_shown c.is_shown-shown.result c.loop-i.place script step out
                (string_bytes w.if-not-was_shown.out) (string_bytes c.if-shown.out) w.if-shown.true w'.if-not-was_shown.true
                (ap string_bytes w'.out-is ∙ w'.in_ok-write_header.ensures ∙ header) line
            | else-not-was_shown w' ↦
                wrote_line c.loop-i.was_shown c.is_shown-shown.result c.loop-i.place script step out
                (string_bytes c.if-shown.out) w.if-shown.true w'.if-not-was_shown.false
                (line ∙ ap (λ (o : String Global). string_bytes o ++ line_text step) w'.out-is)
          ]
      | else-shown w ↦
          wrote_nothing c.loop-i.was_shown c.is_shown-shown.result c.loop-i.place script step out
          (string_bytes c.if-shown.out) w.if-shown.false (ap string_bytes w.out-is)
    ] in
    record {
      old = omega arith;
      new = omega arith;
      so_far =
          ap (λ (p : Place). string_bytes c.if-shown.out ++ hunks c.is_shown-shown.result p rest) c.behind-place.ensures.place
          ∙ written_more c.loop-i.was_shown c.is_shown-shown.result c.loop-i.place script rest _ out (string_bytes c.if-shown.out) all
          (steps_left steps i d c.loop-i-test.true) by wrote c.loop-i.invariant.so_far;
    }
