use Rattle.std.proofs.Common.{◌≡◌, ◌<◌, ◌+◌, ◌-◌, ◌∙◌, ap, arith, drop, length, length-drop, map, subst, sym, take, List, []}
use Rattle.std.proofs.lemmas.List.{drop-drop, map-append}
use Rattle.isle_layout.specs.declared.changes.lines.Line.{Line}
use Rattle.isle_layout.specs.Inside.Changes.{edit_of, text_of}
use Rattle.isle_layout.proofs.ChangesLemmas.Slices.{from_on}
use Rattle.isle_layout.proofs.ChangesLemmas.ScriptsOf.{LeadsUpTo, block_pushed, last_pushed, same_begin}
use Rattle.isle_layout.proofs.changes.script.steps.Goals as goal

pub returns-then-removed-old_rest : goal.returns-then-removed-old_rest
returns-then-removed-old_rest c =
    let old = c.args.old.now in
    let new = c.args.new.now in
    let here = take (length old - c.loop-steps.from) (drop c.loop-steps.from old) in
    let there = take (length new - c.loop-steps.to) (drop c.loop-steps.to new) in
    let script = map edit_of c.loop-steps.steps.items in
    let left = map text_of (drop c.loop-steps.to new) in
    let far = subst (λ (ls : List Line). LeadsUpTo (map text_of old) (map text_of new) script (map text_of ls) left)
    (sym (from_on old c.loop-steps.from)) c.loop-steps.invariant.so_far in
    let at_both = subst (λ (ls : List Line). LeadsUpTo (map text_of old) (map text_of new) script (map text_of here) (map text_of ls))
    (sym (from_on new c.loop-steps.to)) far in
    last_pushed (map text_of old) (map text_of new) script _ _ here there c.before_kept-removed.result.0 c.before_kept-removed.result.1
    c.if-removed-old_rest.true c.before_kept-removed.ensures.added c.before_kept-removed.ensures.kept
    c.in_ok-push_lines.ensures c.in_ok-push_lines-2.ensures at_both

pub loop-steps-preserved : goal.loop-steps-preserved
loop-steps-preserved c =
    let old = c.args.old.now in
    let new = c.args.new.now in
    let from = c.loop-steps.from in
    let to = c.loop-steps.to in
    let i = c.before_kept-removed.result.0 in
    let j = c.before_kept-removed.result.1 in
    let here = take (length old - from) (drop from old) in
    let there = take (length new - to) (drop to new) in
    let script = map edit_of c.loop-steps.steps.items in
    let d : Line = record { text = record { ref_ptr = (0, 0); now = [] }; weight = 0 } in
    let within : i < length here = omega arith in
    let same = same_begin here there i j d within c.before_kept-removed.ensures.added c.before_kept-removed.ensures.kept in
    let here_far = subst (λ (ls : List Line). LeadsUpTo (map text_of old) (map text_of new) script (map text_of ls) (map text_of (drop to new)))
    (sym (from_on old from)) c.loop-steps.invariant.so_far in
    let both_far = subst (λ (ls : List Line). LeadsUpTo (map text_of old) (map text_of new) script (map text_of here) (map text_of ls))
    (sym (from_on new to)) here_far in
    let pushed = ap (map edit_of) c.in_ok-push.ensures.items ∙ map-append edit_of c.push_lines-in-loop-steps.new.steps.items _ in
    let more = block_pushed (map text_of old) (map text_of new) script _ _ (map edit_of c.push.new.self.items) here there i j d within
    c.before_kept-removed.ensures.added c.before_kept-removed.ensures.kept c.in_ok-push_lines.ensures c.in_ok-push_lines-2.ensures pushed both_far in
    let old_left : drop (i + 1) here ≡ drop (from + (i + 1)) old = ap (drop (i + 1)) (from_on old from) ∙ drop-drop (i + 1) from old in
    let new_left : drop (j + 1) there ≡ drop (to + (j + 1)) new = ap (drop (j + 1)) (from_on new to) ∙ drop-drop (j + 1) to new in
    record {
      from = omega (arith, within, ap length (from_on old from), length-drop from old);
      to = omega (arith, same.0, ap length (from_on new to), length-drop to new);
      so_far =
          subst (λ (ls : List Line). LeadsUpTo (map text_of old) (map text_of new) (map edit_of c.push.new.self.items)
          (map text_of (drop (from + (i + 1)) old)) (map text_of ls)) new_left
          (subst (λ (ls : List Line). LeadsUpTo (map text_of old) (map text_of new) (map edit_of c.push.new.self.items)
          (map text_of ls) (map text_of (drop (j + 1) there))) old_left more);
    }
