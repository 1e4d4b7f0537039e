use Rattle.std.proofs.Common.{◌≡◌, ◌+◌, ◌≤◌, ◌<◌, ◌++◌, ◌∷◌, [], suc, Option, ℕ, length, ◌∙◌, ap, arith}
use Rattle.std.specs.Prelude.{unwrap_or}
use Rattle.isle_calls.proofs.PlainRoad.Frames.Told.{at_place}
use Rattle.isle_calls.proofs.PlainRoad.Frames.Turns.{result_told, next_told}
use Rattle.isle_calls.proofs.plain.frame.next_call.Goals as goal

pub returns-then-place-len : goal.returns-then-place-len
returns-then-place-len c = λ k stored others tried since empty at h.
    let past : length c.args.current.now.laid.now.right.calls.items ≤ c.args.place = omega (arith, c.if-place-len.true, c.len.ensures) in
    result_told (at_place at h) empty past c.unwrap_or-number.result
    (c.unwrap_or-number.ensures ∙ ap (λ (o : Option ℕ). unwrap_or o 0) c.value_of.ensures)

pub returns : goal.returns
returns c = λ k stored others tried since empty at h.
    let current = c.args.current.now in
    let less : c.args.place < length current.laid.now.right.calls.items = omega (arith, c.if-place-len.false, c.len.ensures) in
    let next : c.args.place + 1 ≡ suc c.args.place = omega arith in
    next_told (at_place at h) empty less c.ask.new.self (c.args.place + 1) next
    (c.in_ok-ask.ensures.todo ∙ ap (λ (r : ℕ). current.evaluation.todo.items ++ r ∷ []) c.root_of.ensures)
    c.in_ok-ask.ensures.rest.0 c.in_ok-ask.ensures.rest.1
