use Rattle.std.proofs.Common.{◌<◌, length, sym, subst}
use Rattle.isle_calls.specs.Inside.Plain.Underway.{IsStepOf, StepTells}
use Rattle.isle_calls.proofs.PlainRoad.Evaluations.Turns.{answered_moves, asked_moves}
use Rattle.isle_calls.proofs.PlainRoad.Evaluations.Loop.{turn_is, turn_after, turn_waits}
use Rattle.isle_calls.proofs.plain.evaluation.Evaluating.turn.Goals as goal

-- the part on top is one
inside : (g : _) (c : goal.After-settle g) → c.args.top < length c.args.evaluation.now.known.items
inside g c = subst (λ l. c.args.top < l) (sym c.requires.sized)
    (subst (λ z. IsStepOf c.args.evaluation.now c.args.parts.now c.args.top z) c.in-Is.is c.in_ok-number.ensures.lower)

pub returns-in-Is-clause-told : goal.returns-in-Is-clause-told
returns-in-Is-clause-told g c = λ s whole around hold h.
    let e = c.args.evaluation.now in let store = c.args.store.now in let new = c.step.new.store in let top = c.args.top in
    turn_is s store whole e h new c.answer.new.self c.settle.new.self c.in-Is.number top c.in_ok-number.ensures.kept c.requires.top
    (inside g c) c.answer.ensures c.settle.ensures
    (subst (λ z. StepTells s new whole top z) c.in-Is.is (c.in_ok-number.ensures.told s whole around hold h c.requires.top))

pub returns-in-Is-clause-moved : goal.returns-in-Is-clause-moved
returns-in-Is-clause-moved g c =
    answered_moves c.args.evaluation.now c.answer.new.self c.settle.new.self c.in-Is.number c.args.top c.requires.top (inside g c)
    c.requires.unknown c.answer.ensures c.settle.ensures

pub returns-in_ok-ask-in-After-clause-told : goal.returns-in_ok-ask-in-After-clause-told
returns-in_ok-ask-in-After-clause-told g c = λ s whole around hold h.
    let e = c.args.evaluation.now in let store = c.args.store.now in let new = c.step.new.store in let top = c.args.top in
    turn_after s store whole e h new c.ask.new.self c.in-After.part c.in_ok-number.ensures.kept c.in_ok-ask-in-After.ensures.todo
    (c.ask.ensures.rest.0) (c.ask.ensures.rest.1)
    (subst (λ z. StepTells s new whole top z) c.in-After.is (c.in_ok-number.ensures.told s whole around hold h c.requires.top))

pub returns-in_ok-ask-in-After-clause-moved : goal.returns-in_ok-ask-in-After-clause-moved
returns-in_ok-ask-in-After-clause-moved g c =
    let e = c.args.evaluation.now in
    let lower = subst (λ z. IsStepOf e c.args.parts.now c.args.top z) c.in-After.is c.in_ok-number.ensures.lower in
    asked_moves e c.ask.new.self c.in-After.part c.args.top c.requires.top (subst (λ l. c.args.top < l) (sym c.requires.sized) (lower.0))
    (lower.1) (lower.2) c.in_ok-ask-in-After.ensures.todo (c.ask.ensures.rest.0) (c.ask.ensures.rest.1)

pub returns-in-Waits-clause-told : goal.returns-in-Waits-clause-told
returns-in-Waits-clause-told g c = λ s whole around hold h.
    let e = c.args.evaluation.now in let store = c.args.store.now in let new = c.step.new.store in let top = c.args.top in
    turn_waits s store whole e h new top c.in-Waits.term c.in-Waits.args.items c.in_ok-number.ensures.kept c.requires.top c.requires.unknown
    (subst (λ z. StepTells s new whole top z) c.in-Waits.is (c.in_ok-number.ensures.told s whole around hold h c.requires.top))
