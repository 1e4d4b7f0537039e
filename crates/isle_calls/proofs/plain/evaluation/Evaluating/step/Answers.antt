use Rattle.std.proofs.Common.{◌≡◌, Some, None, length, slice_get, refl, sym, ◌∙◌, ap, subst, arith}
use Rattle.isle_program.specs.Plain.LaidOut.Words.{made_of}
use Rattle.isle_calls.specs.Inside.Plain.Underway.{first_unknown, known_numbers, AreKnown, AreAround}
use Rattle.isle_calls.proofs.PlainRoad.Evaluations.Parts.{first_unknown_at, are_known}
use Rattle.isle_calls.proofs.Places.{item_there}
use Rattle.isle_calls.proofs.PlainRoad.Evaluations.Walk.{both_told}
use Rattle.isle_calls.proofs.PlainRoad.Evaluations.Loop.{top_is_part, step_after, step_comes, last_step}
use Rattle.isle_calls.proofs.plain.evaluation.Evaluating.step.Goals as goal

pub returns-in_default-clause-told : goal.returns-in_default-clause-told
returns-in_default-clause-told g c = λ s whole around hold h top.
    let within = top_is_part s c.args.store.now whole c.args.evaluation.now h c.args.place top in
    let same : length s.parts ≡ length c.args.parts.now = ap length around.of_parts in
    let past = c.in_default.ensures.lookup.3 in
    absurd (omega (arith, within, same, past))

-- the parts of the part there that aren't evaluated
found : (g : _) (c : goal.In-Some-first_open g) → first_unknown c.args.evaluation.now (made_of c.in-Some.part.now)
    ≡ Some c.in-Some-first_open.open
found g c = ap (first_unknown c.args.evaluation.now) (sym c.made_of.ensures) ∙ sym c.first_open.ensures ∙ c.in-Some-first_open.is

pub returns-in-Some-first_open-clause-told : goal.returns-in-Some-first_open-clause-told
returns-in-Some-first_open-clause-told g c = λ s whole around hold h top.
    let looked = c.in-Some.ensures.lookup in
    let there : slice_get c.args.parts.now c.args.place ≡ Some c.in-Some.part.now =
    item_there c.args.parts.now c.args.place c.in-Some.part.now (looked.3.0) (looked.1) in
    step_after s c.args.store.now whole c.args.evaluation.now h c.in-Some.part.now c.args.place c.in-Some-first_open.open top
    (ap (λ l. slice_get l c.args.place) around.of_parts ∙ there) (found g c)

pub returns-in-Some-first_open-clause-lower : goal.returns-in-Some-first_open-clause-lower
returns-in-Some-first_open-clause-lower g c =
    let looked = c.in-Some.ensures.lookup in
    let there : slice_get c.args.parts.now c.args.place ≡ Some c.in-Some.part.now =
    item_there c.args.parts.now c.args.place c.in-Some.part.now (looked.3.0) (looked.1) in
    let at = first_unknown_at c.args.evaluation.now (made_of c.in-Some.part.now) c.args.place c.in-Some-first_open.open
    (c.requires.behind c.args.place c.in-Some.part.now there) (found g c) in
    (looked.3.0, at.0, at.1)

pub returns-clause-told : goal.returns-clause-told
returns-clause-told g c =
    let e = c.args.evaluation.now in let store = c.args.store.now in let part = c.in-Some.part.now in
    let looked = c.in-Some.ensures.lookup in
    let there : slice_get c.args.parts.now c.args.place ≡ Some part =
    item_there c.args.parts.now c.args.place part (looked.3.0) (looked.1) in
    let none : first_unknown e (made_of part) ≡ None =
    ap (first_unknown e) (sym c.made_of.ensures) ∙ sym c.first_open.ensures ∙ c.in_default-first_open.is in
    let numbers : known_numbers e (made_of part) ≡ c.in_ok-args.args.items =
    ap (known_numbers e) (sym c.made_of-2.ensures) ∙ sym c.in_ok-args.ensures in
    both_told c.compute.result _ _ _ c.compute.ensures.computed c.compute.ensures.last
    (λ step computed last s whole around hold h top.
    let same : slice_get s.parts c.args.place ≡ Some part = ap (λ l. slice_get l c.args.place) around.of_parts ∙ there in
    let here : AreAround _ _ s.parts s = record {
      of_program = around.of_program;
      of_answers = around.of_answers;
      of_parts = refl;
      typed = around.typed;
    } in
    step_comes s store whole e h c.compute.new.store c.args.place step top last
    (computed s c.args.place here hold same
    (subst (λ z. AreKnown s store (made_of part) z) numbers (are_known s store e h.right (made_of part) none))))

pub returns-clause-lower : goal.returns-clause-lower
returns-clause-lower g c =
    let looked = c.in-Some.ensures.lookup in
    both_told c.compute.result _ _ _ c.compute.ensures.last c.compute.ensures.last
    (λ step last also. last_step c.args.evaluation.now c.args.parts.now c.args.place step (looked.3.0) last)
