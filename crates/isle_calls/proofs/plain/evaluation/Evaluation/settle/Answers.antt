use Rattle.std.proofs.Common.{◌≡◌, ◌++◌, ◌∷◌, [], Some, None, refl, sym, ◌∙◌, subst, arith}
use Rattle.std.specs.Prelude.{option_to_list}
use Rattle.isle_calls.specs.declared.plain.evaluation.Evaluation.{Evaluation}
use Rattle.isle_calls.specs.Inside.Plain.Underway.{known_at, top_of}
use Rattle.isle_calls.proofs.PlainRoad.Evaluations.Turns.{popped_first, popped_next, popped_settled, open_at, none_on_top, top_there}
use Rattle.isle_calls.proofs.PlainRoad.Evaluations.Turns.{taken_is, taken_fewer}
use Rattle.isle_calls.proofs.PlainRoad.Evaluations.Walk.{some_there, none_there}
use Rattle.isle_calls.proofs.plain.evaluation.Evaluation.settle.Goals as goal

pub loop-part-init : goal.loop-part-init
loop-part-init c = popped_first c.args.self.now

pub returns-then-is_none : goal.returns-then-is_none
returns-then-is_none c =
    let e = c.loop-part.self in
    let top : top_of e ≡ Some c.in-Some.part = sym c.top.ensures ∙ c.in-Some.is in
    let unknown : known_at e c.in-Some.part ≡ None = sym c.value_of.ensures ∙ none_there c.value_of.result c.if-is_none.ensures in
    popped_settled c.args.self.now e c.loop-part.invariant (λ other also. open_at e c.in-Some.part other top unknown also)

-- the part on top is taken off
taken : (c : goal.After-pop) → c.loop-part.self.todo.items ≡ c.pop.new.self.items ++ c.in-Some.part ∷ []
taken c =
    let e = c.loop-part.self in
    let top : top_of e ≡ Some c.in-Some.part = sym c.top.ensures ∙ c.in-Some.is in
    let some = top_there e c.in-Some.part top in
    let full = e.todo.ok in
    let is = c.pop.ensures.value 0 (omega (arith, some, full)) in
    taken_is e.todo.items c.pop.new.self.items _ c.in-Some.part
    (subst (λ r. e.todo.items ≡ c.pop.new.self.items ++ option_to_list r) is c.pop.ensures.items) top

pub loop-part-preserved : goal.loop-part-preserved
loop-part-preserved c =
    let e = c.loop-part.self in
    let (n, is) = some_there c.value_of.result c.if-is_none.ensures in
    let next : Evaluation = record { known = e.known; todo = c.pop.new.self; missed = e.missed } in
    popped_next c.args.self.now e next c.in-Some.part c.loop-part.invariant (n, sym c.value_of.ensures ∙ is) refl refl (taken c)

pub loop-part-smaller : goal.loop-part-smaller
loop-part-smaller c = taken_fewer c.loop-part.self.todo.items c.pop.new.self.items c.in-Some.part (taken c)

pub returns : goal.returns
returns c =
    let e = c.loop-part.self in
    let none : top_of e ≡ None = sym c.top.ensures ∙ c.in_default.is in
    popped_settled c.args.self.now e c.loop-part.invariant (λ part top. none_on_top e part none top)
