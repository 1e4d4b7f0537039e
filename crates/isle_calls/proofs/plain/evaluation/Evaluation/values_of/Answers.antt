use Rattle.std.proofs.Common.{◌≡◌, ◌++◌, ◌+◌, ℕ, List, drop, sym, ◌∙◌, ap, subst}
use Rattle.isle_calls.specs.Inside.Plain.Underway.{known_numbers}
use Rattle.isle_calls.proofs.PlainRoad.Evaluations.Walk.{number_here, number_behind, no_number}
use Rattle.isle_calls.proofs.plain.evaluation.Evaluation.values_of.Goals as goal
use Rattle.isle_calls.proofs.plain.evaluation.Evaluation.values_of.Goals.{in-Some+in_ok-push, in_default}

pub loop-i-init : goal.loop-i-init
loop-i-init c = ap (λ (l : List ℕ). l ++ known_numbers c.args.self.now c.args.parts.now) c.in_ok-numbers.ensures.items

pub loop-i-preserved : goal.loop-i-preserved
loop-i-preserved c =
    let e = c.args.self.now in let ks = c.args.parts.now in let i = c.loop-i.i in let old = c.loop-i.numbers.items in
    let all : old ++ known_numbers e (drop i ks) ≡ known_numbers e ks = c.loop-i.invariant in
    elim c.match-value_of.branch [
      | in-Some+in_ok-push w ↦
          subst (λ v. v.items ++ known_numbers e (drop (i + 1) ks) ≡ known_numbers e ks) (sym w.numbers-is)
          (subst (λ (l : List ℕ). l ++ known_numbers e (drop (i + 1) ks) ≡ known_numbers e ks) (sym w.in_ok-push.ensures.items)
          (number_here e ks i old w.in-Some.number c.loop-i-test.true (sym c.value_of.ensures ∙ w.in-Some.is) ∙ all))
      | in_default w ↦
          subst (λ v. v.items ++ known_numbers e (drop (i + 1) ks) ≡ known_numbers e ks) (sym w.numbers-is)
          (number_behind e ks i old c.loop-i-test.true (sym c.value_of.ensures ∙ w.in_default.is) ∙ all)
    ]

pub returns : goal.returns
returns c =
    let e = c.args.self.now in let ks = c.args.parts.now in let i = c.loop-i.i in let old = c.loop-i.numbers.items in
    let all : old ++ known_numbers e (drop i ks) ≡ known_numbers e ks = c.loop-i.invariant in
    sym (no_number e ks i old c.loop-i-test.false) ∙ all
