use Rattle.std.proofs.Common.{◌≡◌, ◌+◌, ◌<◌, ℕ, suc, List, Option, Some, slice_get, get_or, length, sym, ◌∙◌, ap, subst, arith}
use Rattle.std.specs.Prelude.{unwrap_or}
use Rattle.isle_rules.specs.declared.rules.IfLet.{IfLet as Condition}
use Rattle.isle_calls.specs.declared.plain.evaluation.Evaluation.{Evaluation}
use Rattle.isle_program.specs.declared.laid.Laid.{Laid}
use Rattle.isle_calls.specs.Inside.Plain.Frames.{IsFirstAt, RuleEnds}
use Rattle.isle_calls.specs.Inside.Plain.Underway.{known_at}
use Rattle.isle_calls.proofs.Places.{item_there}
use Rattle.isle_calls.proofs.PlainRoad.Frames.Told.{condition_read}
use Rattle.isle_calls.proofs.plain.frame.Driver.fit_condition.Goals as goal

condition_there : (items : List Condition) (place : ℕ) (x : Condition) {conditions : List Condition} → items ≡ conditions
    → place < length items → x ≡ get_or items place x → slice_get conditions place ≡ Some x
condition_there items place x same within is = subst (λ (l : List Condition). slice_get l place ≡ Some x) same (item_there items place x within is)

number_there : (e : Evaluation) (found : Option ℕ) {l m : Laid} {number : ℕ} → l ≡ m → found ≡ known_at e l.result
    → number ≡ unwrap_or found 0 → number ≡ unwrap_or (known_at e m.result) 0
number_there e found same value is = is ∙ ap (λ (o : Option ℕ). unwrap_or o 0) (value ∙ ap (λ (x : Laid). known_at e x.result) same)

pub returns-in_ok-current-in-Fits-clause-ending : goal.returns-in_ok-current-in-Fits-clause-ending
returns-in_ok-current-in-Fits-clause-ending g c = λ k others tried since runs empty at h.
    let next : c.args.place + 1 ≡ suc c.args.place = omega arith in
    (condition_read runs c.args.self.now.store c.fit.new.store c.args.current.now others tried c.args.place since
    empty at h c.in-Some.iflet.now (condition_there _ _ _ c.as_slice.ensures c.in-Some.ensures.lookup.3.0 c.in-Some.ensures.lookup.1)
    c.unwrap_or-number.result (number_there c.args.current.now.evaluation _ c.laid_at-laid.ensures c.value_of.ensures
    c.unwrap_or-number.ensures) c.fit.new.variables c.in_ok-fit.field-0 _ c.in-Fits.is c.in_ok-fit.ensures.fitted)
    c.in_ok-current-in-Fits.field-0 c.first_at-at.result
    (subst (λ (n : ℕ). IsFirstAt n c.args.current.now.laid.now c.first_at-at.result) next c.first_at-at.ensures, c.in_ok-current-in-Fits.ensures)

pub returns-in-Leaves-clause-ending : goal.returns-in-Leaves-clause-ending
returns-in-Leaves-clause-ending g c = λ k others tried since runs empty at h.
    condition_read runs c.args.self.now.store c.fit.new.store c.args.current.now others tried c.args.place since
    empty at h c.in-Some.iflet.now (condition_there _ _ _ c.as_slice.ensures c.in-Some.ensures.lookup.3.0 c.in-Some.ensures.lookup.1)
    c.unwrap_or-number.result (number_there c.args.current.now.evaluation _ c.laid_at-laid.ensures c.value_of.ensures
    c.unwrap_or-number.ensures) c.fit.new.variables c.in_ok-fit.field-0 _ c.in-Leaves.is c.in_ok-fit.ensures.fitted

pub returns-in-IllTyped-clause-ending : goal.returns-in-IllTyped-clause-ending
returns-in-IllTyped-clause-ending g c = λ k others tried since runs empty at h.
    subst (RuleEnds k c.fit.new.store (record c.args.current.now { variables = c.fit.new.variables }) others tried since)
    (sym c.ill_typed.ensures) (
    condition_read runs c.args.self.now.store c.fit.new.store c.args.current.now others tried c.args.place since
    empty at h c.in-Some.iflet.now (condition_there _ _ _ c.as_slice.ensures c.in-Some.ensures.lookup.3.0 c.in-Some.ensures.lookup.1)
    c.unwrap_or-number.result (number_there c.args.current.now.evaluation _ c.laid_at-laid.ensures c.value_of.ensures
    c.unwrap_or-number.ensures) c.fit.new.variables c.in_ok-fit.field-0 _ c.in-IllTyped.is c.in_ok-fit.ensures.fitted)
