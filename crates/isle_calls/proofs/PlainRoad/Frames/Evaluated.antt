-- What is evaluated of a rule.
use Rattle.std.proofs.Common.{◌≡◌, ◌⊎◌, inl, inr, ℕ, zero, suc, true, List, [], length, refl, sym, ◌∙◌, ap, subst, arith, Contains}
use Rattle.std.proofs.lemmas.List.{append-nil}
use Rattle.isle_meaning.specs.Values.{Value, Values}
use Rattle.isle_meaning.specs.Words.{Word, call_word, Words}
use Rattle.isle_meaning.specs.Worlds.{CheckedProgram, Answers, Event}
use Rattle.isle_meaning.specs.Asking.{Ended, ill_typed, asks_value}
use Rattle.isle_calls.specs.declared.answer.Answer.TheVariants.{IllTyped as IllTypedAnswer}
use Rattle.isle_calls.specs.declared.plain.evaluation.Evaluation.{Evaluation}
use Rattle.isle_calls.specs.declared.plain.evaluation.Evaluated.{Evaluated}
use Rattle.isle_calls.specs.declared.plain.evaluation.Evaluated.TheVariants.{Done, Missing, IllTyped, Waits}
use Rattle.isle_calls.specs.declared.plain.frame.current.At.{At}
use Rattle.isle_calls.specs.declared.plain.frame.current.At.TheVariants.{IfLet, Right, Left, Missed}
use Rattle.isle_program.specs.declared.laid.Laid.{Laid}
use Rattle.isle_program.specs.declared.laid.Part.{Part}
use Rattle.isle_program.specs.declared.program.Program.{Program}
use Rattle.isle_calls.specs.declared.store.Stored.{Stored}
use Rattle.isle_program.specs.Meanings.{checked, may_run}
use Rattle.isle_meaning.specs.Outcomes.{Outcome, missing, ended}
use Rattle.isle_program.specs.Programs.{types_of}
use Rattle.isle_calls.specs.Stores.Values.{Extends}
use Rattle.isle_calls.specs.Inside.Plain.Fitting.{HoldVariables}
use Rattle.isle_meaning.specs.Inside.TypedWords.{IsTypedWord}
use Rattle.isle_calls.specs.Inside.Plain.Underway.{Surroundings, Stops, HasTypedValue, IsPart, ComesTo, IsUnderway, IsKnown, IsLater, Tells, AreAround}
use Rattle.isle_calls.specs.Inside.Plain.Asked.{IsAskedFor}
use Rattle.isle_calls.specs.Inside.Plain.Frames.{CallComes, CallEnds, RulesLead, RuleTried, RuleComes, right_steps, right_word, RightComes, IsTried}
use Rattle.isle_calls.specs.Inside.Plain.Frames.{Progress, later, ConditionAt, around_condition, condition_word, IsAtIfLet, word_needed, root_at}
use Rattle.isle_calls.specs.Inside.Plain.Frames.{RightSoFar, around_right, IsAtRight, IsTryingRule, awaited, IsRuleHeldUp, laid_at, IsOnWay}
use Rattle.isle_meaning.proofs.Calls.RuleGiving.{none_answered}
use Rattle.isle_calls.proofs.PlainRoad.Patterns.Numbers.{hold_longer}
use Rattle.isle_calls.proofs.PlainRoad.Frames.Rules.{rule_left, rule_ended, right_comes}
use Rattle.isle_calls.proofs.PlainRoad.Frames.Steps.{right_stops, root_laid, index_there}

-- of the terms with rules a typed call calls only these
pub call_may : (p : CheckedProgram) (R S : ℕ → Type 0) (G D : ℕ → ℕ) (t : ℕ) (ws : Words) (place u : ℕ)
    → IsTypedWord p R S G D (call_word t ws place) u → p.has_rules t ≡ true → R t
call_may p R S G D t ws zero u h = h.1
call_may p R S G D t ws (suc i) u h = h.2

-- a part that was asked for still is, or is evaluated
pub asked_later : (root : ℕ) (old new : Evaluation) → IsLater old new → IsAskedFor root old → IsAskedFor root new
asked_later root old new later (inl (empty, known)) = elim (later.under root (inl empty)) [
  | inl none ↦ inl (none, later.more root known)
  | inr h ↦ inr h
]
asked_later root old new later (inr (others, first, below)) = elim (later.under root (inr (others, first, below))) [
  | inl none ↦ inl (none, remains none (later.remains root (subst (λ (l : List ℕ). Contains l root) (sym first) (0, omega arith, refl))))
  | inr h ↦ inr h
]
  where
    nowhere : Contains [] root → ⊥
    nowhere h = omega (arith, h.1)

    remains : new.todo.items ≡ [] → Contains new.todo.items root ⊎ IsKnown new root → IsKnown new root
    remains none (inl among) = absurd (nowhere (subst (λ (l : List ℕ). Contains l root) none among))
    remains none (inr known) = known

module _ {t : RuleTried} {is : IsTried t} {place : ℕ} (c : ConditionAt t is place) where
  -- where no value comes of a condition's expression the rule is left, or ends
  pub condition_missing : ComesTo (around_condition c) (condition_word c) missing → RuleComes t missing
  condition_missing run = c.onward missing (missing, run, refl)

  pub condition_ended : (e : Ended) → ComesTo (around_condition c) (condition_word c) (ended e) → RuleComes t (ended e)
  condition_ended e run = c.onward (ended e) (ended e, run, refl)

-- a condition is still evaluated
abbrev pub condition_later : {t : RuleTried} {is : IsTried t} {s : Progress} {place : ℕ} (at : IsAtIfLet t is s place) {new : List Stored}
    → Extends s.stored new → (after : Evaluation) → IsUnderway (around_condition at.condition) new (condition_word at.condition) after
    → IsAskedFor at.condition.expr.result after → after.missed ≡ s.evaluation.missed → IsAtIfLet t is (later s new after) place
condition_later {s = s} at extends after underway asked missed = record {
  condition = at.condition;
  hold = hold_longer extends s.variables at.condition.a at.hold;
  asked = asked;
  missed = missed ∙ at.missed;
  underway = underway;
}

module _ {t : RuleTried} {is : IsTried t} {since : List Event} (right : RightSoFar t is since) where
  -- the part that is needed at a place
  pub right_root : (n : ℕ) → (u : ℕ) × IsPart (around_right right) (word_needed t n) u (root_at t.laid.right n)
  right_root n =
      let (u, its_laid, typed) = root_laid (checked t.call.program) (may_run t.call.program) (HasTypedValue (around_right right))
      is.sound.var_types right.answer_types (types_of t.call.program).names t.laid.right.parts.items 0 (right_steps t)
      t.laid.right.calls.items (right_word t) t.laid.right.result right.type n is.laid_out.right.steps right.steps_typed right.result.0
      right.result.1 in
      (u, (its_laid, typed))

  -- where no value comes of what is needed, none comes of the call
  pub right_stopped : (r : Outcome Value) → Stops r → ComesTo (around_right right) (word_needed t (length right.done)) r
      → CallComes t.call t.tried since r
  right_stopped r stops run =
      let rest = right_stops _ _ _ right.a right.done (right_steps t) (right_word t) (length right.done) r stops run in
      right_comes is right.a since r right.chosen
      (subst (λ (trace : List Event). RightComes t right.a trace r) (append-nil since) (right.onward [] r rest))

-- a right side is still evaluated
abbrev pub right_later : {t : RuleTried} {is : IsTried t} {s : Progress} {place : ℕ} {since : List Event} (at : IsAtRight t is s place since)
    {new : List Stored} → Extends s.stored new → (after : Evaluation)
    → IsUnderway (around_right at.right) new (word_needed t (length at.right.done)) after
    → ((i : ℕ) → IsKnown s.evaluation i → IsKnown after i) → IsAskedFor (root_at t.laid.right place) after
    → after.missed ≡ s.evaluation.missed → IsAtRight t is (later s new after) place since
right_later {s = s} at extends after underway more asked missed = record {
  right = at.right;
  hold = hold_longer extends s.variables at.right.a at.hold;
  stage = at.stage;
  known = λ i n less there. more n (at.known i n less there);
  asked = asked;
  missed = missed ∙ at.missed;
  underway = underway;
}

-- what is known where no value comes of what is needed at a place
abbrev pub MissesAt : RuleTried → List Event → At → Type 0
MissesAt t since (IfLet place) = (since ≡ []) × RulesLead t.call t.others t.tried
MissesAt t since (Right place) = CallComes t.call t.tried since missing
MissesAt t since Left = ⊥
MissesAt t since Missed = ⊥

-- what a rule has come to by an evaluation
abbrev pub RuleEvaluated : RuleTried → Progress → At → List Event → Evaluated → Type 0
RuleEvaluated t s at since Done = IsTryingRule t s at since × (s.evaluation.todo.items ≡ [])
RuleEvaluated t s at since Missing = MissesAt t since at
RuleEvaluated t s at since (IllTyped term args) = CallEnds t.call t.tried since (IllTypedAnswer term args)
RuleEvaluated t s at since (Waits term numbers) = (args : Values) × IsRuleHeldUp t s at since (awaited term numbers.items args)

module _ {t : RuleTried} (is : IsTried t) (s : Progress) {new : List Stored} (extends : Extends s.stored new) (after : Evaluation)
    (on : IsLater s.evaluation after) where
  condition_evaluated : (place : ℕ) (since : List Event) (evaluated : Evaluated) → since ≡ [] → (at : IsAtIfLet t is s place)
      → Tells (around_condition at.condition) new (condition_word at.condition) after evaluated
      → RuleEvaluated t (later s new after) (IfLet place) since evaluated
  condition_evaluated place since evaluated none at tells = go evaluated tells
    where
      still : IsUnderway (around_condition at.condition) new (condition_word at.condition) after → IsAtIfLet t is (later s new after) place
      still underway = condition_later at extends after underway (asked_later at.condition.expr.result s.evaluation after on at.asked) on.missed

      go : (evaluated : Evaluated) → Tells (around_condition at.condition) new (condition_word at.condition) after evaluated
          → RuleEvaluated t (later s new after) (IfLet place) since evaluated
      go Done (underway, empty) = (record { is = is; at = (none, still underway) }, empty)
      go Missing comes = (none, rule_left is (condition_missing at.condition comes))
      go (IllTyped term args) (vs, called, comes) =
          let e = ill_typed (asks_value term.0 vs) in (
            e,
            (asks_value term.0 vs, refl, called),
            subst (λ (trace : List Event). CallComes t.call t.tried trace (ended e)) (sym none)
                (rule_ended is e (condition_ended at.condition e comes)),
          )
      go (Waits term numbers) (args, underway, waits) = (
        args,
        record {
          is = is;
          waits = (none, record { at = still underway; waits = waits });
          args_stand = waits.stand;
          args_typed = waits.typed;
          may_call = call_may (checked t.call.program) (may_run t.call.program) _ _ _ term.0 waits.words waits.place waits.type waits.call.1;
        },
      )

  right_evaluated : (place : ℕ) (since : List Event) (evaluated : Evaluated) → (at : IsAtRight t is s place since)
      → Tells (around_right at.right) new (word_needed t (length at.right.done)) after evaluated
      → RuleEvaluated t (later s new after) (Right place) since evaluated
  right_evaluated place since evaluated at tells = go evaluated tells
    where
      still : IsUnderway (around_right at.right) new (word_needed t (length at.right.done)) after
          → IsAtRight t is (later s new after) place since
      still underway = right_later at extends after underway on.more (asked_later (root_at t.laid.right place) s.evaluation after on at.asked)
          on.missed

      go : (evaluated : Evaluated) → Tells (around_right at.right) new (word_needed t (length at.right.done)) after evaluated
          → RuleEvaluated t (later s new after) (Right place) since evaluated
      go Done (underway, empty) = (record { is = is; at = still underway }, empty)
      go Missing comes = right_stopped at.right missing tt comes
      go (IllTyped term args) (vs, called, comes) =
          let e = ill_typed (asks_value term.0 vs) in
          (e, (asks_value term.0 vs, refl, called), right_stopped at.right (ended e) tt comes)
      go (Waits term numbers) (args, underway, waits) = (
        args,
        record {
          is = is;
          waits = record { at = still underway; waits = waits };
          args_stand = waits.stand;
          args_typed = waits.typed;
          may_call = call_may (checked t.call.program) (may_run t.call.program) _ _ _ term.0 waits.words waits.place waits.type waits.call.1;
        },
      )

-- what the evaluation of an expression tells
abbrev pub EvaluationTold : Progress → List Stored → Evaluation → Evaluated → List Part → Program → Answers → Type 0
EvaluationTold s new after evaluated parts program w = (z : Surroundings) (whole : Word) → AreAround program w parts z
    → HoldVariables s.stored s.variables z.variables → IsUnderway z s.stored whole s.evaluation → Tells z new whole after evaluated

-- what is evaluated tells what the rule has come to
pub rule_evaluated : (t : RuleTried) (s : Progress) {new : List Stored} → Extends s.stored new → (after : Evaluation)
    → IsLater s.evaluation after → (at : At) (since : List Event) (evaluated : Evaluated) → IsOnWay at → IsTryingRule t s at since
    → EvaluationTold s new after evaluated (laid_at t.laid at).parts.items t.call.program t.call.answers
    → RuleEvaluated t (later s new after) at since evaluated
rule_evaluated t s extends after on (IfLet place) since evaluated way h told =
    let (none, at) = h.at in
    condition_evaluated h.is s extends after on place since evaluated none at (told (around_condition at.condition) _ (record {
      of_program = refl;
      of_answers = refl;
      of_parts = ap (λ (x : Laid). x.parts.items)
          (sym (index_there t.laid.iflets.items place t.laid.right at.condition.expr at.condition.there));
      typed = none_answered (checked t.call.program) at.condition.answer_types;
    }) at.hold at.underway)
rule_evaluated t s extends after on (Right place) since evaluated way h told =
    let at = h.at in
    right_evaluated h.is s extends after on place since evaluated at (told (around_right at.right) _ (record {
      of_program = refl;
      of_answers = refl;
      of_parts = refl;
      typed = at.right.typed;
    }) at.hold at.underway)
rule_evaluated t s extends after on Left since evaluated way h told = absurd way
rule_evaluated t s extends after on Missed since evaluated way h told = absurd way
