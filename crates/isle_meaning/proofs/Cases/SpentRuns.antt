-- Worked cases: plain runs at greater depths, and at the depth at which none is spent.
use Rattle.std.proofs.Common.{arith, ◌≡◌, ℕ, zero, suc, List, [], ◌∷◌, inl, inr, Bool, true, false, refl, sym, ◌∙◌, ap, subst, Some, slice_get}
use Rattle.std.specs.Prelude.{Contains, ◌==◌, if◌then◌else◌}
use Rattle.std.proofs.lemmas.Bool.{eqb-true}
use Rattle.std.proofs.lemmas.Option.{none-some, same_Some}
use Rattle.isle_rules.specs.TypedRules.{TypedRule}
use Rattle.isle_meaning.specs.Values.{bool_value}
use Rattle.isle_meaning.specs.Words.{set}
use Rattle.isle_meaning.specs.Worlds.{Answers, Event}
use Rattle.isle_meaning.specs.Asking.{spent}
use Rattle.isle_meaning.specs.Outcomes.{given, ended}
use Rattle.isle_meaning.specs.PlainRuns.{no_variables, AreTriedInOrder, PlainRun}
use Rattle.isle_meaning.specs.Reaching.{IsCalledInRule, Calls, Reaches, at_once, onwards}
use Rattle.isle_meaning.proofs.Calls.Spending.{no_cycles_none_spent}
use Rattle.isle_meaning.proofs.Calls.Staying.{run_stays}
use Rattle.isle_meaning.proofs.Cases.CalledTerms.{number, on, silent, conditional}
use Rattle.isle_meaning.proofs.Cases.AskedCalls.{truth, both_ways, wavering, turning}
use Rattle.isle_meaning.proofs.Cases.TriedRules.{lone, condition_holds}

-- (f 1), which is spent at depth 1 and 5 at depth 2, is 5 at depth 7, and tries one rule there too
deeper : PlainRun conditional silent 7 1 (on 1) 1 [] (given (number 5))
deeper = run_stays conditional silent 2 7 1 (on 1) 1 [] (given (number 5)) (omega arith) (λ e. cc) condition_holds

-- ---- the rules (g x) and (f x) of AskedCalls, where (f x) calls g, which has rules, and k and not, which have none

-- the one call of a term with rules
record IsOneCall (from to : ℕ) : Type 0 where
  caller : from ≡ 1
  called : to ≡ 0

-- f calls no other term with rules than g
calls_g : (to : ℕ) → wavering.has_rules to ≡ true → IsCalledInRule wavering.terms both_ways to → to ≡ 0
calls_g to ruled (inl (inl (inl h))) = absurd (let e = ap wavering.has_rules (sym (h.1)) ∙ ruled in cc)
calls_g to ruled (inl (inl (inr (inl (inl h))))) = h.1
calls_g to ruled (inl (inl (inr (inl (inr (inl h)))))) = absurd h
calls_g to ruled (inl (inl (inr (inl (inr (inr h)))))) = absurd h
calls_g to ruled (inl (inl (inr (inr h)))) = absurd h
calls_g to ruled (inl (inr (inl (inl h)))) = absurd (let e = ap wavering.has_rules (sym (h.1)) ∙ ruled in cc)
calls_g to ruled (inl (inr (inl (inr (inl (inl h)))))) = absurd (let e = ap wavering.has_rules (sym (h.1)) ∙ ruled in cc)
calls_g to ruled (inl (inr (inl (inr (inl (inr (inl (inl h)))))))) = h.1
calls_g to ruled (inl (inr (inl (inr (inl (inr (inl (inr (inl h))))))))) = absurd h
calls_g to ruled (inl (inr (inl (inr (inl (inr (inl (inr (inr h))))))))) = absurd h
calls_g to ruled (inl (inr (inl (inr (inl (inr (inr h))))))) = absurd h
calls_g to ruled (inl (inr (inl (inr (inr h))))) = absurd h
calls_g to ruled (inl (inr (inr h))) = absurd h
calls_g to ruled (inr h) = absurd h

calls_once : (from to : ℕ) → Calls wavering from to → IsOneCall from to
calls_once from to h = by (h.place) (h.rule) (h.at.listed) (h.at.of_term) (h.called)
  where
    by : (i : ℕ) (rule : TypedRule) → slice_get wavering.rules i ≡ Some rule → rule.root ≡ from → IsCalledInRule wavering.terms rule to
        → IsOneCall from to
    by zero rule at root called = elim (subst (λ (r : TypedRule). IsCalledInRule wavering.terms r to) (sym (same_Some _ rule at)) called) [
      | inl h ↦ absurd h
      | inr h ↦ absurd h
    ]
    by (suc zero) rule at root called = record {
      caller = sym (ap (λ (r : TypedRule). r.root) (same_Some _ rule at) ∙ root);
      called = calls_g to (h.has_rules)
          (subst (λ (r : TypedRule). IsCalledInRule wavering.terms r to) (sym (same_Some _ rule at)) called);
    }
    by (suc (suc i)) rule at root called = absurd (none-some rule at)

-- so no term reaches itself
reaches_once : (from to : ℕ) → Reaches wavering from to → IsOneCall from to
reaches_once from to (at_once h) = calls_once from to h
reaches_once from to (onwards {middle = middle} h k) =
    let here = (calls_once from middle h).called in let there = (reaches_once middle to k).caller in absurd (omega (arith, here, there))

acyclic : (t : ℕ) → Reaches wavering t t → ⊥
acyclic t h = let its = reaches_once t t h in let one = its.caller in let other = its.called in omega (arith, one, other)

-- two terms have rules
two_terms : (t : ℕ) → wavering.has_rules t ≡ true → Contains (0 ∷ 1 ∷ []) t
two_terms t ruled = by (t == 0) (t == 1) refl refl ruled
  where
    by : (zeroth first : Bool) → (t == 0) ≡ zeroth → (t == 1) ≡ first → (if zeroth then true else first) ≡ true → Contains (0 ∷ 1 ∷ []) t
    by true first e h ruled = (0, omega arith, sym (eqb-true t 0 e))
    by false true e h ruled = (1, omega arith, sym (eqb-true t 1 h))
    by false false e h ruled = absurd (let wrong = ruled in cc)

-- at depth 2 no call of f is spent, in any world
never_spent : (w : Answers) (b : Bool) (steps : ℕ) (trace : List Event) → PlainRun wavering w 2 1 (truth b) steps trace (ended spent) → ⊥
never_spent w b steps trace = no_cycles_none_spent wavering w acyclic (0 ∷ 1 ∷ []) two_terms 2 1 (truth b) steps trace (omega arith) refl

f_rules : AreTriedInOrder wavering 1 (1 ∷ [])
f_rules = lone wavering 1 1 both_ways refl refl alone
  where
    alone : (j : ℕ) (other : TypedRule) → slice_get wavering.rules j ≡ Some other → other.root ≡ 1 → j ≡ 1
    alone zero other at root =
        let same : 0 ≡ 1 = ap (λ (r : TypedRule). r.root) (same_Some _ other at) ∙ root in absurd (omega (arith, same))
    alone (suc zero) other at root = refl
    alone (suc (suc j)) other at root = absurd (none-some other at)

-- at depth 1 (f true) is spent, since it asks (g true)
spent_at_one : PlainRun wavering turning 1 1 (truth true) 1 [] (ended spent)
spent_at_one = (
  1 ∷ [],
  f_rules,
  (
    both_ways,
    refl,
    ended spent,
    (
      given (set no_variables 0 (bool_value true)),
      (given (set no_variables 0 (bool_value true)), (given no_variables, refl, refl), refl),
      (
        ended spent,
        (
          ended spent,
          (
            ended spent,
            (given (truth true), (given (bool_value true), refl, (given _, refl, refl)), (0, (refl, refl, refl))),
            refl,
          ),
          refl,
        ),
        refl,
      ),
    ),
    (refl, refl, refl),
  ),
)
