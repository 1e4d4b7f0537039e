-- A call of a pure term makes no effects.
use Rattle.std.proofs.Common.{◌≡◌, ℕ, zero, suc, true, List, [], ◌∷◌, Some, slice_get, refl, sym, ◌∙◌, ap, subst, arith, Contains}
use Rattle.std.proofs.lemmas.List.Elements.{Contains-append_right}
use Rattle.isle_rules.specs.TypedRules.{TypedRule}
use Rattle.isle_meaning.specs.Values.{Value, Values}
use Rattle.isle_meaning.specs.Words.{Step, steps_of, word_of}
use Rattle.isle_meaning.specs.Worlds.{CheckedProgram, Answers, Event}
use Rattle.isle_meaning.specs.Outcomes.{Outcome, given, missing, ended}
use Rattle.isle_meaning.specs.PlainRuns.{RulesRun, RightRuns, Tried, PlainRun}
use Rattle.isle_meaning.specs.SoundPrograms.{IsSound}

module _ (p : CheckedProgram) (w : Answers) (below : ℕ → Values → List Event → Outcome Value → Type 0) where
  -- a right side without impure calls makes no effects
  right_makes_nothing : (a : ℕ → Value) (rule : TypedRule) (trace : List Event) (r : Outcome Value) → steps_of p.terms rule.right ≡ []
      → RightRuns p w below a [] (steps_of p.terms rule.right) (word_of p.terms rule.right) trace r → trace ≡ []
  right_makes_nothing a rule trace r e run =
      (subst (λ (steps : List Step). RightRuns p w below a [] steps (word_of p.terms rule.right) trace r) e run).0

  tried_makes_nothing : (t : ℕ) (args : Values) (rule : TypedRule) (is : List ℕ) (s : Outcome (ℕ → Value)) (more : ℕ) (trace : List Event)
      (r : Outcome Value) → steps_of p.terms rule.right ≡ []
      → ((n : ℕ) → RulesRun p w below t args is n trace r → trace ≡ [])
      → Tried s (λ a trace r. RightRuns p w below a [] (steps_of p.terms rule.right) (word_of p.terms rule.right) trace r)
      (RulesRun p w below t args is) more trace r → trace ≡ []
  tried_makes_nothing t args rule is (given a) more trace r e others h = right_makes_nothing a rule trace r e (h.1)
  tried_makes_nothing t args rule is missing more trace r e others h = others (h.0) (h.2)
  tried_makes_nothing t args rule is (ended x) more trace r e others h = h.1

  -- rules of a term without impure calls on their right sides make no effects
  rules_make_nothing : (t : ℕ) (args : Values) (is : List ℕ) (more : ℕ) (trace : List Event) (r : Outcome Value)
      → ((i : ℕ) (rule : TypedRule) → Contains is i → slice_get p.rules i ≡ Some rule → steps_of p.terms rule.right ≡ [])
      → RulesRun p w below t args is more trace r → trace ≡ []
  rules_make_nothing t args [] more trace r pure h = h.1
  rules_make_nothing t args (i ∷ is) more trace r pure (rule, at, s, run, tried) =
      tried_makes_nothing t args rule is s more trace r (pure i rule (0, omega arith, refl) at)
      (λ n others. rules_make_nothing t args is n trace r (λ j other c. pure j other (Contains-append_right (i ∷ []) is j c)) others) tried

-- a call of a pure term that can be run makes no effects
pub pure_makes_nothing : (p : CheckedProgram) (w : Answers) (R : ℕ → Type 0) → IsSound p R → (n t : ℕ) (args : Values) (steps : ℕ)
    (trace : List Event) (r : Outcome Value) → p.terms.pure t ≡ true → R t → PlainRun p w n t args steps trace r → trace ≡ []
pure_makes_nothing p w R sound zero t args steps trace r pure runs h = h.1
pure_makes_nothing p w R sound (suc n) t args steps trace r pure runs (places, tried, run) =
    rules_make_nothing p w (λ u vs effects q. (tried : ℕ) × PlainRun p w n u vs tried effects q) t args places steps trace r
    (λ i rule c at. let (other, here) = (tried.all i).0 c in let e : other ≡ rule = (let q = here.listed in cc) in
    let root : rule.root ≡ t = subst (λ (x : TypedRule). x.root ≡ t) e here.of_term in
    (sound.rules i rule at (subst R (sym root) runs)).pure_right (ap p.terms.pure root ∙ pure)) run
