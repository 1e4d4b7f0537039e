-- A plain run's answer is the call's meaning, by induction on the depth.
use Rattle.std.proofs.Common.{◌≡◌, ◌+◌, ℕ, zero, suc, true, List, slice_get, refl, sym, ap, subst, arith}
use Rattle.isle_meaning.specs.Values.{Value, Values}
use Rattle.isle_meaning.specs.GroundValues.{IsValueOf, AreValuesOf}
use Rattle.isle_meaning.specs.Worlds.{CheckedProgram, Answers, Event}
use Rattle.isle_meaning.specs.Answers.{Completion}
use Rattle.isle_meaning.specs.Calls.{Agrees, CoversAll, Told, Means}
use Rattle.isle_meaning.specs.Outcomes.{Outcome, given, missing, ended, IsMeant}
use Rattle.isle_meaning.specs.PlainRuns.{RulesRun, PlainRun}
use Rattle.isle_meaning.specs.SoundPrograms.{IsSound}
use Rattle.isle_meaning.specs.Inside.TypedWords.{GivesTyped}
use Rattle.isle_meaning.specs.Laws.Plain.{PlainRunsAreMeant}
use Rattle.isle_meaning.proofs.Calls.Saying.{OutcomeMeans, GivesMeant}
use Rattle.isle_meaning.proofs.Calls.Rights.{IsAnswer}
use Rattle.isle_meaning.proofs.Calls.Choosing.{rules_answer, rules_give_typed}

-- what is meant is what an outcome means
meant_outcome : (p : CheckedProgram) (w : Answers) (n t : ℕ) (vs : Values) (effects : List Event) (r : Outcome Value)
    → IsMeant p w n t vs effects r → OutcomeMeans (Means p w n) t vs effects r
meant_outcome p w n t vs effects (given v) h = h.0
meant_outcome p w n t vs effects missing h = h
meant_outcome p w n t vs effects (ended e) h = tt

-- what is told under each completion, of a term with rules, is meant
told_is_meant : (p : CheckedProgram) (w : Answers) (n t : ℕ) (args : Values) (trace : List Event) (r : Outcome Value) → p.has_rules t ≡ true
    → ((v : Value) → r ≡ given v → IsValueOf p.values v (p.terms.type_of t))
    → IsAnswer (λ x. (c : Completion) → Agrees p w (Means p w n) c → CoversAll p c t args → Told p (Means p w n) c t args trace x) r
    → IsMeant p w (suc n) t args trace r
told_is_meant p w n t args trace (given v) ruled typed h = ((ruled, h), typed v refl)
told_is_meant p w n t args trace missing ruled typed h = (ruled, h)
told_is_meant p w n t args trace (ended e) ruled typed h = tt

module _ (p : CheckedProgram) (w : Answers) (R : ℕ → Type 0) (sound : IsSound p R) where
  -- a plain run of one of these terms, on arguments of its types, is meant
  pub plain_run_meant : (n t : ℕ) (args : Values) (steps : ℕ) (trace : List Event) (r : Outcome Value) → R t
      → AreValuesOf p.values args (p.terms.inputs t) → PlainRun p w n t args steps trace r → IsMeant p w n t args trace r
  plain_run_meant zero t args steps trace r runs typed run = subst (IsMeant p w 0 t args trace) (sym (run.2)) tt
  plain_run_meant (suc n) t args steps trace r runs typed (places, tried, run) =
      let below : ℕ → Values → List Event → Outcome Value → Type 0 = λ u vs effects q. (tried : ℕ) × PlainRun p w n u vs tried effects q in
      let meant : GivesMeant p R below (Means p w n) = λ u vs effects q ru args_typed its.
      meant_outcome p w n u vs effects q (plain_run_meant n u vs (its.0) effects q ru args_typed (its.1)) in
      let gives_typed : GivesTyped p R below = λ u vs effects v ru args_typed its.
      (plain_run_meant n u vs (its.0) effects (given v) ru args_typed (its.1)).1 in
      let all : (m : ℕ) → slice_get places (m + 0) ≡ slice_get places m =
      λ m. (let q : m + 0 ≡ m = omega arith in ap (slice_get places) q) in
      told_is_meant p w n t args trace r (sound.ruled t runs)
      (λ v e. rules_give_typed p w R sound below gives_typed (Means p w n) meant t args runs typed places tried places 0 all steps trace v
      (subst (RulesRun p w below t args places steps trace) e run))
      (rules_answer p w R sound below gives_typed (Means p w n) meant t args runs typed places tried places 0 all
      (λ l i rule less. absurd (omega (arith, less))) steps trace r run)

-- Where a plain run answers, that is the call's meaning.
pub plain_runs_are_meant : PlainRunsAreMeant
plain_runs_are_meant p w runs sound n t args steps trace r h typed run =
    plain_run_meant p w (λ u. runs u ≡ true) sound n t args steps trace r h typed run
