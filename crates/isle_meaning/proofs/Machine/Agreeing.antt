-- A machine's run and a plain run of one call agree.
use Rattle.std.proofs.Common.{◌≡◌, ℕ, zero, suc, ◌+◌, List, Option, Some, None, subst, arith}
use Rattle.isle_meaning.specs.Values.{Value, Values}
use Rattle.isle_meaning.specs.Worlds.{CheckedProgram, Answers, Event}
use Rattle.isle_meaning.specs.Calls.{Means}
use Rattle.isle_meaning.specs.Outcomes.{outcome_of, IsMeant}
use Rattle.isle_meaning.specs.Laws.Machine.{RoadsAgree}
use Rattle.isle_meaning.proofs.Calls.Meant.{plain_runs_are_meant}
use Rattle.isle_meaning.proofs.Chains.Deeper.{stays_deeper}
use Rattle.isle_meaning.proofs.Chains.Always.{one_meaning_always}
use Rattle.isle_meaning.proofs.Machine.Meant.{machine_runs_are_meant}

-- an answer is meant
pub answer_meant : (p : CheckedProgram) (w : Answers) (n t : ℕ) (args : Values) (trace : List Event) (x : Option Value)
    → IsMeant p w n t args trace (outcome_of x) → Means p w n t args trace x
answer_meant p w n t args trace None h = h
answer_meant p w n t args trace (Some v) h = h.0

-- so it is at greater depths
pub meant_deeper : (p : CheckedProgram) (w : Answers) (k n t : ℕ) (args : Values) (trace : List Event) (x : Option Value)
    → Means p w n t args trace x → Means p w (k + n) t args trace x
meant_deeper p w zero n t args trace x h =
    let e : n ≡ zero + n = omega arith in subst (λ (m : ℕ). Means p w m t args trace x) e h
meant_deeper p w (suc k) n t args trace x h =
    let e : suc (k + n) ≡ suc k + n = omega arith in
    subst (λ (m : ℕ). Means p w m t args trace x) e (stays_deeper p w (k + n) t args trace x (meant_deeper p w k n t args trace x h))

-- Where a machine's run and a plain run of one call both answer, they agree.
pub roads_agree : {C : Type 0} → RoadsAgree C
roads_agree p w runs called trees whole H n m t args steps tried one other x y may typed machine plain =
    let here = answer_meant p w n t args one x (machine_runs_are_meant p w runs trees (whole.sound) H n t args steps one
    (outcome_of x) may typed machine) in
    let there = answer_meant p w m t args other y (plain_runs_are_meant p w runs (whole.sound) m t args tried other (outcome_of y) may typed plain) in
    let e : m + n ≡ n + m = omega arith in
    one_meaning_always p w runs called whole (n + m) t args one other x y may
    (subst (λ (k : ℕ). Means p w k t args one x) e (meant_deeper p w m n t args one x here)) (meant_deeper p w n m t args other y there)
