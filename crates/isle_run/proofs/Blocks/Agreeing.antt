-- Calls of a compiled program by its trees agree with plain runs, and without recursion none is spent.
use Rattle.std.proofs.Common.{◌≡◌, ◌≤◌, ◌+◌, ℕ, map, sym, ◌∙◌, subst, arith}
use Rattle.std.specs.Prelude.{◌==◌}
use Rattle.std.proofs.lemmas.Bool.{eqb-true}
use Rattle.std.proofs.lemmas.List.{length-map}
use Rattle.std.proofs.lemmas.Map.Views.{Contains-from_any}
use Rattle.isle_meaning.specs.Calls.{Means}
use Rattle.isle_meaning.specs.Outcomes.{outcome_of}
use Rattle.isle_meaning.proofs.Calls.Meant.{plain_run_meant}
use Rattle.isle_meaning.proofs.Machine.Agreeing.{answer_meant, meant_deeper}
use Rattle.isle_meaning.proofs.Machine.Meant.{machine_run_meant}
use Rattle.isle_meaning.proofs.Machine.Spending.{never_spent}
use Rattle.isle_calls.specs.TreeCalls.{term_trees}
use Rattle.isle_program.specs.Facts.Asked.{term_number}
use Rattle.isle_run.specs.Laws.TreeCalls.{AcyclicCallsAreNotSpent, CallsAgree}
use Rattle.isle_program.specs.Meanings.{checked, may_run}
use Rattle.isle_program.specs.Programs.{types_of, terms_of}
use Rattle.isle_calls.proofs.TreeRoad.Grown.{compiled_grown}
use Rattle.isle_run.proofs.Chains.Acyclic.{reaches_in}
use Rattle.isle_run.proofs.Chains.Compiled.{compiled_meanings_are_one}
use Rattle.isle_program.proofs.SoundPrograms.Known.{sound_of}

pub acyclic_calls_are_not_spent : AcyclicCallsAreNotSpent
acyclic_calls_are_not_spent program compiled acyclic roots are w n t args steps trace enough may run =
    never_spent (checked program) w (may_run program) (term_trees program) (sound_of program).sound (compiled_grown program compiled).trees
    (λ u h. acyclic u (reaches_in (types_of program) (terms_of program) u u h)) (map term_number roots)
    (λ u has. Contains-from_any {eq = λ q y. y == q} (λ x y e. sym (eqb-true y x e)) u (map term_number roots) (are.listed u ∙ has)) n t args
    steps trace (subst (λ (k : ℕ). k ≤ n) (sym (length-map roots term_number)) enough) may run

pub calls_agree : CallsAgree
calls_agree program compiled inhabited w n m t args steps tried one other x y may typed machine plain =
    let here = answer_meant (checked program) w n t args one x (machine_run_meant (checked program) w (may_run program) (sound_of program).sound
    (term_trees program) (compiled_grown program compiled).trees n t args steps one (outcome_of x) may typed machine) in
    let there = answer_meant (checked program) w m t args other y
    (plain_run_meant (checked program) w (may_run program) (sound_of program).sound m t args tried other (outcome_of y) may typed plain) in
    let e : m + n ≡ n + m = omega arith in
    compiled_meanings_are_one compiled.files program compiled.is inhabited w (n + m) t args one other x y may
    (subst (λ (k : ℕ). Means (checked program) w k t args one x) e (meant_deeper (checked program) w m n t args one x here))
    (meant_deeper (checked program) w n m t args other y there)
