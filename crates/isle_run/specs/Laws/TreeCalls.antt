-- Calls of a compiled program by its trees: they agree with plain runs, and without recursion none is spent.
use Rattle.std.specs.Prelude.{◌≤◌, ℕ, List, Option, length}
use Rattle.isle_types.specs.declared.ids.TermId.{TermId}
use Rattle.isle_meaning.specs.Asking.{spent}
use Rattle.isle_meaning.specs.GroundValues.{AreValuesOf}
use Rattle.isle_meaning.specs.Laws.Calls.{AreOne}
use Rattle.isle_meaning.specs.Machine.Runs.{MachineRun}
use Rattle.isle_meaning.specs.Outcomes.{ended, outcome_of}
use Rattle.isle_meaning.specs.PlainRuns.{PlainRun}
use Rattle.isle_meaning.specs.Values.{Value, Values}
use Rattle.isle_meaning.specs.Worlds.{Answers, Event}
use Rattle.isle_program.specs.declared.program.Program.{Program}
use Rattle.isle_calls.specs.TreeCalls.{term_trees}
use Rattle.isle_program.specs.Facts.Asked.{AreRoots}
use Rattle.isle_program.specs.Facts.Inhabited.{AreAllInhabited}
use Rattle.isle_program.specs.Facts.Reach.{Reaches}
use Rattle.isle_run.specs.Laws.Sound.{RunsIn}
use Rattle.isle_program.specs.Meanings.{checked}
use Rattle.isle_program.specs.Programs.{types_of, terms_of}
use Rattle.isle_calls.specs.TreeCalls.{IsCompiled}

-- Where no term of a compiled program reaches itself, no run by its trees of a term that can be run is spent at a depth of at least the number
-- of terms with rules.
abbrev pub AcyclicCallsAreNotSpent : Type 0
AcyclicCallsAreNotSpent = (program : Program) → IsCompiled program → ((t : ℕ) → Reaches (types_of program) (terms_of program) t t → ⊥)
    → (roots : List TermId) → AreRoots (terms_of program) roots
    → (w : Answers) (n t : ℕ) (args : Values) (steps : ℕ) (trace : List Event) → length roots ≤ n → RunsIn program t
    → MachineRun (checked program) (term_trees program) w n t args steps trace (ended spent) → ⊥

-- Where a run by trees and a plain run of one call both answer, at whatever depths, their answers and effects are one, or the effects first
-- differ in the world's answer to the same call, in a compiled program each of whose types is inhabited.
abbrev pub CallsAgree : Type 0
CallsAgree = (program : Program) → IsCompiled program → AreAllInhabited (types_of program).types
    → (w : Answers) (n m t : ℕ) (args : Values) (steps tried : ℕ) (one other : List Event) (x y : Option Value) → RunsIn program t
    → AreValuesOf (checked program).values args ((checked program).terms.inputs t)
    → MachineRun (checked program) (term_trees program) w n t args steps one (outcome_of x)
    → PlainRun (checked program) w m t args tried other (outcome_of y) → AreOne one x other y
