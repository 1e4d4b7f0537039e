-- What a run of a compiled program's trees tells, and one that stops.
use Rattle.std.proofs.Common.{◌≤◌, ℕ, List, subst}
use Rattle.isle_meaning.specs.Outcomes.{Outcome, given, missing, ended}
use Rattle.isle_meaning.specs.Machine.Asking.{IsAskedByMachine}
use Rattle.isle_meaning.specs.Machine.Beginnings.{MachineBegins}
use Rattle.isle_meaning.specs.Machine.Runs.{MachineRun}
use Rattle.isle_meaning.specs.Values.{Value, Values}
use Rattle.isle_meaning.specs.Worlds.{Answers, Event}
use Rattle.isle_meaning.proofs.Machine.Beginnings.{machine_begins, pure_run_silent}
use Rattle.isle_meaning.proofs.Machine.Ends.{machine_run_ends}
use Rattle.isle_meaning.proofs.Machine.Meant.{machine_run_meant}
use Rattle.isle_meaning.proofs.Machine.Short.{machine_run_short}
use Rattle.isle_calls.specs.declared.answer.Called.{Called}
use Rattle.isle_program.specs.declared.program.Program.{Program}
use Rattle.isle_calls.specs.Inside.Blocks.Frames.{IsGrown}
use Rattle.isle_calls.specs.TreeCalls.{term_trees}
use Rattle.isle_calls.specs.Calls.Answers.{TellsOutcome}
use Rattle.isle_calls.specs.Calls.Ways.{IsReady}
use Rattle.isle_program.specs.Meanings.{checked, may_run}
use Rattle.isle_calls.specs.TreeCalls.{TellsByTree, BeginsByTree}
use Rattle.isle_program.proofs.SoundPrograms.Known.{sound_of}

-- what a run comes to, and its answer tells, the call tells
pub tree_tells : (program : Program) (w : Answers) (n t : ℕ) (vs : Values) (called : Called) (made : List Event) (r : Outcome Value)
    → IsReady IsGrown program t vs → TellsOutcome program t called.answer r → MachineRun (checked program)
    (term_trees program) w n t vs called.steps made r
    → TellsByTree program w n t vs called made
tree_tells program w n t vs called made r ready told run = record {
  outcome = r;
  told = told;
  run = run;
  few = subst (λ (m : ℕ). called.steps ≤ m) (ready.holds.few t ready.may)
      (machine_run_short (checked program) w (may_run program) (term_trees program) ready.holds.trees n t vs called.steps made r ready.may run);
  meant = machine_run_meant (checked program) w (may_run program) (sound_of program).sound (term_trees program)
      ready.holds.trees n t vs called.steps made r
      ready.may ready.typed run;
  asked = asked r run;
  pure = λ pure. pure_run_silent (checked program) w (may_run program) (term_trees program) (sound_of program).sound
      ready.holds.trees n t vs made ready.may pure
      (machine_begins (checked program) w (term_trees program) n t vs called.steps made r run);
}
  where
    asked : (r : Outcome Value) → MachineRun (checked program) (term_trees program) w n t vs called.steps made r
        → IsAskedByMachine (checked program) w n t vs made r
    asked (given v) run = tt
    asked missing run = tt
    asked (ended e) run = machine_run_ends (checked program) w (may_run program) (sound_of program).sound
        (term_trees program) ready.holds.trees n t vs
        called.steps made e ready.may ready.typed run

-- one that stops begins with its effects
pub tree_stops : (program : Program) (w : Answers) (n t : ℕ) (vs : Values) (made : List Event) → IsReady IsGrown program t vs
    → MachineBegins (checked program) (term_trees program) w n t vs made → BeginsByTree program w n t vs made
tree_stops program w n t vs made ready begins = record {
  begins = begins;
  pure = λ pure. pure_run_silent (checked program) w (may_run program) (term_trees program) (sound_of program).sound
      ready.holds.trees n t vs made ready.may pure
      begins;
}
