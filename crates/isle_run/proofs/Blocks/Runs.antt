-- What runs of a program's calls say, and that each call has one.
use Rattle.std.proofs.Common.{◌≤◌, ℕ, List, subst}
use Rattle.isle_meaning.specs.Machine.Asking.{IsAskedByMachine}
use Rattle.isle_meaning.specs.Machine.Runs.{MachineRun}
use Rattle.isle_meaning.specs.Outcomes.{Outcome, given, missing, ended, IsAskedAtEnd}
use Rattle.isle_meaning.specs.PlainRuns.{PlainRun}
use Rattle.isle_meaning.specs.Values.{Value, Values}
use Rattle.isle_meaning.specs.Worlds.{Answers, Event}
use Rattle.isle_meaning.proofs.Calls.Effectless.{pure_makes_nothing}
use Rattle.isle_meaning.proofs.Calls.Meant.{plain_run_meant}
use Rattle.isle_meaning.proofs.Calls.One.{plain_runs_are_one}
use Rattle.isle_meaning.proofs.Calls.Staying.{run_stays}
use Rattle.isle_meaning.proofs.Chains.Ends.{runs_end}
use Rattle.isle_meaning.proofs.Machine.Beginnings.{machine_begins, pure_run_silent}
use Rattle.isle_meaning.proofs.Machine.Ends.{machine_run_ends}
use Rattle.isle_meaning.proofs.Machine.Meant.{machine_run_meant}
use Rattle.isle_meaning.proofs.Machine.One.{machine_runs_are_one}
use Rattle.isle_meaning.proofs.Machine.Short.{machine_run_short}
use Rattle.isle_meaning.proofs.Machine.Staying.{machine_runs_stay}
use Rattle.isle_calls.specs.TreeCalls.{term_trees}
use Rattle.isle_run.specs.Laws.Runs.{RunsByTreesSaySo, RunsByRulesSaySo, RunsByTreesAreOne, DeeperRunsByTreesAreOne, RunsByRulesAreOne}
use Rattle.isle_run.specs.Laws.Runs.{DeeperRunsByRulesAreOne}
use Rattle.isle_program.specs.Meanings.{checked, may_run}
use Rattle.isle_calls.proofs.TreeRoad.Grown.{compiled_grown}
use Rattle.isle_program.proofs.SoundPrograms.Known.{sound_of}

pub runs_by_trees_say_so : RunsByTreesSaySo
runs_by_trees_say_so program compiled w n t args steps made r may typed run =
    let grown = compiled_grown program compiled in record {
      meant = machine_run_meant (checked program) w (may_run program) (sound_of program).sound
          (term_trees program) grown.trees n t args steps made r may
          typed run;
      asked = asked r run;
      few = subst (λ (m : ℕ). steps ≤ m) (grown.few t may)
          (machine_run_short (checked program) w (may_run program) (term_trees program) grown.trees n t args steps made r may run);
      pure = λ pure. pure_run_silent (checked program) w (may_run program) (term_trees program)
          (sound_of program).sound grown.trees n t args made may pure
          (machine_begins (checked program) w (term_trees program) n t args steps made r run);
    }
  where
    asked : (r : Outcome Value) → MachineRun (checked program) (term_trees program) w n t args steps made r
        → IsAskedByMachine (checked program) w n t args made r
    asked (given v) run = tt
    asked missing run = tt
    asked (ended e) run = machine_run_ends (checked program) w (may_run program) (sound_of program).sound (term_trees program)
        (compiled_grown program compiled).trees n t args steps made e may typed run

pub runs_by_rules_say_so : RunsByRulesSaySo
runs_by_rules_say_so program w n t args steps made r may typed run = record {
  meant = plain_run_meant (checked program) w (may_run program) (sound_of program).sound n t args steps made r may typed run;
  asked = asked r run;
  pure = λ pure. pure_makes_nothing (checked program) w (may_run program) (sound_of program).sound n t args steps made r pure may run;
}
  where
    asked : (r : Outcome Value) → PlainRun (checked program) w n t args steps made r → IsAskedAtEnd (checked program) w n t args made r
    asked (given v) run = tt
    asked missing run = tt
    asked (ended e) run = runs_end (checked program) w (may_run program) (sound_of program).sound
        (plain_run_meant (checked program) w (may_run program) (sound_of program).sound) n t args steps made e may typed run

pub runs_by_trees_are_one : RunsByTreesAreOne
runs_by_trees_are_one program w n t args steps others one other r q run again =
    machine_runs_are_one (checked program) w (term_trees program) (sound_of program).sound.data_sound n t args steps others one other r q run again

pub deeper_runs_by_trees_are_one : DeeperRunsByTreesAreOne
deeper_runs_by_trees_are_one program w n m t args steps others one other r q less ends run again =
    runs_by_trees_are_one program w m t args steps others one other r q
    (machine_runs_stay (checked program) w (term_trees program) n m t args steps one r less ends run) again

pub runs_by_rules_are_one : RunsByRulesAreOne
runs_by_rules_are_one program w n t args steps others one other r q run again =
    plain_runs_are_one (checked program) w (sound_of program).sound.data_sound n t args steps others one other r q run again

pub deeper_runs_by_rules_are_one : DeeperRunsByRulesAreOne
deeper_runs_by_rules_are_one program w n m t args steps others one other r q less ends run again =
    runs_by_rules_are_one program w m t args steps others one other r q (run_stays (checked program) w n m t args steps one r less ends run) again
