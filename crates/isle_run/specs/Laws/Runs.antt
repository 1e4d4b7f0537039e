-- Runs of a program's calls, by trees and by rules: what they say of the call, and that there is one.
use Rattle.std.specs.Prelude.{◌≡◌, ◌≢◌, ◌≤◌, ℕ, true, List, []}
use Rattle.isle_meaning.specs.Asking.{spent}
use Rattle.isle_meaning.specs.GroundValues.{AreValuesOf}
use Rattle.isle_meaning.specs.Laws.Calls.{AreOneRun}
use Rattle.isle_meaning.specs.Machine.Asking.{IsAskedByMachine}
use Rattle.isle_meaning.specs.Machine.Runs.{MachineRun}
use Rattle.isle_meaning.specs.Outcomes.{Outcome, ended, IsMeant, IsAskedAtEnd}
use Rattle.isle_meaning.specs.PlainRuns.{PlainRun}
use Rattle.isle_meaning.specs.Values.{Value, Values}
use Rattle.isle_meaning.specs.Worlds.{Answers, Event}
use Rattle.isle_program.specs.declared.program.Program.{Program}
use Rattle.isle_calls.specs.TreeCalls.{term_trees}
use Rattle.isle_program.specs.Facts.Steps.{steps_in}
use Rattle.isle_run.specs.Laws.Sound.{RunsIn}
use Rattle.isle_program.specs.Meanings.{checked}
use Rattle.isle_program.specs.Programs.{rule_sets_of}
use Rattle.isle_calls.specs.TreeCalls.{IsCompiled}

-- What a run by trees says of its call: an answer is what the call means, any other end is that of a chain of asking; it reaches no more steps
-- than the term's rules take at most, and makes no effects where the term is pure.
pub record SaysByTree (program : Program) (w : Answers) (depth term : ℕ) (args : Values) (steps : ℕ) (made : List Event)
    (r : Outcome Value) : Type 0 where
  pub meant : IsMeant (checked program) w depth term args made r
  pub asked : IsAskedByMachine (checked program) w depth term args made r
  pub few : steps ≤ steps_in (rule_sets_of program) term
  pub pure : (checked program).terms.pure term ≡ true → made ≡ []

-- So says each run by the trees of a compiled program, of a term that can be run on values of its types.
abbrev pub RunsByTreesSaySo : Type 0
RunsByTreesSaySo = (program : Program) → IsCompiled program → (w : Answers) (n t : ℕ) (args : Values) (steps : ℕ) (made : List Event)
    (r : Outcome Value) → RunsIn program t → AreValuesOf (checked program).values args ((checked program).terms.inputs t)
    → MachineRun (checked program) (term_trees program) w n t args steps made r → SaysByTree program w n t args steps made r

-- What a plain run says of its call, likewise.
pub record SaysByRules (program : Program) (w : Answers) (depth term : ℕ) (args : Values) (made : List Event) (r : Outcome Value) : Type 0 where
  pub meant : IsMeant (checked program) w depth term args made r
  pub asked : IsAskedAtEnd (checked program) w depth term args made r
  pub pure : (checked program).terms.pure term ≡ true → made ≡ []

-- So says each plain run of a term that can be run on values of its types.
abbrev pub RunsByRulesSaySo : Type 0
RunsByRulesSaySo = (program : Program) (w : Answers) (n t : ℕ) (args : Values) (steps : ℕ) (made : List Event) (r : Outcome Value) → RunsIn program t
    → AreValuesOf (checked program).values args ((checked program).terms.inputs t) → PlainRun (checked program) w n t args steps made r
    → SaysByRules program w n t args made r

-- Two runs of one call by trees at one depth are one, or their effects first differ in the world's answer to the same call. So are a run that isn't
-- spent and one at a greater depth.
abbrev pub RunsByTreesAreOne : Type 0
RunsByTreesAreOne = (program : Program) (w : Answers) (n t : ℕ) (args : Values) (steps others : ℕ) (one other : List Event) (r q : Outcome Value)
    → MachineRun (checked program) (term_trees program) w n t args steps one r
    → MachineRun (checked program) (term_trees program) w n t args others other q → AreOneRun steps one r others other q

abbrev pub DeeperRunsByTreesAreOne : Type 0
DeeperRunsByTreesAreOne = (program : Program) (w : Answers) (n m t : ℕ) (args : Values) (steps others : ℕ) (one other : List Event)
    (r q : Outcome Value) → n ≤ m → r ≢ ended spent → MachineRun (checked program) (term_trees program) w n t args steps one r
    → MachineRun (checked program) (term_trees program) w m t args others other q → AreOneRun steps one r others other q

-- Likewise plain runs.
abbrev pub RunsByRulesAreOne : Type 0
RunsByRulesAreOne = (program : Program) (w : Answers) (n t : ℕ) (args : Values) (steps others : ℕ) (one other : List Event) (r q : Outcome Value)
    → PlainRun (checked program) w n t args steps one r → PlainRun (checked program) w n t args others other q → AreOneRun steps one r others other q

abbrev pub DeeperRunsByRulesAreOne : Type 0
DeeperRunsByRulesAreOne = (program : Program) (w : Answers) (n m t : ℕ) (args : Values) (steps others : ℕ) (one other : List Event)
    (r q : Outcome Value) → n ≤ m → r ≢ ended spent → PlainRun (checked program) w n t args steps one r
    → PlainRun (checked program) w m t args others other q → AreOneRun steps one r others other q
