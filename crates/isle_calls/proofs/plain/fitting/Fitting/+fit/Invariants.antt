use Rattle.std.proofs.Common.{ℕ, List, length, ◌≤◌}
use Rattle.isle_meaning.specs.Values.{Value, Values}
use Rattle.isle_meaning.specs.GroundValues.{IsValueOf, AreValuesOf}
use Rattle.isle_meaning.specs.Typing.{AllTyped, EachTyped}
use Rattle.isle_program.specs.Meanings.{checked}
use Rattle.isle_meaning.specs.PlainRuns.{PatternsRun, EachRuns}
use Rattle.isle_calls.specs.Stores.Values.{Stands, StandEach, Extends}
use Rattle.isle_calls.specs.Calls.Answers.{answers_in}
use Rattle.isle_calls.specs.Inside.Plain.Fitting.{HoldVariables, all_shown_in}
use Rattle.isle_calls.proofs.PlainRoad.Patterns.Lists.{AllFrom, EachFrom}
use Rattle.isle_calls.proofs.plain.fitting.Fitting.+fit.Given as goal

abbrev pub invariant-fit_all-loop-i : goal.invariant-fit_all-loop-i
invariant-fit_all-loop-i g l = record {
  told : (vs : Values) (a : ℕ → Value) (types : ℕ → ℕ) (us : List ℕ)
      → AllTyped (checked l.self.program.now).terms types (all_shown_in l.self.program.now l.patterns)
      us
      → AreValuesOf (checked l.self.program.now).values vs us → StandEach l.initial.store vs l.numbers
      → HoldVariables l.initial.store l.initial.variables a
      → AllFrom l.self.program.now
      (answers_in l.self.program.now (g.W.World.constructs l.self.world.now) (g.W.World.extracts l.self.world.now)) types
      (PatternsRun (checked l.self.program.now)
      (answers_in l.self.program.now (g.W.World.constructs l.self.world.now) (g.W.World.extracts l.self.world.now)) a
      (all_shown_in l.self.program.now l.patterns) vs)
      l.patterns l.numbers l.store l.variables l.i;
  kept : Extends l.initial.store l.store;
  within : l.i ≤ length l.numbers;
}

abbrev pub invariant-fit_each-loop-pattern : goal.invariant-fit_each-loop-pattern
invariant-fit_each-loop-pattern g l = record {
  told : (v : Value) (a : ℕ → Value) (types : ℕ → ℕ) (u : ℕ)
      → EachTyped (checked l.self.program.now).terms types (all_shown_in l.self.program.now l.patterns) u
      → IsValueOf (checked l.self.program.now).values v u → Stands l.initial.store v l.number
      → HoldVariables l.initial.store l.initial.variables a
      → EachFrom l.self.program.now
      (answers_in l.self.program.now (g.W.World.constructs l.self.world.now) (g.W.World.extracts l.self.world.now)) types
      (EachRuns (checked l.self.program.now)
      (answers_in l.self.program.now (g.W.World.constructs l.self.world.now) (g.W.World.extracts l.self.world.now)) a
      (all_shown_in l.self.program.now l.patterns) v)
      l.patterns v u l.number l.store l.variables l.pattern-index;
  kept : Extends l.initial.store l.store;
}
