-- What a call tells that goes by the plain road.
use Rattle.std.specs.Prelude.{◌≡◌, ℕ, true, List, []}
use Rattle.isle_meaning.specs.Outcomes.{Outcome, IsMeant, IsAskedAtEnd}
use Rattle.isle_meaning.specs.PlainRuns.{PlainRun}
use Rattle.isle_meaning.specs.PlainBeginnings.{PlainBegins}
use Rattle.isle_meaning.specs.Values.{Value, Values}
use Rattle.isle_meaning.specs.Worlds.{Answers, Event}
use Rattle.isle_calls.specs.declared.answer.Called.{Called}
use Rattle.isle_program.specs.declared.program.Program.{Program}
use Rattle.isle_calls.specs.Calls.Answers.{TellsOutcome}
use Rattle.isle_program.specs.Meanings.{checked}

-- What a call on the plain road tells: its answer is that of its plain run, with these effects and after so many rules; an answered call
-- means this, and one that ends unanswered asks for what it ends at. A pure term makes no effects.
pub record TellsPlainly (program : Program) (w : Answers) (depth term : ℕ) (args : Values) (called : Called) (made : List Event) : Type 0 where
  pub outcome : Outcome Value
  pub told : TellsOutcome program term called.answer outcome
  pub run : PlainRun (checked program) w depth term args called.steps made outcome
  pub meant : IsMeant (checked program) w depth term args made outcome
  pub asked : IsAskedAtEnd (checked program) w depth term args made outcome
  pub pure : (checked program).terms.pure term ≡ true → made ≡ []

-- What one that wants memory has done: its plain run begins with these effects. A pure term makes none.
pub record BeginsPlainly (program : Program) (w : Answers) (depth term : ℕ) (args : Values) (made : List Event) : Type 0 where
  pub begins : PlainBegins (checked program) w depth term args made
  pub pure : (checked program).terms.pure term ≡ true → made ≡ []
