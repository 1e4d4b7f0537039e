-- What a call tells that walks the tree of its term.
use Rattle.std.specs.Prelude.{◌≡◌, ◌≤◌, ℕ, true, List, []}
use Rattle.isle_ast.specs.Positions.Files.{SourceFile}
use Rattle.isle_meaning.specs.Machine.Asking.{IsAskedByMachine}
use Rattle.isle_meaning.specs.Machine.Beginnings.{MachineBegins}
use Rattle.isle_meaning.specs.Machine.Runs.{MachineRun, TermTree}
use Rattle.isle_meaning.specs.Outcomes.{Outcome, IsMeant}
use Rattle.isle_meaning.specs.Values.{Value, Values}
use Rattle.isle_meaning.specs.Worlds.{Answers, Event}
use Rattle.isle_calls.specs.declared.answer.Called.{Called}
use Rattle.isle_program.specs.declared.program.Program.{Program}
use Rattle.isle_calls.specs.Calls.Answers.{TellsOutcome}
use Rattle.isle_program.specs.Compiled.{IsProgramOf}
use Rattle.isle_program.specs.Facts.Steps.{steps_in}
use Rattle.isle_program.specs.Meanings.{checked}
use Rattle.isle_program.specs.Programs.{rule_sets_of, types_of, set_trees_of}
use Rattle.isle_blocks.specs.declared.constraint.Constraint.{Constraint}
use Rattle.isle_program.specs.Trees.{term_trees_by}

-- the trees of a program's terms
abbrev pub term_trees : Program → ℕ → TermTree Constraint
term_trees program = term_trees_by (types_of program) (rule_sets_of program) (set_trees_of program)

-- a program is that of some files
pub record IsCompiled (program : Program) : Type 0 where
  pub files : List SourceFile
  pub is : IsProgramOf files program

-- What a call tells: its answer is that of the machine's run over the program's trees, with these effects, and the steps that the call itself
-- reached, which aren't more than its term's rules take at most; an answered call means this, and one that ends unanswered asks for what it ends
-- at. A pure term makes no effects.
pub record TellsByTree (program : Program) (w : Answers) (depth term : ℕ) (args : Values) (called : Called) (made : List Event) : Type 0 where
  pub outcome : Outcome Value
  pub told : TellsOutcome program term called.answer outcome
  pub run : MachineRun (checked program) (term_trees program) w depth term args called.steps made outcome
  pub few : called.steps ≤ steps_in (rule_sets_of program) term
  pub meant : IsMeant (checked program) w depth term args made outcome
  pub asked : IsAskedByMachine (checked program) w depth term args made outcome
  pub pure : (checked program).terms.pure term ≡ true → made ≡ []

-- What one that wants memory has done: its run begins with these effects. A pure term makes none.
pub record BeginsByTree (program : Program) (w : Answers) (depth term : ℕ) (args : Values) (made : List Event) : Type 0 where
  pub begins : MachineBegins (checked program) (term_trees program) w depth term args made
  pub pure : (checked program).terms.pure term ≡ true → made ≡ []
