-- A call that is open.
use Rattle.std.specs.Prelude.{ℕ}
use Rattle.isle_meaning.specs.Values.{Values}
use Rattle.isle_meaning.specs.Worlds.{Answers}
use Rattle.isle_program.specs.declared.program.Program.{Program}

-- a call: its program and what the world answers, how many calls may be open below it, its term and its arguments
pub record CallOf : Type 0 where
  pub program : Program
  pub answers : Answers
  pub depth : ℕ
  pub term : ℕ
  pub args : Values

-- the call of a term on these arguments, one depth below another
abbrev pub call_below : CallOf → ℕ → ℕ → Values → CallOf
call_below k n t args = record { program = k.program; answers = k.answers; depth = n; term = t; args = args }
