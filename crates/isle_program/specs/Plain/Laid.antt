-- A rule of a program, and its expressions laid out.
use Rattle.std.specs.Prelude.{◌≡◌, ℕ, Some, slice_get}
use Rattle.std.specs.List.{AllZip}
use Rattle.isle_rules.specs.declared.rules.IfLet.{IfLet as Condition}
use Rattle.isle_rules.specs.declared.rules.Rule.{Rule}
use Rattle.isle_program.specs.declared.laid.Laid.{Laid}
use Rattle.isle_program.specs.declared.laid.LaidRule.{LaidRule}
use Rattle.isle_program.specs.declared.program.Program.{Program}
use Rattle.isle_program.specs.Plain.LaidOut.Words.{IsLaidOut, StandBehind}
use Rattle.isle_program.specs.Meanings.{checked, rule_shown}
use Rattle.isle_program.specs.Programs.{types_of, terms_of}

-- the rule of a place, and its expressions laid out
pub record IsLaidRule (program : Program) (place : ℕ) (known : Rule) (laid : LaidRule) : Type 0 where
  pub there : slice_get (checked program).rules place ≡ Some (rule_shown (types_of program).names known)
  pub iflets : AllZip (λ (iflet : Condition) (expr : Laid). IsLaidOut (types_of program) (terms_of program) iflet.rhs expr)
      known.iflets laid.iflets.items
  pub right : IsLaidOut (types_of program) (terms_of program) known.rhs laid.right

-- in each expression of a rule each part stands behind those that it is made of
pub record AllStandBehind (laid : LaidRule) : Type 0 where
  pub iflets : (place : ℕ) (expr : Laid) → slice_get laid.iflets.items place ≡ Some expr → StandBehind expr.parts.items
  pub right : StandBehind laid.right.parts.items
