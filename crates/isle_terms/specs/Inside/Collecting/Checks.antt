-- What a check of definitions does to the errors so far.
use Rattle.std.specs.Prelude.{◌≡◌, Bool, true, false, List, [], ◌++◌, All}
use Rattle.isle_ast.specs.declared.pos.Pos.{Pos}
use Rattle.isle_ast.specs.declared.error.Error.{Error}
use Rattle.isle_types.specs.TypeFaults.{IsTypeFault}
use Rattle.isle_rules.specs.Definitions.{IsAmong}

-- errors that are added are type errors, each where a rule is broken; where none is, the rule is kept
pub record Checks (Broken : Pos → Type 0) (Kept : Type 0) (old new : List Error) : Type 0 where
  pub added : List Error
  pub all : new ≡ old ++ added
  pub faults : All (IsTypeFault Broken) added
  pub kept : added ≡ [] → Kept

-- one of some items is ill, at its position
abbrev pub IsIllAt : {X : Type 0} → List X → (X → Bool) → (X → Pos) → Pos → Type 0
IsIllAt {X} xs is_ill pos_of at = (x : X) × IsAmong xs x × (is_ill x ≡ true) × (at ≡ pos_of x)

-- a check of each of some items
abbrev pub ChecksEach : {X : Type 0} → List X → (X → Bool) → (X → Pos) → (old new : List Error) → Type 0
ChecksEach xs is_ill pos_of old new = Checks (IsIllAt xs is_ill pos_of) (All (λ x. is_ill x ≡ false) xs) old new
