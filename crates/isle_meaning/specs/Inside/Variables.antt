-- The types of a rule's variables.
use Rattle.std.specs.Prelude.{ℕ, List, Option, Some, None, slice_get}
use Rattle.isle_rules.specs.TypedRules.{Variable}

-- the type of a variable; 0 where there is none
abbrev pub type_in : Option Variable → ℕ
type_in None = 0
type_in (Some variable) = variable.type

-- the type of the variable of a number
abbrev pub var_type : List Variable → ℕ → ℕ
var_type variables var = type_in (slice_get variables var)
