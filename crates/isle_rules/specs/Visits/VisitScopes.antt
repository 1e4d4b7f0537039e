-- What the variables of a rule have been given.
use Rattle.std.specs.Prelude.{◌==◌, if◌then◌else◌, Option, Some, None, Result, Ok, Err}
use Rattle.std.specs.HashMap.{HashMap, get_by}
use Rattle.isle_types.specs.declared.ids.VarId.{VarId}
use Rattle.isle_rules.specs.declared.visit.fault.VisitFault.{VisitFault}

-- what each variable has, if it is bound
abbrev pub VisitScope : Type 0 → Type 0
VisitScope T = VarId → Option T

-- no variable is bound
abbrev pub no_values : {T : Type 0} → VisitScope T
no_values var = None

-- a map of variables as a scope
abbrev pub scope_of : {T S : Type 0} → HashMap VarId T S → VisitScope T
scope_of vars var = get_by (λ (other : VarId). var.0 == other.0) vars

-- a scope in which a variable has a value
abbrev pub bound_by : {T : Type 0} → VisitScope T → VarId → T → VisitScope T
bound_by scope var value other = if var.0 == other.0 then Some value else scope other

-- a visit's outcome with the scope that it leaves
abbrev pub with_scope : {A T : Type 0} → Result A VisitFault → VisitScope T → Result (VisitScope T) VisitFault
with_scope (Ok _) scope = Ok scope
with_scope (Err f) scope = Err f

-- the scope of a map that is handed back
abbrev pub scope_left : {T S : Type 0} → Result (HashMap VarId T S) VisitFault → Result (VisitScope T) VisitFault
scope_left (Ok vars) = Ok (scope_of vars)
scope_left (Err f) = Err f
