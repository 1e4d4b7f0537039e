-- Faults of refusals.
use Rattle.std.proofs.Common.{◌≡◌, ℕ, List, sym, subst}
use Rattle.isle_ast.specs.declared.pos.Pos.{Pos}
use Rattle.isle_ast.specs.declared.error.Error.{Error}
use Rattle.isle_ast.specs.declared.error.Error.TheVariants.{TypeError}
use Rattle.isle_ast.specs.declared.refusal.Refusal.{Refusal}
use Rattle.isle_ast.specs.declared.refusal.Refusal.TheVariants.{Fault, Memory}
use Rattle.isle_ast.specs.Errors.{IfFault, span_at}

-- a fact of the fault that is reported
pub reported : {E : Type 0} (refusal : Refusal E) (fault : E) (P : E → Type 0) → IfFault refusal (λ e. e ≡ fault) → P fault → IfFault refusal P
reported (Fault e) fault P is here = subst P (sym is) here
reported (Memory m) fault P is here = tt

-- a fact of a type error that is reported, whatever it says
pub reported_so : (refusal : Refusal Error) (pos : Pos) (P : Error → Type 0)
    → IfFault refusal (λ e. (text : List ℕ) × (e ≡ TypeError text (span_at pos))) → ((text : List ℕ) → P (TypeError text (span_at pos)))
    → IfFault refusal P
reported_so (Fault e) pos P is here = subst P (sym is.1) (here is.0)
reported_so (Memory m) pos P is here = tt

-- what follows of a fault
pub reported_then : {E : Type 0} (refusal : Refusal E) (P Q : E → Type 0) → ((e : E) → P e → Q e) → IfFault refusal P → IfFault refusal Q
reported_then (Fault e) P Q so here = so e here
reported_then (Memory m) P Q so here = tt
