-- Facts of what calls answer, said otherwise.
use Rattle.std.specs.Prelude.{Result, Ok, Err, OnOk, IfOk, IfErr}
use Rattle.isle_ast.specs.declared.refusal.Refusal.{Refusal}
use Rattle.isle_ast.specs.declared.refusal.Refusal.TheVariants.{Fault, Memory}
use Rattle.isle_ast.specs.Errors.{IfFault}

-- where there is a value a fact holds, and so what follows from it
pub ok_then : {T E : Type 0} {P Q : Type 0} (r : Result T E) → (P → Q) → OnOk r P → OnOk r Q
ok_then (Ok value) then fact = then fact
ok_then (Err e) then fact = fact

-- a fact of the value, if there is one, and what follows from it
pub value_then : {T E : Type 0} {P Q : T → Type 0} (r : Result T E) → ((value : T) → P value → Q value) → IfOk r P → IfOk r Q
value_then (Ok value) then fact = then value fact
value_then (Err e) then fact = fact

-- a fact of the error, if there is one, and what follows from it
pub error_then : {T E : Type 0} {P Q : E → Type 0} (r : Result T E) → ((e : E) → P e → Q e) → IfErr r P → IfErr r Q
error_then (Ok value) then fact = fact
error_then (Err e) then fact = then e fact

-- a fact of the fault, if there is one, and what follows from it
pub fault_then : {F : Type 0} {P Q : F → Type 0} (refusal : Refusal F) → ((fault : F) → P fault → Q fault) → IfFault refusal P → IfFault refusal Q
fault_then (Fault fault) then fact = then fault fact
fault_then (Memory e) then fact = fact

-- what holds holds also where there is a value
pub ok_always : {T E : Type 0} {P : Type 0} (r : Result T E) → P → OnOk r P
ok_always (Ok value) fact = fact
ok_always (Err e) fact = tt
