-- Where one rule is broken, one of more rules is.
use Rattle.std.proofs.Common.{List, [], ◌∷◌}
use Rattle.isle_ast.specs.declared.pos.Pos.{Pos}
use Rattle.isle_ast.specs.declared.error.Error.{Error}
use Rattle.isle_ast.specs.declared.error.Span.{Span}
use Rattle.isle_ast.specs.declared.refusal.Refusal.{Refusal}
use Rattle.isle_ast.specs.declared.refusal.Refusal.TheVariants.{Fault, Memory}
use Rattle.isle_ast.specs.Errors.{ErrorKind, parse_error, type_error, unreachable_rule, overlapping_rules, shadowing_rule, size_error, error_kind}
use Rattle.isle_ast.specs.Errors.{spans_of, IfFault}
use Rattle.isle_types.specs.TypeFaults.{StartsWhere, IsTypeOrSize}

starts_wider : {Broken Wider Passed More : Pos → Type 0} → ((at : Pos) → Broken at → Wider at) → ((at : Pos) → Passed at → More at)
    → (kind : ErrorKind) (spans : List Span) → StartsWhere Broken Passed kind spans → StartsWhere Wider More kind spans
starts_wider wider more parse_error spans is = absurd is
starts_wider wider more type_error [] is = absurd is
starts_wider wider more type_error (span ∷ []) is = wider span.from is
starts_wider wider more type_error (span ∷ (other ∷ others)) is = absurd is
starts_wider wider more unreachable_rule spans is = absurd is
starts_wider wider more overlapping_rules spans is = absurd is
starts_wider wider more shadowing_rule spans is = absurd is
starts_wider wider more size_error [] is = absurd is
starts_wider wider more size_error (span ∷ []) is = more span.from is
starts_wider wider more size_error (span ∷ (other ∷ others)) is = absurd is

-- a type error or size error of one kind is one of a wider kind
pub fault_wider : {Broken Wider Passed More : Pos → Type 0} → ((at : Pos) → Broken at → Wider at) → ((at : Pos) → Passed at → More at)
    → (error : Error) → IsTypeOrSize Broken Passed error → IsTypeOrSize Wider More error
fault_wider wider more error is = starts_wider wider more (error_kind error) (spans_of error) is

-- so is a refusal's
pub refusal_wider : {Broken Wider Passed More : Pos → Type 0} → ((at : Pos) → Broken at → Wider at) → ((at : Pos) → Passed at → More at)
    → (refusal : Refusal Error) → IfFault refusal (IsTypeOrSize Broken Passed) → IfFault refusal (IsTypeOrSize Wider More)
refusal_wider wider more (Fault error) is = fault_wider wider more error is
refusal_wider wider more (Memory e) is = tt
