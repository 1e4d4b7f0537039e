-- Refusals that say more than others.
use Rattle.std.specs.Prelude.{◌≡◌}
use Rattle.isle_ast.specs.declared.error.Error.{Error}
use Rattle.isle_ast.specs.declared.refusal.Refusal.{Refusal}
use Rattle.isle_ast.specs.Errors.{IfFault, IsFaultAnd, error_kind, spans_of}

-- where the second refusal has a fault, the first has one too, of the same kind and at the same spans
abbrev pub TellsSame : (refusal told : Refusal Error) → Type 0
TellsSame refusal told =
    IfFault told (λ t. IsFaultAnd refusal (λ error. (error_kind t ≡ error_kind error) × (spans_of t ≡ spans_of error)))
