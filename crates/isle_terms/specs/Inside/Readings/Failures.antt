-- How reading the trees of a rule fails.
use Rattle.std.specs.Prelude.{◌≡◌, [], ◌∷◌}
use Rattle.isle_ast.specs.declared.pos.Pos.{Pos}
use Rattle.isle_ast.specs.declared.error.Error.{Error}
use Rattle.isle_ast.specs.declared.refusal.Refusal.{Refusal}
use Rattle.isle_ast.specs.Errors.{ErrorKind, type_error, size_error, error_kind, spans_of, span_at, IfFault}
use Rattle.isle_terms.specs.Inside.Readings.Outcomes.{Outcome, stands_for, ill_at, exceeds}

-- an error of a kind names one position
abbrev pub IsErrorAt : ErrorKind → Pos → Error → Type 0
IsErrorAt kind at error = (error_kind error ≡ kind) × (spans_of error ≡ span_at at ∷ [])

-- reading the rule at a position is refused: a type error stands where the rule is ill typed, a size error at the rule, and
-- where it stands for something there is no error
abbrev pub Fails : {A : Type 0} → (rule : Pos) → Outcome A → Refusal Error → Type 0
Fails rule (stands_for v s) refusal = IfFault refusal (λ error. ⊥)
Fails rule (ill_at at) refusal = IfFault refusal (IsErrorAt type_error at)
Fails rule exceeds refusal = IfFault refusal (IsErrorAt size_error rule)
