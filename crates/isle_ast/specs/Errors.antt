-- What errors name of source files, and what is known of refusals.
use Rattle.std.specs.Prelude.{◌≡◌, ◌⊎◌, ◌+◌, ◌-◌, ◌^◌, ◌<◌, min, List, [], ◌∷◌, length, All, Vec}
use Rattle.std.specs.Global.{Global}
use Rattle.isle_ast.specs.Positions.Files.{SourceFile}
use Rattle.isle_ast.specs.Positions.Printable.{IsPrintablePos}
use Rattle.isle_ast.specs.declared.pos.Pos.{Pos}
use Rattle.isle_ast.specs.declared.refusal.Refusal.{Refusal}
use Rattle.isle_ast.specs.declared.refusal.Refusal.TheVariants.{Fault, Memory}
use Rattle.isle_ast.specs.declared.error.Span.{Span}
use Rattle.isle_ast.specs.declared.error.Error.{Error}
use Rattle.isle_ast.specs.declared.error.Error.TheVariants.{ParseError, TypeError, UnreachableError, OverlapError, ShadowedError, SizeError}

-- the six kinds of errors
pub data ErrorKind : Type 0 where
  -- a text isn't spelt by the grammar
  parse_error : ErrorKind
  -- a rule of the typing is broken
  type_error : ErrorKind
  -- a rule can never match
  unreachable_rule : ErrorKind
  -- rules of one priority may both match
  overlapping_rules : ErrorKind
  -- rules that another one masks
  shadowing_rule : ErrorKind
  -- a bound on sizes is passed
  size_error : ErrorKind

-- of which kind an error is
abbrev pub error_kind : Error → ErrorKind
error_kind (ParseError _ _) = parse_error
error_kind (TypeError _ _) = type_error
error_kind (UnreachableError _ _) = unreachable_rule
error_kind (OverlapError _ _) = overlapping_rules
error_kind (ShadowedError _ _) = shadowing_rule
error_kind (SizeError _ _) = size_error

-- a span can be printed: its start can
abbrev pub IsPrintableSpan : List SourceFile → Span → Type 0
IsPrintableSpan files span = IsPrintablePos files span.from

-- the spans that an error names, first the one at which it stands
abbrev pub spans_of : Error → List Span
spans_of (ParseError _ span) = span ∷ []
spans_of (TypeError _ span) = span ∷ []
spans_of (UnreachableError _ span) = span ∷ []
spans_of (OverlapError _ rules) = rules
spans_of (ShadowedError shadowed mask) = mask ∷ shadowed
spans_of (SizeError _ span) = span ∷ []

-- a parse error or a size error with one span: of a parse error the first fact holds, of a size error the second
abbrev pub AtOneSpan : (fault too_deep : Span → Type 0) → ErrorKind → List Span → Type 0
AtOneSpan fault too_deep parse_error (span ∷ []) = fault span
AtOneSpan fault too_deep size_error (span ∷ []) = too_deep span
AtOneSpan _ _ _ _ = ⊥

-- an error is a parse error at a span with the first fact, or a size error at a span with the second
abbrev pub IsParseOrSize : (fault too_deep : Span → Type 0) → Error → Type 0
IsParseOrSize fault too_deep error = AtOneSpan fault too_deep (error_kind error) (spans_of error)

-- an error names a span, and each of its spans starts at such a position
pub record ErrorAt (At : Pos → Type 0) (error : Error) : Type 0 where
  pub named : 0 < length (spans_of error)
  pub placed : All (λ span. At span.from) (spans_of error)

-- an error can be printed: it names a span, and each of its spans has a place
abbrev pub IsPrintable : List SourceFile → Error → Type 0
IsPrintable files error = ErrorAt (IsPrintablePos files) error

-- a fact of a refusal's fault, if it has one
abbrev pub IfFault : {E : Type 0} → Refusal E → (E → Type 0) → Type 0
IfFault (Fault fault) P = P fault
IfFault (Memory _) P = Unit {0}

-- a refusal has a fault, of which the fact holds
abbrev pub IsFaultAnd : {E : Type 0} → Refusal E → (E → Type 0) → Type 0
IsFaultAnd (Fault fault) P = P fault
IsFaultAnd (Memory _) P = ⊥

-- where a refusal's fault is of this kind, each span that it names is such a one
abbrev pub IfKind : ErrorKind → (Span → Type 0) → Refusal Error → Type 0
IfKind kind At refusal = IfFault refusal (λ error. error_kind error ≡ kind → All At (spans_of error))

-- a refusal's fault is of one of two kinds
abbrev pub IsOfKinds : ErrorKind → ErrorKind → Refusal Error → Type 0
IsOfKinds one other refusal = IfFault refusal (λ error. (error_kind error ≡ one) ⊎ (error_kind error ≡ other))

-- a refusal's fault names such positions
abbrev pub RefusalAt : (Pos → Type 0) → Refusal Error → Type 0
RefusalAt At refusal = IfFault refusal (ErrorAt At)

-- each of a refusal's faults names such positions
abbrev pub RefusalsAt : (Pos → Type 0) → Refusal (Vec Error Global) → Type 0
RefusalsAt At refusal = IfFault refusal (λ errors. All (ErrorAt At) errors.items)

-- the span of the byte at a position, which ends at the greatest offset at most
abbrev pub span_at : Pos → Span
span_at pos = record { from = pos; to = record { file = pos.file; offset = min (pos.offset + 1) (2 ^ 64 - 1) } }
