-- Parse errors and size errors, and what is known of their spans.
use Rattle.std.proofs.Common.{zero, suc, [], ◌∷◌, refl, arith, inl, inr}
use Rattle.std.specs.List.{All}
use Rattle.std.proofs.lemmas.List.Elements.{All-head}
use Rattle.isle_ast.specs.declared.error.Span.{Span}
use Rattle.isle_ast.specs.declared.error.Error.{Error}
use Rattle.isle_ast.specs.declared.error.Error.TheVariants.{ParseError, SizeError}
use Rattle.isle_ast.specs.declared.refusal.Refusal.{Refusal}
use Rattle.isle_ast.specs.declared.refusal.Refusal.TheVariants.{Fault, Memory}
use Rattle.isle_ast.specs.Errors.{parse_error, size_error, IsParseOrSize, IfFault, IfKind, IsOfKinds}

-- what is known of such an error, from other facts of its span
pub parse_or_size : (P Q R S : Span → Type 0) → ((span : Span) → P span → R span) → ((span : Span) → Q span → S span)
    → (error : Error) → IsParseOrSize P Q error → IsParseOrSize R S error
parse_or_size P Q R S p q (ParseError message span) h = p span h
parse_or_size P Q R S p q (SizeError message span) h = q span h
parse_or_size P Q R S p q _ h = h

one_span : (P : Span → Type 0) (span : Span) → P span → All P (span ∷ [])
one_span P span p zero d h = p
one_span P span p (suc k) d h = absurd (omega arith)

module _ (P Q : Span → Type 0) where
  -- such an error's spans, where it is a parse error
  pub fault_spans : (refusal : Refusal Error) → IfFault refusal (IsParseOrSize P Q) → IfKind parse_error P refusal
  fault_spans (Fault (ParseError message span)) h = λ kind. one_span P span h
  fault_spans (Fault (SizeError message span)) h = λ kind. cc
  fault_spans (Fault _) h = λ kind. absurd h
  fault_spans (Memory e) h = tt

  -- and where it is a size error
  pub deep_spans : (refusal : Refusal Error) → IfFault refusal (IsParseOrSize P Q) → IfKind size_error Q refusal
  deep_spans (Fault (ParseError message span)) h = λ kind. cc
  deep_spans (Fault (SizeError message span)) h = λ kind. one_span Q span h
  deep_spans (Fault _) h = λ kind. absurd h
  deep_spans (Memory e) h = tt

  -- it is one of both
  pub of_both_kinds : (refusal : Refusal Error) → IfFault refusal (IsParseOrSize P Q) → IsOfKinds parse_error size_error refusal
  of_both_kinds (Fault (ParseError message span)) h = inl refl
  of_both_kinds (Fault (SizeError message span)) h = inr refl
  of_both_kinds (Fault _) h = absurd h
  of_both_kinds (Memory e) h = tt

  -- from the three facts of a refusal
  pub from_kinds : (refusal : Refusal Error) → IfKind parse_error P refusal → IfKind size_error Q refusal → IsOfKinds parse_error size_error refusal
      → IfFault refusal (IsParseOrSize P Q)
  from_kinds (Fault (ParseError message span)) fault deep kinds = All-head P span [] (fault refl)
  from_kinds (Fault (SizeError message span)) fault deep kinds = All-head Q span [] (deep refl)
  from_kinds (Fault _) fault deep (inl kind) = cc
  from_kinds (Fault _) fault deep (inr kind) = cc
  from_kinds (Memory e) fault deep kinds = tt
