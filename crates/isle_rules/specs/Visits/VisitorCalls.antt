-- What visitors of patterns and expressions are told.
use Rattle.std.specs.Prelude.{◌&&◌, ℤ, Bool, false, not, List, Option, Some, None, slice_get}
use Rattle.std.specs.Option.{option_and_then}
use Rattle.isle_types.specs.declared.ids.Sym.{Sym}
use Rattle.isle_types.specs.declared.ids.TermId.{TermId}
use Rattle.isle_types.specs.declared.ids.TypeId.{TypeId}
use Rattle.isle_types.specs.declared.ids.VariantId.{VariantId}
use Rattle.isle_rules.specs.declared.terms.ExtractorKind.{ExtractorKind}
use Rattle.isle_rules.specs.declared.terms.ExtractorKind.TheVariants.{InternalExtractor, ExternalExtractor}
use Rattle.isle_rules.specs.declared.terms.Term.{Term}
use Rattle.isle_rules.specs.declared.terms.TermKind.{TermKind}
use Rattle.isle_rules.specs.declared.terms.TermKind.TheVariants.{EnumVariant, Struct, Decl}

-- a call of a visitor of patterns; `Id` is its name for a value that is matched
pub data PatternCall (Id : Type 0) : Type 0 where
  match_equal : Id → Id → TypeId → PatternCall Id
  match_bool : Id → TypeId → Bool → PatternCall Id
  match_int : Id → TypeId → ℤ → PatternCall Id
  match_prim : Id → TypeId → Sym → PatternCall Id
  match_variant : Id → TypeId → List TypeId → VariantId → PatternCall Id
  extract_struct : Id → TypeId → List TypeId → PatternCall Id
  extract_outputs : Id → TypeId → List TypeId → TermId → (infallible multi : Bool) → PatternCall Id

-- a call of a visitor of expressions; `Id` is its name for a value that is made
pub data ExprCall (Id : Type 0) : Type 0 where
  const_bool : TypeId → Bool → ExprCall Id
  const_int : TypeId → ℤ → ExprCall Id
  const_prim : TypeId → Sym → ExprCall Id
  create_variant : List (Id × TypeId) → TypeId → VariantId → ExprCall Id
  create_struct : List (Id × TypeId) → TypeId → ExprCall Id
  construct : List (Id × TypeId) → TypeId → TermId → (pure infallible multi rec : Bool) → ExprCall Id

-- an external extractor that always gives its outputs
abbrev pub always_extracts : ExtractorKind → Bool
always_extracts (InternalExtractor template) = false
always_extracts (ExternalExtractor name infallible pos) = infallible

-- what is told of a pattern of a term of this kind; a term without extractor has no such call
abbrev pub opening_of : {Id : Type 0} → TermKind → Term → TypeId → TermId → Id → Option (PatternCall Id)
opening_of (EnumVariant variant) term ty id input = Some (match_variant input ty term.arg_tys variant)
opening_of Struct term ty id input = Some (extract_struct input ty term.arg_tys)
opening_of (Decl flags made None) term ty id input = None
opening_of (Decl flags made (Some kind)) term ty id input =
    Some (extract_outputs input term.ret_ty term.arg_tys id (always_extracts kind && not flags.multi) flags.multi)

-- what is told of a pattern of a term
abbrev pub opening : {Id : Type 0} → List Term → TypeId → TermId → Id → Option (PatternCall Id)
opening terms ty id input = option_and_then (λ (term : Term). opening_of term.kind term ty id input) (slice_get terms id.0)

-- what is told of a term of this kind that is made of its arguments; a term without constructor has no such call
abbrev pub making_of : {Id : Type 0} → TermKind → TypeId → TermId → List (Id × TypeId) → Option (ExprCall Id)
making_of (EnumVariant variant) ty id inputs = Some (create_variant inputs ty variant)
making_of Struct ty id inputs = Some (create_struct inputs ty)
making_of (Decl flags None taken) ty id inputs = None
making_of (Decl flags (Some kind) taken) ty id inputs = Some (construct inputs ty id flags.pure (not flags.partial) flags.multi flags.rec)
