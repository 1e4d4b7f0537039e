-- What declarations say of terms and types, as what is demanded of sites needs it.
use Rattle.std.specs.Prelude.{◌≡◌, ℕ, zero, suc, Bool, true, false, List, [], ◌∷◌, ◌++◌, map, Option, None, Some, slice_get, unwrap_or}
use Rattle.isle_types.specs.IntTypes.{builtin_names}
use Rattle.isle_types.specs.Environment.{Environment, NamedType, NamedVariant, TypeShape, primitive, enum, struct, constant_in, numbers_in}
use Rattle.isle_rules.specs.TypedRules.{TypedPatterns, no_typed, more_typed}
use Rattle.isle_rules.specs.Signatures.{external_extractor, by_template, TermForm, variant_form, struct_form, declared_form}
use Rattle.isle_rules.specs.Signatures.{Signature, Declared, flags_of}

-- what a term is: a variant of its type, its type's struct, or declared
pub data TermShape : Type 0 where
  variant_shape : ℕ → TermShape
  struct_shape : TermShape
  declared_shape : TermShape

-- what the declarations say of each term, by its number
pub record TermFacts : Type 0 where
  pub shape : ℕ → TermShape
  -- its constructor has no effect
  pub pure : ℕ → Bool
  -- its constructor may fail
  pub partial : ℕ → Bool
  -- it gives any number of answers
  pub multi : ℕ → Bool
  -- its extractor never fails
  pub infallible : ℕ → Bool
  -- the types of its arguments, which are its extractor's outputs
  pub inputs : ℕ → List ℕ
  -- its own type
  pub type_of : ℕ → ℕ
  -- the fields' types of a type's variant, and of a struct
  pub variant_fields : ℕ → ℕ → List ℕ
  pub struct_fields : ℕ → List ℕ
  -- the type of a named constant
  pub constant_type : List ℕ → ℕ

-- how many patterns
abbrev pub patterns : TypedPatterns → ℕ
patterns no_typed = 0
patterns (more_typed p ps) = suc (patterns ps)

-- the type at a place
abbrev pub nth_type : List ℕ → ℕ → ℕ
nth_type [] i = 0
nth_type (t ∷ ts) zero = t
nth_type (t ∷ ts) (suc i) = nth_type ts i

-- what a term of a form is
abbrev pub shape_of_form : TermForm → TermShape
shape_of_form (variant_form variant) = variant_shape variant
shape_of_form struct_form = struct_shape
shape_of_form (declared_form _ _ _) = declared_shape

-- an extractor of the host that never fails
abbrev pub never_fails : TermForm → Bool
never_fails (variant_form _) = false
never_fails struct_form = false
never_fails (declared_form _ _ None) = false
never_fails (declared_form _ _ (Some (by_template _))) = false
never_fails (declared_form _ _ (Some (external_extractor _ infallible _))) = infallible

-- what stands for a number without a term
abbrev pub no_term : Signature
no_term = record {
  name = [];
  args = [];
  ret = 0;
  form = declared_form (record { pure = true; multi = false; partial = false; rec = false }) None None;
  pos = record { file = 0; offset = 0 };
}

-- the term of a number
abbrev pub signature_numbered : Declared → ℕ → Signature
signature_numbered declared number = unwrap_or (slice_get declared.terms number) no_term

-- what the type of a number is: the builtin ones come first
abbrev pub type_shape : Environment → ℕ → TypeShape
type_shape types number =
    unwrap_or (slice_get (map primitive builtin_names ++ map (λ (type : NamedType). type.shape) types.types) number) (primitive [])

-- the types of the fields of a variant, where there is one
abbrev pub fields_of_variant : Option NamedVariant → List ℕ
fields_of_variant None = []
fields_of_variant (Some variant) = numbers_in variant.fields

-- the types of the fields of a variant of an enum, by its place
abbrev pub variant_types : TypeShape → ℕ → List ℕ
variant_types (primitive _) place = []
variant_types (enum variants) place = fields_of_variant (slice_get variants place)
variant_types (struct _) place = []

-- the types of the fields of a struct
abbrev pub struct_types : TypeShape → List ℕ
struct_types (primitive _) = []
struct_types (enum _) = []
struct_types (struct fields) = numbers_in fields

-- what the declarations that rules are read under say
abbrev pub facts_of : Declared → TermFacts
facts_of declared = record {
  shape = λ t. shape_of_form (signature_numbered declared t).form;
  pure = λ t. (flags_of (signature_numbered declared t).form).pure;
  partial = λ t. (flags_of (signature_numbered declared t).form).partial;
  multi = λ t. (flags_of (signature_numbered declared t).form).multi;
  infallible = λ t. never_fails (signature_numbered declared t).form;
  inputs = λ t. (signature_numbered declared t).args;
  type_of = λ t. (signature_numbered declared t).ret;
  variant_fields = λ ty place. variant_types (type_shape declared.types ty) place;
  struct_fields = λ ty. struct_types (type_shape declared.types ty);
  constant_type = λ name. unwrap_or (constant_in declared.types.constants name) 0;
}

-- the terms of variants and structs take exactly their fields
pub record TakesFields (declared : Declared) : Type 0 where
  pub variant : (number place : ℕ) (term : Signature) → slice_get declared.terms number ≡ Some term → term.form ≡ variant_form place
      → variant_types (type_shape declared.types term.ret) place ≡ term.args
  pub struct : (number : ℕ) (term : Signature) → slice_get declared.terms number ≡ Some term → term.form ≡ struct_form
      → struct_types (type_shape declared.types term.ret) ≡ term.args
