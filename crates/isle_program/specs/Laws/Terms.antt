-- What the tables of types and terms say of terms, for the meaning of calls.
use Rattle.std.specs.Prelude.{ℕ, List, [], map, Option, None, Some, slice_get, unwrap_or}
use Rattle.std.specs.Option.{option_map}
use Rattle.isle_types.specs.declared.ids.TypeId.{TypeId}
use Rattle.isle_types.specs.declared.types.Variant.{Variant}
use Rattle.isle_types.specs.declared.types.«Type».{«Type» as KnownType}
use Rattle.isle_types.specs.declared.types.«Type».TheVariants.{Builtin, Primitive, Enum as EnumType, Struct as StructType}
use Rattle.isle_types.specs.Types.{field_types}
use Rattle.isle_types.specs.TypeTables.{TypeTables}
use Rattle.isle_types.specs.TypeEnvs.{type_of_constant}
use Rattle.isle_rules.specs.Signatures.{Signature, flags_of}
use Rattle.isle_rules.specs.Shown.TermTables.{TermTables}
use Rattle.isle_rules.specs.Shown.ShownTerms.{term_shown, numbers_of}
use Rattle.isle_meaning.specs.Facts.{TermFacts, shape_of_form, never_fails, no_term}

-- the term of a number
abbrev pub signature_at : TypeTables → TermTables → ℕ → Signature
signature_at tyenv env t = unwrap_or (slice_get (map (term_shown tyenv.names) env.terms) t) no_term

-- the types of the fields of a variant, where there is one
abbrev pub fields_of_variant : Option Variant → List ℕ
fields_of_variant None = []
fields_of_variant (Some variant) = numbers_of (field_types variant.fields)

-- the types of the fields of a type's variant, and of a struct
abbrev pub variant_types : Option KnownType → ℕ → List ℕ
variant_types None k = []
variant_types (Some (Builtin builtin)) k = []
variant_types (Some (Primitive id name at)) k = []
variant_types (Some (EnumType name id is_extern is_nodebug variants at)) k = fields_of_variant (slice_get variants k)
variant_types (Some (StructType name id is_extern is_nodebug fields at)) k = []

abbrev pub struct_types : Option KnownType → List ℕ
struct_types None = []
struct_types (Some (Builtin builtin)) = []
struct_types (Some (Primitive id name at)) = []
struct_types (Some (EnumType name id is_extern is_nodebug variants at)) = []
struct_types (Some (StructType name id is_extern is_nodebug fields at)) = numbers_of (field_types fields)

-- what tables say of terms
abbrev pub term_facts : TypeTables → TermTables → TermFacts
term_facts tyenv env = record {
  shape = λ t. shape_of_form (signature_at tyenv env t).form;
  pure = λ t. (flags_of (signature_at tyenv env t).form).pure;
  partial = λ t. (flags_of (signature_at tyenv env t).form).partial;
  multi = λ t. (flags_of (signature_at tyenv env t).form).multi;
  infallible = λ t. never_fails (signature_at tyenv env t).form;
  inputs = λ t. (signature_at tyenv env t).args;
  type_of = λ t. (signature_at tyenv env t).ret;
  variant_fields = λ ty k. variant_types (slice_get tyenv.types ty) k;
  struct_fields = λ ty. struct_types (slice_get tyenv.types ty);
  constant_type = λ name. unwrap_or (option_map (λ (ty : TypeId). ty.0) (type_of_constant tyenv name)) 0;
}
