-- What tables of types and terms make known of names.
use Rattle.std.specs.Prelude.{ℤ, Bool, true, false, Option, None, Some, slice_get}
use Rattle.std.specs.Option.{option_map, option_and_then}
use Rattle.isle_types.specs.declared.ids.TypeId.{TypeId}
use Rattle.isle_types.specs.declared.ids.TermId.{TermId}
use Rattle.isle_types.specs.declared.types.BuiltinType.TheVariants.{Bool as BoolType, Int}
use Rattle.isle_types.specs.declared.types.«Type».{«Type» as KnownType}
use Rattle.isle_types.specs.declared.types.«Type».TheVariants.{Builtin, Primitive, Enum as EnumType, Struct as StructType}
use Rattle.isle_types.specs.TypeTables.{TypeTables}
use Rattle.isle_types.specs.TypeEnvs.{sym_named, type_of_name, type_of_constant, type_at}
use Rattle.isle_rules.specs.Signatures.{term_named}
use Rattle.isle_terms.specs.Inside.Readings.Outcomes.{Known}
use Rattle.isle_terms.specs.Inside.Readings.KnownBy.{int_has_number}
use Rattle.isle_rules.specs.Shown.TermTables.{TermTables, term_with, converter_with}
use Rattle.isle_rules.specs.Shown.ShownTerms.{term_shown}

-- whether a known type has the number of a literal
abbrev pub known_has_number : Option KnownType → ℤ → Bool → Bool
known_has_number None val big = false
known_has_number (Some (Builtin BoolType)) val big = false
known_has_number (Some (Builtin (Int int))) val big = int_has_number int val big
known_has_number (Some (Primitive id name pos)) val big = true
known_has_number (Some (EnumType name id is_extern is_nodebug variants pos)) val big = false
known_has_number (Some (StructType name id is_extern is_nodebug fields pos)) val big = false

-- what tables of types and terms make known of names
abbrev pub known_of : TypeTables → TermTables → Known
known_of tyenv env = record {
  term_named = λ name. option_map (λ (id : TermId). id.0) (option_and_then (term_with env) (sym_named tyenv name));
  signature = λ number. option_map (term_shown tyenv.names) (slice_get env.terms number);
  type_named = λ name. option_map (λ (ty : TypeId). ty.0) (type_of_name tyenv name);
  constant = λ name. option_map (λ (ty : TypeId). ty.0) (type_of_constant tyenv name);
  has_number = λ ty val big. known_has_number (slice_get tyenv.types ty) val big;
  converter = λ inner outer. option_map (λ (id : TermId). id.0) (converter_with env (type_at inner) (type_at outer));
  expands = env.expands;
}
