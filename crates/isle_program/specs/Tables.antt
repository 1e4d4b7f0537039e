-- What tables of types and terms say of values, rules and names, before a program is made of them.
use Rattle.std.specs.Prelude.{unwrap_or, ℕ, List, [], map, Option, Some, None, slice_get, ◌≡◌}
use Rattle.std.specs.Option.{option_map, option_and_then}
use Rattle.isle_types.specs.declared.ids.TermId.{TermId}
use Rattle.isle_types.specs.declared.ids.TypeId.{TypeId}
use Rattle.isle_types.specs.declared.types.«Type».{«Type» as KnownType}
use Rattle.isle_types.specs.declared.types.«Type».TheVariants.{Builtin, Primitive, Enum as EnumType, Struct as StructType}
use Rattle.isle_types.specs.declared.types.BuiltinType.TheVariants.{Bool as BoolType, Int}
use Rattle.isle_types.specs.declared.types.Variant.{Variant}
use Rattle.isle_types.specs.TypeTables.{TypeTables, name_at}
use Rattle.isle_types.specs.TypeEnvs.{name_of, sym_named, type_of_constant, type_name, type_at, variant_of}
use Rattle.isle_rules.specs.declared.terms.Term.{Term}
use Rattle.isle_rules.specs.declared.terms.TermKind.{TermKind}
use Rattle.isle_rules.specs.declared.terms.TermKind.TheVariants.{EnumVariant, Struct, Decl}
use Rattle.isle_rules.specs.declared.rules.BoundVar.{BoundVar}
use Rattle.isle_rules.specs.declared.rules.Rule.{Rule}
use Rattle.isle_rules.specs.TypedRules.{TypedRule}
use Rattle.isle_rules.specs.Shown.TermTables.{TermTables, term_with}
use Rattle.isle_rules.specs.Shown.ShownRules.{typed_list, typed_shown, built_shown, iflet_shown}
use Rattle.isle_meaning.specs.Facts.{TermShape, variant_shape, struct_shape}
use Rattle.isle_meaning.specs.ValueTypes.{TypeKind, truth_kind, integer_kind, primitive_kind, data_kind, no_kind, ValueFacts}
use Rattle.isle_meaning.specs.Worlds.{CheckedProgram}
use Rattle.isle_program.specs.Laws.Terms.{term_facts}
use Rattle.isle_program.specs.Facts.Reach.{is_root}
use Rattle.isle_types.specs.declared.ids.VariantId.{VariantId}

-- the variant of a number
abbrev pub variant_at : ℕ → VariantId
variant_at number = record { 0 = number }

-- what kind of values a type has
abbrev pub kind_of_type : Option KnownType → TypeKind
kind_of_type None = no_kind
kind_of_type (Some (Builtin BoolType)) = truth_kind
kind_of_type (Some (Builtin (Int int))) = integer_kind int
kind_of_type (Some (Primitive id name pos)) = primitive_kind
kind_of_type (Some (EnumType name id is_extern is_nodebug variants pos)) = data_kind
kind_of_type (Some (StructType name id is_extern is_nodebug fields pos)) = data_kind

-- what data a term makes: of its own type, with fields of its arguments' types; none where it is declared
abbrev pub data_made : TermKind → ℕ × List ℕ → Option (ℕ × List ℕ)
data_made (EnumVariant variant) types = Some types
data_made Struct types = Some types
data_made (Decl flags constructor_kind extractor_kind) types = None

abbrev pub number_of : TypeId → ℕ
number_of ty = ty.0

abbrev pub types_of_term : Term → ℕ × List ℕ
types_of_term term = (term.ret_ty.0, map number_of term.arg_tys)

abbrev pub data_of_term : Term → Option (ℕ × List ℕ)
data_of_term term = data_made term.kind (types_of_term term)

-- which kind of data a term makes; none where it is declared
abbrev pub shape_made : TermKind → Option TermShape
shape_made (EnumVariant variant) = Some (variant_shape variant.0)
shape_made Struct = Some struct_shape
shape_made (Decl flags constructor_kind extractor_kind) = None

abbrev pub shape_of_term : Term → Option TermShape
shape_of_term term = shape_made term.kind

-- the term of a name
abbrev pub term_called : TypeTables → TermTables → List ℕ → Option TermId
term_called tyenv env name = option_and_then (term_with env) (sym_named tyenv name)

-- what tables say of the types of values
abbrev pub value_facts_by : TypeTables → TermTables → ValueFacts
value_facts_by tyenv env = record {
  kind = λ ty. kind_of_type (slice_get tyenv.types ty);
  constant = λ name. option_map number_of (type_of_constant tyenv name);
  data_named = λ name. option_and_then (λ (term : TermId). option_and_then data_of_term (slice_get env.terms term.0)) (term_called tyenv env name);
  shape_named = λ name. option_and_then (λ (term : TermId). option_and_then shape_of_term (slice_get env.terms term.0)) (term_called tyenv env name);
}

-- a typed rule, where these are the interned names
abbrev pub rule_shown : List (List ℕ) → Rule → TypedRule
rule_shown names rule = record {
  root = rule.root_term.0;
  args = typed_list (map (typed_shown names) rule.args);
  iflets = map (iflet_shown names) rule.iflets;
  right = built_shown names rule.rhs;
  variables = map (λ (variable : BoundVar). record { name = name_at names variable.name; type = variable.ty.0 }) rule.vars;
  priority = rule.prio;
  pos = rule.pos;
  name = option_map (name_at names) rule.name;
}

-- what is meant by calls of the terms of tables
abbrev pub checked_by : TypeTables → TermTables → CheckedProgram
checked_by tyenv env = record {
  terms = term_facts tyenv env;
  values = value_facts_by tyenv env;
  has_rules = λ t. is_root env t;
  rules = map (rule_shown tyenv.names) env.rules;
}

-- the full name of a variant; empty where there is none
abbrev pub fullname_of : TypeTables → Option Variant → List ℕ
fullname_of env None = []
fullname_of env (Some variant) = unwrap_or (name_of env variant.fullname) []

-- the full name of a type's variant
abbrev pub variant_name : TypeTables → ℕ → ℕ → List ℕ
variant_name env ty k = fullname_of env (variant_of env (type_at ty) (variant_at k))

-- the name of a type; empty where there is none
abbrev pub struct_name : TypeTables → ℕ → List ℕ
struct_name env ty = unwrap_or (option_and_then (type_name env) (slice_get env.types ty)) []

-- data is named by its type
pub record IsDataNamed (tyenv : TypeTables) (env : TermTables) : Type 0 where
  pub variants : (name : List ℕ) (k ty : ℕ) (types : List ℕ) → (value_facts_by tyenv env).shape_named name ≡ Some (variant_shape k)
      → (value_facts_by tyenv env).data_named name ≡ Some (ty, types) → variant_name tyenv ty k ≡ name
  pub structs : (name : List ℕ) (ty : ℕ) (types : List ℕ) → (value_facts_by tyenv env).shape_named name ≡ Some struct_shape
      → (value_facts_by tyenv env).data_named name ≡ Some (ty, types) → struct_name tyenv ty ≡ name
