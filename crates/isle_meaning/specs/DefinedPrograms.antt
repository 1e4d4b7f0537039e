-- The checked program that definitions make, said of their types, terms and rules alone.
use Rattle.std.specs.Prelude.{◌==◌, ◌++◌, ℕ, List, map, Option, None, Some, slice_get, unwrap_or, true}
use Rattle.std.specs.List.{list_any}
use Rattle.std.specs.Option.{option_and_then}
use Rattle.isle_types.specs.declared.types.BuiltinType.{BuiltinType}
use Rattle.isle_types.specs.declared.types.BuiltinType.TheVariants.{Bool as BoolType, Int}
use Rattle.isle_types.specs.IntTypes.{builtin_types}
use Rattle.isle_types.specs.Names.{position_of}
use Rattle.isle_types.specs.Environment.{Environment, NamedType, TypeShape, primitive, enum, struct, constant_in}
use Rattle.isle_rules.specs.Signatures.{TermForm, variant_form, struct_form, declared_form, Signature}
use Rattle.isle_rules.specs.TypedRules.{TypedRule}
use Rattle.isle_rules.specs.Definitions.{TermEnvironment, declared_by, names_of_terms}
use Rattle.isle_meaning.specs.Facts.{TermShape, variant_shape, struct_shape, facts_of}
use Rattle.isle_meaning.specs.ValueTypes.{TypeKind, truth_kind, integer_kind, primitive_kind, data_kind, no_kind, ValueFacts}
use Rattle.isle_meaning.specs.Worlds.{CheckedProgram}

-- what kind of values a builtin type has
abbrev pub builtin_kind : BuiltinType → TypeKind
builtin_kind BoolType = truth_kind
builtin_kind (Int int) = integer_kind int

-- what kind of values a defined type has
abbrev pub shape_kind : TypeShape → TypeKind
shape_kind (primitive _) = primitive_kind
shape_kind (enum _) = data_kind
shape_kind (struct _) = data_kind

-- the kinds of all types, each at the place of its type's number
abbrev pub kinds_in : Environment → List TypeKind
kinds_in types = map builtin_kind builtin_types ++ map (λ (type : NamedType). shape_kind type.shape) types.types

-- what data a term makes: of its own type, with fields of its arguments' types; none where it is declared
abbrev pub data_of_form : TermForm → ℕ × List ℕ → Option (ℕ × List ℕ)
data_of_form (variant_form _) types = Some types
data_of_form struct_form types = Some types
data_of_form (declared_form _ _ _) types = None

abbrev pub data_of : Signature → Option (ℕ × List ℕ)
data_of term = data_of_form term.form (term.ret, term.args)

-- which kind of data a term makes
abbrev pub data_shape : TermForm → Option TermShape
data_shape (variant_form place) = Some (variant_shape place)
data_shape struct_form = Some struct_shape
data_shape (declared_form _ _ _) = None

-- the term of a name
abbrev pub signature_named : List Signature → List ℕ → Option Signature
signature_named terms name = option_and_then (slice_get terms) (position_of (names_of_terms terms) name)

-- what definitions say of the types of values
abbrev pub values_in : Environment → List Signature → ValueFacts
values_in types terms = record {
  kind = λ ty. unwrap_or (slice_get (kinds_in types) ty) no_kind;
  constant = λ name. constant_in types.constants name;
  data_named = λ name. option_and_then data_of (signature_named terms name);
  shape_named = λ name. option_and_then (λ (term : Signature). data_shape term.form) (signature_named terms name);
}

-- what calls of the terms of definitions are meant by: what the declarations say of terms and of values, and the typed rules
abbrev pub defined_program : Environment → TermEnvironment → CheckedProgram
defined_program types environment = record {
  terms = facts_of (declared_by types true environment);
  values = values_in types environment.terms;
  has_rules = λ t. list_any (λ (rule : TypedRule). rule.root == t) environment.rules;
  rules = environment.rules;
}
