-- What terms and their tables show: signatures by name, and what is known of names.
use Rattle.std.specs.Prelude.{◌≡◌, ℕ, List, map}
use Rattle.std.specs.Option.{option_map, option_and_then}
use Rattle.isle_ast.specs.Trees.PatternShape.{pattern_of}
use Rattle.isle_types.specs.declared.ids.TypeId.{TypeId}
use Rattle.isle_types.specs.declared.ids.TermId.{TermId}
use Rattle.isle_types.specs.TypeTables.{TypeTables, name_at}
use Rattle.isle_types.specs.TypeEnvs.{Shows, sym_named, type_at, CountUp}
use Rattle.isle_rules.specs.declared.terms.Term.{Term}
use Rattle.isle_rules.specs.declared.terms.TermFlags.{TermFlags}
use Rattle.isle_rules.specs.declared.terms.ConstructorKind.{ConstructorKind}
use Rattle.isle_rules.specs.declared.terms.ConstructorKind.TheVariants.{InternalConstructor, ExternalConstructor}
use Rattle.isle_rules.specs.declared.terms.ExtractorKind.{ExtractorKind}
use Rattle.isle_rules.specs.declared.terms.ExtractorKind.TheVariants.{InternalExtractor, ExternalExtractor}
use Rattle.isle_rules.specs.declared.terms.TermKind.{TermKind}
use Rattle.isle_rules.specs.declared.terms.TermKind.TheVariants.{EnumVariant, Struct, Decl}
use Rattle.isle_rules.specs.Signatures.{Flags, Constructor, by_rules, external_constructor, ExtractorForm, by_template, external_extractor, TermForm}
use Rattle.isle_rules.specs.Signatures.{variant_form, struct_form, declared_form, Signature, Declared, term_named, converter_in}
use Rattle.isle_rules.specs.Shown.TermTables.{TermTables, term_with, converter_with}

-- the flags of a term's declaration
abbrev pub flags_shown : TermFlags → Flags
flags_shown flags = record { pure = flags.pure; multi = flags.multi; partial = flags.partial; rec = flags.rec }

-- how a declared term makes its value, where these are the interned names
abbrev pub constructor_shown : List (List ℕ) → ConstructorKind → Constructor
constructor_shown names InternalConstructor = by_rules
constructor_shown names (ExternalConstructor name) = external_constructor (name_at names name)

-- how a declared term takes a value apart
abbrev pub extractor_shown : List (List ℕ) → ExtractorKind → ExtractorForm
extractor_shown names (InternalExtractor template) = by_template (pattern_of template)
extractor_shown names (ExternalExtractor name infallible pos) = external_extractor (name_at names name) infallible pos

-- what a term is
abbrev pub form_shown : List (List ℕ) → TermKind → TermForm
form_shown names (EnumVariant variant) = variant_form variant.0
form_shown names Struct = struct_form
form_shown names (Decl flags constructor_kind extractor_kind) =
    declared_form (flags_shown flags) (option_map (constructor_shown names) constructor_kind) (option_map (extractor_shown names) extractor_kind)

-- the numbers of types
abbrev pub numbers_of : List TypeId → List ℕ
numbers_of types = map (λ (ty : TypeId). ty.0) types

-- a term by name
abbrev pub term_shown : List (List ℕ) → Term → Signature
term_shown names term = record {
  name = name_at names term.name;
  args = numbers_of term.arg_tys;
  ret = term.ret_ty.0;
  form = form_shown names term.kind;
  pos = term.decl_pos;
}

-- the term of a number
abbrev pub term_at : ℕ → TermId
term_at number = record { 0 = number }

-- tables show these types, terms and converters
pub record ShowsDeclared (tyenv : TypeTables) (env : TermTables) (declared : Declared) : Type 0 where
  pub types : Shows tyenv declared.types
  pub terms : map (term_shown tyenv.names) env.terms ≡ declared.terms
  pub counted : CountUp (λ (term : Term). term.id.0) 0 env.terms
  pub named : (name : List ℕ) → option_and_then (term_with env) (sym_named tyenv name) ≡ option_map term_at (term_named declared name)
  pub converters : (inner outer : ℕ) → converter_with env (type_at inner) (type_at outer)
      ≡ option_map term_at (option_and_then (term_named declared) (converter_in declared.conversions inner outer))
  pub expands : env.expands ≡ declared.expands
