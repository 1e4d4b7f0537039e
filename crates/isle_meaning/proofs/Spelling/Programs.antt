-- Positions decide nothing of what the terms and values of definitions are.
use Rattle.std.proofs.Common.{◌≡◌, ℕ, List, [], ◌∷◌, ◌++◌, map, Bool, ◌||◌, true, Option, None, Some, slice_get, unwrap_or, refl, sym, ◌∙◌, ap}
use Rattle.std.specs.Prelude.{◌==◌}
use Rattle.std.specs.List.{list_any}
use Rattle.std.specs.Option.{option_map, option_and_then}
use Rattle.std.proofs.lemmas.Option.{slice_get-map}
use Rattle.isle_types.specs.IntTypes.{builtin_names, builtin_types}
use Rattle.isle_types.specs.Names.{position_of}
use Rattle.isle_types.specs.Environment.{Environment, NamedType, NamedVariant, TypeShape, primitive, enum, struct}
use Rattle.isle_rules.specs.TypedRules.{TypedRule}
use Rattle.isle_rules.specs.Signatures.{by_template, external_extractor, TermForm, variant_form, struct_form, declared_form, Signature, flags_of}
use Rattle.isle_rules.specs.Definitions.{TermEnvironment, declared_by, names_of_terms}
use Rattle.isle_meaning.specs.Facts.{shape_of_form, never_fails, no_term, type_shape, fields_of_variant, variant_types, struct_types, facts_of}
use Rattle.isle_meaning.specs.ValueTypes.{TypeKind, no_kind}
use Rattle.isle_meaning.specs.DefinedPrograms.{builtin_kind, shape_kind, kinds_in, data_of_form, data_of, data_shape, signature_named, values_in}
use Rattle.isle_meaning.specs.DefinedPrograms.{defined_program}
use Rattle.isle_meaning.specs.Laws.Spelling.{typed_rule_without_pos, AreAlikePrograms}
use Rattle.isle_meaning.proofs.Spelling.Bare.{bare_variant, bare_shape, bare_type, bare_types, bare_form, bare_term, bare_terms, flags_bare}
use Rattle.isle_meaning.proofs.Spelling.Bare.{term_names_bare}
use Rattle.isle_meaning.proofs.Spelling.Lists.{map_joined}
use Rattle.isle_meaning.proofs.Spelling.Zips.{map_same}

shape_of_bare : (form : TermForm) → shape_of_form (bare_form form) ≡ shape_of_form form
shape_of_bare (variant_form place) = refl
shape_of_bare struct_form = refl
shape_of_bare (declared_form flags constructor extractor) = refl

never_bare : (form : TermForm) → never_fails (bare_form form) ≡ never_fails form
never_bare (variant_form place) = refl
never_bare struct_form = refl
never_bare (declared_form flags constructor None) = refl
never_bare (declared_form flags constructor (Some (by_template template))) = refl
never_bare (declared_form flags constructor (Some (external_extractor function infallible pos))) = refl

-- the term of a number
term_bare : (terms : List Signature) (t : ℕ) → unwrap_or (slice_get (map bare_term terms) t) no_term ≡ bare_term
    (unwrap_or (slice_get terms t) no_term)
term_bare terms t = ap (λ (o : Option Signature). unwrap_or o no_term) (slice_get-map bare_term terms t) ∙ by (slice_get terms t)
  where
    by : (o : Option Signature) → unwrap_or (option_map bare_term o) no_term ≡ bare_term (unwrap_or o no_term)
    by None = refl
    by (Some term) = refl

-- the shape of a type
shapes_bare : (types : List NamedType)
    → map primitive builtin_names ++ map (λ (type : NamedType). type.shape) (map bare_type types)
    ≡ map bare_shape (map primitive builtin_names ++ map (λ (type : NamedType). type.shape) types)
shapes_bare types =
    let one : map primitive builtin_names ≡ map bare_shape (map primitive builtin_names) = refl in
    let other = map_same bare_type (λ (type : NamedType). type.shape) (λ (type : NamedType). bare_shape type.shape) (λ t. refl) types
    ∙ sym (map_same (λ (type : NamedType). type.shape) bare_shape (λ (type : NamedType). bare_shape type.shape) (λ t. refl) types) in
    let both : map primitive builtin_names ++ map (λ (type : NamedType). type.shape) (map bare_type types)
    ≡ map bare_shape (map primitive builtin_names) ++ map bare_shape (map (λ (type : NamedType). type.shape) types) = (λ i. one i ++ other i) in
    both ∙ map_joined bare_shape (map primitive builtin_names) (map (λ (type : NamedType). type.shape) types)

type_shape_bare : (types : Environment) (ty : ℕ) → type_shape (bare_types types) ty ≡ bare_shape (type_shape types ty)
type_shape_bare types ty =
    ap (λ (l : List TypeShape). unwrap_or (slice_get l ty) (primitive [])) (shapes_bare types.types)
    ∙ ap (λ (o : Option TypeShape). unwrap_or o (primitive []))
    (slice_get-map bare_shape (map primitive builtin_names ++ map (λ (type : NamedType). type.shape) types.types) ty)
    ∙ by (slice_get (map primitive builtin_names ++ map (λ (type : NamedType). type.shape) types.types) ty)
  where
    by : (o : Option TypeShape) → unwrap_or (option_map bare_shape o) (primitive []) ≡ bare_shape (unwrap_or o (primitive []))
    by None = refl
    by (Some shape) = refl

fields_bare : (o : Option NamedVariant) → fields_of_variant (option_map bare_variant o) ≡ fields_of_variant o
fields_bare None = refl
fields_bare (Some variant) = refl

variants_bare : (shape : TypeShape) (place : ℕ) → variant_types (bare_shape shape) place ≡ variant_types shape place
variants_bare (primitive host) place = refl
variants_bare (enum variants) place = ap fields_of_variant (slice_get-map bare_variant variants place) ∙ fields_bare (slice_get variants place)
variants_bare (struct members) place = refl

structs_bare : (shape : TypeShape) → struct_types (bare_shape shape) ≡ struct_types shape
structs_bare (primitive host) = refl
structs_bare (enum variants) = refl
structs_bare (struct members) = refl

-- what declarations say of terms
pub facts_bare : (types : Environment) (environment : TermEnvironment)
    → facts_of (declared_by (bare_types types) true (bare_terms environment)) ≡ facts_of (declared_by types true environment)
facts_bare types environment =
    let at = term_bare environment.terms in
    let shape : (t : ℕ) → _ ≡ _ = λ t. ap (λ (s : Signature). shape_of_form s.form) (at t) ∙ shape_of_bare
    (unwrap_or (slice_get environment.terms t) no_term).form in
    let flags : (t : ℕ) → _ ≡ _ = λ t. ap (λ (s : Signature). flags_of s.form) (at t) ∙ flags_bare
    (unwrap_or (slice_get environment.terms t) no_term).form in
    let never : (t : ℕ) → _ ≡ _ = λ t. ap (λ (s : Signature). never_fails s.form) (at t) ∙ never_bare
    (unwrap_or (slice_get environment.terms t) no_term).form in
    (λ i. record {
      shape = λ t. shape t i;
      pure = λ t. (flags t i).pure;
      partial = λ t. (flags t i).partial;
      multi = λ t. (flags t i).multi;
      infallible = λ t. never t i;
      inputs = λ t. (at t i).args;
      type_of = λ t. (at t i).ret;
      variant_fields = λ ty place. (ap (λ (s : TypeShape). variant_types s place) (type_shape_bare types ty) ∙ variants_bare
          (type_shape types ty) place) i;
      struct_fields = λ ty. (ap struct_types (type_shape_bare types ty) ∙ structs_bare (type_shape types ty)) i;
      constant_type = λ name. (facts_of (declared_by types true environment)).constant_type name;
    })

-- kinds of types
kind_bare : (shape : TypeShape) → shape_kind (bare_shape shape) ≡ shape_kind shape
kind_bare (primitive host) = refl
kind_bare (enum variants) = refl
kind_bare (struct members) = refl

kinds_bare : (types : Environment) → kinds_in (bare_types types) ≡ kinds_in types
kinds_bare types =
    ap (λ (l : List TypeKind). map builtin_kind builtin_types ++ l)
    (map_same bare_type (λ (type : NamedType). shape_kind type.shape) (λ (type : NamedType). shape_kind type.shape)
    (λ t. kind_bare t.shape) types.types)

-- what is said of data
named_bare : (terms : List Signature) (name : List ℕ) → signature_named (map bare_term terms) name ≡ option_map bare_term (signature_named terms name)
named_bare terms name =
    ap (λ (l : List (List ℕ)). option_and_then (slice_get (map bare_term terms)) (position_of l name)) (term_names_bare terms)
    ∙ by (position_of (names_of_terms terms) name)
  where
    by : (o : Option ℕ) → option_and_then (slice_get (map bare_term terms)) o ≡ option_map bare_term (option_and_then (slice_get terms) o)
    by None = refl
    by (Some n) = slice_get-map bare_term terms n

data_bare : (form : TermForm) (types : ℕ × List ℕ) → data_of_form (bare_form form) types ≡ data_of_form form types
data_bare (variant_form place) types = refl
data_bare struct_form types = refl
data_bare (declared_form flags constructor extractor) types = refl

shaped_bare : (form : TermForm) → data_shape (bare_form form) ≡ data_shape form
shaped_bare (variant_form place) = refl
shaped_bare struct_form = refl
shaped_bare (declared_form flags constructor extractor) = refl

data_named_bare : (o : Option Signature) → option_and_then data_of (option_map bare_term o) ≡ option_and_then data_of o
data_named_bare None = refl
data_named_bare (Some term) = data_bare term.form (term.ret, term.args)

shape_named_bare : (o : Option Signature)
    → option_and_then (λ (term : Signature). data_shape term.form) (option_map bare_term o)
    ≡ option_and_then (λ (term : Signature). data_shape term.form) o
shape_named_bare None = refl
shape_named_bare (Some term) = shaped_bare term.form

-- what definitions say of values
values_bare : (types : Environment) (terms : List Signature) → values_in (bare_types types) (map bare_term terms) ≡ values_in types terms
values_bare types terms =
    let kinds = kinds_bare types in
    let made : (name : List ℕ) → _ ≡ _ = λ name. ap (option_and_then data_of) (named_bare terms name) ∙ data_named_bare
    (signature_named terms name) in
    let shape : (name : List ℕ) → _ ≡ _ = λ name. ap (option_and_then (λ (term : Signature). data_shape term.form)) (named_bare terms name)
    ∙ shape_named_bare (signature_named terms name) in
    (λ i. record {
      kind = λ ty. unwrap_or (slice_get (kinds i) ty) no_kind;
      constant = λ name. (values_in types terms).constant name;
      data_named = λ name. made name i;
      shape_named = λ name. shape name i;
    })

-- which terms have rules
roots_bare : (rules : List TypedRule) (t : ℕ)
    → list_any (λ (rule : TypedRule). rule.root == t) (map typed_rule_without_pos rules) ≡ list_any (λ (rule : TypedRule). rule.root == t) rules
roots_bare [] t = refl
roots_bare (r ∷ rules) t = ap (λ (b : Bool). (r.root == t) || b) (roots_bare rules t)

-- what calls are meant by
pub program_bare : (types : Environment) (environment : TermEnvironment)
    → AreAlikePrograms (defined_program types environment) (defined_program (bare_types types) (bare_terms environment))
program_bare types environment = record {
  terms = sym (facts_bare types environment);
  values = sym (values_bare types environment.terms);
  has_rules = (λ i t. sym (roots_bare environment.rules t) i);
  rules = sym (map_same typed_rule_without_pos typed_rule_without_pos typed_rule_without_pos (λ r. refl) environment.rules);
}

-- such programs are alike both ways, and in a chain
pub alike_back : (one other : _) → AreAlikePrograms one other → AreAlikePrograms other one
alike_back one other h = record { terms = sym h.terms; values = sym h.values; has_rules = sym h.has_rules; rules = sym h.rules }

pub alike_chain : (one middle other : _) → AreAlikePrograms one middle → AreAlikePrograms middle other → AreAlikePrograms one other
alike_chain one middle other h k = record {
  terms = h.terms ∙ k.terms;
  values = h.values ∙ k.values;
  has_rules = h.has_rules ∙ k.has_rules;
  rules = h.rules ∙ k.rules;
}
