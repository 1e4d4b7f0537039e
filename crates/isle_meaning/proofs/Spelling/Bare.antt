-- What definitions make, without positions.
use Rattle.std.proofs.Common.{◌≡◌, ℕ, List, [], ◌∷◌, ◌++◌, map, true, false, Option, None, Some, slice_get, refl, ◌∙◌, ap}
use Rattle.std.specs.Prelude.{if◌then◌else◌}
use Rattle.std.specs.Option.{option_map, option_and_then}
use Rattle.std.proofs.lemmas.Option.{slice_get-map, same_Some, none-some}
use Rattle.isle_ast.specs.declared.ast.Pattern.{Pattern}
use Rattle.isle_ast.specs.declared.ast.Pattern.TheVariants as pattern
use Rattle.isle_ast.specs.declared.ast.Expr.{Expr}
use Rattle.isle_ast.specs.declared.ast.Expr.TheVariants as expr
use Rattle.isle_ast.specs.Trees.PatternShape.{pattern_of}
use Rattle.isle_ast.specs.Trees.ExprShape.{expr_of}
use Rattle.isle_ast.specs.Trees.WithoutPos.{no_pos, pattern_tree_without_pos, expr_tree_without_pos, pattern_without_pos, expr_without_pos}
use Rattle.isle_types.specs.IntTypes.{builtin_names}
use Rattle.isle_types.specs.Names.{position_of}
use Rattle.isle_types.specs.Environment.{Environment, NamedType, NamedVariant, TypeShape, primitive, enum, struct}
use Rattle.isle_rules.specs.Signatures.{ExtractorForm, by_template, external_extractor, TermForm, variant_form, struct_form, declared_form}
use Rattle.isle_rules.specs.Signatures.{Signature, Declared, term_named, signature_of, template_of, put_in_for, has_constructor_form}
use Rattle.isle_rules.specs.Signatures.{has_extractor_form, flags_of}
use Rattle.isle_rules.specs.Elaboration.{type_named}
use Rattle.isle_rules.specs.Definitions.{TermEnvironment, names_of_terms}
use Rattle.isle_meaning.specs.Laws.Spelling.{typed_rule_without_pos}

abbrev pub bare_variant : NamedVariant → NamedVariant
bare_variant variant = record { name = variant.name; fields = variant.fields; pos = no_pos }

abbrev pub bare_shape : TypeShape → TypeShape
bare_shape (primitive host) = primitive host
bare_shape (enum variants) = enum (map bare_variant variants)
bare_shape (struct members) = struct members

abbrev pub bare_type : NamedType → NamedType
bare_type type = record {
  name = type.name;
  is_extern = type.is_extern;
  is_nodebug = type.is_nodebug;
  shape = bare_shape type.shape;
  pos = no_pos;
}

abbrev pub bare_types : Environment → Environment
bare_types types = record { types = map bare_type types.types; constants = types.constants }

abbrev pub bare_extractor : ExtractorForm → ExtractorForm
bare_extractor (by_template template) = by_template (pattern_tree_without_pos template)
bare_extractor (external_extractor function infallible pos) = external_extractor function infallible no_pos

abbrev pub bare_form : TermForm → TermForm
bare_form (variant_form place) = variant_form place
bare_form struct_form = struct_form
bare_form (declared_form flags constructor extractor) = declared_form flags constructor (option_map bare_extractor extractor)

abbrev pub bare_term : Signature → Signature
bare_term term = record { name = term.name; args = term.args; ret = term.ret; form = bare_form term.form; pos = no_pos }

abbrev pub bare_terms : TermEnvironment → TermEnvironment
bare_terms environment = record {
  terms = map bare_term environment.terms;
  conversions = environment.conversions;
  rules = map typed_rule_without_pos environment.rules;
}

abbrev pub bare : Declared → Declared
bare declared = record {
  types = bare_types declared.types;
  terms = map bare_term declared.terms;
  conversions = declared.conversions;
  expands = declared.expands;
}

-- trees in definitions
pub pattern_bare : (p : Pattern) → pattern_of (pattern_without_pos p) ≡ pattern_tree_without_pos (pattern_of p)
pattern_bare (pattern.Var name _) = refl
pattern_bare (pattern.BindPattern name below _) = refl
pattern_bare (pattern.ConstBool val _) = refl
pattern_bare (pattern.ConstInt val big _) = refl
pattern_bare (pattern.ConstPrim name _) = refl
pattern_bare (pattern.Term term below _) = refl
pattern_bare (pattern.Wildcard _) = refl
pattern_bare (pattern.And below _) = refl
pattern_bare (pattern.MacroArg val _) = refl

pub expr_bare : (e : Expr) → expr_of (expr_without_pos e) ≡ expr_tree_without_pos (expr_of e)
expr_bare (expr.Term term below _) = refl
expr_bare (expr.Var name _) = refl
expr_bare (expr.ConstBool val _) = refl
expr_bare (expr.ConstInt val big _) = refl
expr_bare (expr.ConstPrim name _) = refl
expr_bare (expr.Let defs below _) = refl

-- names stay
pub type_names_bare : (types : List NamedType) → map (λ (type : NamedType). type.name) (map bare_type types) ≡ map
    (λ (type : NamedType). type.name) types
type_names_bare [] = refl
type_names_bare (t ∷ types) = ap (λ (l : List (List ℕ)). t.name ∷ l) (type_names_bare types)

pub term_names_bare : (terms : List Signature) → names_of_terms (map bare_term terms) ≡ names_of_terms terms
term_names_bare [] = refl
term_names_bare (t ∷ terms) = ap (λ (l : List (List ℕ)). t.name ∷ l) (term_names_bare terms)

-- numbers of names stay
pub type_named_bare : (types : Environment) (name : List ℕ) → type_named (bare_types types) name ≡ type_named types name
type_named_bare types name = ap (λ (l : List (List ℕ)). position_of (builtin_names ++ l) name) (type_names_bare types.types)

pub term_named_bare : (declared : Declared) (name : List ℕ) → term_named (bare declared) name ≡ term_named declared name
term_named_bare declared name = ap (λ (l : List (List ℕ)). position_of l name) (term_names_bare declared.terms)

-- the item at a place
pub there_bare : {X Y : Type 0} (f : X → Y) (xs : List X) (n : ℕ) (x : X) → slice_get xs n ≡ Some x → slice_get (map f xs) n ≡ Some (f x)
there_bare f xs n x at = slice_get-map f xs n ∙ ap (option_map f) at

-- the term of a name
pub signature_bare : (declared : Declared) (name : List ℕ) → signature_of (bare declared) name ≡ option_map bare_term (signature_of declared name)
signature_bare declared name =
    ap (option_and_then (slice_get (map bare_term declared.terms))) (term_named_bare declared name) ∙ by_number (term_named declared name)
  where
    by_number : (o : Option ℕ) → option_and_then (slice_get (map bare_term declared.terms)) o
        ≡ option_map bare_term (option_and_then (slice_get declared.terms) o)
    by_number None = refl
    by_number (Some n) = slice_get-map bare_term declared.terms n

-- what a form is
pub has_constructor_bare : (form : TermForm) → has_constructor_form (bare_form form) ≡ has_constructor_form form
has_constructor_bare (variant_form place) = refl
has_constructor_bare struct_form = refl
has_constructor_bare (declared_form flags constructor extractor) = refl

pub has_extractor_bare : (form : TermForm) → has_extractor_form (bare_form form) ≡ has_extractor_form form
has_extractor_bare (variant_form place) = refl
has_extractor_bare struct_form = refl
has_extractor_bare (declared_form flags constructor None) = refl
has_extractor_bare (declared_form flags constructor (Some extractor)) = refl

pub flags_bare : (form : TermForm) → flags_of (bare_form form) ≡ flags_of form
flags_bare (variant_form place) = refl
flags_bare struct_form = refl
flags_bare (declared_form flags constructor extractor) = refl

-- the template of a form
template_bare : (form : TermForm) → template_of (bare_form form) ≡ option_map pattern_tree_without_pos (template_of form)
template_bare (variant_form place) = refl
template_bare struct_form = refl
template_bare (declared_form flags constructor None) = refl
template_bare (declared_form flags constructor (Some (by_template template))) = refl
template_bare (declared_form flags constructor (Some (external_extractor function infallible pos))) = refl

pub put_in_bare : (declared : Declared) (term : Signature)
    → put_in_for (bare declared) (bare_term term) ≡ option_map pattern_tree_without_pos (put_in_for declared term)
put_in_bare declared term = by_flag declared.expands
  where
    by_flag : (expands : _) → (if expands then template_of (bare_form term.form) else None)
        ≡ option_map pattern_tree_without_pos (if expands then template_of term.form else None)
    by_flag true = template_bare term.form
    by_flag false = refl

-- what is mapped to something
pub unmapped : {X Y : Type 0} (f : X → Y) (o : Option X) (y : Y) → option_map f o ≡ Some y → (x : X) × (o ≡ Some x) × (f x ≡ y)
unmapped f None y h = absurd (none-some y h)
unmapped f (Some x) y h = (x, refl, same_Some (f x) y h)
