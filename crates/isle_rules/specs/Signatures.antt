-- The terms and converters of an environment, by name. A term's number is its place.
use Rattle.std.specs.Prelude.{◌≡◌, ℕ, Bool, true, false, List, [], ◌∷◌, map, Option, None, Some, is_some, slice_get, if◌then◌else◌, ◌==◌, ◌&&◌}
use Rattle.std.specs.Option.{option_and_then}
use Rattle.isle_ast.specs.declared.pos.Pos.{Pos}
use Rattle.isle_ast.specs.Trees.PatternTree.{PatternTree}
use Rattle.isle_types.specs.Names.{position_of}
use Rattle.isle_types.specs.Environment.{Environment}

-- the flags of a declaration
pub record Flags : Type 0 where
  pub pure : Bool
  pub multi : Bool
  pub partial : Bool
  pub rec : Bool

-- how a declared term makes its value: by its rules, or by the host's function of a name
pub data Constructor : Type 0 where
  by_rules : Constructor
  external_constructor : (function : List ℕ) → Constructor

-- how a declared term takes a value apart: by a template, or by the host's function of a name
pub data ExtractorForm : Type 0 where
  by_template : PatternTree → ExtractorForm
  external_extractor : (function : List ℕ) → (infallible : Bool) → Pos → ExtractorForm

-- what a term is: a variant of its type, its type's struct, or declared
pub data TermForm : Type 0 where
  variant_form : (variant : ℕ) → TermForm
  struct_form : TermForm
  declared_form : Flags → Option Constructor → Option ExtractorForm → TermForm

-- a term, with the numbers of its types
pub record Signature : Type 0 where
  pub name : List ℕ
  pub args : List ℕ
  pub ret : ℕ
  pub form : TermForm
  pub pos : Pos

-- the term that converts from the inner type to the outer one
pub record Conversion : Type 0 where
  pub inner : ℕ
  pub outer : ℕ
  pub term : List ℕ

-- the types, terms and converters that rules are read under, and whether internal extractors are put in
pub record Declared : Type 0 where
  pub types : Environment
  pub terms : List Signature
  pub conversions : List Conversion
  pub expands : Bool

-- the number of the term of a name
abbrev pub term_named : Declared → List ℕ → Option ℕ
term_named declared name = position_of (map (λ (term : Signature). term.name) declared.terms) name

-- the term of a name
abbrev pub signature_of : Declared → List ℕ → Option Signature
signature_of declared name = option_and_then (slice_get declared.terms) (term_named declared name)

-- a term of this form can be used in an expression
abbrev pub has_constructor_form : TermForm → Bool
has_constructor_form (variant_form _) = true
has_constructor_form struct_form = true
has_constructor_form (declared_form _ constructor _) = is_some constructor

-- a term of this form can be used in a pattern
abbrev pub has_extractor_form : TermForm → Bool
has_extractor_form (variant_form _) = true
has_extractor_form struct_form = true
has_extractor_form (declared_form _ _ extractor) = is_some extractor

-- the flags of a term: variants and structs are pure, and neither partial nor multi
abbrev pub flags_of : TermForm → Flags
flags_of (variant_form _) = record { pure = true; multi = false; partial = false; rec = false }
flags_of struct_form = record { pure = true; multi = false; partial = false; rec = false }
flags_of (declared_form flags _ _) = flags

-- the template of a term's internal extractor
abbrev pub template_of : TermForm → Option PatternTree
template_of (variant_form _) = None
template_of struct_form = None
template_of (declared_form _ _ None) = None
template_of (declared_form _ _ (Some (by_template template))) = Some template
template_of (declared_form _ _ (Some (external_extractor _ _ _))) = None

-- the template to be put in for a use of a term, where internal extractors are put in
abbrev pub put_in_for : Declared → Signature → Option PatternTree
put_in_for declared term = if declared.expands then template_of term.form else None

-- the name of the converter of a pair of types; there is one at most
abbrev pub converter_in : List Conversion → ℕ → ℕ → Option (List ℕ)
converter_in [] inner outer = None
converter_in (first ∷ others) inner outer =
    if (first.inner == inner) && (first.outer == outer) then Some first.term else converter_in others inner outer

-- a converter's term of a pair of types: it takes exactly the inner type and gives the outer one
pub record Converts (declared : Declared) (inner outer : ℕ) (name : List ℕ) (term : Signature) : Type 0 where
  pub converter : converter_in declared.conversions inner outer ≡ Some name
  pub known : signature_of declared name ≡ Some term
  pub takes : term.args ≡ inner ∷ []
  pub gives : term.ret ≡ outer
