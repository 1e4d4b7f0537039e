-- The terms that declarations make, as the environment of terms holds them.
use Rattle.std.specs.Prelude.{◌≡◌, ◌<◌, ◌≤◌, ℕ, List, [], ◌∷◌, ◌++◌, map, length, Option, None, Some, slice_get, codes}
use Rattle.std.specs.List.{All, AllZip}
use Rattle.std.specs.Option.{option_map, option_and_then}
use Rattle.isle_ast.specs.declared.ast.Ident.{Ident}
use Rattle.isle_ast.specs.declared.ast.Decl.{Decl as DeclTree}
use Rattle.isle_ast.specs.declared.ast.Def.{Def}
use Rattle.isle_ast.specs.declared.error.Error.{Error}
use Rattle.isle_ast.specs.declared.pos.Pos.{Pos}
use Rattle.isle_ast.specs.Trees.PatternShape.{pattern_of}
use Rattle.isle_types.specs.declared.ids.TermId.{TermId}
use Rattle.isle_types.specs.declared.ids.Sym.{Sym}
use Rattle.isle_types.specs.Environment.{Environment, NamedVariant, numbers_in}
use Rattle.isle_types.specs.Names.{position_of}
use Rattle.isle_containers.specs.StableMaps.{value_at}
use Rattle.isle_types.specs.TypeEnvs.{CountUp, symbol_at}
use Rattle.isle_types.specs.TypeFaults.{IsTypeOrSize}
use Rattle.isle_rules.specs.declared.terms.Term.{Term}
use Rattle.isle_rules.specs.declared.terms.ConstructorKind.{ConstructorKind}
use Rattle.isle_rules.specs.declared.terms.ConstructorKind.TheVariants.{InternalConstructor, ExternalConstructor}
use Rattle.isle_rules.specs.declared.terms.ExtractorKind.{ExtractorKind}
use Rattle.isle_rules.specs.declared.terms.ExtractorKind.TheVariants.{InternalExtractor, ExternalExtractor}
use Rattle.isle_rules.specs.declared.terms.TermKind.{TermKind}
use Rattle.isle_rules.specs.declared.terms.TermKind.TheVariants.{EnumVariant, Struct, Decl}
use Rattle.isle_terms.specs.declared.env.terms.Forms.{Forms}
use Rattle.isle_rules.specs.Signatures.{Constructor, by_rules, external_constructor, ExtractorForm, by_template, external_extractor, TermForm}
use Rattle.isle_rules.specs.Signatures.{variant_form, struct_form, declared_form, Signature}
use Rattle.isle_rules.specs.Definitions.{IsAmong, IsDeclaration, rules_in, roots_of, external_constructors, extractors_in, external_extractors}
use Rattle.isle_rules.specs.Definitions.{external_constructor_names, extractor_names}
use Rattle.isle_rules.specs.Elaboration.{type_named}
use Rattle.isle_terms.specs.Inside.Collecting.DefinitionLists.{host_constructor_shown, host_extractor_shown}
use Rattle.isle_terms.specs.Inside.Collecting.NameTables.{IsTableOf}
use Rattle.isle_rules.specs.Shown.ShownTerms.{flags_shown, numbers_of, term_at}
use Rattle.isle_rules.specs.Shown.TermTables.{same_sym}

-- what may be there is shown as what is there
abbrev pub AreShownAs : {X Y : Type 0} → (X → Y → Type 0) → Option X → Option Y → Type 0
AreShownAs R None None = Unit {0}
AreShownAs R None (Some y) = ⊥
AreShownAs R (Some x) None = ⊥
AreShownAs R (Some x) (Some y) = R x y

-- how a declared term makes its value, where these are the interned names
abbrev pub IsShownConstructor : List (List ℕ) → Constructor → ConstructorKind → Type 0
IsShownConstructor names by_rules InternalConstructor = Unit {0}
IsShownConstructor names by_rules (ExternalConstructor name) = ⊥
IsShownConstructor names (external_constructor function) InternalConstructor = ⊥
IsShownConstructor names (external_constructor function) (ExternalConstructor name) = slice_get names name.0 ≡ Some function

-- how a declared term takes a value apart
abbrev pub IsShownExtractor : List (List ℕ) → ExtractorForm → ExtractorKind → Type 0
IsShownExtractor names (by_template template) (InternalExtractor pattern) = pattern_of pattern ≡ template
IsShownExtractor names (by_template template) (ExternalExtractor name infallible pos) = ⊥
IsShownExtractor names (external_extractor function sure at) (InternalExtractor pattern) = ⊥
IsShownExtractor names (external_extractor function sure at) (ExternalExtractor name infallible pos) =
    (slice_get names name.0 ≡ Some function) × (infallible ≡ sure) × (pos ≡ at)

-- what a term is
abbrev pub IsShownForm : List (List ℕ) → TermForm → TermKind → Type 0
IsShownForm names (variant_form number) (EnumVariant variant) = variant.0 ≡ number
IsShownForm names struct_form Struct = Unit {0}
IsShownForm names (declared_form flags constructor extractor) (Decl own constructor_kind extractor_kind) =
    (flags_shown own ≡ flags) × AreShownAs (IsShownConstructor names) constructor constructor_kind
    × AreShownAs (IsShownExtractor names) extractor extractor_kind
IsShownForm names _ _ = ⊥

-- a term shows a signature
pub record IsShownTerm (names : List (List ℕ)) (signature : Signature) (term : Term) : Type 0 where
  pub name : slice_get names term.name.0 ≡ Some signature.name
  pub args : numbers_of term.arg_tys ≡ signature.args
  pub ret : term.ret_ty.0 ≡ signature.ret
  pub form : IsShownForm names signature.form term.kind
  pub pos : term.decl_pos ≡ signature.pos

-- the tables of names from which declared terms get their forms are those of definitions
pub record AreFormsOf (defs : List Def) (forms : Forms) : Type 0 where
  pub roots : IsTableOf (roots_of (rules_in defs)) forms.roots.now
  pub constructors : map host_constructor_shown forms.constructors.now ≡ external_constructors defs
  pub constructor_table : IsTableOf (external_constructor_names defs) forms.constructor_table.now
  pub extractors : map (λ extractor. extractor.now) forms.extractors.now ≡ extractors_in defs
  pub host_extractors : map host_extractor_shown forms.host_extractors.now ≡ external_extractors defs
  pub extractor_table : IsTableOf (extractor_names defs) forms.extractor_table.now

-- a term is that of a declaration
pub record IsDeclaredTerm (types : Environment) (defs : List Def) (names : List (List ℕ)) (id : TermId) (decl : DeclTree) (term : Term) : Type 0 where
  pub signature : Signature
  pub meant : IsDeclaration types defs decl signature
  pub shown : IsShownTerm names signature term
  pub numbered : term.id ≡ id
  pub within : length decl.arg_tys ≤ 255

-- the type of a name is unknown, at the name's position
abbrev pub IsUnknownTypeAt : Environment → Ident → Pos → Type 0
IsUnknownTypeAt types name at = (type_named types name.0 ≡ None) × (at ≡ name.1)

-- the type of one of some names is unknown
abbrev pub IsOneUnknownAt : Environment → List Ident → Pos → Type 0
IsOneUnknownAt types names at = (name : Ident) × IsAmong names name × IsUnknownTypeAt types name at

-- a declaration names an unknown type
pub data NamesUnknownType (types : Environment) (decl : DeclTree) (at : Pos) : Type 0 where
  of_argument : IsOneUnknownAt types decl.arg_tys at → NamesUnknownType types decl at
  of_result : IsUnknownTypeAt types decl.ret_ty at → NamesUnknownType types decl at

-- a fault of a declaration: a type that it names is unknown, or it has too many arguments
abbrev pub IsDeclarationFault : Environment → DeclTree → Error → Type 0
IsDeclarationFault types decl error =
    IsTypeOrSize (NamesUnknownType types decl) (λ at. (255 < length decl.arg_tys) × (at ≡ decl.pos)) error

-- the size error of a declaration stands where it has too many arguments
abbrev pub IsLargeAt : DeclTree → Pos → Type 0
IsLargeAt decl at = (255 < length decl.arg_tys) × (at ≡ decl.pos)

-- one of some declarations has too many arguments, at its position
abbrev pub IsOneLargeAt : List DeclTree → Pos → Type 0
IsOneLargeAt decls at = (decl : DeclTree) × IsAmong decls decl × IsLargeAt decl at

-- one of some declarations names an unknown type
abbrev pub OneNamesUnknownType : Environment → List DeclTree → Pos → Type 0
OneNamesUnknownType types decls at = (decl : DeclTree) × IsAmong decls decl × NamesUnknownType types decl at

-- there is one error alone, of which the fact holds
abbrev pub IsAlone : (Error → Type 0) → List Error → Type 0
IsAlone P [] = ⊥
IsAlone P (error ∷ []) = P error
IsAlone P (error ∷ _ ∷ _) = ⊥

-- the term of one declaration comes behind the terms so far, and its number is its place
pub record AddsDeclaredTerm (types : Environment) (defs : List Def) (names : List (List ℕ)) (decl : DeclTree) (old new : List Term) : Type 0 where
  pub term : Term
  pub all : new ≡ old ++ term ∷ []
  pub meant : IsDeclaredTerm types defs names (term_at (length old)) decl term

-- terms are those of declarations, each at the place of its number
pub record AreDeclaredTerms (types : Environment) (defs : List Def) (names : List (List ℕ)) (decls : List DeclTree) (terms : List Term) : Type 0 where
  pub signatures : List Signature
  pub meant : AllZip (IsDeclaration types defs) decls signatures
  pub shown : AllZip (IsShownTerm names) signatures terms
  pub counted : CountUp (λ (term : Term). term.id.0) 0 terms
  pub within : All (λ (decl : DeclTree). length decl.arg_tys ≤ 255) decls

-- terms that show these signatures come behind the terms so far, and their numbers are their places
pub record AddsTerms (names : List (List ℕ)) (signatures : List Signature) (old new : List Term) : Type 0 where
  pub added : List Term
  pub all : new ≡ old ++ added
  pub shown : AllZip (IsShownTerm names) signatures added
  pub counted : CountUp (λ (term : Term). term.id.0) (length old) added

-- the term of the variant of a number, of the type of a number and name
abbrev pub variant_signature : ℕ → List ℕ → ℕ → NamedVariant → Signature
variant_signature ty type number variant = record {
  name = type ++ codes "." ++ variant.name;
  args = numbers_in variant.fields;
  ret = ty;
  form = variant_form number;
  pos = variant.pos;
}

-- the number of the term of a name, by the symbol of the name among interned names
abbrev pub number_named : List (List ℕ) → List (Sym × TermId) → List ℕ → Option TermId
number_named names numbers name = option_and_then (λ (sym : Sym). value_at same_sym numbers sym) (option_map symbol_at (position_of names name))
