-- What a program's tables say is what its definitions say.
use Rattle.std.proofs.Common.{◌≡◌, ℕ, zero, suc, List, [], ◌∷◌, ◌++◌, map, ◌||◌, Option, None, Some, slice_get, unwrap_or, refl, sym, ◌∙◌, ap}
use Rattle.std.specs.Prelude.{◌==◌}
use Rattle.std.specs.List.{AllZip, list_any}
use Rattle.std.specs.Option.{option_map, option_and_then}
use Rattle.std.proofs.lemmas.Option.{slice_get-map}
use Rattle.isle_ast.specs.Positions.Files.{SourceFile}
use Rattle.isle_types.specs.declared.ids.TermId.{TermId}
use Rattle.isle_types.specs.declared.types.BuiltinType.{BuiltinType}
use Rattle.isle_types.specs.declared.types.BuiltinType.TheVariants.{Bool as BoolType, Int}
use Rattle.isle_types.specs.declared.types.«Type».{«Type» as KnownType}
use Rattle.isle_types.specs.declared.types.«Type».TheVariants.{Builtin, Primitive, Enum as EnumType, Struct as StructType}
use Rattle.isle_types.specs.IntTypes.{builtin_types}
use Rattle.isle_types.specs.Environment.{NamedType, TypeShape, primitive, enum, struct}
use Rattle.isle_types.specs.TypeEnvs.{IsShown, IsShownShape}
use Rattle.isle_rules.specs.declared.rules.Rule.{Rule}
use Rattle.isle_rules.specs.declared.terms.Term.{Term}
use Rattle.isle_rules.specs.Signatures.{Signature, Declared, term_named}
use Rattle.isle_rules.specs.TypedRules.{TypedRule}
use Rattle.isle_rules.specs.Definitions.{declared_by}
use Rattle.isle_rules.specs.Shown.ShownTerms.{ShowsDeclared, term_shown, term_at as id_at}
use Rattle.isle_rules.specs.Shown.RulesShown.{IsShownRule}
use Rattle.isle_meaning.specs.ValueTypes.{no_kind}
use Rattle.isle_program.specs.declared.program.Program.{Program}
use Rattle.isle_program.specs.Compiled.{IsProgramOf}
use Rattle.isle_meaning.specs.DefinedPrograms.{builtin_kind, shape_kind, data_of, data_shape, defined_program}
use Rattle.isle_program.specs.Meanings.{checked}
use Rattle.isle_program.specs.Programs.{types_of, terms_of, kind_of_type, data_of_term, shape_of_term, program_term as id_named}
use Rattle.isle_program.proofs.SoundPrograms.Agreeing.{rules_agree, terms_agree}
use Rattle.isle_program.proofs.SoundPrograms.NamedData.{data_shown, shape_shown}
use Rattle.isle_program.proofs.SoundPrograms.TypeTables.{constants_agree}

-- the kind of a type that is shown
shape_kinds_agree : (names : List (List ℕ)) (type : NamedType) (shape : TypeShape) (made : KnownType) → IsShownShape names type shape made
    → kind_of_type (Some made) ≡ shape_kind shape
shape_kinds_agree names type (primitive host) (Primitive id name pos) shown = refl
shape_kinds_agree names type (enum variants) (EnumType name id is_extern is_nodebug made pos) shown = refl
shape_kinds_agree names type (struct members) (StructType name id is_extern is_nodebug made pos) shown = refl
shape_kinds_agree names type (primitive host) (Builtin builtin) shown = absurd shown
shape_kinds_agree names type (primitive host) (EnumType name id is_extern is_nodebug made pos) shown = absurd shown
shape_kinds_agree names type (primitive host) (StructType name id is_extern is_nodebug made pos) shown = absurd shown
shape_kinds_agree names type (enum variants) (Builtin builtin) shown = absurd shown
shape_kinds_agree names type (enum variants) (Primitive id name pos) shown = absurd shown
shape_kinds_agree names type (enum variants) (StructType name id is_extern is_nodebug made pos) shown = absurd shown
shape_kinds_agree names type (struct members) (Builtin builtin) shown = absurd shown
shape_kinds_agree names type (struct members) (Primitive id name pos) shown = absurd shown
shape_kinds_agree names type (struct members) (EnumType name id is_extern is_nodebug made pos) shown = absurd shown

builtin_kinds_agree : (builtin : BuiltinType) → kind_of_type (Some (Builtin builtin)) ≡ builtin_kind builtin
builtin_kinds_agree BoolType = refl
builtin_kinds_agree (Int int) = refl

-- the kinds of types, the builtin ones first
kinds_agree : (names : List (List ℕ)) (builtin : List BuiltinType) (types : List NamedType) (made : List KnownType)
    → AllZip (IsShown names) types made → (ty : ℕ)
    → kind_of_type (slice_get (map Builtin builtin ++ made) ty)
    ≡ unwrap_or (slice_get (map builtin_kind builtin ++ map (λ (type : NamedType). shape_kind type.shape) types) ty) no_kind
kinds_agree names (b ∷ builtin) types made each zero = builtin_kinds_agree b
kinds_agree names (b ∷ builtin) types made each (suc ty) = kinds_agree names builtin types made each ty
kinds_agree names [] [] [] each ty = refl
kinds_agree names [] [] (m ∷ made) each ty = absurd each
kinds_agree names [] (t ∷ types) [] each ty = absurd each
kinds_agree names [] (t ∷ types) (m ∷ made) each zero = shape_kinds_agree names t t.shape m each.0.shape
kinds_agree names [] (t ∷ types) (m ∷ made) each (suc ty) = kinds_agree names [] types made each.1 ty

-- which terms have rules
roots_agree : (names : List (List ℕ)) (t : ℕ) (typed : List TypedRule) (made : List Rule) → AllZip (IsShownRule names) typed made
    → list_any (λ (rule : Rule). rule.root_term.0 == t) made ≡ list_any (λ (rule : TypedRule). rule.root == t) typed
roots_agree names t [] [] each = refl
roots_agree names t [] (m ∷ made) each = absurd each
roots_agree names t (r ∷ typed) [] each = absurd each
roots_agree names t (r ∷ typed) (m ∷ made) each =
    let root = each.0.root in
    (λ i. (root i == t) || roots_agree names t typed made each.1 i)

module _ (program : Program) (declared : Declared) (shows : ShowsDeclared (types_of program) (terms_of program) declared) where
  -- what is said of a term that is shown
  term_there : (n : ℕ)
      → slice_get declared.terms n ≡ option_map (term_shown (types_of program).names) (slice_get (terms_of program).terms n)
  term_there n =
      ap (λ (l : List Signature). slice_get l n) (sym shows.terms)
      ∙ slice_get-map (term_shown (types_of program).names) (terms_of program).terms n

  data_agrees : (name : List ℕ)
      → option_and_then (λ (id : TermId). option_and_then data_of_term (slice_get (terms_of program).terms id.0)) (id_named program name)
      ≡ option_and_then data_of (option_and_then (slice_get declared.terms) (term_named declared name))
  data_agrees name =
      ap (option_and_then (λ (id : TermId). option_and_then data_of_term (slice_get (terms_of program).terms id.0))) (shows.named name)
      ∙ by_number (term_named declared name)
    where
      by_term : (o : Option Term)
          → option_and_then data_of_term o ≡ option_and_then data_of (option_map (term_shown (types_of program).names) o)
      by_term None = refl
      by_term (Some term) = data_shown (types_of program).names term.kind _

      by_number : (o : Option ℕ)
          → option_and_then (λ (id : TermId). option_and_then data_of_term (slice_get (terms_of program).terms id.0)) (option_map id_at o)
          ≡ option_and_then data_of (option_and_then (slice_get declared.terms) o)
      by_number None = refl
      by_number (Some n) = by_term (slice_get (terms_of program).terms n) ∙ ap (option_and_then data_of) (sym (term_there n))

  shape_agrees : (name : List ℕ)
      → option_and_then (λ (id : TermId). option_and_then shape_of_term (slice_get (terms_of program).terms id.0)) (id_named program name)
      ≡ option_and_then (λ (term : Signature). data_shape term.form)
      (option_and_then (slice_get declared.terms) (term_named declared name))
  shape_agrees name =
      ap (option_and_then (λ (id : TermId). option_and_then shape_of_term (slice_get (terms_of program).terms id.0))) (shows.named name)
      ∙ by_number (term_named declared name)
    where
      by_term : (o : Option Term)
          → option_and_then shape_of_term o
          ≡ option_and_then (λ (term : Signature). data_shape term.form) (option_map (term_shown (types_of program).names) o)
      by_term None = refl
      by_term (Some term) = shape_shown (types_of program).names term.kind

      by_number : (o : Option ℕ)
          → option_and_then (λ (id : TermId). option_and_then shape_of_term (slice_get (terms_of program).terms id.0)) (option_map id_at o)
          ≡ option_and_then (λ (term : Signature). data_shape term.form) (option_and_then (slice_get declared.terms) o)
      by_number None = refl
      by_number (Some n) =
          by_term (slice_get (terms_of program).terms n)
          ∙ ap (option_and_then (λ (term : Signature). data_shape term.form)) (sym (term_there n))

  kind_agrees : (ty : ℕ)
      → kind_of_type (slice_get (types_of program).types ty)
      ≡ unwrap_or (slice_get
      (map builtin_kind builtin_types ++ map (λ (type : NamedType). shape_kind type.shape) declared.types.types) ty) no_kind
  kind_agrees ty =
      ap (λ (l : List KnownType). kind_of_type (slice_get l ty)) shows.types.all
      ∙ kinds_agree (types_of program).names builtin_types declared.types.types shows.types.made shows.types.types ty

-- the tables of a compiled program say what its definitions say
pub program_agrees : (files : List SourceFile) (program : Program) (is : IsProgramOf files program)
    → checked program ≡ defined_program is.types is.terms.environment
program_agrees files program is =
    let declared = declared_by is.types (terms_of program).expands is.terms.environment in
    let shows = is.terms.declared in
    let names = (types_of program).names in
    let terms = terms_agree (types_of program) (terms_of program) declared shows in
    let rules = rules_agree names is.terms.environment.rules (terms_of program).rules is.terms.rules in
    (λ i. record {
      terms = terms i;
      values = record {
        kind = λ ty. kind_agrees program declared shows ty i;
        constant = λ name. constants_agree (types_of program) declared.types shows.types name i;
        data_named = λ name. data_agrees program declared shows name i;
        shape_named = λ name. shape_agrees program declared shows name i;
      };
      has_rules = λ t. roots_agree names t is.terms.environment.rules (terms_of program).rules is.terms.rules i;
      rules = rules i;
    })
