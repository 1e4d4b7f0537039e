-- The names in values of the types of a compiled program are spelt as names, so such values are read back.
use Rattle.std.proofs.Common.{◌≡◌, ℕ, List, [], ◌∷◌, ◌++◌, length, Bool, true, false, Option, Some, None, refl, sym, ap, subst, ◌∙◌}
use Rattle.std.proofs.Common.{slice_get, codes, bytes_eq, is_some, rules}
use Rattle.std.specs.Prelude.{◌||◌, if◌then◌else◌, FitsSigned, ℤ}
use Rattle.std.specs.Int.{w128}
use Rattle.std.specs.List.{AllZip, AllByRecursion, list_all}
use Rattle.std.specs.Option.{option_and_then}
use Rattle.std.specs.Str.{IsUtf8, chars}
use Rattle.std.proofs.lemmas.Bool.{and_from}
use Rattle.std.proofs.lemmas.List.Folds.{list_all-append}
use Rattle.std.proofs.lemmas.Option.{none-some}
use Rattle.std.proofs.lemmas.Slice.Eq.{bytes_eq-Decides}
use Rattle.std.proofs.lemmas.Str.{IsUtf8-append, IsUtf8-from_ascii, IsUtf8-string_bytes, chars-append}
use Rattle.isle_ast.specs.declared.ast.Ident.{Ident}
use Rattle.isle_ast.specs.declared.ast.Variant.{Variant}
use Rattle.isle_ast.specs.declared.ast.TypeValue.{TypeValue}
use Rattle.isle_ast.specs.declared.ast.TypeValue.TheVariants.{Primitive, Enum, Struct}
use Rattle.isle_ast.specs.declared.ast.«Type».{«Type» as TypeTree}
use Rattle.isle_ast.specs.declared.ast.Extern.TheVariants.{Constructor as extern_constructor, Extractor as extern_extractor, Const as extern_const}
use Rattle.isle_ast.specs.declared.ast.Def.{Def}
use Rattle.isle_ast.specs.declared.ast.Def.TheVariants.{TypeDef, Decl, Rule, Extractor, Extern, Converter, Pragma, Kept}
use Rattle.isle_ast.specs.Positions.Files.{SourceFile}
use Rattle.isle_syntax.specs.Tokens.Names.{begins_ident, continues_ident, is_numeric, is_ident_of, is_ident}
use Rattle.isle_syntax.proofs.Reading.SymbolKinds.{and_first, and_second}
use Rattle.isle_types.specs.IntTypes.{builtin_names}
use Rattle.isle_types.specs.Names.{position_of}
use Rattle.isle_types.specs.Environment.{Environment, NamedType, NamedVariant, TypeShape, primitive, enum, struct, IsType, IsShape, IsVariant}
use Rattle.isle_types.specs.Environment.{IsConstant, type_names, type_definitions, constant_definitions, constant_in}
use Rattle.isle_types.proofs.NamePlaces.{place_found}
use Rattle.isle_types.proofs.Zipped.{mapped_at, each_at}
use Rattle.isle_rules.specs.Signatures.{Signature, TermForm, declared_form}
use Rattle.isle_rules.specs.Definitions.{AreTerms, names_of_terms}
use Rattle.isle_rules.specs.Values.{ValueTree, ValueTrees, bool_tree, int_tree, big_tree, const_tree, opaque_tree, data_tree, no_trees, more_trees}
use Rattle.isle_meaning.specs.DefinedPrograms.{data_of_form, data_of, signature_named, values_in}
use Rattle.isle_meaning.specs.ValueTypes.{TypeKind, truth_kind, integer_kind, primitive_kind, data_kind, no_kind, ValueFacts, IsIntOf, IsOfType}
use Rattle.isle_meaning.specs.ValueTypes.{AreOfTypes}
use Rattle.isle_meaning.specs.Worlds.{CheckedProgram}
use Rattle.isle_meaning.proofs.SoundPrograms.MadeData.{IsMadeOf, variant_made, struct_made, made_at}
use Rattle.isle_program.specs.declared.program.Program.{Program}
use Rattle.isle_program.specs.Compiled.{IsProgramOf}
use Rattle.isle_program.specs.Programs.{value_facts}
use Rattle.isle_program.proofs.SoundPrograms.Defined.{program_agrees}
use Rattle.isle_values.specs.Values.Held.{IsHeld, AreHeld}
use Rattle.isle_values.specs.Values.Tokens.{IsSpellable, AreSpellable}
use Rattle.isle_values.proofs.GroundValues.Printed.ReadBack.{reads_back}
use Rattle.isle_run.specs.Laws.Printing.{AreUtf8Texts, StringsAreUtf8Texts, CompiledValuesReadBack}
use Rattle.isle_run.proofs.Naming.Definitions.{IsIdentifier, IsConstantName, HasNamedVariants, IsNamedType, IsNamedDef, files_are_named}

-- ---- full names

begins_continues : (c : ℕ) → begins_ident c ≡ true → continues_ident c ≡ true
begins_continues c e = rw e refl

ident_continues : (cs : List ℕ) → is_ident_of cs ≡ true → list_all continues_ident cs ≡ true
ident_continues [] e = refl
ident_continues (c ∷ cs) e =
    and_from (continues_ident c) (list_all continues_ident cs) (begins_continues c (and_first (begins_ident c) (list_all continues_ident cs) e))
    (and_second (begins_ident c) (list_all continues_ident cs) e)

-- an identifier and characters that go on with one
ident_goes_on : (cs more : List ℕ) → is_ident_of cs ≡ true → list_all continues_ident more ≡ true → is_ident_of (cs ++ more) ≡ true
ident_goes_on [] more e f = absurd (cc)
ident_goes_on (c ∷ cs) more e f =
    and_from (begins_ident c) (list_all continues_ident (cs ++ more)) (and_first (begins_ident c) (list_all continues_ident cs) e)
    (list_all-append continues_ident cs more
    ∙ and_from (list_all continues_ident cs) (list_all continues_ident more) (and_second (begins_ident c) (list_all continues_ident cs) e) f)

dot_is_utf8 : IsUtf8 (codes ".")
dot_is_utf8 = IsUtf8-from_ascii (codes ".") (search rules)

dot_chars : chars (codes ".") ≡ codes "."
unfolding chars
dot_chars = refl

either_way : (a b : Bool) → (a || true || false || b) ≡ true
either_way true b = refl
either_way false b = refl

dot_continues : list_all continues_ident (codes ".") ≡ true
dot_continues = and_from (continues_ident 46) true (either_way (begins_ident 46) (is_numeric 46)) refl

-- a type's name, a dot and a variant's name
full_name : (type variant : List ℕ) → IsIdentifier type → IsIdentifier variant → IsIdentifier (type ++ codes "." ++ variant)
unfolding is_ident
full_name type variant t v =
    let front : IsUtf8 (type ++ codes ".") = IsUtf8-append type (codes ".") t.0 dot_is_utf8 in
    let before : chars (type ++ codes ".") ≡ chars type ++ codes "." =
    chars-append type (codes ".") t.0 ∙ ap (λ (l : List ℕ). chars type ++ l) dot_chars in
    let whole : chars ((type ++ codes ".") ++ variant) ≡ (chars type ++ codes ".") ++ chars variant =
    chars-append (type ++ codes ".") variant front ∙ ap (λ (l : List ℕ). l ++ chars variant) before in (
      IsUtf8-append (type ++ codes ".") variant front v.0,
      ap is_ident_of whole
          ∙ ident_goes_on (chars type ++ codes ".") (chars variant) (ident_goes_on (chars type) (codes ".") t.1 dot_continues)
          (ident_continues (chars variant) v.1),
    )

-- ---- types and constants

-- the variants of a type have identifiers as names
abbrev HasIdentifiers : TypeShape → Type 0
HasIdentifiers (primitive _) = Unit {0}
HasIdentifiers (enum variants) = AllByRecursion (λ (variant : NamedVariant). IsIdentifier variant.name) variants
HasIdentifiers (struct _) = Unit {0}

variants_named : (known : List (List ℕ)) (trees : List Variant) (variants : List NamedVariant) → AllZip (IsVariant known) trees variants
    → AllByRecursion (λ (variant : Variant). IsIdentifier variant.name.0) trees
    → AllByRecursion (λ (variant : NamedVariant). IsIdentifier variant.name) variants
variants_named known [] [] each h = tt
variants_named known [] (v ∷ variants) each h = absurd each
variants_named known (t ∷ trees) [] each h = absurd each
variants_named known (t ∷ trees) (v ∷ variants) each h =
    (subst IsIdentifier (sym each.0.name) h.0, variants_named known trees variants each.1 h.1)

shape_named : (known : List (List ℕ)) (tree : TypeValue) (shape : TypeShape) → IsShape known tree shape → HasNamedVariants tree → HasIdentifiers shape
shape_named known (Primitive host p) (primitive name) is h = tt
shape_named known (Primitive host p) (enum variants) is h = absurd is
shape_named known (Primitive host p) (struct members) is h = tt
shape_named known (Enum trees p) (primitive name) is h = tt
shape_named known (Enum trees p) (enum variants) is h = variants_named known trees variants is.0 h
shape_named known (Enum trees p) (struct members) is h = tt
shape_named known (Struct trees p) (primitive name) is h = tt
shape_named known (Struct trees p) (enum variants) is h = absurd is
shape_named known (Struct trees p) (struct members) is h = tt

-- a type and its variants have
abbrev HasNames : NamedType → Type 0
HasNames type = IsIdentifier type.name × HasIdentifiers type.shape

types_named : (known : List (List ℕ)) (trees : List TypeTree) (types : List NamedType) → AllZip (IsType known) trees types
    → AllByRecursion IsNamedType trees → AllByRecursion HasNames types
types_named known [] [] each h = tt
types_named known [] (t ∷ types) each h = absurd each
types_named known (t ∷ trees) [] each h = absurd each
types_named known (t ∷ trees) (made ∷ types) each h = (
  (subst IsIdentifier (sym each.0.name) h.0.0, shape_named known t.ty made.shape each.0.shape h.0.1),
  types_named known trees types each.1 h.1,
)

defined_types : (defs : List Def) → AllByRecursion IsNamedDef defs → AllByRecursion IsNamedType (type_definitions defs)
defined_types [] h = tt
defined_types (TypeDef t ∷ defs) h = (h.0, defined_types defs h.1)
defined_types (Decl d ∷ defs) h = defined_types defs h.1
defined_types (Rule r ∷ defs) h = defined_types defs h.1
defined_types (Extractor x ∷ defs) h = defined_types defs h.1
defined_types (Extern x ∷ defs) h = defined_types defs h.1
defined_types (Converter c ∷ defs) h = defined_types defs h.1
defined_types (Pragma p ∷ defs) h = defined_types defs h.1
defined_types (Kept k ∷ defs) h = defined_types defs h.1

-- a definition of a constant has a constant's name
abbrev NamesConstant : Ident × Ident → Type 0
NamesConstant tree = IsConstantName tree.0.0

defined_constants : (defs : List Def) → AllByRecursion IsNamedDef defs → AllByRecursion NamesConstant (constant_definitions defs)
defined_constants [] h = tt
defined_constants (TypeDef t ∷ defs) h = defined_constants defs h.1
defined_constants (Decl d ∷ defs) h = defined_constants defs h.1
defined_constants (Rule r ∷ defs) h = defined_constants defs h.1
defined_constants (Extractor x ∷ defs) h = defined_constants defs h.1
defined_constants (Extern (extern_constructor term func p) ∷ defs) h = defined_constants defs h.1
defined_constants (Extern (extern_extractor term func p infallible) ∷ defs) h = defined_constants defs h.1
defined_constants (Extern (extern_const name ty p) ∷ defs) h = (h.0, defined_constants defs h.1)
defined_constants (Converter c ∷ defs) h = defined_constants defs h.1
defined_constants (Pragma p ∷ defs) h = defined_constants defs h.1
defined_constants (Kept k ∷ defs) h = defined_constants defs h.1

-- a constant that has a type is one that is defined
constant_named : (known : List (List ℕ)) (trees : List (Ident × Ident)) (constants : List (List ℕ × ℕ)) → AllZip (IsConstant known) trees constants
    → AllByRecursion NamesConstant trees → (name : List ℕ) (ty : ℕ) → constant_in constants name ≡ Some ty → IsConstantName name
constant_named known [] [] each h name ty e = absurd (none-some ty e)
constant_named known [] (c ∷ constants) each h name ty e = absurd each
constant_named known (t ∷ trees) [] each h name ty e = absurd each
constant_named known (t ∷ trees) (c ∷ constants) each h name ty e =
    go (constant_in constants name) (bytes_eq name c.0) refl e (constant_named known trees constants each.1 h.1 name ty)
  where
    go : (o : Option ℕ) (same : Bool) → bytes_eq name c.0 ≡ same → (if is_some o then o else (if same then Some c.1 else None)) ≡ Some ty
        → (o ≡ Some ty → IsConstantName name) → IsConstantName name
    go (Some other) same eq is later = later is
    go None true eq is later =
        let decides = bytes_eq-Decides name c.0 in
        subst IsConstantName (sym (decides.0 eq ∙ each.0.name)) h.0
    go None false eq is later = absurd (none-some ty is)

-- ---- data

never_declared : (form : TermForm) (types made : ℕ × List ℕ) → data_of_form form types ≡ Some made
    → (f : _) (c : _) (e : _) → form ≡ declared_form f c e → ⊥
never_declared form types made is f c e same = none-some made (sym (ap (λ (x : TermForm). data_of_form x types) same) ∙ is)

-- the term of a name
record IsTermOf (terms : List Signature) (name : List ℕ) (made : ℕ × List ℕ) : Type 0 where
  number : ℕ
  term : Signature
  at : slice_get terms number ≡ Some term
  called : term.name ≡ name
  makes : data_of term ≡ Some made

term_of : (terms : List Signature) (name : List ℕ) (made : ℕ × List ℕ) → option_and_then data_of (signature_named terms name) ≡ Some made
    → IsTermOf terms name made
term_of terms name made e = go (position_of (names_of_terms terms) name) refl e
  where
    go : (o : Option ℕ) → position_of (names_of_terms terms) name ≡ o → option_and_then data_of (option_and_then (slice_get terms) o) ≡ Some made
        → IsTermOf terms name made
    go None is e = absurd (none-some made e)
    go (Some number) is e =
        let (term, at, called) = mapped_at (λ (s : Signature). s.name) terms number name (place_found (names_of_terms terms) name number is) in
        record { number = number; term = term; at = at; called = called; makes = sym (ap (option_and_then data_of) at) ∙ e }

-- a term of a type has an identifier as its name
made_named : (first : ℕ) (types : List NamedType) (term : Signature) → AllByRecursion HasNames types → IsMadeOf first types term
    → IsIdentifier term.name
made_named first types term h (variant_made place k type variants variant at is_enum there form ret own) =
    let named = each_at HasNames types h place type at in
    let each = subst HasIdentifiers is_enum named.1 in
    let one = each_at (λ (v : NamedVariant). IsIdentifier v.name) variants each k variant there in
    subst IsIdentifier (sym own) (full_name type.name variant.name named.0 one)
made_named first types term h (struct_made place type members at is_struct form ret own) =
    subst IsIdentifier (sym own) (each_at HasNames types h place type at).0

data_named : (types : Environment) (defs : List Def) (terms : List Signature) → AreTerms types defs terms → AllByRecursion HasNames types.types
    → (name : List ℕ) (made : ℕ × List ℕ) → option_and_then data_of (signature_named terms name) ≡ Some made → IsIdentifier name
data_named types defs terms are h name made e =
    let is = term_of terms name made e in
    let other = never_declared is.term.form (is.term.ret, is.term.args) made is.makes in
    subst IsIdentifier is.called
    (made_named (length builtin_names) types.types is.term h (made_at types defs terms are is.number is.term is.at other))

-- ---- values

-- the names that are known of values
record AreNamed (facts : ValueFacts) : Type 0 where
  constant : (name : List ℕ) (ty : ℕ) → facts.constant name ≡ Some ty → IsConstantName name
  data_name : (name : List ℕ) (made : ℕ × List ℕ) → facts.data_named name ≡ Some made → IsIdentifier name

int_fits : (n : ℤ) (kind : TypeKind) → IsIntOf n kind → FitsSigned w128 n
int_fits n truth_kind h = absurd h
int_fits n (integer_kind int) h = h.1
int_fits n primitive_kind h = h
int_fits n data_kind h = absurd h
int_fits n no_kind h = absurd h

module _ (facts : ValueFacts) (named : AreNamed facts) where
  mutual
    value_is_held : (v : ValueTree) (ty : ℕ) → IsOfType facts v ty → IsHeld v
    value_is_held (bool_tree b) ty h = tt
    value_is_held (int_tree n) ty h = int_fits n (facts.kind ty) h
    value_is_held (big_tree n) ty h = tt
    value_is_held (const_tree name) ty h = (named.constant name ty h.0).0
    value_is_held (opaque_tree n) ty h = tt
    value_is_held (data_tree name fields) ty h = ((named.data_name name (ty, h.0) h.1).0, values_are_held fields h.0 h.2)

    values_are_held : (vs : ValueTrees) (types : List ℕ) → AreOfTypes facts vs types → AreHeld vs
    values_are_held no_trees [] h = tt
    values_are_held no_trees (ty ∷ types) h = absurd h
    values_are_held (more_trees v vs) [] h = absurd h
    values_are_held (more_trees v vs) (ty ∷ types) h = (value_is_held v ty h.0, values_are_held vs types h.1)

  mutual
    value_is_spellable : (v : ValueTree) (ty : ℕ) → IsOfType facts v ty → IsSpellable v
    value_is_spellable (bool_tree b) ty h = tt
    value_is_spellable (int_tree n) ty h = tt
    value_is_spellable (big_tree n) ty h = tt
    value_is_spellable (const_tree name) ty h = (named.constant name ty h.0).1
    value_is_spellable (opaque_tree n) ty h = h.1
    value_is_spellable (data_tree name fields) ty h = ((named.data_name name (ty, h.0) h.1).1, values_are_spellable fields h.0 h.2)

    values_are_spellable : (vs : ValueTrees) (types : List ℕ) → AreOfTypes facts vs types → AreSpellable vs
    values_are_spellable no_trees [] h = tt
    values_are_spellable no_trees (ty ∷ types) h = absurd h
    values_are_spellable (more_trees v vs) [] h = absurd h
    values_are_spellable (more_trees v vs) (ty ∷ types) h = (value_is_spellable v ty h.0, values_are_spellable vs types h.1)

-- the names of a compiled program
program_named : (files : List SourceFile) (program : Program) → AreUtf8Texts files → IsProgramOf files program → AreNamed (value_facts program)
program_named files program u is =
    let defs = files_are_named 0 files is.defs u is.spelt in
    let known = type_names is.defs in
    let types = types_named known (type_definitions is.defs) is.types.types is.made.types (defined_types is.defs defs) in
    let constants = defined_constants is.defs defs in
    let terms = is.terms.environment.terms in
    let named : AreNamed (values_in is.types terms) = record {
      constant = constant_named known (constant_definitions is.defs) is.types.constants is.made.constants constants;
      data_name = data_named is.types is.defs terms is.terms.makes.terms types;
    } in
    subst AreNamed (sym (ap (λ (p : CheckedProgram). p.values) (program_agrees files program is))) named

-- values of its types are read back
pub compiled_values_read_back : CompiledValuesReadBack
compiled_values_read_back files program u is v ty h =
    let named = program_named files program u is in
    reads_back (value_facts program) v ty (value_is_held (value_facts program) named v ty h) h
    (value_is_spellable (value_facts program) named v ty h)

-- texts that are strings are in UTF-8
pub strings_are_utf8 : StringsAreUtf8Texts
strings_are_utf8 [] = tt
strings_are_utf8 (pair ∷ list) = (IsUtf8-string_bytes pair.1, strings_are_utf8 list)
