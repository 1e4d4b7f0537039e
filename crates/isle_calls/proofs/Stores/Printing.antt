-- What the numbers of a store are printed to: at each type of a number's value the tree of that type which stands for the value.
use Rattle.std.proofs.Common.{◌≡◌, ◌-◌, ◌<◌, ◌≤◌, ◌⊎◌, inl, inr, ℕ, suc, ℤ, pos, negsuc, List, [], ◌∷◌, Option, Some, None, slice_get}
use Rattle.std.proofs.Common.{refl, sym, ◌∙◌, ap, subst, arith}
use Rattle.std.specs.Option.{option_and_then}
use Rattle.std.specs.Prelude.{◌^◌}
use Rattle.std.specs.Int.{w128, cast_signed, cast_unsigned}
use Rattle.std.proofs.lemmas.Bool.{le-ltb}
use Rattle.std.proofs.lemmas.Option.{none-some}
use Rattle.isle_types.specs.declared.ids.TermId.{TermId}
use Rattle.isle_types.specs.declared.types.IntType.{IntType}
use Rattle.isle_types.specs.declared.types.IntType.TheVariants.{U8, U16, U32, U64, U128, USize, I8, I16, I32, I64, I128, ISize}
use Rattle.isle_types.specs.TypeTables.{TypeTables}
use Rattle.isle_types.specs.IntTypes.{HasNumber}
use Rattle.isle_rules.specs.declared.terms.Term.{Term}
use Rattle.isle_rules.specs.declared.terms.TermKind.{TermKind}
use Rattle.isle_rules.specs.declared.terms.TermKind.TheVariants.{EnumVariant, Struct as StructTerm, Decl}
use Rattle.isle_rules.specs.Values.{ValueTree, ValueTrees, bool_tree, int_tree, big_tree}
use Rattle.isle_rules.specs.Values.{const_tree, opaque_tree, data_tree, no_trees}
use Rattle.isle_rules.specs.Values.{more_trees}
use Rattle.isle_meaning.specs.Facts.{variant_shape, struct_shape}
use Rattle.isle_meaning.specs.Values.{Value, Values}
use Rattle.isle_meaning.specs.ValueTypes.{ValueFacts, TypeKind, truth_kind, integer_kind, primitive_kind, data_kind, no_kind, IsIntOf, IsBigOf}
use Rattle.isle_meaning.specs.ValueTypes.{IsOfType, AreOfTypes}
use Rattle.isle_meaning.specs.GroundValues.{value_of, values_of, data_of_shape, type_of_data, IsValueOf, AreValuesOf}
use Rattle.isle_program.specs.declared.program.Program.{Program}
use Rattle.isle_program.specs.Programs.{types_of, value_facts, shape_made, shape_of_term, data_made, data_of_term, types_of_term, program_term}
use Rattle.isle_values.specs.Values.Settled.{field_types}
use Rattle.isle_program.specs.Programs.{HasNamedData}
use Rattle.isle_calls.specs.Inside.Stores.Printing.{printed_unsigned, printed_sized, printed_int, printed, printed_all}
use Rattle.isle_program.specs.Tables.{variant_name, struct_name}

-- an unsigned integer below 2^127 is printed as itself
unsigned_printed : (n : ℤ) → HasNumber U128 n → printed_unsigned n ≡ int_tree n
unsigned_printed (pos n) has = refl
unsigned_printed (negsuc n) has = absurd has.low.le

-- so is each integer of an integer type
sized_printed : (int : IntType) (n : ℤ) → HasNumber int n → printed_sized n int ≡ int_tree n
sized_printed U8 n has = refl
sized_printed U16 n has = refl
sized_printed U32 n has = refl
sized_printed U64 n has = refl
sized_printed U128 n has = unsigned_printed n has
sized_printed USize n has = refl
sized_printed I8 n has = refl
sized_printed I16 n has = refl
sized_printed I32 n has = refl
sized_printed I64 n has = refl
sized_printed I128 n has = refl
sized_printed ISize n has = refl

int_printed : (n : ℤ) (kind : TypeKind) → IsIntOf n kind → printed_int n kind ≡ int_tree n
int_printed n truth_kind is = absurd is
int_printed n (integer_kind int) is = sized_printed int n is.0
int_printed n primitive_kind is = refl
int_printed n data_kind is = absurd is
int_printed n no_kind is = absurd is

-- an integer from 2^127 on is printed from its 128 bits
bits_printed : (n : ℕ) → 2 ^ 127 ≤ n → n < 2 ^ 128 → printed_unsigned (cast_signed w128 n) ≡ big_tree n
bits_printed n low high =
    rw (le-ltb n (2 ^ 127) low) (ap big_tree (let e : cast_unsigned w128 (negsuc (2 ^ 128 - suc n)) ≡ n = omega arith in e))

big_printed : (n : ℕ) (kind : TypeKind) → IsBigOf n kind → printed_int (cast_signed w128 n) kind ≡ big_tree n
big_printed n kind is = ap (printed_int (cast_signed w128 n)) is.0 ∙ bits_printed n is.1 is.2

-- what data of a term's kind is
shape_cases : (kind : TermKind) (types made : ℕ × List ℕ) → data_made kind types ≡ Some made
    → ((k : ℕ) × (shape_made kind ≡ Some (variant_shape k))) ⊎ (shape_made kind ≡ Some struct_shape)
shape_cases (EnumVariant variant) types made is = inl (variant.0, refl)
shape_cases StructTerm types made is = inr refl
shape_cases (Decl flags constructor_kind extractor_kind) types made is = absurd (none-some _ is)

term_cases : (term : Option Term) (made : ℕ × List ℕ) → option_and_then data_of_term term ≡ Some made
    → ((k : ℕ) × (option_and_then shape_of_term term ≡ Some (variant_shape k))) ⊎ (option_and_then shape_of_term term ≡ Some struct_shape)
term_cases None made is = absurd (none-some _ is)
term_cases (Some term) made is = shape_cases term.kind (types_of_term term) made is

id_cases : (program : Program) (id : Option TermId) (made : ℕ × List ℕ)
    → option_and_then (λ (term : TermId). option_and_then data_of_term (slice_get program.termenv.terms term.0)) id ≡ Some made
    → ((k : ℕ) × (option_and_then (λ (term : TermId). option_and_then shape_of_term (slice_get program.termenv.terms term.0)) id
    ≡ Some (variant_shape k)))
    ⊎ (option_and_then (λ (term : TermId). option_and_then shape_of_term (slice_get program.termenv.terms term.0)) id ≡ Some struct_shape)
id_cases program None made is = absurd (none-some _ is)
id_cases program (Some id) made is = term_cases (slice_get program.termenv.terms id.0) made is

-- data of a program is a variant or a struct
data_cases : (program : Program) (name : List ℕ) (made : ℕ × List ℕ) → (value_facts program).data_named name ≡ Some made
    → ((k : ℕ) × ((value_facts program).shape_named name ≡ Some (variant_shape k))) ⊎
    ((value_facts program).shape_named name ≡ Some struct_shape)
data_cases program name made is = id_cases program (program_term program name) made is

module _ (program : Program) (named : HasNamedData program) where
  abbrev facts : ValueFacts
  facts = value_facts program

  abbrev env : TypeTables
  env = types_of program

  -- data of a name with its fields
  data_printed : (name : List ℕ) (vs : ValueTrees) (ty at : ℕ) (types : List ℕ) → facts.data_named name ≡ Some (ty, types)
      → printed_all facts env (values_of facts vs) types ≡ vs
      → printed facts env (data_of_shape (facts.shape_named name) (type_of_data (facts.data_named name)) (values_of facts vs)) at
      ≡ data_tree name vs
  data_printed name vs ty at types is all = elim (data_cases program name (ty, types) is) [
    | inl (k, shape) ↦
        let here : variant_name env ty k ≡ name = named.variants name k ty types shape is in
        let fields : printed_all facts env (values_of facts vs) (field_types (facts.data_named (variant_name env ty k))) ≡ vs =
        ap (λ n. printed_all facts env (values_of facts vs) (field_types (facts.data_named n))) here
        ∙ ap (λ o. printed_all facts env (values_of facts vs) (field_types o)) is ∙ all in
        (λ i. printed facts env (data_of_shape (shape i) (type_of_data (is i)) (values_of facts vs)) at)
        ∙ (λ i. data_tree (here i) (fields i))
    | inr shape ↦
        let here : struct_name env ty ≡ name = named.structs name ty types shape is in
        let fields : printed_all facts env (values_of facts vs) (field_types (facts.data_named (struct_name env ty))) ≡ vs =
        ap (λ n. printed_all facts env (values_of facts vs) (field_types (facts.data_named n))) here
        ∙ ap (λ o. printed_all facts env (values_of facts vs) (field_types o)) is ∙ all in
        (λ i. printed facts env (data_of_shape (shape i) (type_of_data (is i)) (values_of facts vs)) at)
        ∙ (λ i. data_tree (here i) (fields i))
  ]

  mutual
    -- the value of a tree of a type is printed as the tree
    pub tree_printed : (tree : ValueTree) (ty : ℕ) → IsOfType facts tree ty → printed facts env (value_of facts tree) ty ≡ tree
    tree_printed (bool_tree b) ty is = refl
    tree_printed (int_tree n) ty is = int_printed n (facts.kind ty) is
    tree_printed (big_tree n) ty is = big_printed n (facts.kind ty) is
    tree_printed (const_tree name) ty is = refl
    tree_printed (opaque_tree n) ty is = refl
    tree_printed (data_tree name vs) ty (types, is, of) = data_printed name vs ty ty types is (trees_printed vs types of)

    pub trees_printed : (trees : ValueTrees) (types : List ℕ) → AreOfTypes facts trees types
        → printed_all facts env (values_of facts trees) types ≡ trees
    trees_printed no_trees [] is = refl
    trees_printed no_trees (ty ∷ types) is = absurd is
    trees_printed (more_trees v vs) [] is = absurd is
    trees_printed (more_trees v vs) (ty ∷ types) is =
        let first = tree_printed v ty is.0 in
        let rest = trees_printed vs types is.1 in
        λ i. more_trees (first i) (rest i)

  -- so a value of a type is printed to a tree of it that stands for it
  pub printed_of_type : (v : Value) (ty : ℕ) → IsValueOf facts v ty
      → IsOfType facts (printed facts env v ty) ty × (value_of facts (printed facts env v ty) ≡ v)
  printed_of_type v ty is =
      let same : printed facts env v ty ≡ is.tree = ap (λ w. printed facts env w ty) (sym is.stands) ∙ tree_printed is.tree ty is.typed in
      (subst (λ t. IsOfType facts t ty) (sym same) is.typed, ap (value_of facts) same ∙ is.stands)
