-- The tests of which each value of a type passes one.
use Rattle.std.proofs.Common.{◌≡◌, ℕ, Bool, true, false, List, Option, Some, None, length, map, slice_get, refl, sym, ap, subst, ◌∙◌, arith, Contains, if◌then◌else◌}
use Rattle.std.specs.List.{filter_map}
use Rattle.std.specs.Option.{option_and_then}
use Rattle.std.proofs.lemmas.Bool.{eq-eqb, lt-ltb}
use Rattle.std.proofs.lemmas.List.{length-map}
use Rattle.std.proofs.lemmas.Option.{none-some, same_Some}
use Rattle.isle_types.specs.declared.ids.Sym.{Sym}
use Rattle.isle_types.specs.declared.ids.TermId.{TermId}
use Rattle.isle_types.specs.declared.ids.TypeId.{TypeId}
use Rattle.isle_types.specs.declared.types.BuiltinType.{BuiltinType}
use Rattle.isle_types.specs.declared.types.BuiltinType.TheVariants.{Bool as BoolType, Int}
use Rattle.isle_types.specs.declared.types.IntType.TheVariants.{U8, U128, I8}
use Rattle.isle_types.specs.TypeEnvs.{type_of_constant}
use Rattle.isle_rules.specs.declared.terms.Term.{Term}
use Rattle.isle_rules.specs.declared.terms.TermKind.{TermKind}
use Rattle.isle_rules.specs.declared.terms.TermKind.TheVariants.{EnumVariant, Struct, Decl}
use Rattle.isle_rules.specs.Values.{ValueTree, ValueTrees, bool_tree, int_tree, big_tree, const_tree, opaque_tree, data_tree}
use Rattle.isle_meaning.specs.Facts.{TermShape}
use Rattle.isle_meaning.specs.GroundValues.{data_of_shape, type_of_data, value_of, values_of}
use Rattle.isle_meaning.specs.Held.{held_value, Meets}
use Rattle.isle_meaning.specs.Values.{Value, Values, bool_value, int_value, constant_value, made_variant, made_struct, count}
use Rattle.isle_meaning.specs.ValueTypes.{truth_kind, integer_kind, primitive_kind, data_kind, ValueFacts, IsOfType, HasConstants, IsIntOf}
use Rattle.isle_blocks.specs.Building.Naming.{HaveFewArguments, name_by}
use Rattle.isle_blocks.specs.Rows.{test_of}
use Rattle.isle_blocks.specs.Trees.Compare.{value_meets}
use Rattle.isle_blocks.specs.declared.constraint.Constraint.{Constraint}
use Rattle.isle_blocks.specs.declared.constraint.Constraint.TheVariants as tests
use Rattle.isle_blocks.proofs.Trees.Exact.{met_passes}
use Rattle.isle_blocks.proofs.Trees.Promises.TypedHeld.{values_count}
use Rattle.isle_program.specs.declared.program.Program.{Program}
use Rattle.isle_program.specs.Programs.{number_of, types_of, terms_of, value_facts}
use Rattle.isle_program.specs.Tables.{data_made, data_of_term, shape_made, shape_of_term, term_called, types_of_term}
use Rattle.isle_coverage.specs.Inside.Complete.{HaveConstants, HaveLiterals, HaveNumbers, HaveSigned, HaveTruths, data_test, kind_of_builtin, own_test, test_of_kind}
use Rattle.isle_coverage.proofs.Gathering.{and_then_some, given_there, map_some}
use Rattle.isle_coverage.proofs.Integers.{signed_there, unsigned_there}

-- a term's shape is that of its kind
shape_is : (term : Term) (o : Option Term) → o ≡ Some term → option_and_then shape_of_term o ≡ shape_of_term term
shape_is term o e = ap (option_and_then shape_of_term) e

module _ (program : Program) (ty : TypeId) (all : List Constraint) where
  -- the names of symbols
  abbrev name : Sym → List ℕ
  name = name_by (types_of program).names

  -- what is said of values
  abbrev facts : ValueFacts
  facts = value_facts program

  -- one of the tests is passed by a value
  abbrev SomePasses : Value → Type 0
  SomePasses v = (c : Constraint) × Contains all c × (value_meets name c v ≡ true)

  -- the value that a test is met by passes it
  passes_one : (c : Constraint) (v : Value) → Contains all c → Meets (test_of name c) (held_value v) → SomePasses v
  passes_one c v there met = (c, there, met_passes name c (held_value v) met)

  -- the tests of all data of the type are there
  abbrev pub HaveData : Type 0
  HaveData = (c : Constraint) → Contains (filter_map (own_test ty) (terms_of program).terms) c → Contains all c

  module _ (few : HaveFewArguments (terms_of program).terms) (with_data : HaveData) where
    -- a term's test is there
    test_there : (i : ℕ) (term : Term) (c : Constraint) → slice_get (terms_of program).terms i ≡ Some term → term.ret_ty.0 ≡ ty.0
        → test_of_kind term.kind term.ret_ty (length term.arg_tys) ≡ Some c → Contains all c
    test_there i term c at of e =
        let fewer = few i term at in
        let inside : data_test term ≡ Some c =
        ap (λ (b : Bool). if b then test_of_kind term.kind term.ret_ty (length term.arg_tys) else None)
        (lt-ltb (length term.arg_tys) 256 (omega (arith, fewer))) ∙ e in
        let own : own_test ty term ≡ Some c = ap (λ (b : Bool). if b then data_test term else None) (eq-eqb term.ret_ty.0 ty.0 of) ∙ inside in
        with_data c (given_there (own_test ty) (terms_of program).terms i term c at own)

    -- data that a term makes passes its test
    data_passes : (i : ℕ) (term : Term) (kind : TermKind) (types : List ℕ) (vs : Values) → slice_get (terms_of program).terms i ≡ Some term
        → term.kind ≡ kind → data_made kind (types_of_term term) ≡ Some (ty.0, types) → count vs ≡ length types
        → SomePasses (data_of_shape (shape_made kind) ty.0 vs)
    data_passes i term (EnumVariant variant) types vs at is made many =
        let same = same_Some (types_of_term term) (ty.0, types) made in
        let of : term.ret_ty.0 ≡ ty.0 = ap (λ (x : ℕ × List ℕ). x.0) same in
        let args : map number_of term.arg_tys ≡ types = ap (λ (x : ℕ × List ℕ). x.1) same in
        let counted : count vs ≡ length term.arg_tys = many ∙ ap length (sym args) ∙ length-map term.arg_tys number_of in
        let c : Constraint = tests.Variant term.ret_ty variant (record { 0 = length term.arg_tys }) in
        let there = test_there i term c at of (ap (λ (k : TermKind). test_of_kind k term.ret_ty (length term.arg_tys)) is) in
        passes_one c (made_variant ty.0 variant.0 vs) there
        (vs, ap (λ (n : ℕ). held_value (made_variant n variant.0 vs)) (sym of), counted)
    data_passes i term Struct types vs at is made many =
        let same = same_Some (types_of_term term) (ty.0, types) made in
        let of : term.ret_ty.0 ≡ ty.0 = ap (λ (x : ℕ × List ℕ). x.0) same in
        let args : map number_of term.arg_tys ≡ types = ap (λ (x : ℕ × List ℕ). x.1) same in
        let counted : count vs ≡ length term.arg_tys = many ∙ ap length (sym args) ∙ length-map term.arg_tys number_of in
        let c : Constraint = tests.Struct term.ret_ty (record { 0 = length term.arg_tys }) in
        let there = test_there i term c at of (ap (λ (k : TermKind). test_of_kind k term.ret_ty (length term.arg_tys)) is) in
        passes_one c (made_struct ty.0 vs) there (vs, ap (λ (n : ℕ). held_value (made_struct n vs)) (sym of), counted)
    data_passes i term (Decl flags constructor_kind extractor_kind) types vs at is made many = absurd (none-some _ made)

    -- data of the type passes one
    data_complete : (of : List ℕ) (fields : ValueTrees) → IsOfType facts (data_tree of fields) ty.0
        → SomePasses (value_of facts (data_tree of fields))
    data_complete of fields (types, named, typed) =
        let (id, called, made) =
        and_then_some (λ (term : TermId). option_and_then data_of_term (slice_get (terms_of program).terms term.0))
        (term_called (types_of program) (terms_of program) of) (ty.0, types) named in
        let (term, at, own) = and_then_some data_of_term (slice_get (terms_of program).terms id.0) (ty.0, types) made in
        let shape : facts.shape_named of ≡ shape_of_term term =
        ap (option_and_then (λ (t : TermId). option_and_then shape_of_term (slice_get (terms_of program).terms t.0))) called
        ∙ shape_is term (slice_get (terms_of program).terms id.0) at in
        let vs = values_of facts fields in
        let many : count vs ≡ length types = values_count facts vs types (record { trees = fields; typed = typed; stand = refl }) in
        let passes = data_passes id.0 term term.kind types vs at refl own many in
        subst (λ (o : Option TermShape). SomePasses (data_of_shape o (type_of_data (facts.data_named of)) vs)) (sym shape)
        (subst (λ (o : Option (ℕ × List ℕ)). SomePasses (data_of_shape (shape_of_term term) (type_of_data o) vs)) (sym named) passes)

    -- every value of a type of data passes one
    pub of_data : facts.kind ty.0 ≡ data_kind → (v : ValueTree) → IsOfType facts v ty.0 → SomePasses (value_of facts v)
    of_data e (bool_tree b) typed = absurd (let f : data_kind ≡ truth_kind = sym e ∙ typed in cc)
    of_data e (int_tree n) typed = absurd (subst (IsIntOf n) e typed)
    of_data e (big_tree n) typed = absurd (let f : data_kind ≡ integer_kind U128 = sym e ∙ typed.0 in cc)
    of_data e (const_tree n) typed = absurd (subst HasConstants e (typed.1))
    of_data e (opaque_tree n) typed = absurd (let f : data_kind ≡ primitive_kind = sym e ∙ typed.0 in cc)
    of_data e (data_tree of fields) typed = data_complete of fields typed

    module _ (constants : HaveConstants (types_of program) ty all) where
      -- a constant of the type passes one
      constant_complete : (n : List ℕ) → facts.constant n ≡ Some ty.0 → SomePasses (constant_value n)
      constant_complete n e =
          let (own, at, is) = map_some number_of (type_of_constant (types_of program) n) ty.0 e in
          let same : own ≡ ty = λ i. record { 0 = is i } in
          let (symbol, there, named) = constants n (at ∙ ap (λ (u : TypeId). Some u) same) in
          let called : name symbol ≡ n = rw named refl in
          passes_one (tests.ConstPrim symbol) (constant_value n) there (ap (λ (l : List ℕ). held_value (constant_value l)) (sym called))

      -- every truth value passes one
      pub of_truths : HaveTruths ty all → facts.kind ty.0 ≡ truth_kind → (v : ValueTree) → IsOfType facts v ty.0 → SomePasses (value_of facts v)
      of_truths truths e (bool_tree true) typed = passes_one (tests.ConstBool true ty) (bool_value true) truths.yes refl
      of_truths truths e (bool_tree false) typed = passes_one (tests.ConstBool false ty) (bool_value false) truths.no refl
      of_truths truths e (int_tree n) typed = absurd (subst (IsIntOf n) e typed)
      of_truths truths e (big_tree n) typed = absurd (let f : truth_kind ≡ integer_kind U128 = sym e ∙ typed.0 in cc)
      of_truths truths e (const_tree n) typed = constant_complete n (typed.0)
      of_truths truths e (opaque_tree n) typed = absurd (let f : truth_kind ≡ primitive_kind = sym e ∙ typed.0 in cc)
      of_truths truths e (data_tree of fields) typed = data_complete of fields typed

      -- every number of 8 bits passes one
      pub of_unsigned : HaveNumbers 256 ty all → facts.kind ty.0 ≡ integer_kind U8 → (v : ValueTree) → IsOfType facts v ty.0
          → SomePasses (value_of facts v)
      of_unsigned integers e (bool_tree b) typed = absurd (let f : integer_kind U8 ≡ truth_kind = sym e ∙ typed in cc)
      of_unsigned integers e (int_tree n) typed =
          let within : IsIntOf n (integer_kind U8) = subst (IsIntOf n) e typed in
          passes_one (tests.ConstInt n ty) (int_value n)
          (unsigned_there ty all n integers (within.0)) refl
      of_unsigned integers e (big_tree n) typed = absurd (let f : integer_kind U8 ≡ integer_kind U128 = sym e ∙ typed.0 in cc)
      of_unsigned integers e (const_tree n) typed = constant_complete n (typed.0)
      of_unsigned integers e (opaque_tree n) typed = absurd (let f : integer_kind U8 ≡ primitive_kind = sym e ∙ typed.0 in cc)
      of_unsigned integers e (data_tree of fields) typed = data_complete of fields typed

      pub of_signed : HaveSigned ty all → facts.kind ty.0 ≡ integer_kind I8 → (v : ValueTree) → IsOfType facts v ty.0
          → SomePasses (value_of facts v)
      of_signed integers e (bool_tree b) typed = absurd (let f : integer_kind I8 ≡ truth_kind = sym e ∙ typed in cc)
      of_signed integers e (int_tree n) typed =
          let within : IsIntOf n (integer_kind I8) = subst (IsIntOf n) e typed in
          passes_one (tests.ConstInt n ty) (int_value n)
          (signed_there ty all n integers (within.0)) refl
      of_signed integers e (big_tree n) typed = absurd (let f : integer_kind I8 ≡ integer_kind U128 = sym e ∙ typed.0 in cc)
      of_signed integers e (const_tree n) typed = constant_complete n (typed.0)
      of_signed integers e (opaque_tree n) typed = absurd (let f : integer_kind I8 ≡ primitive_kind = sym e ∙ typed.0 in cc)
      of_signed integers e (data_tree of fields) typed = data_complete of fields typed

      -- every value of a builtin type whose literals are there passes one
      pub of_builtin : (builtin : BuiltinType) → HaveLiterals builtin ty all → facts.kind ty.0 ≡ kind_of_builtin builtin → (v : ValueTree)
          → IsOfType facts v ty.0 → SomePasses (value_of facts v)
      of_builtin BoolType literals e v typed = of_truths literals e v typed
      of_builtin (Int U8) literals e v typed = of_unsigned literals e v typed
      of_builtin (Int I8) literals e v typed = of_signed literals e v typed
      of_builtin (Int other) literals e v typed = absurd literals
