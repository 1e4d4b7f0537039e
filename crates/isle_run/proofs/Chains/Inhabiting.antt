-- Inhabited types have values, by which every call may be answered.
use Rattle.std.proofs.Common.{◌≡◌, ◌⊎◌, inl, inr, ◌<◌, ◌+◌, ℕ, zero, suc, pos, List, [], ◌∷◌, ◌++◌, map, length, Bool, true, false, Option}
use Rattle.std.proofs.Common.{Some, None, slice_get, Contains, refl, sym, ◌∙◌, ap, subst, arith}
use Rattle.std.specs.Prelude.{unwrap_or}
use Rattle.std.specs.Int.{w128}
use Rattle.std.specs.List.{AllZip}
use Rattle.std.proofs.lemmas.Int.{ints, fits_signed_from_abs}
use Rattle.std.proofs.lemmas.List.{length-append, length-map}
use Rattle.std.proofs.lemmas.Option.{same_Some, none-some, slice_get_within, slice_get-get_or}
use Rattle.isle_ast.specs.Positions.Files.{SourceFile}
use Rattle.isle_ast.specs.declared.ast.Ident.{Ident}
use Rattle.isle_types.specs.declared.ids.TypeId.{TypeId}
use Rattle.isle_types.specs.declared.types.Variant.{Variant}
use Rattle.isle_types.specs.declared.types.IntType.{IntType}
use Rattle.isle_types.specs.declared.types.IntType.TheVariants.{U8, U16, U32, U64, U128, USize, I8, I16, I32, I64, I128, ISize}
use Rattle.isle_types.specs.declared.types.BuiltinType.{BuiltinType}
use Rattle.isle_types.specs.declared.types.BuiltinType.TheVariants.{Bool as BoolType, Int}
use Rattle.isle_types.specs.declared.types.«Type».{«Type» as KnownType}
use Rattle.isle_types.specs.declared.types.«Type».TheVariants.{Builtin, Primitive, Enum as EnumType, Struct as StructType}
use Rattle.isle_types.specs.Environment.{NamedType, NamedVariant, TypeShape, FieldList, primitive, enum, struct, names_in, numbers_in}
use Rattle.isle_types.specs.IntTypes.{HasNumber, builtin_names, builtin_types}
use Rattle.isle_types.specs.TypeEnvs.{Shows, IsShown, IsShownShape, IsShownVariant}
use Rattle.isle_types.specs.Types.{field_types}
use Rattle.isle_types.proofs.NamePlaces.{place_found}
use Rattle.isle_types.proofs.Zipped.{mapped_at}
use Rattle.isle_rules.specs.Definitions.{declared_by, IsDeclaration, IsTypeNumber, declarations, terms_of_types, terms_of_shape, variant_terms}
use Rattle.isle_rules.specs.Elaboration.{type_named}
use Rattle.isle_rules.specs.Signatures.{Signature, Declared, variant_form, struct_form}
use Rattle.isle_rules.specs.Shown.ShownTerms.{numbers_of}
use Rattle.isle_rules.specs.Values.{ValueTree, ValueTrees, bool_tree, int_tree, opaque_tree}
use Rattle.isle_rules.specs.Values.{data_tree, no_trees, more_trees}
use Rattle.isle_meaning.specs.Facts.{TermFacts, TermShape, variant_shape, struct_shape, no_term, shape_of_form, never_fails}
use Rattle.isle_meaning.specs.GroundValues.{value_of, values_of}
use Rattle.isle_meaning.specs.ValueTypes.{IsIntOf, IsOfType, AreOfTypes}
use Rattle.isle_program.specs.declared.program.Program.{Program}
use Rattle.isle_program.specs.Facts.Inhabited.{fields_for, IsInhabited, AreInhabited, has_value, no_values, more_values, AreAllInhabited}
use Rattle.isle_meaning.specs.Worlds.{CheckedProgram}
use Rattle.isle_program.specs.Meanings.{checked, fields_of_variant, variant_types, struct_types}
use Rattle.isle_program.specs.Programs.{types_of, value_facts, kind_of_type}
use Rattle.isle_meaning.specs.SoundPrograms.{HasSoundData}
use Rattle.isle_program.proofs.SoundPrograms.TypeTables.{type_known}
use Rattle.isle_run.proofs.Chains.Sound.{compiled_programs_are_sound}
use Rattle.isle_meaning.specs.DefinedPrograms.{defined_program}
use Rattle.isle_program.specs.Compiled.{IsProgramOf}
use Rattle.isle_run.specs.Laws.Compiled.{every_term, InhabitedProgramsHaveValues}
use Rattle.isle_meaning.specs.Laws.Calls.{HasValues}

-- an integer type has zero
zero_number : (int : IntType) → HasNumber int (pos 0)
zero_number U8 = record { low = omega (arith, ints); high = omega (arith, ints) }
zero_number U16 = record { low = omega (arith, ints); high = omega (arith, ints) }
zero_number U32 = record { low = omega (arith, ints); high = omega (arith, ints) }
zero_number U64 = record { low = omega (arith, ints); high = omega (arith, ints) }
zero_number U128 = record { low = omega (arith, ints); high = omega (arith, ints) }
zero_number USize = record { low = omega (arith, ints); high = omega (arith, ints) }
zero_number I8 = record { low = omega (arith, ints); high = omega (arith, ints) }
zero_number I16 = record { low = omega (arith, ints); high = omega (arith, ints) }
zero_number I32 = record { low = omega (arith, ints); high = omega (arith, ints) }
zero_number I64 = record { low = omega (arith, ints); high = omega (arith, ints) }
zero_number I128 = record { low = omega (arith, ints); high = omega (arith, ints) }
zero_number ISize = record { low = omega (arith, ints); high = omega (arith, ints) }

-- a tree of a type
abbrev HasTree : Program → ℕ → Type 0
HasTree program ty = (tree : ValueTree) × IsOfType (value_facts program) tree ty

-- trees of types
abbrev HaveTrees : Program → List TypeId → Type 0
HaveTrees program types = (trees : ValueTrees) × AreOfTypes (value_facts program) trees (numbers_of types)

-- every variant of an enum and every struct of the tables has a term
record HasTerms (program : Program) : Type 0 where
  variant : (n k : ℕ) (name : _) (id : TypeId) (is_extern is_nodebug : Bool) (variants : List Variant) (at : _) (v : Variant)
      → slice_get (types_of program).types n ≡ Some (EnumType name id is_extern is_nodebug variants at) → slice_get variants k ≡ Some v
      → (t : ℕ) × ((checked program).terms.shape t ≡ variant_shape k) × ((checked program).terms.type_of t ≡ n)
  struct : (n : ℕ) (name : _) (id : TypeId) (is_extern is_nodebug : Bool) (fields : _) (at : _)
      → slice_get (types_of program).types n ≡ Some (StructType name id is_extern is_nodebug fields at)
      → (t : ℕ) × ((checked program).terms.shape t ≡ struct_shape) × ((checked program).terms.type_of t ≡ n)

-- what contains an item has it at a place
place_of : {A : Type 0} (xs : List A) (x : A) → Contains xs x → (k : ℕ) × (slice_get xs k ≡ Some x)
place_of xs x h = (h.0, slice_get-get_or xs (h.0) x (h.1) ∙ ap (λ (y : _). Some y) (h.2))

module _ (program : Program) (data_sound : HasSoundData (checked program)) (terms : HasTerms program) where
  -- data of a type of these fields
  data_tree_of : (n : ℕ) (name : List ℕ) (fields : List TypeId) (types : List ℕ) → (value_facts program).data_named name ≡ Some (n, types)
      → types ≡ numbers_of fields → HaveTrees program fields → HasTree program n
  data_tree_of n name fields types named same h =
      (data_tree name (h.0), (types, named, subst (AreOfTypes (value_facts program) (h.0)) (sym same) (h.1)))

  -- a type has a tree, where its fields have
  type_tree : (n : ℕ) (type : KnownType) (fields : List TypeId) → slice_get (types_of program).types n ≡ Some type
      → Contains (fields_for type) fields → HaveTrees program fields → HasTree program n
  type_tree n (Builtin BoolType) fields at among h = (bool_tree true, ap kind_of_type at)
  type_tree n (Builtin (Int int)) fields at among h = (
    int_tree (pos 0),
    subst (IsIntOf (pos 0)) (sym (ap kind_of_type at))
        (zero_number int, fits_signed_from_abs w128 (pos 0) (omega arith)),
  )
  type_tree n (Primitive id name spot) fields at among h = (opaque_tree 0, (ap kind_of_type at, omega arith))
  type_tree n (EnumType name id is_extern is_nodebug variants spot) fields at among h =
      let (k, there) = place_of (map (λ (variant : Variant). field_types variant.fields) variants) fields among in
      let (v, stands, same) = mapped_at (λ (variant : Variant). field_types variant.fields) variants k fields there in
      let (t, shaped, of) = terms.variant n k name id is_extern is_nodebug variants spot v at stands in
      let (called, by_shape, named) = data_sound.variant_name t k shaped in
      data_tree_of n called fields ((checked program).terms.variant_fields ((checked program).terms.type_of t) k)
      (named ∙ ap (λ (u : ℕ). Some (u, (checked program).terms.variant_fields ((checked program).terms.type_of t) k)) of)
      (ap (λ (u : ℕ). (checked program).terms.variant_fields u k) of ∙ ap (λ (o : Option KnownType). variant_types o k) at
      ∙ ap fields_of_variant stands ∙ ap numbers_of same) h
  type_tree n (StructType name id is_extern is_nodebug members spot) fields at among h =
      let (k, there) = place_of (field_types members ∷ []) fields among in
      let same : field_types members ≡ fields = only k there in
      let (t, shaped, of) = terms.struct n name id is_extern is_nodebug members spot at in
      let (called, by_shape, named) = data_sound.struct_name t shaped in
      data_tree_of n called fields ((checked program).terms.struct_fields ((checked program).terms.type_of t))
      (named ∙ ap (λ (u : ℕ). Some (u, (checked program).terms.struct_fields ((checked program).terms.type_of t))) of)
      (ap (checked program).terms.struct_fields of ∙ ap struct_types at ∙ ap numbers_of same) h
    where
      only : (k : ℕ) → slice_get (field_types members ∷ []) k ≡ Some fields → field_types members ≡ fields
      only zero e = same_Some (field_types members) fields e
      only (suc k) e = absurd (none-some fields e)

  mutual
    -- An inhabited type has a tree.
    inhabited_tree : (n : ℕ) → IsInhabited (types_of program).types n → HasTree program n
    inhabited_tree n (has_value type fields at among each) = type_tree n type fields at among (inhabited_trees fields each)

    inhabited_trees : (types : List TypeId) → AreInhabited (types_of program).types types → HaveTrees program types
    inhabited_trees [] no_values = (no_trees, tt)
    inhabited_trees (type ∷ others) (more_values one each) =
        let first = inhabited_tree type.0 one in
        let rest = inhabited_trees others each in
        (more_trees (first.0) (rest.0), (first.1, rest.1))

-- what stands in two lists stands in the first, or in the second
split_list : {A : Type 0} (xs ys : List A) (i : ℕ) (x : A) → slice_get (xs ++ ys) i ≡ Some x
    → (slice_get xs i ≡ Some x) ⊎ ((j : ℕ) × (i ≡ length xs + j) × (slice_get ys j ≡ Some x))
split_list [] ys i x h = inr (i, omega arith, h)
split_list (y ∷ xs) ys zero x h = inl h
split_list (y ∷ xs) ys (suc i) x h = elim (split_list xs ys i x h) [
  | inl g ↦ inl g
  | inr g ↦ inr (g.0, (let e = g.1 in omega (arith, e)), g.2)
]

-- what stands in the first stands in both
earlier_in : {A : Type 0} (xs ys : List A) (j : ℕ) (x : A) → slice_get xs j ≡ Some x → (i : ℕ) × (slice_get (xs ++ ys) i ≡ Some x)
earlier_in [] ys j x h = absurd (none-some x h)
earlier_in (y ∷ xs) ys zero x h = (0, h)
earlier_in (y ∷ xs) ys (suc j) x h = let r = earlier_in xs ys j x h in (suc (r.0), r.1)

-- so does what stands in the second
later_in : {A : Type 0} (xs ys : List A) (j : ℕ) (x : A) → slice_get ys j ≡ Some x → (i : ℕ) × (slice_get (xs ++ ys) i ≡ Some x)
later_in [] ys j x h = (j, h)
later_in (y ∷ xs) ys j x h = let r = later_in xs ys j x h in (suc (r.0), r.1)

-- what an item of the second list is paired with
zipped_back : {A B : Type 0} (R : A → B → Type 0) (xs : List A) (ys : List B) → AllZip R xs ys → (i : ℕ) (y : B) → slice_get ys i ≡ Some y
    → (x : A) × (slice_get xs i ≡ Some x) × R x y
zipped_back R xs [] each i y h = absurd (none-some y h)
zipped_back R [] (z ∷ ys) each i y h = absurd each
zipped_back R (x ∷ xs) (z ∷ ys) each zero y h = (x, refl, subst (R x) (same_Some z y h) (each.0))
zipped_back R (x ∷ xs) (z ∷ ys) each (suc i) y h = zipped_back R xs ys (each.1) i y h

-- a variant's term is among those of its enum
variant_term_in : (ty : ℕ) (name : List ℕ) (number : ℕ) (variants : List NamedVariant) (k : ℕ) (v : NamedVariant)
    → slice_get variants k ≡ Some v
    → (i : ℕ) × (term : Signature) × (slice_get (variant_terms ty name number variants) i ≡ Some term)
    × (term.form ≡ variant_form (number + k)) × (term.ret ≡ ty)
variant_term_in ty name number [] k v h = absurd (none-some v h)
variant_term_in ty name number (x ∷ xs) zero v h = (0, _, refl, ap variant_form (omega arith), refl)
variant_term_in ty name number (x ∷ xs) (suc k) v h =
    let r = variant_term_in ty name (suc number) xs k v h in
    (suc (r.0), r.1, r.2, r.3 ∙ ap variant_form (omega arith), r.4)

-- a type's terms are among those of the types
type_term_in : (first : ℕ) (types : List NamedType) (place : ℕ) (type : NamedType) → slice_get types place ≡ Some type → (j : ℕ)
    (term : Signature) → slice_get (terms_of_shape (first + place) type type.shape) j ≡ Some term
    → (i : ℕ) × (slice_get (terms_of_types first types) i ≡ Some term)
type_term_in first [] place type h j term g = absurd (none-some type h)
type_term_in first (t ∷ ts) zero type h j term g =
    let same : type ≡ t = sym (same_Some t type h) in
    let here : first + 0 ≡ first = omega arith in
    let moved : slice_get (terms_of_shape first t t.shape) j ≡ Some term =
    subst (λ (n : ℕ). slice_get (terms_of_shape n t t.shape) j ≡ Some term) here
    (subst (λ (x : NamedType). slice_get (terms_of_shape (first + 0) x x.shape) j ≡ Some term) same g) in
    earlier_in (terms_of_shape first t t.shape) (terms_of_types (suc first) ts) j term moved
type_term_in first (t ∷ ts) (suc place) type h j term g =
    let here : first + suc place ≡ suc first + place = omega arith in
    let r = type_term_in (suc first) ts place type h j term
    (subst (λ (n : ℕ). slice_get (terms_of_shape n type type.shape) j ≡ Some term) here g) in
    later_in (terms_of_shape first t t.shape) (terms_of_types (suc first) ts) (r.0) term (r.1)

-- what an enum of the tables shows
enum_shown : (names : List (List ℕ)) (type : NamedType) (shape : TypeShape) (name : _) (id : TypeId) (is_extern is_nodebug : Bool)
    (made : List Variant) (at : _) → IsShownShape names type shape (EnumType name id is_extern is_nodebug made at)
    → (variants : List NamedVariant) × (shape ≡ enum variants) × AllZip (IsShownVariant names type.name) variants made
enum_shown names type (primitive host) name id is_extern is_nodebug made at shown = absurd shown
enum_shown names type (enum variants) name id is_extern is_nodebug made at shown = (variants, refl, shown.1.0)
enum_shown names type (struct members) name id is_extern is_nodebug made at shown = absurd shown

-- what a struct of the tables shows
struct_shown : (names : List (List ℕ)) (type : NamedType) (shape : TypeShape) (name : _) (id : TypeId) (is_extern is_nodebug : Bool)
    (made : _) (at : _) → IsShownShape names type shape (StructType name id is_extern is_nodebug made at)
    → (members : _) × (shape ≡ struct members)
struct_shown names type (primitive host) name id is_extern is_nodebug made at shown = absurd shown
struct_shown names type (enum variants) name id is_extern is_nodebug made at shown = absurd shown
struct_shown names type (struct members) name id is_extern is_nodebug made at shown = (members, refl)

-- the terms of types are of types, and no extractors
made_term : (first : ℕ) (types : List NamedType) (i : ℕ) (term : Signature) → slice_get (terms_of_types first types) i ≡ Some term
    → (term.ret < first + length types) × (never_fails term.form ≡ false)
made_term first [] i term h = absurd (none-some term h)
made_term first (t ∷ ts) i term h = elim (split_list (terms_of_shape first t t.shape) (terms_of_types (suc first) ts) i term h) [
  | inl g ↦ (let r = of_shape t.shape i g in let e = r.0 in (omega (arith, e), r.1))
  | inr g ↦ (let r = made_term (suc first) ts (g.0) term (g.2) in let e = r.0 in (omega (arith, e), r.1))
]
  where
    of_variants : (number : ℕ) (variants : List NamedVariant) (i : ℕ) → slice_get (variant_terms first t.name number variants) i
        ≡ Some term
        → (term.ret ≡ first) × (never_fails term.form ≡ false)
    of_variants number [] i g = absurd (none-some term g)
    of_variants number (x ∷ xs) zero g =
        let same = sym (same_Some _ term g) in (ap (λ (s : Signature). s.ret) same, ap (λ (s : Signature). never_fails s.form) same)
    of_variants number (x ∷ xs) (suc i) g = of_variants (suc number) xs i g

    of_shape : (shape : TypeShape) (i : ℕ) → slice_get (terms_of_shape first t shape) i ≡ Some term
        → (term.ret ≡ first) × (never_fails term.form ≡ false)
    of_shape (primitive host) i g = absurd (none-some term g)
    of_shape (enum variants) i g = of_variants 0 variants i g
    of_shape (struct members) zero g =
        let same = sym (same_Some _ term g) in (ap (λ (s : Signature). s.ret) same, ap (λ (s : Signature). never_fails s.form) same)
    of_shape (struct members) (suc i) g = absurd (none-some term g)

module _ (files : List SourceFile) (program : Program) (is : IsProgramOf files program)
    (agrees : checked program ≡ defined_program is.types is.terms.environment)
    (shows : Shows (types_of program) is.types) where
  terms_say : (checked program).terms ≡ (defined_program is.types is.terms.environment).terms
  terms_say = ap (λ (p : CheckedProgram). p.terms) agrees

  declared : Declared
  declared = declared_by is.types true is.terms.environment

  -- a defined type of the tables is shown
  named_at : (n : ℕ) (made : KnownType) → slice_get (types_of program).types n ≡ Some made → ((b : BuiltinType) → Builtin b ≡ made → ⊥)
      → (place : ℕ) × (n ≡ length builtin_names + place) × (type : NamedType) × (slice_get is.types.types place ≡ Some type)
      × IsShown (types_of program).names type made
  named_at n made at other =
      let there : slice_get (map Builtin builtin_types ++ shows.made) n ≡ Some made =
      subst (λ (l : List KnownType). slice_get l n ≡ Some made) shows.all at in
      elim (split_list (map Builtin builtin_types) shows.made n made there) [
        | inl g ↦ (let r = mapped_at Builtin builtin_types n made g in absurd (other (r.0) (r.2)))
        | inr g ↦ (let r = zipped_back (IsShown (types_of program).names) is.types.types shows.made shows.types (g.0) made (g.2) in
            (g.0, g.1, r.0, r.1, r.2))
      ]

  -- what the facts say of a term at a place
  term_says : (t : ℕ) (term : Signature) → slice_get is.terms.environment.terms t ≡ Some term
      → ((checked program).terms.shape t ≡ shape_of_form term.form) × ((checked program).terms.type_of t ≡ term.ret)
  term_says t term at = (
    ap (λ (f : TermFacts). f.shape t) terms_say ∙ ap (λ (o : Option Signature). shape_of_form (unwrap_or o no_term).form) at,
    ap (λ (f : TermFacts). f.type_of t) terms_say ∙ ap (λ (o : Option Signature). (unwrap_or o no_term).ret) at,
  )

  -- a type's term is a term
  among_terms : (place : ℕ) (type : NamedType) → slice_get is.types.types place ≡ Some type → (j : ℕ) (term : Signature)
      → slice_get (terms_of_shape (length builtin_names + place) type type.shape) j ≡ Some term
      → (t : ℕ) × (slice_get is.terms.environment.terms t ≡ Some term)
  among_terms place type at j term g =
      let made = is.terms.makes.terms in
      let r = type_term_in (length builtin_names) is.types.types place type at j term g in
      let q = later_in made.declared (terms_of_types (length builtin_names) is.types.types) (r.0) term (r.1) in
      (q.0, subst (λ (l : List Signature). slice_get l (q.0) ≡ Some term) (sym made.all) (q.1))

  -- a variant has a term
  variant_has : (place : ℕ) (type : NamedType) (variants : List NamedVariant) (k : ℕ) (v : NamedVariant)
      → slice_get is.types.types place ≡ Some type → type.shape ≡ enum variants → slice_get variants k ≡ Some v
      → (t : ℕ) × ((checked program).terms.shape t ≡ variant_shape k) × ((checked program).terms.type_of t ≡ length builtin_names + place)
  variant_has place type variants k v at shape there =
      let (j, term, among, form, ret) = variant_term_in (length builtin_names + place) type.name 0 variants k v there in
      let moved : slice_get (terms_of_shape (length builtin_names + place) type type.shape) j ≡ Some term =
      subst (λ (x : TypeShape). slice_get (terms_of_shape (length builtin_names + place) type x) j ≡ Some term) (sym shape) among in
      let (t, found) = among_terms place type at j term moved in
      let says = term_says t term found in
      let number : 0 + k ≡ k = omega arith in
      (t, says.0 ∙ ap shape_of_form form ∙ ap variant_shape number, says.1 ∙ ret)

  -- so has a struct
  struct_has : (place : ℕ) (type : NamedType) (members : FieldList) → slice_get is.types.types place ≡ Some type → type.shape
      ≡ struct members
      → (t : ℕ) × ((checked program).terms.shape t ≡ struct_shape) × ((checked program).terms.type_of t ≡ length builtin_names + place)
  struct_has place type members at shape =
      let term : Signature = record {
        name = type.name;
        args = numbers_in members;
        ret = length builtin_names + place;
        form = struct_form;
        pos = type.pos;
      } in
      let moved : slice_get (terms_of_shape (length builtin_names + place) type type.shape) 0 ≡ Some term =
      subst (λ (x : TypeShape). slice_get (terms_of_shape (length builtin_names + place) type x) 0 ≡ Some term) (sym shape) refl in
      let (t, found) = among_terms place type at 0 term moved in
      let says = term_says t term found in
      (t, says.0, says.1)

  -- a term of a type whose number is this one
  numbered_so : (shape : TermShape) (n m : ℕ) → n ≡ m
      → (t : ℕ) × ((checked program).terms.shape t ≡ shape) × ((checked program).terms.type_of t ≡ m)
      → (t : ℕ) × ((checked program).terms.shape t ≡ shape) × ((checked program).terms.type_of t ≡ n)
  numbered_so shape n m same h = (h.0, h.1, h.2 ∙ sym same)

  -- each variant and each struct has its term
  has_terms : HasTerms program
  has_terms = record {
    variant = λ n k name id is_extern is_nodebug variants at v there stands.
        let (place, same, type, named, shown) = named_at n _ there (λ b e. cc) in
        let (own, shape, each) = enum_shown (types_of program).names type type.shape name id is_extern is_nodebug variants at
        shown.shape in
        let (w, own_at, one) = zipped_back (IsShownVariant (types_of program).names type.name) own variants each k v stands in
        numbered_so (variant_shape k) n (length builtin_names + place) same (variant_has place type own k w named shape own_at);
    struct = λ n name id is_extern is_nodebug fields at there.
        let (place, same, type, named, shown) = named_at n _ there (λ b e. cc) in
        let (members, shape) = struct_shown (types_of program).names type type.shape name id is_extern is_nodebug fields at shown.shape in
        numbered_so struct_shape n (length builtin_names + place) same (struct_has place type members named shape);
  }

  -- how many types there are
  abbrev count : ℕ
  count = length builtin_names + length is.types.types

  -- the number of a type's name is of one
  number_below : (name : List ℕ) (number : ℕ) → type_named is.types name ≡ Some number → number < count
  number_below name number e =
      let found = place_found (names_in is.types) name number e in
      let within = slice_get_within (names_in is.types) number name found in
      let all = length-append builtin_names (map (λ (type : NamedType). type.name) is.types.types) in
      let mapped = length-map is.types.types (λ (type : NamedType). type.name) in
      omega (arith, within, all, mapped)

  -- a term's type is one
  ret_below : (t : ℕ) (o : Option Signature) → slice_get is.terms.environment.terms t ≡ o → (unwrap_or o no_term).ret < count
  ret_below t None at = omega arith
  ret_below t (Some term) at =
      let made = is.terms.makes.terms in
      let there : slice_get (made.declared ++ terms_of_types (length builtin_names) is.types.types) t ≡ Some term =
      subst (λ (l : List Signature). slice_get l t ≡ Some term) made.all at in
      elim (split_list made.declared (terms_of_types (length builtin_names) is.types.types) t term there) [
        | inl g ↦ (let r = zipped_back (IsDeclaration is.types is.defs) (declarations is.defs) made.declared made.each t term g in
            number_below (r.0.ret_ty.0) term.ret (r.2.ret))
        | inr g ↦ (made_term (length builtin_names) is.types.types (g.0) term (g.2)).0
      ]

  module _ (data_sound : HasSoundData (checked program)) (all : AreAllInhabited (types_of program).types) where
    -- each type has a tree
    known_tree : (n : ℕ) → n < count → HasTree program n
    known_tree n below =
        let known = type_known (types_of program) is.types shows n below in
        inhabited_tree program data_sound has_terms n (all n (slice_get_within (types_of program).types n (known.0) (known.1)))

    -- so have types by their names
    named_trees : (names : List Ident) (numbers : List ℕ) → AllZip (IsTypeNumber is.types) names numbers
        → (trees : ValueTrees) × AreOfTypes (value_facts program) trees numbers
    named_trees [] [] each = (no_trees, tt)
    named_trees [] (n ∷ ns) each = absurd each
    named_trees (x ∷ xs) [] each = absurd each
    named_trees (x ∷ xs) (n ∷ ns) each =
        let first = known_tree n (number_below x.0 n (each.0)) in
        let rest = named_trees xs ns (each.1) in
        (more_trees (first.0) (rest.0), (first.1, rest.1))

    -- so have the types of an extractor's outputs
    outputs_trees : (t : ℕ) (o : Option Signature) → slice_get is.terms.environment.terms t ≡ o
        → never_fails (unwrap_or o no_term).form ≡ true → (trees : ValueTrees)
        × AreOfTypes (value_facts program) trees (unwrap_or o no_term).args
    outputs_trees t None at never = (no_trees, tt)
    outputs_trees t (Some term) at never =
        let made = is.terms.makes.terms in
        let there : slice_get (made.declared ++ terms_of_types (length builtin_names) is.types.types) t ≡ Some term =
        subst (λ (l : List Signature). slice_get l t ≡ Some term) made.all at in
        elim (split_list made.declared (terms_of_types (length builtin_names) is.types.types) t term there) [
          | inl g ↦ (let r = zipped_back (IsDeclaration is.types is.defs) (declarations is.defs) made.declared made.each t term g in
              named_trees (r.0.arg_tys) term.args (r.2.args))
          | inr g ↦ absurd (let e = (made_term (length builtin_names) is.types.types (g.0) term (g.2)).1 in
              let z : true ≡ false = sym never ∙ e in cc)
        ]

    -- Terms have values to give.
    has_values : HasValues (checked program) every_term
    has_values = record {
      made = λ t q sure.
          let same = ap (λ (f : TermFacts). f.type_of t) terms_say in
          let h = known_tree (unwrap_or (slice_get is.terms.environment.terms t) no_term).ret
          (ret_below t (slice_get is.terms.environment.terms t) refl) in (
            value_of (value_facts program) (h.0),
            record
                { tree = h.0; typed = subst (IsOfType (value_facts program) (h.0)) (sym same) (h.1); stands = refl },
          );
      opened = λ t q never.
          let same = ap (λ (f : TermFacts). f.inputs t) terms_say in
          let h = outputs_trees t (slice_get is.terms.environment.terms t) refl
          (sym (ap (λ (f : TermFacts). f.infallible t) terms_say) ∙ never) in (
            values_of (value_facts program) (h.0),
            record
                { trees = h.0; typed = subst (AreOfTypes (value_facts program) (h.0)) (sym same) (h.1); stand = refl },
          );
    }

-- Where each type of a compiled program is inhabited, each of its terms has values to give.
pub inhabited_programs_have_values : InhabitedProgramsHaveValues
inhabited_programs_have_values files program is all =
    let (agrees, named, sound) = compiled_programs_are_sound files program is in
    has_values files program is agrees is.terms.declared.types (sound.data_sound) all
