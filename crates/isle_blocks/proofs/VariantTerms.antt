-- Each variant that a site of a rule set makes is one of its type, and has a term.
use Rattle.std.proofs.Common.{◌≡◌, ◌+◌, ◌++◌, ℕ, suc, List, [], ◌∷◌, map, length, Option, Some, slice_get, codes}
use Rattle.std.proofs.Common.{refl, sym, ap, subst, ◌∙◌, arith}
use Rattle.std.specs.Prelude.{IsSome}
use Rattle.std.specs.Option.{option_map, option_and_then}
use Rattle.std.proofs.lemmas.Option.{slice_get-map}
use Rattle.isle_types.specs.declared.ids.Sym.{Sym}
use Rattle.isle_types.specs.declared.ids.TermId.{TermId}
use Rattle.isle_types.specs.declared.types.«Type».{«Type» as KnownType}
use Rattle.isle_types.specs.declared.types.«Type».TheVariants.{Builtin, Primitive, Enum as EnumType, Struct as StructType}
use Rattle.isle_types.specs.declared.types.Variant.{Variant}
use Rattle.isle_types.specs.IntTypes.{builtin_names, builtin_types}
use Rattle.isle_types.specs.Names.{position_of}
use Rattle.isle_types.specs.Environment.{NamedType, NamedVariant, TypeShape, primitive, enum, struct}
use Rattle.isle_types.specs.TypeEnvs.{IsShown, IsShownShape, IsShownVariant, sym_named, symbol_at, variants_of}
use Rattle.isle_types.proofs.NamePlaces.{place_known, place_some}
use Rattle.isle_types.proofs.Zipped.{zipped_at}
use Rattle.isle_rules.specs.Signatures.{Signature, Declared, variant_form, term_named}
use Rattle.isle_rules.specs.Definitions.{declared_by}
use Rattle.isle_rules.specs.Shown.TermTables.{TermTables, term_with}
use Rattle.isle_rules.specs.Shown.ShownTerms.{term_at}
use Rattle.isle_meaning.proofs.SoundPrograms.MadeData.{variant_made, struct_made, made_at}
use Rattle.isle_blocks.specs.Bindings.{variant_term_of}
use Rattle.isle_blocks.specs.DefinedSets.{AreDefined}
use Rattle.isle_blocks.proofs.MadeVariants.{IsVariantTerm}

pub after_first : {X : Type 0} (xs ys : List X) (j : ℕ) → slice_get (xs ++ ys) (length xs + j) ≡ slice_get ys j
after_first {X} [] ys j = ap (slice_get ys) (none (length {A = X} []) refl)
  where
    none : (n : ℕ) → n ≡ 0 → n + j ≡ j
    none n e = omega arith
after_first (x ∷ xs) ys j = ap (slice_get (x ∷ (xs ++ ys))) (more (length (x ∷ xs)) refl) ∙ after_first xs ys j
  where
    more : (n : ℕ) → n ≡ suc (length xs) → n + j ≡ suc (length xs + j)
    more n e = omega arith

-- the variant of a shown enum
shown_variant : (names : List (List ℕ)) (type : NamedType) (shape : TypeShape) (variants : List NamedVariant) (made : KnownType)
    → shape ≡ enum variants
    → IsShownShape names type shape made → (k : ℕ) (variant : NamedVariant) → slice_get variants k ≡ Some variant
    → (shown : Variant) × (slice_get (variants_of made) k ≡ Some shown) × IsShownVariant names type.name variant shown
shown_variant names type (primitive host) variants made is shown k variant at = absurd cc
shown_variant names type (struct members) variants made is shown k variant at = absurd cc
shown_variant names type (enum own) variants (Builtin b) is shown k variant at = absurd shown
shown_variant names type (enum own) variants (Primitive id name pos) is shown k variant at = absurd shown
shown_variant names type (enum own) variants (StructType name id is_extern is_nodebug fields pos) is shown k variant at = absurd shown
shown_variant names type (enum own) variants (EnumType name id is_extern is_nodebug made pos) is shown k variant at =
    let same : own ≡ variants = cc in
    zipped_at (IsShownVariant names type.name) own made shown.1.0 k variant
    (subst (λ (l : List NamedVariant). slice_get l k ≡ Some variant) (sym same) at)

-- a name of a term leads to some term
some_place : (names : List (List ℕ)) (name : List ℕ) (i : ℕ) → slice_get names i ≡ Some name → IsSome (option_map term_at (position_of names name))
some_place names name i at =
    let (j, found) = place_some names name i at in
    subst (λ (o : Option ℕ). IsSome (option_map term_at o)) (sym found) refl

module _ (env : TermTables) (d : AreDefined env) where
  abbrev pub declared : Declared
  declared = declared_by d.types env.expands d.shows.environment

  -- the term of a variant that a type has
  term_of_variant : (ty place : ℕ) (type : NamedType) (variants : List NamedVariant) (k : ℕ) (variant : NamedVariant) (number : ℕ) (term : Signature)
      → slice_get d.types.types place ≡ Some type → type.shape ≡ enum variants → slice_get variants k ≡ Some variant
      → ty ≡ length builtin_names + place → term.name ≡ type.name ++ codes "." ++ variant.name → slice_get declared.terms number ≡ Some term
      → IsSome (variant_term_of d.tyenv env (record { 0 = ty }) (record { 0 = k }))
  term_of_variant ty place type variants k variant number term at shape there is name known =
      let tables = d.tyenv in let shows = d.shows.declared.types in
      let (made, made_at, shown) = zipped_at (IsShown tables.names) d.types.types shows.made shows.types place type at in
      let (found, found_at, is_variant) = shown_variant tables.names type type.shape variants made shape shown.shape k variant there in
      let type_there : slice_get tables.types ty ≡ Some made =
      ap (λ (l : List KnownType). slice_get l ty) shows.all ∙ ap (slice_get (map Builtin builtin_types ++ shows.made)) is
      ∙ after_first (map Builtin builtin_types) shows.made place ∙ made_at in
      let full : List ℕ = type.name ++ codes "." ++ variant.name in
      let interned : sym_named tables full ≡ Some found.fullname =
      ap (option_map symbol_at) (place_known tables.names full found.fullname.0 d.once is_variant.fullname) in
      let named : slice_get (map (λ (t : Signature). t.name) declared.terms) number ≡ Some full =
      slice_get-map (λ (t : Signature). t.name) declared.terms number ∙ ap (option_map (λ (t : Signature). t.name)) known ∙ ap
      (λ (n : List ℕ). Some n) name in
      let some : IsSome (option_map term_at (term_named declared full)) = some_place _ full number named in
      let leads : IsSome (option_and_then (term_with env) (sym_named tables full)) =
      subst (λ (o : Option TermId). IsSome o) (sym (d.shows.declared.named full)) some in
      let by_symbol : IsSome (term_with env found.fullname) =
      subst (λ (o : Option Sym). IsSome (option_and_then (term_with env) o)) interned leads in
      subst (λ (o : Option KnownType). IsSome (option_and_then (λ (v : Variant). term_with env v.fullname)
      (option_and_then (λ (t : KnownType). slice_get (variants_of t) k) o))) (sym type_there)
      (subst (λ (o : Option Variant). IsSome (option_and_then (λ (v : Variant). term_with env v.fullname) o)) (sym found_at) by_symbol)

  -- the variant of a term is one of its type, and has that term
  pub variant_has_term : (ty k : ℕ) → IsVariantTerm declared ty k → IsSome (variant_term_of d.tyenv env (record { 0 = ty }) (record { 0 = k }))
  variant_has_term ty k is =
      elim (made_at d.types d.defs d.shows.environment.terms d.shows.makes.terms is.number is.term is.known
      (λ f c e declared. let form = is.form in absurd cc)) [
        | variant_made place j type variants variant at shape there form ret name ↦
            let same : j ≡ k = variant_same (sym form ∙ is.form) in
            subst (λ (n : ℕ). IsSome (variant_term_of d.tyenv env (record { 0 = ty }) (record { 0 = n }))) same
            (term_of_variant ty place type variants j variant is.number is.term at shape there (sym is.type ∙ ret) name is.known)
        | struct_made place type members at shape form ret name ↦ absurd (let other = is.form in cc)
      ]
    where
      variant_same : {a b : ℕ} → variant_form a ≡ variant_form b → a ≡ b
      variant_same e = cc
