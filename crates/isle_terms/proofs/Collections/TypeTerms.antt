-- The terms of types, one type and one variant after the other.
use Rattle.std.proofs.Common.{◌≡◌, ℕ, zero, suc, ◌+◌, ◌-◌, ◌<◌, ◌≤◌, ◌⊎◌, inl, inr, List}
use Rattle.std.proofs.Common.{[], ◌∷◌, ◌++◌, length, map, take, Some, arith, ap, sym, subst, ◌∙◌}
use Rattle.std.proofs.Common.{slice_get, add-zero, append-nil, append_assoc, length-append}
use Rattle.std.proofs.lemmas.List.{take_all, length-take-le}
use Rattle.std.proofs.lemmas.Option.{slice_get_within}
use Rattle.isle_types.specs.declared.types.Variant.{Variant}
use Rattle.isle_types.specs.declared.types.BuiltinType.{BuiltinType}
use Rattle.isle_types.specs.declared.types.«Type».{«Type» as KnownType}
use Rattle.isle_types.specs.declared.types.«Type».TheVariants.{Builtin}
use Rattle.isle_types.specs.IntTypes.{builtin_names, builtin_types}
use Rattle.isle_types.specs.Types.{id_of}
use Rattle.isle_types.specs.Environment.{Environment, NamedType, NamedVariant}
use Rattle.isle_types.specs.TypeTables.{TypeTables}
use Rattle.isle_types.specs.TypeEnvs.{CountUp, Shows, IsShown, IsShownVariant, AreShownVariants}
use Rattle.isle_containers.proofs.Lists.{taken_more}
use Rattle.isle_types.proofs.Zipped.{mapped_at}
use Rattle.isle_rules.specs.declared.terms.Term.{Term}
use Rattle.isle_rules.specs.Signatures.{Signature}
use Rattle.isle_rules.specs.Definitions.{terms_of_types, terms_of_shape, variant_terms}
use Rattle.isle_terms.specs.Inside.Collecting.DeclaredTerms.{IsShownTerm, AddsTerms, variant_signature}
use Rattle.isle_rules.proofs.Zipped.{zipped_back, zipped_length, zipped_append, count_at, count_append}

-- nothing is added
pub adds_nothing : (names : List (List ℕ)) (old new : List Term) → new ≡ old → AddsTerms names [] old new
adds_nothing names old new same = record {
  added = [];
  all = same ∙ sym (append-nil old);
  shown = tt;
  counted = tt;
}

-- one term is added
pub adds_term : (names : List (List ℕ)) (signature : Signature) (old new : List Term) (term : Term) → new ≡ old ++ term ∷ []
    → IsShownTerm names signature term → term.id.0 ≡ length old → AddsTerms names (signature ∷ []) old new
adds_term names signature old new term all shown counted = record {
  added = term ∷ [];
  all = all;
  shown = (shown, tt);
  counted = (counted, tt);
}

-- terms are added, and then more
pub adds_then : (names : List (List ℕ)) (first second : List Signature) (old middle new : List Term) → AddsTerms names first old middle
    → AddsTerms names second middle new → AddsTerms names (first ++ second) old new
adds_then names first second old middle new before after = record {
  added = before.added ++ after.added;
  all = after.all ∙ ap (λ front. front ++ after.added) before.all ∙ append_assoc old before.added after.added;
  shown = zipped_append (IsShownTerm names) first before.added second after.added before.shown after.shown;
  counted = count_append (λ (term : Term). term.id.0) (length old) before.added after.added before.counted
      (subst (λ n. CountUp (λ (term : Term). term.id.0) n after.added) (ap length before.all ∙ length-append old before.added) after.counted);
}

-- the terms of variants, and of one more
variants_more : (ty : ℕ) (type : List ℕ) (number : ℕ) (variants : List NamedVariant) (variant : NamedVariant)
    → variant_terms ty type number (variants ++ variant ∷ [])
    ≡ variant_terms ty type number variants ++ variant_signature ty type (number + length variants) variant ∷ []
variants_more ty type number [] variant = ap (λ n. variant_signature ty type n variant ∷ []) (sym (add-zero number))
variants_more ty type number (first ∷ others) variant =
    let later : suc number + length others ≡ number + suc (length others) = omega arith in
    ap (λ terms. variant_signature ty type number first ∷ terms) (variants_more ty type (suc number) others variant
    ∙ ap (λ n. variant_terms ty type (suc number) others ++ variant_signature ty type n variant ∷ []) later)

-- the term of one variant after the others
pub variant_turn : (names : List (List ℕ)) (ty : ℕ) (type : List ℕ) (shown : List NamedVariant) (made : List Variant) (place : ℕ) (variant : Variant)
    (term : Term) (old middle new : List Term) → AreShownVariants names type shown made → slice_get made place ≡ Some variant
    → ((one : NamedVariant) → IsShownVariant names type one variant → IsShownTerm names (variant_signature ty type variant.id.0 one) term)
    → term.id.0 ≡ length middle → new ≡ middle ++ term ∷ [] → AddsTerms names (variant_terms ty type 0 (take place shown)) old middle
    → AddsTerms names (variant_terms ty type 0 (take (place + 1) shown)) old new
variant_turn names ty type shown made place variant term old middle new variants here shows numbered all before =
    let back = zipped_back (IsShownVariant names type) shown made variants.0 place variant here in
    let within = slice_get_within shown place back.0 back.1 in
    let counted : variant.id.0 ≡ 0 + length (take place shown) = count_at (λ (v : Variant). v.id.0) 0 made variants.1 place variant here
    ∙ ap (λ n. 0 + n) (sym (length-take-le place shown (omega (arith, within)))) in
    subst (λ signatures. AddsTerms names signatures old new)
    (sym (ap (variant_terms ty type 0) (taken_more shown place back.0 back.1) ∙ variants_more ty type 0 (take place shown) back.0))
    (adds_then names (variant_terms ty type 0 (take place shown)) (variant_signature ty type (0 + length (take place shown)) back.0 ∷ []) old middle
    new before (adds_term names (variant_signature ty type (0 + length (take place shown)) back.0) middle new term all
    (subst (λ n. IsShownTerm names (variant_signature ty type n back.0) term) counted (shows back.0 back.2)) numbered))

-- all variants were come to
pub variants_done : (names : List (List ℕ)) (ty : ℕ) (type : List ℕ) (shown : List NamedVariant) (made : List Variant) (place : ℕ)
    (old new : List Term) → AreShownVariants names type shown made → length made ≤ place
    → AddsTerms names (variant_terms ty type 0 (take place shown)) old new → AddsTerms names (variant_terms ty type 0 shown) old new
variants_done names ty type shown made place old new variants past adds =
    let long = zipped_length (IsShownVariant names type) shown made variants.0 in
    subst (λ vs. AddsTerms names (variant_terms ty type 0 vs) old new) (take_all place shown (omega (arith, long, past))) adds

-- the terms of types, and of one more
types_more : (ty : ℕ) (types : List NamedType) (type : NamedType)
    → terms_of_types ty (types ++ type ∷ []) ≡ terms_of_types ty types ++ terms_of_shape (ty + length types) type type.shape
types_more ty [] type =
    append-nil (terms_of_shape ty type type.shape) ∙ ap (λ n. terms_of_shape n type type.shape) (sym (add-zero ty))
types_more ty (first ∷ others) type =
    let later : suc ty + length others ≡ ty + suc (length others) = omega arith in
    ap (λ terms. terms_of_shape ty first first.shape ++ terms) (types_more (suc ty) others type
    ∙ ap (λ n. terms_of_types (suc ty) others ++ terms_of_shape n type type.shape) later)
    ∙ sym (append_assoc (terms_of_shape ty first first.shape) (terms_of_types (suc ty) others)
    (terms_of_shape (ty + suc (length others)) type type.shape))

-- an item of two lists, one behind the other
appended_at : {X : Type 0} (xs ys : List X) (i : ℕ) (x : X) → slice_get (xs ++ ys) i ≡ Some x
    → ((i < length xs) × (slice_get xs i ≡ Some x)) ⊎ ((k : ℕ) × (i ≡ length xs + k) × (slice_get ys k ≡ Some x))
appended_at [] ys i x is = let same : i ≡ 0 + i = omega arith in inr (i, same, is)
appended_at (first ∷ xs) ys zero x is = inl (omega arith, is)
appended_at (first ∷ xs) ys (suc i) x is =
    elim (appended_at xs ys i x is) [
      | inl here ↦ let low = here.0 in inl (omega (arith, low), here.1)
      | inr later ↦ let at = later.1 in let next : suc i ≡ suc (length xs) + later.0 = omega (arith, at) in inr (later.0, next, later.2)
    ]

-- the terms of one type after the others
pub type_turn : (env : TypeTables) (types : Environment) (place : ℕ) (ty : KnownType) (old middle new : List Term) → Shows env types
    → slice_get env.types place ≡ Some ty → ((builtin : BuiltinType) → ty ≡ Builtin builtin → new ≡ middle)
    → ((type : NamedType) → IsShown env.names type ty → AddsTerms env.names (terms_of_shape (id_of ty).0 type type.shape) middle new)
    → AddsTerms env.names (terms_of_types (length builtin_names) (take (place - length builtin_names) types.types)) old middle
    → AddsTerms env.names (terms_of_types (length builtin_names) (take (place + 1 - length builtin_names) types.types)) old new
type_turn env types place ty old middle new shows here builtin defined before =
    elim (appended_at (map Builtin builtin_types) shows.made place ty (ap (λ all. slice_get all place) (sym shows.all) ∙ here)) [
      | inl front ↦
          let low : place < 13 = front.0 in
          let from = mapped_at Builtin builtin_types place ty front.1 in
          let same : place - 13 ≡ place + 1 - 13 = omega (arith, low) in
          subst (λ terms. AddsTerms env.names (terms_of_types (length builtin_names) (take (place + 1 - length builtin_names) types.types)) old terms)
          (sym (builtin from.0 (sym from.2)))
          (subst (λ n. AddsTerms env.names (terms_of_types (length builtin_names) (take n types.types)) old middle) same before)
      | inr back ↦
          let k = back.0 in
          let at : place ≡ 13 + k = back.1 in
          let pair = zipped_back (IsShown env.names) types.types shows.made shows.types k ty back.2 in
          let within = slice_get_within types.types k pair.0 pair.1 in
          let number : (id_of ty).0 ≡ 13 + length (take k types.types) =
          count_at (λ (type : KnownType). (id_of type).0) 0 env.types shows.counted place ty here
          ∙ (let zero_more : 0 + place ≡ 13 + k = omega (arith, at) in zero_more)
          ∙ ap (λ n. 13 + n) (sym (length-take-le k types.types (omega (arith, within)))) in
          let this : place - 13 ≡ k = omega (arith, at) in
          let next : k + 1 ≡ place + 1 - 13 = omega (arith, at) in
          subst (λ n. AddsTerms env.names (terms_of_types (length builtin_names) (take n types.types)) old new) next
          (subst (λ signatures. AddsTerms env.names signatures old new)
          (sym (ap (terms_of_types (length builtin_names)) (taken_more types.types k pair.0 pair.1)
          ∙ types_more (length builtin_names) (take k types.types) pair.0))
          (adds_then env.names (terms_of_types (length builtin_names) (take k types.types))
          (terms_of_shape (13 + length (take k types.types)) pair.0 pair.0.shape) old middle new
          (subst (λ n. AddsTerms env.names (terms_of_types (length builtin_names) (take n types.types)) old middle) this before)
          (subst (λ n. AddsTerms env.names (terms_of_shape n pair.0 pair.0.shape) middle new) number (defined pair.0 pair.2))))
    ]

-- all types were come to
pub types_done : (env : TypeTables) (types : Environment) (place : ℕ) (old new : List Term) → Shows env types → length env.types ≤ place
    → AddsTerms env.names (terms_of_types (length builtin_names) (take (place - length builtin_names) types.types)) old new
    → AddsTerms env.names (terms_of_types (length builtin_names) types.types) old new
types_done env types place old new shows past adds =
    let long = zipped_length (IsShown env.names) types.types shows.made shows.types in
    let whole : length env.types ≡ 13 + length shows.made = ap length shows.all ∙ length-append (map Builtin builtin_types) shows.made in
    subst (λ ts. AddsTerms env.names (terms_of_types (length builtin_names) ts) old new)
    (take_all (place - 13) types.types (omega (arith, long, whole, past))) adds
