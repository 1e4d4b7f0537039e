-- A symbol that stands twice in a list.
use Rattle.std.proofs.Common.{◌≡◌, ℕ, zero, suc, ◌==◌, ◌||◌, inl, inr, List, [], ◌∷◌, ◌++◌, take, Bool, true, false, not, Some, refl, ap, sym}
use Rattle.std.proofs.Common.{◌∙◌, slice_get}
use Rattle.std.specs.List.{list_any}
use Rattle.std.proofs.lemmas.Bool.{false≢true, eqb-true, eqb-false, eq-eqb, ne_eqb, or_right}
use Rattle.std.proofs.lemmas.Option.{same_Some, none-some}
use Rattle.std.proofs.lemmas.List.Folds.{list_any-append}
use Rattle.isle_types.specs.declared.ids.Sym.{Sym}
use Rattle.isle_types.specs.Names.{AreDistinct, IsDuplicate}
use Rattle.isle_types.specs.TypeEnvs.{symbol_at}
use Rattle.isle_containers.proofs.Lists.{slice_get-pushed, from_take, within-take}

-- whether a symbol is among others
abbrev pub among : Sym → List Sym → Bool
among symbol others = list_any (λ (other : Sym). symbol.0 == other.0) others

-- a symbol that is among others has a place there
pub among_place : (symbol : Sym) (others : List Sym) → among symbol others ≡ true → (place : ℕ) × (slice_get others place ≡ Some symbol)
among_place symbol [] = λ found. absurd (false≢true found)
among_place symbol (other ∷ others) =
    elim (symbol.0 == other.0) as (λ b. symbol.0 == other.0 ≡ b → (b || among symbol others) ≡ true → (place : ℕ)
    × (slice_get (other ∷ others) place ≡ Some symbol)) [
      | true ↦ λ same _. (0, ap (λ n. Some (symbol_at n)) (sym (eqb-true symbol.0 other.0 same)))
      | false ↦ λ _ rest. let later = among_place symbol others rest in (suc later.0, later.1)
    ] refl

-- one that has a place there is among them
pub place_among : (symbol : Sym) (others : List Sym) (place : ℕ) → slice_get others place ≡ Some symbol → among symbol others ≡ true
place_among symbol [] place at = absurd (none-some symbol at)
place_among symbol (other ∷ others) zero at =
    ap (λ b. b || among symbol others) (eq-eqb symbol.0 other.0 (sym (ap (λ (s : Sym). s.0) (same_Some other symbol at))))
place_among symbol (other ∷ others) (suc place) at = or_right _ _ (place_among symbol others place at)

-- names stand once, with one more that isn't among them
pub once_more : (before : List Sym) (symbol : Sym) → AreDistinct before → among symbol before ≡ false → AreDistinct (before ++ symbol ∷ [])
once_more before symbol once new = λ name i j at_i at_j.
    elim (slice_get-pushed before symbol i name at_i) [
      | inl before_i ↦ elim (slice_get-pushed before symbol j name at_j) [
        | inl before_j ↦ once name i j before_i before_j
        | inr last_j ↦ absurd (false≢true (sym new ∙ place_among symbol before i (before_i ∙ ap Some (sym last_j.1))))
      ]
      | inr last_i ↦ elim (slice_get-pushed before symbol j name at_j) [
        | inl before_j ↦ absurd (false≢true (sym new ∙ place_among symbol before j (before_j ∙ ap Some (sym last_i.1))))
        | inr last_j ↦ last_i.0 ∙ sym last_j.0
      ]
    ]

-- a symbol that is among those before it
pub duplicate_here : (names : List Sym) (place : ℕ) (symbol : Sym) → slice_get names place ≡ Some symbol → among symbol (take place names) ≡ true
    → IsDuplicate names place
duplicate_here names place symbol at found =
    let before = among_place symbol (take place names) found in
    record {
      item = symbol;
      earlier = before.0;
      before = within-take names place before.0 symbol before.1;
      first = from_take names place before.0 symbol before.1;
      second = at;
    }

eqb-sym : (a b : ℕ) → (a == b) ≡ (b == a)
eqb-sym a b =
    elim (a == b) as (λ v. (a == b) ≡ v → v ≡ (b == a)) [
      | true ↦ λ same. sym (eq-eqb b a (sym (eqb-true a b same)))
      | false ↦ λ apart. sym (ne_eqb b a (λ same. eqb-false a b apart (sym same)))
    ] refl

-- the members of a set that a symbol was put into
pub among_more : (before : List Sym) (symbol other : Sym) → ((symbol.0 == other.0) || among other before) ≡ among other (before ++ symbol ∷ [])
among_more before symbol other =
    through (symbol.0 == other.0) (other.0 == symbol.0) (among other before) (eqb-sym symbol.0 other.0)
    ∙ sym (list_any-append (λ (s : Sym). other.0 == s.0) before (symbol ∷ []))
  where
    through : (a b found : Bool) → a ≡ b → (a || found) ≡ (found || (b || false))
    through true true true e = refl
    through true true false e = refl
    through false false true e = refl
    through false false false e = refl
    through true false found e = absurd (false≢true (sym e))
    through false true found e = absurd (false≢true e)

-- what is not the negation of a test
pub flip : (a b : Bool) → not a ≡ b → a ≡ not b
flip true b e = ap not e
flip false b e = ap not e
