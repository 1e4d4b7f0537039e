-- A table of names grows by a name.
use Rattle.std.proofs.Common.{◌≡◌, ℕ, List, [], ◌∷◌, ◌++◌, length, true, false, if◌then◌else◌, Option, Some, None, is_some, String}
use Rattle.std.proofs.Common.{string_bytes, refl, ap, sym, subst, ◌∙◌, bytes_eq}
use Rattle.std.specs.Map.{KeepsOthers}
use Rattle.std.specs.Global.{Global}
use Rattle.std.proofs.lemmas.Bool.{false≢true, true≢false}
use Rattle.std.proofs.lemmas.Slice.Eq.{bytes_eq-Decides}
use Rattle.isle_types.specs.Names.{position_of}
use Rattle.isle_containers.specs.StableMaps.{value_at, value_at_text}
use Rattle.isle_types.proofs.Interning.{text_eq}
use Rattle.isle_types.proofs.NamePlaces.{same_name, place_last, place_other, place_there, differ, differ_back}

-- at another text the table has what it had
pub kept_at : (table new : List (String Global × ℕ)) (key : String Global) (other : List ℕ) → bytes_eq (string_bytes key) other ≡ false
    → KeepsOthers text_eq (text_eq key) table new → value_at_text new other ≡ value_at_text table other
unfolding KeepsOthers
kept_at table new key other apart others =
    others (λ k. bytes_eq other (string_bytes k))
    (λ x y same. let decides = bytes_eq-Decides other (string_bytes x) in ap (λ t. bytes_eq t (string_bytes y)) (decides.0 same))
    (λ k same. differ (string_bytes key) (string_bytes k) other same apart)

-- a name that is new is at its place, and every other one where it was
pub placed_new : (names : List (List ℕ)) (table new : List (String Global × ℕ)) (key : String Global) (name : List ℕ) (place : ℕ)
    → ((other : List ℕ) → value_at_text table other ≡ position_of names other) → string_bytes key ≡ name → position_of names name ≡ None
    → place ≡ length names → ((q : String Global) → value_at text_eq new q ≡ (if text_eq key q then Some place else value_at text_eq table q))
    → KeepsOthers text_eq (text_eq key) table new → (other : List ℕ) → value_at_text new other ≡ position_of (names ++ name ∷ []) other
placed_new names table new key name place placed is missing last values others = λ other. subst
    (λ n. value_at_text new other ≡ position_of (names ++ n ∷ []) other) is (at_text other)
  where
    absent : position_of names (string_bytes key) ≡ None
    absent = ap (position_of names) is ∙ missing

    here : value_at text_eq new key ≡ Some place
    here = values key ∙ ap (λ b. if b then Some place else value_at text_eq table key) (same_name (string_bytes key))

    at_text : (other : List ℕ) → value_at_text new other ≡ position_of (names ++ string_bytes key ∷ []) other
    at_text other = elim (bytes_eq (string_bytes key) other) as
        (λ b. bytes_eq (string_bytes key) other ≡ b → value_at_text new other ≡ position_of (names ++ string_bytes key ∷ []) other) [
          | true ↦ λ same. let decides = bytes_eq-Decides (string_bytes key) other in
              subst (λ n. value_at_text new n ≡ position_of (names ++ string_bytes key ∷ []) n) (decides.0 same)
              (here ∙ ap Some last ∙ sym (place_last names (string_bytes key) absent))
          | false ↦ λ apart. kept_at table new key other apart others ∙ placed other
              ∙ sym (place_other names (string_bytes key) other (differ_back (string_bytes key) other apart))
        ] refl

-- a name that occurs changes nothing
pub placed_old : (names : List (List ℕ)) (name : List ℕ) → is_some (position_of names name) ≡ true → (other : List ℕ)
    → position_of names other ≡ position_of (names ++ name ∷ []) other
placed_old names name there other = elim (bytes_eq other name) as
    (λ b. bytes_eq other name ≡ b → position_of names other ≡ position_of (names ++ name ∷ []) other) [
      | true ↦ λ same. let decides = bytes_eq-Decides other name in
          subst (λ n. position_of names n ≡ position_of (names ++ name ∷ []) n) (sym (decides.0 same)) (by_place (position_of names name) refl there)
      | false ↦ λ apart. sym (place_other names name other apart)
    ] refl
  where
    by_place : (o : Option ℕ) → position_of names name ≡ o → is_some o ≡ true → position_of names name ≡ position_of (names ++ name ∷ []) name
    by_place (Some i) found is = found ∙ sym (place_there names name name i found)
    by_place None found is = absurd (false≢true is)

-- what isn't there is missing
pub missing_from : (o : Option ℕ) → is_some o ≡ false → o ≡ None
missing_from None is = refl
missing_from (Some i) is = absurd (true≢false is)
