-- A name occurs where it has a place.
use Rattle.std.proofs.Common.{◌≡◌, ℕ, suc, List, [], ◌∷◌, true, false, cond, Option, Some, None}
use Rattle.std.proofs.Common.{is_some, refl, ap, sym, ◌∙◌, bytes_eq}
use Rattle.std.specs.Option.{option_map}
use Rattle.std.proofs.lemmas.Bool.{false≢true}
use Rattle.std.proofs.lemmas.Slice.Eq.{bytes_eq-Decides}
use Rattle.isle_types.specs.Names.{position_of}
use Rattle.isle_types.proofs.NamePlaces.{differ_back, place_found, place_some}
use Rattle.isle_rules.specs.Definitions.{IsAmong, is_among}

-- two texts are compared either way round
pub turned : (a b : List ℕ) → bytes_eq a b ≡ bytes_eq b a
turned a b = elim (bytes_eq a b) as (λ t. bytes_eq a b ≡ t → t ≡ bytes_eq b a) [
  | true ↦ λ same. let here = bytes_eq-Decides a b in let back = bytes_eq-Decides b a in sym (back.1 (sym (here.0 same)))
  | false ↦ λ other. sym (differ_back a b other)
] refl

-- a place further on is one as well
pub some_later : (o : Option ℕ) → is_some (option_map suc o) ≡ is_some o
some_later None = refl
some_later (Some place) = refl

-- a name has a place where it is among the names
pub found_among : (names : List (List ℕ)) (name : List ℕ) → is_some (position_of names name) ≡ is_among name names
found_among [] name = refl
found_among (first ∷ names) name =
    elim (bytes_eq name first) as (λ b. is_some (cond b (Some 0) (option_map suc (position_of names name))) ≡ cond b true (is_among name names)) [
      | true ↦ refl
      | false ↦ some_later (position_of names name) ∙ found_among names name
    ] ∙ ap (λ b. cond b true (is_among name names)) (turned name first)

-- a name that occurs has a place
pub place_of_member : (names : List (List ℕ)) (name : List ℕ) → IsAmong names name → (place : ℕ) × (position_of names name ≡ Some place)
place_of_member names name among = place_some names name among.0 among.1

-- a name that has a place occurs
pub member_of_place : (names : List (List ℕ)) (name : List ℕ) (place : ℕ) → position_of names name ≡ Some place → IsAmong names name
member_of_place names name place is = (place, place_found names name place is)

-- a name that occurs is among the names
pub member_is_among : (names : List (List ℕ)) (name : List ℕ) → IsAmong names name → is_among name names ≡ true
member_is_among names name among =
    let found = place_of_member names name among in sym (found_among names name) ∙ ap is_some found.1

-- a name that is among the names occurs
pub among_is_member : (names : List (List ℕ)) (name : List ℕ) → is_among name names ≡ true → IsAmong names name
among_is_member names name is = by_place (position_of names name) refl (found_among names name ∙ is)
  where
    by_place : (o : Option ℕ) → position_of names name ≡ o → is_some (position_of names name) ≡ true → IsAmong names name
    by_place None missing there = absurd (false≢true (sym (ap is_some missing) ∙ there))
    by_place (Some place) found there = member_of_place names name place found
