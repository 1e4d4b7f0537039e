-- Names and their places.
use Rattle.std.proofs.Common.{◌≡◌, ℕ, zero, suc, inl, inr, List, [], ◌∷◌, ◌++◌, length, Bool, true, false, cond, Option, Some, None, is_some}
use Rattle.std.proofs.Common.{refl, ap, sym, subst, ◌∙◌, slice_get, bytes_eq}
use Rattle.std.specs.Option.{option_map}
use Rattle.std.proofs.lemmas.Option.{same_Some, none-some}
use Rattle.std.proofs.lemmas.Slice.Eq.{bytes_eq-Decides}
use Rattle.isle_types.specs.Names.{position_of, with_name, AreDistinct, KeepsNames}
use Rattle.isle_containers.proofs.Lists.{slice_get-kept, slice_get-pushed}

-- a name equals itself
pub same_name : (name : List ℕ) → bytes_eq name name ≡ true
same_name name = let decides = bytes_eq-Decides name name in decides.1 refl

found_later : (first : List ℕ) (names : List (List ℕ)) (name : List ℕ) (i : ℕ) (o : Option ℕ)
    → ((j : ℕ) → o ≡ Some j → slice_get names j ≡ Some name) → option_map suc o ≡ Some i → slice_get (first ∷ names) i ≡ Some name
found_later first names name i None found is = absurd (none-some i is)
found_later first names name i (Some j) found is =
    subst (λ k. slice_get (first ∷ names) k ≡ Some name) (same_Some (suc j) i is) (found j refl)

-- the place that is found has the name
pub place_found : (names : List (List ℕ)) (name : List ℕ) (i : ℕ) → position_of names name ≡ Some i → slice_get names i ≡ Some name
place_found [] name i = λ is. absurd (none-some i is)
place_found (first ∷ names) name i =
    elim (bytes_eq name first) as (λ b. bytes_eq name first ≡ b → cond b (Some 0) (option_map suc (position_of names name)) ≡ Some i
    → slice_get (first ∷ names) i ≡ Some name) [
      | true ↦ λ same is. let decides = bytes_eq-Decides name first in
          subst (λ j. slice_get (first ∷ names) j ≡ Some name) (same_Some 0 i is) (ap Some (sym (decides.0 same)))
      | false ↦ λ _ is. found_later first names name i (position_of names name) (λ j at. place_found names name j at) is
    ] refl

-- a name at a place is found, at this place or an earlier one
pub place_some : (names : List (List ℕ)) (name : List ℕ) (i : ℕ) → slice_get names i ≡ Some name → (j : ℕ) × (position_of names name ≡ Some j)
place_some [] name i is = absurd (none-some name is)
place_some (first ∷ names) name zero is =
    let decides = bytes_eq-Decides name first in
    (0, ap (λ b. cond b (Some 0) (option_map suc (position_of names name))) (decides.1 (sym (same_Some first name is))))
place_some (first ∷ names) name (suc i) is =
    let later = place_some names name i is in
    elim (bytes_eq name first) as (λ b. (j : ℕ) × (cond b (Some 0) (option_map suc (position_of names name)) ≡ Some j)) [
      | true ↦ (0, refl)
      | false ↦ (suc later.0, ap (option_map suc) later.1)
    ]

-- a name that isn't found stands nowhere
pub place_missing : (names : List (List ℕ)) (name : List ℕ) → position_of names name ≡ None → (i : ℕ) → slice_get names i ≡ Some name → ⊥
place_missing names name missing i is =
    let found = place_some names name i is in none-some found.0 (sym missing ∙ found.1)

-- where names stand once, a name is found at its place
pub place_known : (names : List (List ℕ)) (name : List ℕ) (i : ℕ) → AreDistinct names → slice_get names i ≡ Some name
    → position_of names name ≡ Some i
place_known names name i once is =
    let found = place_some names name i is in
    found.1 ∙ ap Some (once name found.0 i (place_found names name found.0 found.1) is)

-- the place of a name with one more behind: its own, or the last
pub place_pushed : (names : List (List ℕ)) (last name : List ℕ)
    → position_of (names ++ last ∷ []) name ≡
    (cond (is_some (position_of names name)) (position_of names name) (cond (bytes_eq name last) (Some (length names)) None))
place_pushed [] last name = elim (bytes_eq name last) as
    (λ b. cond b (Some 0) (option_map suc None) ≡ cond b (Some 0) None) [ true ↦ refl | false ↦ refl ]
place_pushed (first ∷ names) last name =
    elim (bytes_eq name first) as (λ b. cond b (Some 0) (option_map suc (position_of (names ++ last ∷ []) name)) ≡ cond
    (is_some (cond b (Some 0) (option_map suc (position_of names name)))) (cond b (Some 0) (option_map suc (position_of names name)))
    (cond (bytes_eq name last) (Some (suc (length names))) None)) [
      | true ↦ refl
      | false ↦ ap (option_map suc) (place_pushed names last name) ∙ through (position_of names name) (bytes_eq name last)
    ]
  where
    through : (o : Option ℕ) (b : Bool)
        → option_map suc (cond (is_some o) o (cond b (Some (length names)) None)) ≡ cond (is_some (option_map suc o)) (option_map suc o)
        (cond b (Some (suc (length names))) None)
    through (Some j) b = refl
    through None true = refl
    through None false = refl

-- a new name behind names that stand once
pub once_pushed : (names : List (List ℕ)) (last : List ℕ) → AreDistinct names → position_of names last ≡ None → AreDistinct (names ++ last ∷ [])
once_pushed names last once missing = λ name i j at_i at_j.
    elim (slice_get-pushed names last i name at_i) [
      | inl before_i ↦ elim (slice_get-pushed names last j name at_j) [
        | inl before_j ↦ once name i j before_i before_j
        | inr last_j ↦ absurd (place_missing names name (ap (position_of names) (sym last_j.1) ∙ missing) i before_i)
      ]
      | inr last_i ↦ elim (slice_get-pushed names last j name at_j) [
        | inl before_j ↦ absurd (place_missing names name (ap (position_of names) (sym last_i.1) ∙ missing) j before_j)
        | inr last_j ↦ last_i.0 ∙ sym last_j.0
      ]
    ]

-- names are kept when one is added
pub with_name-keeps : (names : List (List ℕ)) (name : List ℕ) → KeepsNames names (with_name names name)
with_name-keeps names name = λ place kept is.
    elim (is_some (position_of names name)) as (λ b. slice_get (cond b names (names ++ name ∷ [])) place ≡ Some kept) [
      | true ↦ is
      | false ↦ slice_get-kept names (name ∷ []) place kept is
    ]

-- a name that is new is found behind the others
pub place_last : (names : List (List ℕ)) (last : List ℕ) → position_of names last ≡ None → position_of (names ++ last ∷ []) last ≡ Some (length names)
place_last names last missing =
    place_pushed names last last ∙ ap (λ o. cond (is_some o) o (cond (bytes_eq last last) (Some (length names)) None)) missing
    ∙ ap (λ b. cond b (Some (length names)) None) (same_name last)

or_none : (o : Option ℕ) → cond (is_some o) o None ≡ o
or_none None = refl
or_none (Some i) = refl

-- another name keeps its place
pub place_other : (names : List (List ℕ)) (last name : List ℕ) → bytes_eq name last ≡ false
    → position_of (names ++ last ∷ []) name ≡ position_of names name
place_other names last name apart =
    place_pushed names last name
    ∙ ap (λ b. cond (is_some (position_of names name)) (position_of names name) (cond b (Some (length names)) None)) apart
    ∙ or_none (position_of names name)

-- a name that is there keeps its place
pub place_there : (names : List (List ℕ)) (last name : List ℕ) (i : ℕ) → position_of names name ≡ Some i
    → position_of (names ++ last ∷ []) name ≡ Some i
place_there names last name i is =
    place_pushed names last name ∙ ap (λ o. cond (is_some o) o (cond (bytes_eq name last) (Some (length names)) None)) is

-- two texts differ where one equals a third and the other doesn't
pub differ : (a b c : List ℕ) → bytes_eq a b ≡ true → bytes_eq a c ≡ false → bytes_eq c b ≡ false
differ a b c same other =
    elim (bytes_eq c b) as (λ v. bytes_eq c b ≡ v → v ≡ false) [
      | true ↦ λ e. let first = bytes_eq-Decides a b in let second = bytes_eq-Decides c b in let third = bytes_eq-Decides a c in
          sym (third.1 (first.0 same ∙ sym (second.0 e))) ∙ other
      | false ↦ λ _. refl
    ] refl

-- equality of texts has two sides
pub differ_back : (a b : List ℕ) → bytes_eq a b ≡ false → bytes_eq b a ≡ false
differ_back a b other = differ a a b (same_name a) other
