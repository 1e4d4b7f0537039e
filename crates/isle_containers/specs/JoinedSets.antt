-- Lists of sets that share no member. Each set is the list of its members, its representative first.
use Rattle.std.specs.Prelude.{◌≡◌, ◌≤◌, Bool, cond, ◌&&◌, ◌||◌, List, [], ◌∷◌, length, find, slice_get, unwrap_or, All, IsPermutation, Option}
use Rattle.std.specs.List.{flat_map, list_any, IsDistinct}
use Rattle.std.specs.Set.{is_member}

-- the members of all sets, set after set
abbrev pub members : {T : Type 0} → List (List T) → List T
members sets = flat_map (λ set. set) sets

module _ {T : Type 0} (eq : T → T → Bool) where
  -- the set that has x, or the empty list
  abbrev pub set_of : List (List T) → T → List T
  set_of sets x = unwrap_or (find (λ set. is_member eq set x) sets) []

  -- the first member of the set that has x
  abbrev pub representative : List (List T) → T → Option T
  representative sets x = slice_get (set_of sets x) 0

  -- whether one set has both x and y
  abbrev pub are_joined : List (List T) → T → T → Bool
  are_joined sets x y = list_any (λ set. is_member eq set x && is_member eq set y) sets

  -- whether a is x or y, or was joined with one of them
  abbrev pub comes_together : List (List T) → T → T → T → Bool
  comes_together sets x y a = (eq a x || eq a y) || (are_joined sets x a || are_joined sets y a)

  -- xs, and x where no member of xs equals it
  abbrev pub with_member : List T → T → List T
  with_member xs x = cond (is_member eq xs x) xs (x ∷ xs)

  -- each set has at least two members, and no two members of all sets are equal
  pub record AreDisjoint (sets : List (List T)) : Type 0 where
    pub at_least_two : All (λ set. 2 ≤ length set) sets
    pub distinct : IsDistinct eq (members sets)

  -- the same sets: their order, and that of the members after the first, may differ
  pub record AreSameSets (old new : List (List T)) : Type 0 where
    pub moved : IsPermutation (members old) (members new)
    pub represented : (x : T) → representative new x ≡ representative old x
    pub joined : (x y : T) → are_joined new x y ≡ are_joined old x y
