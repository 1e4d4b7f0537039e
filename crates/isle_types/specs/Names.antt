-- Names by their places in a list.
use Rattle.std.specs.Prelude.{◌≡◌, ℕ, suc, ◌<◌, List, [], ◌∷◌, ◌++◌, Option, Some, None, is_some, if◌then◌else◌, slice_get}
use Rattle.std.specs.Option.{option_map}
use Rattle.std.specs.Str.{bytes_eq}

-- the first place of a name
abbrev pub position_of : List (List ℕ) → List ℕ → Option ℕ
position_of [] name = None
position_of (first ∷ names) name = if bytes_eq name first then Some 0 else option_map suc (position_of names name)

-- the names with one more at the end, unless it is there
abbrev pub with_name : List (List ℕ) → List ℕ → List (List ℕ)
with_name names name = if is_some (position_of names name) then names else names ++ name ∷ []

-- nothing stands at two places
abbrev pub AreDistinct : {X : Type 0} → List X → Type 0
AreDistinct {X} xs = (x : X) (i j : ℕ) → slice_get xs i ≡ Some x → slice_get xs j ≡ Some x → i ≡ j

-- each name of the old list still has its place
abbrev pub KeepsNames : List (List ℕ) → List (List ℕ) → Type 0
KeepsNames old new = (place : ℕ) (name : List ℕ) → slice_get old place ≡ Some name → slice_get new place ≡ Some name

-- the item at a place stands at an earlier one too
pub record IsDuplicate {X : Type 0} (xs : List X) (later : ℕ) : Type 0 where
  pub item : X
  pub earlier : ℕ
  pub before : earlier < later
  pub first : slice_get xs earlier ≡ Some item
  pub second : slice_get xs later ≡ Some item
