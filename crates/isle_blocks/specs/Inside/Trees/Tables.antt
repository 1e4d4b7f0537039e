-- Lists that are kept in rows.
use Rattle.std.specs.Prelude.{◌≡◌, ◌⊎◌, ◌<◌, ◌≤◌, ◌++◌, ℕ, List, [], ◌∷◌, length, take}

-- the items of rows, one row after another
abbrev pub joined : {A : Type 0} → List (List A) → List A
joined [] = []
joined (r ∷ rs) = r ++ joined rs

-- a row has 128 items, or at most so many where it is the last
abbrev pub AreRows : {A : Type 0} → List (List A) → Type 0
AreRows [] = Unit {0}
AreRows (r ∷ rs) = ((length r ≡ 128) ⊎ ((length r ≤ 128) × (rs ≡ []))) × AreRows rs

-- each row has 128 items
abbrev pub AreFull : {A : Type 0} → List (List A) → Type 0
AreFull [] = Unit {0}
AreFull (r ∷ rs) = (length r ≡ 128) × AreFull rs

-- the items before a place were put into rows, which are full where items are left
pub record IsCut {A : Type 0} (items : List A) (at : ℕ) (rows : List (List A)) : Type 0 where
  pub within : at ≤ length items
  pub are : AreRows rows
  pub full : at < length items → AreFull rows
  pub joined_is : joined rows ≡ take at items
