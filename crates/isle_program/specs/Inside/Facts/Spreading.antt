-- Marks that spread over lists of numbers.
use Rattle.std.specs.Prelude.{◌≡◌, ◌<◌, ◌+◌, ◌⊎◌, ℕ, Bool, not, Vec, List, length, Some, slice_get, Contains}
use Rattle.std.specs.Global.{Global}
use Rattle.std.specs.List.{count_by}
use Rattle.isle_blocks.specs.Inside.Building.Contents.{Marked}

-- a number stands in the list of another
abbrev pub IsListedAt : List (Vec ℕ Global) → ℕ → ℕ → Type 0
IsListedAt lists n m = (own : Vec ℕ Global) × (slice_get lists n ≡ Some own) × Contains own.items m

-- the numbers that marks spread to: those that are marked, and those that are listed at one of them
pub data SpreadsTo (lists : List (Vec ℕ Global)) (marks : List Bool) : ℕ → Type 0 where
  is_marked : {n : ℕ} → Marked marks n → SpreadsTo lists marks n
  is_listed : {n m : ℕ} → SpreadsTo lists marks n → IsListedAt lists n m → SpreadsTo lists marks m

-- marks that have spread
pub record IsSpread (lists : List (Vec ℕ Global)) (marks new : List Bool) : Type 0 where
  pub fits : length new ≡ length marks
  pub marked : (n : ℕ) → Marked new n → SpreadsTo lists marks n
  pub all : (n : ℕ) → n < length marks → SpreadsTo lists marks n → Marked new n

-- how many are not marked
abbrev pub unmarked : List Bool → ℕ
unmarked marks = count_by not marks

-- numbers are marked, and those that weren't are listed
pub record MarksAndLists (numbers : List ℕ) (marks new : List Bool) (old listed : List ℕ) : Type 0 where
  pub fits : length new ≡ length marks
  pub kept : (n : ℕ) → Marked marks n → Marked new n
  pub from : (n : ℕ) → Marked new n → Marked marks n ⊎ Contains numbers n
  pub all : (n : ℕ) → Contains numbers n → n < length marks → Marked new n
  pub old_listed : (n : ℕ) → Contains old n → Contains listed n
  pub new_listed : (n : ℕ) → Marked new n → Marked marks n ⊎ Contains listed n
  pub are_marked : (n : ℕ) → Contains listed n → Contains old n ⊎ Marked new n
  pub in_all : unmarked new + length listed ≡ unmarked marks + length old
