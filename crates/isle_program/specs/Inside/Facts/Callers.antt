-- Lists of the terms whose rules make values by a term.
use Rattle.std.specs.Prelude.{◌≡◌, ◌<◌, ◌⊎◌, ℕ, Vec, List, length, Contains}
use Rattle.std.specs.Global.{Global}
use Rattle.isle_rules.specs.declared.rules.Rule.{Rule}
use Rattle.isle_program.specs.Inside.Facts.Spreading.{IsListedAt}
use Rattle.isle_program.specs.Facts.Reach.{IsMadeBy}

-- a number is listed at places, and nothing else
pub record ListsMore (places : List ℕ) (number : ℕ) (old new : List (Vec ℕ Global)) : Type 0 where
  pub fits : length new ≡ length old
  pub kept : (n m : ℕ) → IsListedAt old n m → IsListedAt new n m
  pub from : (n m : ℕ) → IsListedAt new n m → IsListedAt old n m ⊎ (Contains places n × (number ≡ m))
  pub all : (n : ℕ) → Contains places n → n < length old → IsListedAt new n number

-- the terms of the rules that make values by a term are listed at it
pub record AreCallers (names : List (List ℕ)) (count : ℕ) (rules : List Rule) (lists : List (Vec ℕ Global)) : Type 0 where
  pub fits : length lists ≡ count
  pub listed : (n m : ℕ) → IsListedAt lists n m → IsMadeBy names rules m n
  pub all : (n m : ℕ) → IsMadeBy names rules m n → n < count → IsListedAt lists n m
