-- Faults between the rules of a term, by the rules' places.
use Rattle.std.specs.Prelude.{◌≡◌, ◌<◌, ◌⊎◌, ◌↔◌, ℕ, List, length, Contains, Some, slice_get, slice_index_or}
use Rattle.isle_blocks.specs.declared.rule.Rule.{Rule}
use Rattle.isle_blocks.specs.declared.faults.Fault.{Fault}
use Rattle.isle_blocks.specs.declared.faults.Fault.TheVariants.{Overlap, Shadow}
use Rattle.isle_blocks.specs.Rules.{Overlaps, Shadows}

-- two rules at places, the first the earlier, have one priority and may match together
pub record OverlapAt (rules : List Rule) (i j : ℕ) : Type 0 where
  pub first : Rule
  pub second : Rule
  pub first_at : slice_get rules i ≡ Some first
  pub second_at : slice_get rules j ≡ Some second
  pub in_order : i < j
  pub overlap : Overlaps first second

-- the rule at the first place shadows the one at the second
pub record ShadowAt (rules : List Rule) (i j : ℕ) : Type 0 where
  pub high : Rule
  pub low : Rule
  pub high_at : slice_get rules i ≡ Some high
  pub low_at : slice_get rules j ≡ Some low
  pub shadow : Shadows high low

-- the pair comes before (i, j): by its first number, then by its second
abbrev pub IsBefore : ℕ × ℕ → ℕ → ℕ → Type 0
IsBefore p i j = (p.0 < i) ⊎ ((p.0 ≡ i) × (p.1 < j))

-- the pairs with P, each once, in ascending order
pub record ListsPairs (P : ℕ → ℕ → Type 0) (pairs : List (ℕ × ℕ)) : Type 0 where
  pub all : (i j : ℕ) → Contains pairs (i, j) ↔ P i j
  pub ascending : (k l : ℕ) (d : ℕ × ℕ) → k < l → l < length pairs
      → IsBefore (slice_index_or pairs k d) (slice_index_or pairs l d).0 (slice_index_or pairs l d).1

-- the pair of places has the fault
abbrev pub FaultAt : List Rule → Fault → ℕ → ℕ → Type 0
FaultAt rules Overlap i j = OverlapAt rules i j
FaultAt rules Shadow i j = ShadowAt rules i j
