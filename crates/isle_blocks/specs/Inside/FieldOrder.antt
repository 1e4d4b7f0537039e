-- In which order the fields that a rule's demands open are numbered.
use Rattle.std.specs.Prelude.{◌≡◌, ◌≤◌, ℕ, List, Option, Some, length, slice_get}
use Rattle.isle_blocks.specs.declared.binding.Binding.{Binding}
use Rattle.isle_blocks.specs.Inside.ClosureFields.{field_binding}
use Rattle.isle_blocks.specs.Closure.{ComesBefore, AreInOrder}

-- the number stands for a field of a site
abbrev pub IsFieldAt : List Binding → ℕ → ℕ → ℕ → Type 0
IsFieldAt table k site index = (kind : Option ℕ) × (slice_get table k ≡ Some (field_binding kind site index))

-- the sites behind the first ones are fields in order
abbrev pub AreFieldsInOrder : ℕ → List Binding → Type 0
AreFieldsInOrder first table = AreInOrder (IsFieldAt table) first (length table)

-- and all of them come before a field
pub record AreFieldsBefore (first : ℕ) (table : List Binding) (site index : ℕ) : Type 0 where
  pub ordered : AreFieldsInOrder first table
  pub before : (k other next : ℕ) → first ≤ k → IsFieldAt table k other next → ComesBefore other next site index
