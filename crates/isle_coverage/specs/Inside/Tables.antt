-- Tests at their numbers.
use Rattle.std.specs.Prelude.{◌≡◌, ℕ, List, All, Some, slice_get}
use Rattle.isle_blocks.specs.declared.constraint.Constraint.{Constraint}
use Rattle.isle_coverage.specs.Inside.Tests.{plain_test}

-- each of the tests is told by the values that pass it
abbrev pub ArePlain : List Constraint → Type 0
ArePlain table = All (λ (c : Constraint). plain_test c ≡ c) table

-- a test has this number
abbrev pub HasNumber : List Constraint → Constraint → ℕ → Type 0
HasNumber table c t = slice_get table t ≡ Some (plain_test c)

-- each test has the number that it had
abbrev pub KeepsNumbers : List Constraint → List Constraint → Type 0
KeepsNumbers old new = (t : ℕ) (c : Constraint) → slice_get old t ≡ Some c → slice_get new t ≡ Some c
