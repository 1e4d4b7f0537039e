-- What adds one at each of its calls, up to a greatest number, tells how many there were.
use Rattle.std.proofs.Common.{◌≡◌, ◌+◌, ◌≤◌, ℕ, List, [], ◌∷◌, length, min, ap, arith}
use Rattle.std.specs.List.{FoldsTo}

module _ {A P G : Type 0} (R : P → A → P → Type 0) (count : P → ℕ) (kept : P → G) (most : ℕ) (adds : (p : P) (x : A) (q : P) → R p x q
    → (count q ≡ min (count p + 1) most) × (kept q ≡ kept p)) where
  pub counted : (xs : List A) (p q : P) → count p ≤ most → FoldsTo R p xs q → (count q ≡ min (count p + length xs) most) × (kept q ≡ kept p)
  counted [] p q low calls = (omega (arith, ap count calls), cc)
  counted (x ∷ xs) p q low calls =
      let one = adds p x calls.0 calls.1 in
      let others = counted xs calls.0 q (omega arith) calls.2 in
      (omega arith, cc)
