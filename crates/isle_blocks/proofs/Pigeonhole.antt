-- More numbers than places don't go into the places, one each.
use Rattle.std.proofs.Common.{◌≡◌, ◌<◌, ◌⊎◌, inl, inr, ℕ, zero, suc, subst, arith}
use Rattle.std.proofs.lemmas.Bool.{cases_eq}

-- a place other than the last, or the one that the last number has
abbrev Elsewhere : ℕ → ℕ → (ℕ → ℕ → Type 0) → ℕ → ℕ → Type 0
Elsewhere m last R i k = (R i k × (k < m)) ⊎ (R i m × (k ≡ last))

pub too_few_places : (n : ℕ) (R : ℕ → ℕ → Type 0) → ((i : ℕ) → i < suc n → (k : ℕ) × (k < n) × R i k)
    → ((i j k : ℕ) → i < suc n → j < suc n → R i k → R j k → i ≡ j) → ⊥
too_few_places zero R placed one = let (k, l, r) = placed 0 (omega arith) in omega arith
too_few_places (suc m) R placed one =
    let (last, low, at_last) = placed (suc m) (omega arith) in
    too_few_places m (Elsewhere m last R)
    (λ i h. let (k, l, r) = placed i (omega arith) in elim (cases_eq k m) [
      | inl same ↦ elim (cases_eq last m) [
        | inl e ↦
            let both : R (suc m) k = subst (λ (z : ℕ). R (suc m) z) (omega arith) at_last in
            absurd (let x : i ≡ suc m = one i (suc m) k (omega arith) (omega arith) r both in omega arith)
        | inr other ↦ (last, omega arith, inr (subst (λ (z : ℕ). R i z) same r, omega arith))
      ]
      | inr other ↦ (k, omega arith, inl (r, omega arith))
    ])
    (λ i j k hi hj x y. elim x [
      | inl (r, l) ↦ elim y [
        | inl (s, l') ↦ one i j k (omega arith) (omega arith) r s
        | inr (s, e) ↦
            let both : R i last = subst (λ (z : ℕ). R i z) e r in
            absurd (let z : i ≡ suc m = one i (suc m) last (omega arith) (omega arith) both at_last in omega arith)
      ]
      | inr (r, e) ↦ elim y [
        | inl (s, l') ↦
            let both : R j last = subst (λ (z : ℕ). R j z) e s in
            absurd (let z : j ≡ suc m = one j (suc m) last (omega arith) (omega arith) both at_last in omega arith)
        | inr (s, e') ↦ one i j m (omega arith) (omega arith) r s
      ]
    ])
