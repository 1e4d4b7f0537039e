-- What stands in a list after a write.
use Rattle.std.proofs.Common.{◌≡◌, ◌⊎◌, inl, inr, ℕ, zero, suc, List}
use Rattle.std.proofs.Common.{[], ◌∷◌, set, Some, refl, ap}
use Rattle.std.specs.Prelude.{slice_get}
use Rattle.std.proofs.lemmas.Option.{same_Some}

-- what stands at a place after a write
pub set_cases : {X : Type 0} (xs : List X) (at place : ℕ) (new x : X) → slice_get (set xs at new) place ≡ Some x
    → ((at ≡ place) × (new ≡ x)) ⊎ (slice_get xs place ≡ Some x)
set_cases [] at place new x is = inr is
set_cases (y ∷ ys) zero zero new x is = inl (refl, same_Some new x is)
set_cases (y ∷ ys) zero (suc place) new x is = inr is
set_cases (y ∷ ys) (suc at) zero new x is = inr is
set_cases (y ∷ ys) (suc at) (suc place) new x is =
    elim (set_cases ys at place new x is) [ inl here ↦ inl (ap suc here.0, here.1) | inr there ↦ inr there ]

-- what stood at a place stands there after a write, or what was written does
pub set_keeps : {X : Type 0} (xs : List X) (at place : ℕ) (new x : X) → slice_get xs place ≡ Some x
    → (slice_get (set xs at new) place ≡ Some x) ⊎ ((at ≡ place) × (slice_get (set xs at new) place ≡ Some new))
set_keeps [] at place new x is = inl is
set_keeps (y ∷ ys) zero zero new x is = inr (refl, refl)
set_keeps (y ∷ ys) zero (suc place) new x is = inl is
set_keeps (y ∷ ys) (suc at) zero new x is = inl is
set_keeps (y ∷ ys) (suc at) (suc place) new x is =
    elim (set_keeps ys at place new x is) [ inl same ↦ inl same | inr here ↦ inr (ap suc here.0, here.1) ]

-- what was written stands at its place
pub set_here : {X : Type 0} (xs : List X) (place : ℕ) (new x : X) → slice_get xs place ≡ Some x → slice_get (set xs place new) place ≡ Some new
set_here [] place new x is = absurd (cc)
set_here (y ∷ ys) zero new x is = refl
set_here (y ∷ ys) (suc place) new x is = set_here ys place new x is
