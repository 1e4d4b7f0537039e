-- What comes after an outcome.
use Rattle.std.proofs.Common.{◌≡◌, ◌⊎◌, inl, inr, ℕ, zero, suc, List, [], ◌∷◌, ◌++◌, length, slice_get, Some, refl, ap}
use Rattle.isle_meaning.specs.Values.{Value}
use Rattle.isle_meaning.specs.Worlds.{Event}
use Rattle.isle_meaning.specs.Outcomes.{Outcome, given, missing, ended, After, Then}

-- where what comes after gives something, there was a value
pub after_given : {A B : Type 0} (g : Outcome A) (next : A → Outcome B → Type 0) (y : B) → After g next (given y)
    → (x : A) × (g ≡ given x) × next x (given y)
after_given (given x) next y h = (x, refl, h)
after_given missing next y h = absurd cc
after_given (ended e) next y h = absurd cc

-- the same, where effects are made
pub then_given : {A : Type 0} (g : Outcome A) (next : A → List Event → Outcome Value → Type 0) (trace : List Event) (y : Value)
    → Then g next trace (given y) → (x : A) × (g ≡ given x) × next x trace (given y)
then_given (given x) next trace y h = (x, refl, h)
then_given missing next trace y h = let e = h.1 in absurd cc
then_given (ended e) next trace y h = let q = h.1 in absurd cc

-- one more is one longer
pub one_longer : {A : Type 0} (xs : List A) (y : A) → length (xs ++ y ∷ []) ≡ suc (length xs)
one_longer [] y = refl
one_longer (x ∷ xs) y = ap suc (one_longer xs y)

-- with one more at the end, what stands at a place stood there, or is that one
pub at_end : {A : Type 0} (xs : List A) (y : A) (i : ℕ) (x : A) → slice_get (xs ++ y ∷ []) i ≡ Some x
    → (slice_get xs i ≡ Some x) ⊎ ((i ≡ length xs) × (y ≡ x))
at_end [] y zero x e = inr (refl, cc)
at_end [] y (suc i) x e = absurd cc
at_end (z ∷ zs) y zero x e = inl e
at_end (z ∷ zs) y (suc i) x e = elim (at_end zs y i x e) [ inl h ↦ inl h | inr h ↦ inr (ap suc (h.0), h.1) ]
