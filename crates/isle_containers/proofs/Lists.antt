-- Items by their places.
use Rattle.std.proofs.Common.{◌≡◌, ℕ, zero, suc, ◌+◌, add-one, ◌<◌, ◌⊎◌, inl, inr, List, [], ◌∷◌, ◌++◌, length, Some, refl, ap, subst, ◌∙◌, arith}
use Rattle.std.proofs.Common.{slice_get, take, drop}
use Rattle.std.proofs.lemmas.List.{take-append-drop, length-take}
use Rattle.std.specs.List.{AllZip}
use Rattle.std.proofs.lemmas.Option.{same_Some, none-some, slice_get_within, get_or_from_slice_get}
use Rattle.std.proofs.Math.Seq.{take-suc}

-- an item keeps its place when more come behind it
pub slice_get-kept : {X : Type 0} (xs ys : List X) (i : ℕ) (x : X) → slice_get xs i ≡ Some x → slice_get (xs ++ ys) i ≡ Some x
slice_get-kept [] ys i x is = absurd (none-some x is)
slice_get-kept (y ∷ xs) ys zero x is = is
slice_get-kept (y ∷ xs) ys (suc i) x is = slice_get-kept xs ys i x is

-- the last item
pub slice_get-last : {X : Type 0} (xs : List X) (x : X) → slice_get (xs ++ x ∷ []) (length xs) ≡ Some x
slice_get-last [] x = refl
slice_get-last (y ∷ xs) x = slice_get-last xs x

-- an item with one more behind it: it was there, or is the last
pub slice_get-pushed : {X : Type 0} (xs : List X) (y : X) (i : ℕ) (x : X) → slice_get (xs ++ y ∷ []) i ≡ Some x → (slice_get xs i ≡ Some x)
    ⊎ ((i ≡ length xs) × (y ≡ x))
slice_get-pushed [] y zero x is = inr (refl, same_Some y x is)
slice_get-pushed [] y (suc i) x is = absurd (none-some x is)
slice_get-pushed (z ∷ xs) y zero x is = inl is
slice_get-pushed (z ∷ xs) y (suc i) x is =
    elim (slice_get-pushed xs y i x is) [
      | inl before ↦ inl before
      | inr last ↦ inr (ap suc last.0, last.1)
    ]

-- a relation of the items of two lists, and a weaker one
pub AllZip-weaker : {A B : Type 0} (R S : A → B → Type 0) → ((x : A) (y : B) → R x y → S x y) → (xs : List A) (ys : List B) → AllZip R xs ys
    → AllZip S xs ys
AllZip-weaker R S weaker [] [] each = tt
AllZip-weaker R S weaker [] (y ∷ ys) each = absurd each
AllZip-weaker R S weaker (x ∷ xs) [] each = absurd each
AllZip-weaker R S weaker (x ∷ xs) (y ∷ ys) each = (weaker x y each.0, AllZip-weaker R S weaker xs ys each.1)

-- an item of a beginning has its place in the whole
pub from_take : {X : Type 0} (xs : List X) (n i : ℕ) (x : X) → slice_get (take n xs) i ≡ Some x → slice_get xs i ≡ Some x
from_take xs n i x at =
    subst (λ ys. slice_get ys i ≡ Some x) (take-append-drop n xs) (slice_get-kept (take n xs) (drop n xs) i x at)

-- and its place is below the beginning's end
pub within-take : {X : Type 0} (xs : List X) (n i : ℕ) (x : X) → slice_get (take n xs) i ≡ Some x → i < n
within-take xs n i x at =
    let within = slice_get_within (take n xs) i x at in omega (arith, within, length-take n xs)

-- a beginning, and one more
pub taken_more : {X : Type 0} (xs : List X) (place : ℕ) (x : X) → slice_get xs place ≡ Some x → take (place + 1) xs ≡ take place xs ++ x ∷ []
taken_more xs place x at =
    ap (λ n. take n xs) (add-one place) ∙ take-suc xs place x (slice_get_within xs place x at)
    ∙ ap (λ y. take place xs ++ y ∷ []) (get_or_from_slice_get xs place x x at)
