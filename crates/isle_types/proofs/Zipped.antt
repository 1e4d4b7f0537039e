-- Lists whose items are related in pairs, by their places.
use Rattle.std.proofs.Common.{◌≡◌, ℕ, zero, suc, List, [], ◌∷◌, map, Some, refl, ap, subst, ◌∙◌, arith, slice_get}
use Rattle.std.specs.List.{All, AllZip, AllByRecursion}
use Rattle.std.proofs.lemmas.Option.{same_Some, none-some}
use Rattle.std.proofs.lemmas.List.Elements.{All-head, All-tail}
use Rattle.isle_types.specs.Names.{AreDistinct, IsDuplicate}

-- what an item at a place is related to
pub zipped_at : {A B : Type 0} (R : A → B → Type 0) (xs : List A) (ys : List B) → AllZip R xs ys → (i : ℕ) (x : A) → slice_get xs i ≡ Some x
    → (y : B) × (slice_get ys i ≡ Some y) × R x y
zipped_at R [] ys each i x is = absurd (none-some x is)
zipped_at R (first ∷ xs) [] each i x is = absurd each
zipped_at R (first ∷ xs) (y ∷ ys) each zero x is = (y, refl, subst (λ z. R z y) (same_Some first x is) each.0)
zipped_at R (first ∷ xs) (y ∷ ys) each (suc i) x is = zipped_at R xs ys each.1 i x is

-- what is equal of each pair makes equal lists
pub zipped_same : {A B X : Type 0} (R : A → B → Type 0) (f : A → X) (g : B → X) → ((x : A) (y : B) → R x y → g y ≡ f x)
    → (xs : List A) (ys : List B) → AllZip R xs ys → map g ys ≡ map f xs
zipped_same R f g same [] [] each = refl
zipped_same R f g same [] (y ∷ ys) each = absurd each
zipped_same R f g same (x ∷ xs) [] each = absurd each
zipped_same R f g same (x ∷ xs) (y ∷ ys) each =
    ap (λ z. z ∷ map g ys) (same x y each.0) ∙ ap (λ zs. f x ∷ zs) (zipped_same R f g same xs ys each.1)

-- the item that a mapped one comes from
pub mapped_at : {A X : Type 0} (f : A → X) (xs : List A) (i : ℕ) (z : X) → slice_get (map f xs) i ≡ Some z → (x : A) × (slice_get xs i ≡ Some x)
    × (f x ≡ z)
mapped_at f [] i z is = absurd (none-some z is)
mapped_at f (x ∷ xs) zero z is = (x, refl, same_Some (f x) z is)
mapped_at f (x ∷ xs) (suc i) z is = mapped_at f xs i z is

-- what is true of each item is true of one at a place
pub each_at : {A : Type 0} (P : A → Type 0) (xs : List A) → AllByRecursion P xs → (i : ℕ) (x : A) → slice_get xs i ≡ Some x → P x
each_at P [] each i x is = absurd (none-some x is)
each_at P (first ∷ xs) each zero x is = subst P (same_Some first x is) each.0
each_at P (first ∷ xs) each (suc i) x is = each_at P xs each.1 i x is

pub all_at : {A : Type 0} (P : A → Type 0) (xs : List A) → All P xs → (i : ℕ) (x : A) → slice_get xs i ≡ Some x → P x
all_at P [] each i x is = absurd (none-some x is)
all_at P (first ∷ xs) each zero x is = subst P (same_Some first x is) (All-head P first xs each)
all_at P (first ∷ xs) each (suc i) x is = all_at P xs (All-tail P first xs each) i x is

-- where items stand once, none is a twin
pub no_duplicate : {A : Type 0} (xs : List A) → AreDistinct xs → (later : ℕ) → IsDuplicate xs later → ⊥
no_duplicate xs once later duplicate =
    let same : duplicate.earlier ≡ later = once duplicate.item duplicate.earlier later duplicate.first duplicate.second in
    omega (arith, same, duplicate.before)
