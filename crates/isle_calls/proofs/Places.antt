-- What stands at places of lists.
use Rattle.std.proofs.Common.{◌≡◌, ◌<◌, ℕ, zero, suc, List, [], ◌∷◌, Some, length, get_or, slice_get, sym, ap, arith}

-- what stands at a place
pub item_there : {A : Type 0} (xs : List A) (i : ℕ) (x : A) → i < length xs → x ≡ get_or xs i x → slice_get xs i ≡ Some x
item_there [] i x within is = absurd (omega (arith, within))
item_there (y ∷ ys) zero x within is = ap Some (sym is)
item_there (y ∷ ys) (suc i) x within is = item_there ys i x (omega (arith, within)) is
