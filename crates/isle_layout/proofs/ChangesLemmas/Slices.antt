-- A slice from an index on.
use Rattle.std.proofs.Common.{◌≡◌, ℕ, ◌-◌, List, length, take, drop, ap, sym, ◌∙◌, length-drop}
use Rattle.std.proofs.Math.Seq.{take-length}

-- a slice from an index on has all that follows
pub from_on : {A : Type 0} (xs : List A) (i : ℕ) → take (length xs - i) (drop i xs) ≡ drop i xs
from_on xs i = ap (λ n. take n (drop i xs)) (sym (length-drop i xs)) ∙ take-length (drop i xs)
