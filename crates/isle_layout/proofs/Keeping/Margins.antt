-- Margins, and what is left of pieces.
use Rattle.std.proofs.Common.{◌≡◌, ℕ, zero, suc, ◌∷◌, ◌++◌, codes, refl, ap}
use Rattle.isle_layout.specs.Keeping.LaidOut.{margin}

pub margin_more : (n : ℕ) → margin n ++ codes "    " ≡ margin (suc n)
margin_more zero = refl
margin_more (suc n) = ap (λ m. 32 ∷ 32 ∷ 32 ∷ 32 ∷ m) (margin_more n)
