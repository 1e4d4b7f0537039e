-- What the first byte of a text tells.
use Rattle.std.proofs.Common.{◌≡◌, ℕ, ◌≤◌, List, ◌∷◌, arith}
use Rattle.std.proofs.lemmas.Bool.Decides.{nat_tests}
use Rattle.isle_syntax.specs.declared.gap.Lead.{Lead}
use Rattle.isle_syntax.specs.Tokens.Gaps.{lead_of}

-- a byte past ASCII begins a symbol
pub lead_past_ascii : (b : ℕ) (bs : List ℕ) → 128 ≤ b → lead_of (b ∷ bs) ≡ Lead.Word
lead_past_ascii b bs h = grind (arith, nat_tests)
