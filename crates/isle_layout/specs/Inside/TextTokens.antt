-- Tokens as they stand in texts.
use Rattle.std.specs.Prelude.{◌≡◌, ◌^◌, ◌≤◌, ◌<◌, List, [], ◌∷◌, true}
use Rattle.isle_syntax.specs.Tokens.Names.{is_symbol}
use Rattle.isle_layout.specs.Writable.{fits_i128}
use Rattle.isle_syntax.specs.Tokens.PlacedTokens.{Literal, small, large, Placed, opening, closing, at_sign, symbol, int}

-- an integer is one of an `i128`, or from 2^127 to 2^128 - 1
abbrev pub IsTextLiteral : Literal → Type 0
IsTextLiteral (small z) = fits_i128 z ≡ true
IsTextLiteral (large n) = (2 ^ 127 ≤ n) × (n < 2 ^ 128)

-- a symbol is one
abbrev pub IsTextToken : Placed → Type 0
IsTextToken (opening p) = Unit {0}
IsTextToken (closing p) = Unit {0}
IsTextToken (at_sign p) = Unit {0}
IsTextToken (symbol p s) = is_symbol s ≡ true
IsTextToken (int p n) = IsTextLiteral n

abbrev pub AreTextTokens : List Placed → Type 0
AreTextTokens [] = Unit {0}
AreTextTokens (t ∷ ts) = IsTextToken t × AreTextTokens ts
