-- The tokens of a text of its own, as a query, a value or a world is.
use Rattle.std.specs.Prelude.{◌≡◌, ℕ, List, map, true, false, length}
use Rattle.isle_syntax.specs.declared.lexer.Token.{Token}
use Rattle.isle_syntax.specs.declared.lexer.Token.TheVariants.{LParen, RParen, At, Symbol, Int, Big}
use Rattle.isle_syntax.specs.Tokens.PlacedTokens.{Placed, opening, closing, at_sign, symbol, int, small, large}
use Rattle.isle_syntax.specs.Tokens.RemainingTokens.{Source}
use Rattle.isle_syntax.specs.Tokens.TokensOf.{TokensOf}

-- a token, wherever it stands
abbrev pub bare : Placed → Token
bare (opening p) = LParen
bare (closing p) = RParen
bare (at_sign p) = At
bare (symbol p s) = Symbol s
bare (int p (small n)) = Int n
bare (int p (large n)) = Big n

-- the only text there is
abbrev pub alone : List ℕ → Source
alone text = record { file = 0; size = length text }

-- a text has these tokens, up to its end
abbrev pub AreTokensOf : List ℕ → List Token → Type 0
AreTokensOf text tokens = (placed : List Placed) × (end : ℕ) × TokensOf (alone text) text placed end true × (tokens ≡ map bare placed)

-- behind some tokens of a text none begins, and it doesn't end
abbrev pub HasTokenFault : List ℕ → Type 0
HasTokenFault text = (placed : List Placed) × (end : ℕ) × TokensOf (alone text) text placed end false
