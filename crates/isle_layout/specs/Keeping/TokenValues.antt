-- The tokens of a text, wherever they stand in it.
use Rattle.std.specs.Prelude.{ℕ, List, [], ◌∷◌}
use Rattle.isle_syntax.specs.declared.lexer.Token.{Token}
use Rattle.isle_syntax.specs.Tokens.Gaps.{IsGap}
use Rattle.isle_syntax.specs.Tokens.TokensOf.{IsToken}

-- a text has these tokens up to its end, with gaps before, between and behind them
pub data HasTokens : List ℕ → List Token → Type 0 where
  ended : {text : List ℕ} → IsGap text [] → HasTokens text []
  token : {text rest more : List ℕ} {t : Token} {left : List Token} → IsGap text rest → IsToken rest t more → HasTokens more left
      → HasTokens text (t ∷ left)
