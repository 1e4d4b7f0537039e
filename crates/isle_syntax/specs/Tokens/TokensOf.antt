-- The tokens of a text.
use Rattle.std.specs.Prelude.{◌≡◌, ◌<◌, ℕ, ◌-◌, List, [], ◌∷◌, length, Bool, true, false, not, Some}
use Rattle.isle_syntax.specs.declared.gap.Lead.{Lead}
use Rattle.isle_ast.specs.declared.pos.Pos.{Pos}
use Rattle.isle_syntax.specs.declared.lexer.Token.{Token}
use Rattle.isle_syntax.specs.declared.lexer.Token.TheVariants.{LParen, RParen, At, Symbol}
use Rattle.isle_syntax.specs.Tokens.Names.{ends_symbol}
use Rattle.isle_syntax.specs.Tokens.PlacedTokens.{Placed, placed_at}
use Rattle.isle_syntax.specs.Tokens.RemainingTokens.{Source}
use Rattle.isle_syntax.specs.Tokens.Gaps.{lead_of, after_first, run_of, after_run, IsGap}
use Rattle.isle_syntax.specs.Tokens.Integers.{integer_of, after_integer}

-- a byte that goes on with a symbol
abbrev pub continues_symbol : ℕ → Bool
continues_symbol b = not (ends_symbol b)

-- the longest token at the front of a text, and what follows it
pub data IsToken : List ℕ → Token → List ℕ → Type 0 where
  opening : {text : List ℕ} → lead_of text ≡ Lead.Opening → IsToken text LParen (after_first text)
  closing : {text : List ℕ} → lead_of text ≡ Lead.Closing → IsToken text RParen (after_first text)
  at_sign : {text : List ℕ} → lead_of text ≡ Lead.AtSign → IsToken text At (after_first text)
  integer : {text : List ℕ} {token : Token} → lead_of text ≡ Lead.Number → integer_of text ≡ Some token → IsToken text token (after_integer text)
  word : {text : List ℕ} → lead_of text ≡ Lead.Word → IsToken text (Symbol (run_of continues_symbol text)) (after_run continues_symbol text)

-- where a rest of a text begins
abbrev pub pos_of_rest : Source → List ℕ → Pos
pos_of_rest source rest = record { file = source.file; offset = source.size - length rest }

-- the tokens of a rest of a text, the offset at which they end, and whether the text ends there; else no token begins there
pub data TokensOf (source : Source) : List ℕ → List Placed → ℕ → Bool → Type 0 where
  ended : {text : List ℕ} → IsGap text [] → TokensOf source text [] source.size true
  stopped : {text rest : List ℕ} → IsGap text rest → 0 < length rest → ((token : Token) (more : List ℕ) → ¬ (IsToken rest token more))
      → TokensOf source text [] (source.size - length rest) false
  token : {text rest more : List ℕ} {t : Token} {left : List Placed} {end : ℕ} {clean : Bool} → IsGap text rest → IsToken rest t more
      → TokensOf source more left end clean → TokensOf source text (placed_at (pos_of_rest source rest) t ∷ left) end clean
