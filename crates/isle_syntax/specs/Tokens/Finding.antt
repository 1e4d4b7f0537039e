-- The tokens of a text as they are found, one after another.
use Rattle.std.specs.Prelude.{ℕ, zero, suc, ◌+◌, ◌-◌, List, [], ◌∷◌, length, Bool, true, false, Option, Some, None}
use Rattle.isle_syntax.specs.declared.gap.Lead.{Lead}
use Rattle.isle_syntax.specs.declared.gap.Mark.{Mark}
use Rattle.isle_ast.specs.declared.pos.Pos.{Pos}
use Rattle.isle_syntax.specs.declared.lexer.Token.{Token}
use Rattle.isle_syntax.specs.declared.lexer.Token.TheVariants.{LParen, RParen, At, Symbol}
use Rattle.isle_syntax.specs.Tokens.PlacedTokens.{Placed, placed_at}
use Rattle.isle_syntax.specs.Tokens.RemainingTokens.{Source}
use Rattle.isle_syntax.specs.Tokens.Gaps.{lead_of, after_first, after_run, run_of, in_line, mark_of}
use Rattle.isle_syntax.specs.Tokens.Integers.{integer_of, after_integer}
use Rattle.isle_syntax.specs.Tokens.TokensOf.{continues_symbol, pos_of_rest}

-- of what follows two bytes: behind the last `;)`, open once less, once more, or as often as before
abbrev pub comment_turn : Mark → ℕ → Option (List ℕ) → Option (List ℕ) → Option (List ℕ) → Option (List ℕ) → Option (List ℕ)
comment_turn Mark.Closes zero last less more same = last
comment_turn Mark.Closes (suc n) last less more same = less
comment_turn Mark.Opens n last less more same = more
comment_turn Mark.Neither n last less more same = same

-- what follows the comment that is open n + 1 times
unfoldable pub after_comment : ℕ → List ℕ → Option (List ℕ)
after_comment n [] = None
after_comment n (b ∷ []) = None
after_comment n (b ∷ c ∷ bs) = comment_turn (mark_of b c) n (Some bs) (after_comment (n - 1) bs) (after_comment (n + 1) bs) (after_comment n (c ∷ bs))

-- a comment that isn't closed is where the gap ends
abbrev pub after_inside : List ℕ → (List ℕ → List ℕ) → Option (List ℕ) → List ℕ
after_inside text more None = text
after_inside text more (Some rest) = more rest

-- one step over a gap, by what the text begins with
abbrev pub gap_turn : (List ℕ → List ℕ) → Lead → List ℕ → List ℕ
gap_turn more Lead.Space text = more (after_first text)
gap_turn more Lead.Line text = more (after_run in_line (after_first text))
gap_turn more Lead.Comment text = after_inside text more (after_comment 0 (after_first (after_first text)))
gap_turn more Lead.End text = text
gap_turn more Lead.Opening text = text
gap_turn more Lead.Closing text = text
gap_turn more Lead.AtSign text = text
gap_turn more Lead.Number text = text
gap_turn more Lead.Word text = text

-- what follows the gap at the front of a text, by turns; the number bounds them, and one more than the bytes is always enough
unfoldable pub gap : ℕ → List ℕ → List ℕ
gap zero text = text
gap (suc n) text = gap_turn (gap n) (lead_of text) text

-- what follows the gap at the front of a text
abbrev pub gap_of : List ℕ → List ℕ
gap_of text = gap (suc (length text)) text

-- what stands behind a gap: the end, no token, or a token and what follows it
pub data Next : Type 0 where
  nothing : Next
  fault : Next
  found : Token → List ℕ → Next

-- an integer, unless none is spelt
abbrev pub next_integer : Option Token → List ℕ → Next
next_integer None more = fault
next_integer (Some token) more = found token more

-- what stands at the front, by what the text begins with
abbrev pub next_by : Lead → List ℕ → Next
next_by Lead.End text = nothing
next_by Lead.Space text = fault
next_by Lead.Line text = fault
next_by Lead.Comment text = fault
next_by Lead.Opening text = found LParen (after_first text)
next_by Lead.Closing text = found RParen (after_first text)
next_by Lead.AtSign text = found At (after_first text)
next_by Lead.Number text = next_integer (integer_of text) (after_integer text)
next_by Lead.Word text = found (Symbol (run_of continues_symbol text)) (after_run continues_symbol text)

-- what stands at the front of a text
abbrev pub next_of : List ℕ → Next
next_of text = next_by (lead_of text) text

-- the tokens of a text, where they end, and whether the text ends there
pub record Reading : Type 0 where
  pub left : List Placed
  pub end : ℕ
  pub clean : Bool

-- a token, and those behind it
abbrev pub reading_before : Pos → Token → Reading → Reading
reading_before pos token more = record { left = placed_at pos token ∷ more.left; end = more.end; clean = more.clean }

-- the tokens of a text, by what stands behind its gap
abbrev pub reading_by : Source → (List ℕ → Reading) → List ℕ → Next → Reading
reading_by source more rest nothing = record { left = []; end = source.size - length rest; clean = true }
reading_by source more rest fault = record { left = []; end = source.size - length rest; clean = false }
reading_by source more rest (found token behind) = reading_before (pos_of_rest source rest) token (more behind)

-- the tokens of a rest of a text, by turns; the number bounds them, and one more than the bytes is always enough
unfoldable pub read : ℕ → Source → List ℕ → Reading
read zero source text = record { left = []; end = 0; clean = false }
read (suc n) source text = reading_by source (read n source) (gap_of text) (next_of (gap_of text))

-- the tokens of a rest of a text
abbrev pub reading : Source → List ℕ → Reading
reading source text = read (suc (length text)) source text
