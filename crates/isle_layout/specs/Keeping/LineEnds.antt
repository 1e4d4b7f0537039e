-- White space at the ends of lines, newlines in a row, and the newline at the end.
use Rattle.std.specs.Prelude.{◌≡◌, ℕ, ◌+◌, List, [], ◌∷◌, ◌++◌, Bool, true, false, cond, ◌&&◌, ◌==◌, nat_lt, not}
use Rattle.isle_layout.specs.declared.pieces.Kind.{Kind}
use Rattle.isle_syntax.specs.Tokens.Names.{is_space}
use Rattle.isle_layout.specs.Keeping.Pieces.{Fragment}

-- no white space is at a line's end, nor at the end of the text; the first says whether some stands before
abbrev pub ends_clean : Bool → List ℕ → Bool
ends_clean spaced [] = not spaced
ends_clean spaced (b ∷ bs) = not (spaced && b == 10) && ends_clean (is_space b && not (b == 10)) bs

-- a comment between `(;` and `;)`
abbrev pub is_block : Kind → Bool
is_block Kind.Block = true
is_block Kind.Opening = false
is_block Kind.Closing = false
is_block Kind.AtSign = false
is_block Kind.Atom = false
is_block Kind.Line = false

-- at most one blank line stands between others, and at most one newline at the end; the number is of the newlines directly before
abbrev pub is_spaced : ℕ → List ℕ → Bool
is_spaced newlines [] = nat_lt newlines 2
is_spaced newlines (b ∷ bs) = cond (b == 10) (nat_lt newlines 2 && is_spaced (newlines + 1) bs) (is_spaced 0 bs)

-- no comment between `(;` and `;)` has two blank lines in a row
abbrev pub HaveSpacedBlocks : List Fragment → Type 0
HaveSpacedBlocks [] = Unit {0}
HaveSpacedBlocks (p ∷ ps) = (is_block p.kind ≡ true → is_spaced 0 (p.text ++ 10 ∷ []) ≡ true) × HaveSpacedBlocks ps

-- a newline is the last of some bytes
abbrev pub EndsInNewline : List ℕ → Type 0
EndsInNewline bytes = (front : List ℕ) × (bytes ≡ front ++ 10 ∷ [])

-- a newline is the last of some bytes, and no other stands directly before it
abbrev pub EndsInOneNewline : List ℕ → Type 0
EndsInOneNewline bytes = (front : List ℕ) × (bytes ≡ front ++ 10 ∷ []) × ¬ (EndsInNewline front)

-- the layout of these pieces ends in one newline, and is empty where there are none
abbrev pub IsEnded : List Fragment → List ℕ → Type 0
IsEnded [] out = out ≡ []
IsEnded (piece ∷ pieces) out = EndsInOneNewline out
