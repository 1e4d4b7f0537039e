-- The pieces of a text: its tokens as they are written, and its comments without the white space at their lines' ends.
use Rattle.std.specs.Prelude.{ℕ, zero, suc, ◌-◌, List, [], ◌∷◌, length, take, Bool, true, false, cond, ◌&&◌, ◌==◌, not, Option, Some, None}
use Rattle.isle_syntax.specs.declared.gap.Lead.{Lead}
use Rattle.isle_layout.specs.declared.pieces.Kind.{Kind}
use Rattle.isle_layout.specs.declared.pieces.Break.{Break}
use Rattle.isle_layout.specs.declared.pieces.Piece.{Piece}
use Rattle.isle_syntax.specs.Tokens.Names.{is_space}
use Rattle.isle_syntax.specs.Tokens.Gaps.{lead_of, after_first, after_run, in_line}
use Rattle.isle_syntax.specs.Tokens.Integers.{after_integer}
use Rattle.isle_syntax.specs.Tokens.TokensOf.{continues_symbol}
use Rattle.isle_syntax.specs.Tokens.Finding.{after_comment}

-- a piece as contracts see it: what it is, its text, and the newlines before it
pub record Fragment : Type 0 where
  pub kind : Kind
  pub text : List ℕ
  pub before : Break

-- one newline more
abbrev pub one_more : Break → Break
one_more Break.Same = Break.Line
one_more Break.Line = Break.Blank
one_more Break.Blank = Break.Blank

-- one byte of white space more
abbrev pub break_with : Break → ℕ → Break
break_with before b = cond (b == 10) (one_more before) before

-- what a `(;` begins: a comment where it is closed, else it is a parenthesis
abbrev pub kind_of_comment : Option (List ℕ) → Kind
kind_of_comment None = Kind.Opening
kind_of_comment (Some rest) = Kind.Block

-- what a piece is, by what its text begins with
abbrev pub kind_by : Lead → List ℕ → Kind
kind_by Lead.Opening text = Kind.Opening
kind_by Lead.Closing text = Kind.Closing
kind_by Lead.AtSign text = Kind.AtSign
kind_by Lead.Number text = Kind.Atom
kind_by Lead.Word text = Kind.Atom
kind_by Lead.Line text = Kind.Line
kind_by Lead.Comment text = kind_of_comment (after_comment 0 (after_first (after_first text)))
kind_by Lead.Space text = Kind.Atom
kind_by Lead.End text = Kind.Atom

-- what the piece at the front of a text is
abbrev pub kind_at : List ℕ → Kind
kind_at text = kind_by (lead_of text) text

-- what follows a `(;`: what follows the comment, or the `(`
abbrev pub behind_comment : List ℕ → Option (List ℕ) → List ℕ
behind_comment text None = after_first text
behind_comment text (Some rest) = rest

-- what follows the piece at the front of a text, by what the text begins with
abbrev pub after_by : Lead → List ℕ → List ℕ
after_by Lead.Opening text = after_first text
after_by Lead.Closing text = after_first text
after_by Lead.AtSign text = after_first text
after_by Lead.Number text = after_integer text
after_by Lead.Word text = after_run continues_symbol text
after_by Lead.Line text = after_run in_line text
after_by Lead.Comment text = behind_comment text (after_comment 0 (after_first (after_first text)))
after_by Lead.Space text = []
after_by Lead.End text = []

-- what follows the piece at the front of a text
abbrev pub after_piece : List ℕ → List ℕ
after_piece text = after_by (lead_of text) text

-- what stands in a text before a rest of it
abbrev pub before_rest : List ℕ → List ℕ → List ℕ
before_rest text rest = take (length text - length rest) text

-- whether there are no bytes
abbrev pub is_nothing : List ℕ → Bool
is_nothing [] = true
is_nothing (b ∷ bs) = false

-- bytes without the white space at their end
unfoldable pub trimmed : List ℕ → List ℕ
trimmed [] = []
trimmed (b ∷ bs) = cond (is_space b && is_nothing (trimmed bs)) [] (b ∷ trimmed bs)

-- white space that is no newline
abbrev pub is_blank : ℕ → Bool
is_blank b = is_space b && not (b == 10)

-- whether a newline begins a text
abbrev pub begins_newline : List ℕ → Bool
begins_newline [] = false
begins_newline (b ∷ bs) = b == 10

-- a byte before a text, but for white space directly before a newline
abbrev pub trimmed_before : ℕ → List ℕ → List ℕ
trimmed_before b text = cond (is_blank b && begins_newline text) text (b ∷ text)

-- a text without the white space directly before its newlines
unfoldable pub trimmed_lines : List ℕ → List ℕ
trimmed_lines [] = []
trimmed_lines (b ∷ bs) = trimmed_before b (trimmed_lines bs)

-- a piece's text, of what is written up to what follows it: comments are without the white space at their lines' ends
abbrev pub text_by : Kind → List ℕ → List ℕ
text_by Kind.Line written = trimmed written
text_by Kind.Opening written = written
text_by Kind.Closing written = written
text_by Kind.AtSign written = written
text_by Kind.Atom written = written
text_by Kind.Block written = trimmed_lines written

-- a piece of the program
abbrev pub piece_of : Piece → Fragment
piece_of p = record { kind = p.kind; text = text_by p.kind p.text.now; before = p.before }

-- a piece at the front of a text, and what follows it
pub record Cut : Type 0 where
  pub kind : Kind
  pub text : List ℕ
  pub rest : List ℕ

-- the piece at the front of a text
abbrev pub cut_of : List ℕ → Cut
cut_of text = record { kind = kind_at text; text = text_by (kind_at text) (before_rest text (after_piece text)); rest = after_piece text }

-- a piece that is cut from a text, behind so many newlines
abbrev pub piece_cut : Break → Cut → Fragment
piece_cut before cut = record { kind = cut.kind; text = cut.text; before = before }

-- the pieces of a rest of a text behind so many newlines, by turns; the number bounds them, and the bytes are always enough
unfoldable pub pieces_from : ℕ → Break → List ℕ → List Fragment
pieces_from zero before text = []
pieces_from (suc n) before [] = []
pieces_from (suc n) before (b ∷ bs) =
    cond (is_space b) (pieces_from n (break_with before b) bs)
    (piece_cut before (cut_of (b ∷ bs)) ∷ pieces_from n Break.Same (cut_of (b ∷ bs)).rest)

-- the pieces of a rest of a text behind so many newlines
abbrev pub pieces_in : Break → List ℕ → List Fragment
pieces_in before text = pieces_from (length text) before text

-- the pieces of a text
abbrev pub pieces_of : List ℕ → List Fragment
pieces_of text = pieces_in Break.Same text
