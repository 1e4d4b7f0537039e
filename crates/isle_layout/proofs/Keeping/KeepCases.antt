-- The texts of some comments, and the lengths of some lists.
use Rattle.std.proofs.Common.{◌≡◌, ℕ, List, [], ◌∷◌, ◌++◌, Some, None, false, refl, codes}
use Rattle.std.specs.Fmt.{char_count}
use Rattle.isle_layout.specs.declared.pieces.Kind.{Kind}
use Rattle.isle_layout.specs.declared.pieces.Break.{Break}
use Rattle.isle_layout.specs.Keeping.Pieces.{Fragment, trimmed_lines}
use Rattle.isle_layout.specs.Keeping.Rows.{list_length, stays, rows_of}
use Rattle.isle_layout.specs.Keeping.OneLine.{opening, closing, list_text}

-- spaces, tabs and carriage returns before a newline go
two_lines : trimmed_lines (codes "(; a \t\r\n   b ;)") ≡ codes "(; a\n   b ;)"
unfolding trimmed_lines
two_lines = refl

-- also behind a mark
nested_lines : trimmed_lines (codes "(; a (; b ;) \r\n c ;)") ≡ codes "(; a (; b ;)\n c ;)"
unfolding trimmed_lines
nested_lines = refl

-- a line of white space is empty
empty_line : trimmed_lines (codes "(;\n \t \n;)") ≡ codes "(;\n\n;)"
unfolding trimmed_lines
empty_line = refl

-- what stands inside of a line stays
one_line : trimmed_lines (codes "(; a\r \tb ;)") ≡ codes "(; a\r \tb ;)"
unfolding trimmed_lines
one_line = refl

abbrev atom : List ℕ → Fragment
atom text = record { kind = Kind.Atom; text = text; before = Break.Line }

abbrev block : List ℕ → Fragment
block text = record { kind = Kind.Block; text = text; before = Break.Blank }

abbrev at_sign : Fragment
at_sign = record { kind = Kind.AtSign; text = codes "@"; before = Break.Same }

abbrev items : List Fragment
items =
    atom (codes "x") ∷ at_sign ∷ opening Break.Line ∷ atom (codes "f") ∷ closing Break.Same ∷ block (codes "(; y ;)") ∷ []

items_text : list_text items ≡ codes "(x @ (f) (; y ;))"
items_text = refl

-- it has seventeen characters
items_at_17 : list_length 17 (rows_of 17 (items ++ closing Break.Line ∷ [])).here ≡ Some 17
unfolding char_count
items_at_17 = refl

items_at_16 : list_length 16 (rows_of 16 (items ++ closing Break.Line ∷ [])).here ≡ None
unfolding char_count
items_at_16 = refl

-- a comment on two lines breaks the list that it stands in, at each width
broken_list : stays 80 (rows_of 80 (atom (codes "x") ∷ block (codes "(; y\n;)") ∷ closing Break.Same ∷ [])).here ≡ false
unfolding char_count
broken_list = refl
