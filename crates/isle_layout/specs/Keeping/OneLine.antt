-- How lists of pieces stand on one line.
use Rattle.std.specs.Prelude.{◌≡◌, ℕ, List, [], ◌∷◌, ◌++◌, Bool, true, false, not, codes}
use Rattle.isle_layout.specs.declared.pieces.Kind.{Kind}
use Rattle.isle_layout.specs.declared.pieces.Break.{Break}
use Rattle.isle_layout.specs.Keeping.Pieces.{Fragment}
use Rattle.isle_layout.specs.Keeping.Rows.{has_newline}
use Rattle.isle_layout.specs.Keeping.LaidOut.{flat_habit, gap_by, gap_text}

-- a parenthesis that opens a list, behind so many newlines
abbrev pub opening : Break → Fragment
opening before = record { kind = Kind.Opening; text = codes "("; before = before }

-- a parenthesis that closes a list, behind so many newlines
abbrev pub closing : Break → Fragment
closing before = record { kind = Kind.Closing; text = codes ")"; before = before }

-- a parenthesis has that text
abbrev pub HasItsText : Kind → List ℕ → Type 0
HasItsText Kind.Opening text = text ≡ codes "("
HasItsText Kind.Closing text = text ≡ codes ")"
HasItsText Kind.AtSign text = Unit {0}
HasItsText Kind.Atom text = Unit {0}
HasItsText Kind.Line text = Unit {0}
HasItsText Kind.Block text = Unit {0}

-- a piece of this kind is no parenthesis and breaks no list that it stands in
abbrev pub is_item : Kind → List ℕ → Bool
is_item Kind.AtSign text = true
is_item Kind.Atom text = true
is_item Kind.Block text = not (has_newline text)
is_item Kind.Line text = false
is_item Kind.Opening text = false
is_item Kind.Closing text = false

-- what stands between the parentheses of a list, where nothing in it breaks the list: such pieces, and such lists
pub data AreItems : List Fragment → Type 0 where
  none : AreItems []
  item : {piece : Fragment} {others : List Fragment} → is_item piece.kind piece.text ≡ true → AreItems others → AreItems (piece ∷ others)
  list : (before behind : Break) {inner others : List Fragment} → AreItems inner → AreItems others
      → AreItems (opening before ∷ (inner ++ closing behind ∷ others))

-- pieces behind one of this kind, with the gaps of a list on one line
abbrev pub on_one_line : Kind → List Fragment → List ℕ
on_one_line prev [] = []
on_one_line prev (piece ∷ pieces) =
    (gap_text (gap_by (flat_habit prev piece.kind) piece.before) 0 ++ piece.text) ++ on_one_line piece.kind pieces

-- a list of these pieces on one line
abbrev pub list_text : List Fragment → List ℕ
list_text inner = codes "(" ++ on_one_line Kind.Opening (inner ++ closing Break.Same ∷ [])
