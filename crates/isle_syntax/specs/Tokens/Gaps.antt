-- What stands at the front of a text: white space, a comment, or a token of some kind.
use Rattle.std.specs.Prelude.{◌≡◌, ℕ, List, [], ◌∷◌, Bool, false, cond, ◌&&◌, ◌||◌, ◌==◌, not}
use Rattle.isle_syntax.specs.Tokens.Names.{is_space, is_digit}
use Rattle.isle_syntax.specs.declared.gap.Lead.{Lead}
use Rattle.isle_syntax.specs.declared.gap.Mark.{Mark}

-- a text without its first byte
abbrev pub after_first : List ℕ → List ℕ
after_first [] = []
after_first (b ∷ bs) = bs

-- whether a text begins with `;`
abbrev pub begins_semicolon : List ℕ → Bool
begins_semicolon [] = false
begins_semicolon (b ∷ bs) = b == 59

-- `(;` begins a comment, and any other `(` is a token
abbrev pub lead_of_parenthesis : List ℕ → Lead
lead_of_parenthesis bs = cond (begins_semicolon bs) Lead.Comment Lead.Opening

-- what a first byte that is no white space and begins no comment begins: a token of one byte, an integer or a symbol
abbrev pub lead_of_token : ℕ → Lead
lead_of_token b = cond (b == 41) Lead.Closing (cond (b == 64) Lead.AtSign (cond (b == 45 || is_digit b) Lead.Number Lead.Word))

-- what a text begins with
abbrev pub lead_of : List ℕ → Lead
lead_of [] = Lead.End
lead_of (b ∷ bs) = cond (is_space b) Lead.Space (cond (b == 59) Lead.Line (cond (b == 40) (lead_of_parenthesis bs) (lead_of_token b)))

-- what follows a run of bytes of one kind at the front
unfoldable pub after_run : (ℕ → Bool) → List ℕ → List ℕ
after_run p [] = []
after_run p (b ∷ bs) = cond (p b) (after_run p bs) (b ∷ bs)

-- the longest run of bytes of one kind at the front
unfoldable pub run_of : (ℕ → Bool) → List ℕ → List ℕ
run_of p [] = []
run_of p (b ∷ bs) = cond (p b) (b ∷ run_of p bs) []

-- a byte that doesn't end a line
abbrev pub in_line : ℕ → Bool
in_line b = not (b == 10)

-- whether two bytes are `(;`, which opens a comment, or `;)`, which closes one
abbrev pub mark_of : ℕ → ℕ → Mark
mark_of b c = cond (b == 59 && c == 41) Mark.Closes (cond (b == 40 && c == 59) Mark.Opens Mark.Neither)

-- a text that begins inside of a comment, and what follows the comment's `;)`: comments nest, nothing else counts
pub data Inside : List ℕ → List ℕ → Type 0 where
  closes : {b c : ℕ} {rest : List ℕ} → mark_of b c ≡ Mark.Closes → Inside (b ∷ c ∷ rest) rest
  nested : {b c : ℕ} {inner outer rest : List ℕ} → mark_of b c ≡ Mark.Opens → Inside inner outer → Inside outer rest → Inside (b ∷ c ∷ inner) rest
  other : {b c : ℕ} {more rest : List ℕ} → mark_of b c ≡ Mark.Neither → Inside (c ∷ more) rest → Inside (b ∷ c ∷ more) rest

-- no gap begins a text: it is empty, begins a token, or begins a comment that isn't closed
abbrev pub BeginsNoGap : Lead → List ℕ → Type 0
BeginsNoGap Lead.Space text = ⊥
BeginsNoGap Lead.Line text = ⊥
BeginsNoGap Lead.Comment text = (rest : List ℕ) → ¬ (Inside (after_first (after_first text)) rest)
BeginsNoGap Lead.End text = Unit {0}
BeginsNoGap Lead.Opening text = Unit {0}
BeginsNoGap Lead.Closing text = Unit {0}
BeginsNoGap Lead.AtSign text = Unit {0}
BeginsNoGap Lead.Number text = Unit {0}
BeginsNoGap Lead.Word text = Unit {0}

-- a text, and what follows the white space and the comments at its front
pub data IsGap : List ℕ → List ℕ → Type 0 where
  none : {text : List ℕ} → BeginsNoGap (lead_of text) text → IsGap text text
  space : {text rest : List ℕ} → lead_of text ≡ Lead.Space → IsGap (after_first text) rest → IsGap text rest
  line : {text rest : List ℕ} → lead_of text ≡ Lead.Line → IsGap (after_run in_line (after_first text)) rest → IsGap text rest
  comment : {text behind rest : List ℕ} → lead_of text ≡ Lead.Comment → Inside (after_first (after_first text)) behind → IsGap behind rest
      → IsGap text rest
