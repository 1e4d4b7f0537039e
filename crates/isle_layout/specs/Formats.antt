-- What it is to format a text.
use Rattle.std.specs.Prelude.{◌≡◌, ℕ, List}
use Rattle.isle_ast.specs.declared.ast.Def.{Def}
use Rattle.isle_ast.specs.declared.error.Error.{Error}
use Rattle.isle_syntax.specs.Grammar.Verdict.{Spells, IsFaultIn}
use Rattle.isle_layout.specs.Prints.{print_of}

-- a text, as the file of this number, spells definitions, which print at this width as `out`
abbrev pub Formats : (file width : ℕ) → List ℕ → List ℕ → Type 0
Formats file width text out =
    (defs : List Def) × Spells file text defs × (out ≡ print_of width defs)

-- as a file of any number, a text is formatted at this width to itself and to nothing else
pub record IsSettled (width : ℕ) (text : List ℕ) : Type 0 where
  pub formats : (file : ℕ) → Formats file width text text
  pub only : (file : ℕ) (out : List ℕ) → Formats file width text out → out ≡ text

-- as a file of any number, a text has no fault
abbrev pub IsFaultless : List ℕ → Type 0
IsFaultless text = (file : ℕ) (error : Error) → ¬ (IsFaultIn file text error)
