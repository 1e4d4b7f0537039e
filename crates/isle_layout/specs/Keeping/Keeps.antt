-- What it is to keep a text.
use Rattle.std.specs.Prelude.{◌≡◌, ℕ, List}
use Rattle.isle_ast.specs.declared.ast.Def.{Def}
use Rattle.isle_syntax.specs.Grammar.Verdict.{Spells}
use Rattle.isle_layout.specs.Keeping.LaidOut.{laid_out}

-- a text, as the file of this number, spells definitions, and is laid out at this width as `out`
abbrev pub Keeps : (file width : ℕ) → List ℕ → List ℕ → Type 0
Keeps file width text out = (defs : List Def) × Spells file text defs × (out ≡ laid_out width text)

-- as a file of any number, a text is kept at this width as itself and as nothing else
pub record IsKept (width : ℕ) (text : List ℕ) : Type 0 where
  pub keeps : (file : ℕ) → Keeps file width text text
  pub only : (file : ℕ) (out : List ℕ) → Keeps file width text out → out ≡ text
