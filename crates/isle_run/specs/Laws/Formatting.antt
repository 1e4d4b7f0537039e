-- Formatted files.
use Rattle.std.specs.Prelude.{ℕ, suc, List, [], ◌∷◌}
use Rattle.std.specs.Str.{IsUtf8}
use Rattle.isle_ast.specs.declared.ast.Def.{Def}
use Rattle.isle_ast.specs.Positions.Files.{SourceFile}
use Rattle.isle_layout.specs.Formats.{Formats}
use Rattle.isle_program.specs.Compiled.{AreSpelt}
use Rattle.isle_meaning.specs.Laws.Spelling.{AreAlike}

-- the texts of these files, which are numbered from `first`, formatted at this width, are those of the others
abbrev pub AreFormatted : (first width : ℕ) → List SourceFile → List SourceFile → Type 0
AreFormatted first width [] [] = Unit {0}
AreFormatted first width [] (once ∷ others) = ⊥
AreFormatted first width (file ∷ files) [] = ⊥
AreFormatted first width (file ∷ files) (once ∷ others) =
    IsUtf8 once.text × Formats first width file.text once.text × AreFormatted (suc first) width files others

-- Formatted texts spell definitions that differ in positions alone.
abbrev pub FormattedTextsAreAlike : Type 0
FormattedTextsAreAlike = (width : ℕ) (files others : List SourceFile) (defs : List Def) → AreFormatted 0 width files others → AreSpelt 0 files defs
    → (those : List Def) × AreSpelt 0 others those × AreAlike defs those
