-- Values of compiled programs, printed and read back.
use Rattle.std.specs.Prelude.{ℕ, List, map, String}
use Rattle.std.specs.Global.{Global}
use Rattle.std.specs.List.{AllByRecursion}
use Rattle.std.specs.Str.{IsUtf8}
use Rattle.isle_ast.specs.Positions.Files.{SourceFile, source_file}
use Rattle.isle_syntax.specs.declared.lexer.Token.{Token}
use Rattle.isle_rules.specs.Values.{ValueTree}
use Rattle.isle_meaning.specs.ValueTypes.{IsOfType}
use Rattle.isle_program.specs.declared.program.Program.{Program}
use Rattle.isle_program.specs.Compiled.{IsProgramOf}
use Rattle.isle_program.specs.Programs.{value_facts}
use Rattle.isle_values.specs.Values.Settled.{SpellTyped}
use Rattle.isle_values.specs.Values.Text.{value_text}
use Rattle.isle_values.specs.Values.TextTokens.{AreTokensOf}

-- the texts of files are in UTF-8; in others two names may be identifiers that a dot between them makes none
abbrev pub AreUtf8Texts : List SourceFile → Type 0
AreUtf8Texts files = AllByRecursion (λ (file : SourceFile). IsUtf8 file.text) files

-- Files of strings have such texts.
abbrev pub StringsAreUtf8Texts : Type 0
StringsAreUtf8Texts = (list : List (String Global × String Global)) → AreUtf8Texts (map source_file list)

-- A value of a type of a compiled program is printed to a text that is read back as it at the type.
abbrev pub CompiledValuesReadBack : Type 0
CompiledValuesReadBack = (files : List SourceFile) (program : Program) → AreUtf8Texts files → IsProgramOf files program
    → (v : ValueTree) (ty : ℕ) → IsOfType (value_facts program) v ty
    → (tokens : List Token) × AreTokensOf (value_text v) tokens × SpellTyped (value_facts program) tokens v ty
