-- What reports of errors print.
use Rattle.std.specs.Prelude.{ℕ, List, [], ◌∷◌, ◌++◌, cond, eqb, slice_get, codes}
use Rattle.std.specs.List.{flat_map}
use Rattle.std.specs.Option.{option_map_or}
use Rattle.isle_ast.specs.Positions.Files.{SourceFile, named_place}
use Rattle.isle_ast.specs.declared.error.Span.{Span}
use Rattle.isle_ast.specs.declared.error.Error.{Error}
use Rattle.isle_ast.specs.declared.error.Error.TheVariants.{ParseError, TypeError, UnreachableError, OverlapError, ShadowedError, SizeError}

-- errors, and the files that they speak of
pub record Report : Type 0 where
  pub errors : List Error
  pub files : List SourceFile

-- `FILE:LINE:COLUMN` of a span's start, and nothing where its file isn't known
abbrev pub place_text : List SourceFile → Span → List ℕ
place_text files span = option_map_or (λ file. named_place file span.from.offset) (slice_get files span.from.file) []

-- the line `FILE:LINE:COLUMN: KIND`
abbrev pub heading : List SourceFile → Span → List ℕ → List ℕ
heading files span kind = place_text files span ++ (codes ": " ++ (kind ++ 10 ∷ []))

-- a text on a line of its own, after two spaces
abbrev pub indented : List ℕ → List ℕ
indented text = codes "  " ++ (text ++ 10 ∷ [])

-- a byte as it is, and two spaces behind a newline
abbrev pub indented_byte : ℕ → List ℕ
indented_byte byte = byte ∷ cond (eqb byte 10) (codes "  ") []

-- each line of a text on a line of its own, after two spaces
abbrev pub indented_lines : List ℕ → List ℕ
indented_lines text = indented (flat_map indented_byte text)

-- a heading, and the lines of the message below it
abbrev pub fault_text : List SourceFile → Span → List ℕ → List ℕ → List ℕ
fault_text files span kind message = heading files span kind ++ indented_lines message

-- a heading, and further rules below it
abbrev pub rules_text : List SourceFile → Span → List ℕ → List Span → List ℕ
rules_text files span kind others = heading files span kind ++ flat_map (λ rule. indented (place_text files rule)) others

-- what is printed of one error: an overlap's first rule heads it, and a shadowing's mask
abbrev pub error_text : List SourceFile → Error → List ℕ
error_text files (ParseError message span) = fault_text files span (codes "parse error") message
error_text files (TypeError message span) = fault_text files span (codes "type error") message
error_text files (UnreachableError message span) = fault_text files span (codes "unreachable rule") message
error_text files (OverlapError _ []) = []
error_text files (OverlapError _ (first ∷ others)) = rules_text files first (codes "overlapping rules") others
error_text files (ShadowedError shadowed mask) = rules_text files mask (codes "shadowing rule") shadowed
error_text files (SizeError message span) = fault_text files span (codes "too large") message

-- what is printed of all of them, one after another
abbrev pub report_text : Report → List ℕ
report_text report = flat_map (error_text report.files) report.errors
