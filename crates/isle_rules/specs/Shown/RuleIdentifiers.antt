-- What a rule is called.
use Rattle.std.specs.Prelude.{ℕ, List, [], Option, Some, None, unwrap_or, slice_get}
use Rattle.std.specs.Option.{option_map}
use Rattle.isle_ast.specs.declared.pos.Pos.{Pos}
use Rattle.isle_ast.specs.Positions.Files.{SourceFile, named_line}
use Rattle.isle_types.specs.declared.ids.Sym.{Sym}
use Rattle.isle_types.specs.TypeTables.{TypeTables}
use Rattle.isle_types.specs.TypeEnvs.{name_of}
use Rattle.isle_rules.specs.declared.rules.Rule.{Rule}

-- the text of a name, which is empty where it isn't interned, or where there is none the line of a position
abbrev pub name_or_line : TypeTables → List SourceFile → Option Sym → Pos → Option (List ℕ)
name_or_line types files (Some name) pos = Some (unwrap_or (name_of types name) [])
name_or_line types files None pos = option_map (λ (file : SourceFile). named_line file pos.offset) (slice_get files pos.file)

-- a rule's name, or else the line that it stands at
abbrev pub identifier_of : TypeTables → List SourceFile → Rule → Option (List ℕ)
identifier_of types files rule = name_or_line types files rule.name rule.pos
