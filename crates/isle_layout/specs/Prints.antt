-- How definitions are printed.
use Rattle.std.specs.Prelude.{ℕ, List, ◌++◌, codes}
use Rattle.std.specs.List.{flat_map}
use Rattle.isle_ast.specs.declared.ast.Def.{Def}
use Rattle.isle_layout.specs.Layout.{layout}
use Rattle.isle_layout.specs.DefSpellings.{def_sexpr}

-- a definition from the start of a line, and a newline behind it
abbrev pub def_print : (width : ℕ) → Def → List ℕ
def_print width def = layout width 0 (def_sexpr def) ++ codes "\n"

-- one definition after another
abbrev pub print_of : (width : ℕ) → List Def → List ℕ
print_of width defs = flat_map (def_print width) defs
