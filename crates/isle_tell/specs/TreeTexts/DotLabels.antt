-- Texts as labels of a graph.
use Rattle.std.specs.Prelude.{ℕ, List, ◌++◌, codes, nat_eq, if◌then◌else◌}
use Rattle.std.specs.Char.{encode_utf8}
use Rattle.std.specs.List.{flat_map}
use Rattle.std.specs.Str.{chars}

-- a character of a label; a quote, a backslash and an ampersand are escaped
abbrev pub escaped : ℕ → List ℕ
escaped char =
    if nat_eq char 34 then codes "\\\"" else (if nat_eq char 92 then codes "\\\\" else (if nat_eq char 38 then codes "&amp;" else encode_utf8 char))

-- a text between quotes
abbrev pub quoted : List ℕ → List ℕ
quoted text = codes "\"" ++ (flat_map escaped (chars text) ++ codes "\"")
