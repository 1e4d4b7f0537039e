-- How positions and names are ordered.
use Rattle.std.specs.Ordering.{nat_cmp, ordering_then}
use Rattle.std.specs.declared.cmp.Ordering.{Ordering}
use Rattle.std.specs.Cmp.Lexicographic.{slice_cmp}
use Rattle.isle_ast.specs.declared.pos.Pos.{Pos}
use Rattle.isle_ast.specs.declared.ast.Ident.{Ident}

-- positions by their file, then by their offset
abbrev pub pos_cmp : Pos → Pos → Ordering
pos_cmp p q = ordering_then (nat_cmp p.file q.file) (nat_cmp p.offset q.offset)

-- names by the bytes of their text, then by their position
abbrev pub ident_cmp : Ident → Ident → Ordering
ident_cmp m n = ordering_then (slice_cmp nat_cmp m.0 n.0) (pos_cmp m.1 n.1)
