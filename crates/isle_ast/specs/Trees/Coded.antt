-- Positions and names as values that a proof tells apart.
use Rattle.std.specs.Prelude.{ℕ, List, refl}
use Rattle.std.specs.Coded.{Coded, code_by, coded×, coded_list, coded_ℕ}
use base.Stored.{Gv, gcons}
use Rattle.isle_ast.specs.declared.pos.Pos.{Pos}
use Rattle.isle_ast.specs.declared.ast.Ident.{Ident}

abbrev pub pos_code : Coded Pos
pos_code = code_by (ℕ × ℕ) (coded× coded_ℕ coded_ℕ) (λ p. (p.file, p.offset)) (λ p. record { file = p.0; offset = p.1 }) (λ _. refl)

abbrev pub ident_code : Coded Ident
ident_code = code_by (List ℕ × Pos) (coded× (coded_list coded_ℕ) pos_code) (λ x. (x.0, x.1)) (λ p. record { 0 = p.0; 1 = p.1 }) (λ _. refl)

-- the first part of a stored pair
abbrev pub left : Gv → Gv
left (gcons a b) = a
left g = g

-- the second part of a stored pair
abbrev pub right : Gv → Gv
right (gcons a b) = b
right g = g
