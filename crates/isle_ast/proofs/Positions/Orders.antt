-- Positions and names are ordered by their fields, and level exactly where they are the same.
use Rattle.std.proofs.Common.{◌≡◌, ◌↔◌, ◌∙◌, Bool, Ordering, Equal, refl, sym}
use Rattle.std.specs.Bool.{Decides}
use Rattle.std.specs.Cmp.{Equal-is}
use Rattle.std.specs.Ordering.{eq_by_cmp}
use Rattle.isle_ast.specs.declared.pos.Pos.{Pos}
use Rattle.isle_ast.specs.declared.ast.Ident.{Ident}
use Rattle.isle_ast.specs.Positions.Orders.{pos_cmp, ident_cmp}
use Rattle.isle_ast.specs.contracts.pos.PosOrd.TheImpl as pos
use Rattle.isle_ast.specs.contracts.pos.PosOrd.TheImpl.Laws as pos_laws
use Rattle.isle_ast.specs.contracts.ast.IdentOrd.TheImpl as ident
use Rattle.isle_ast.specs.contracts.ast.IdentOrd.TheImpl.Laws as ident_laws
use Rattle.isle_ast.proofs.Trees.DefEquality.{pos-decides, ident-decides}

-- what ties exactly where a test of sameness passes is level exactly at the same
pub level : {K : Type 0} {E : K → K → Bool} (R : K → K → Ordering) → ((x y : K) → E x y ≡ eq_by_cmp R x y)
    → ((x y : K) → Decides (E x y) (x ≡ y)) → (x y : K) → (R x y ≡ Equal) ↔ (x ≡ y)
level R ties decides x y =
    (λ e. (decides x y).0 (ties x y ∙ (Equal-is (R x y)).1 e), λ e. (Equal-is (R x y)).0 (sym (ties x y) ∙ (decides x y).1 e))

pub ident_cmp-Equal : (m n : Ident) → (ident_cmp m n ≡ Equal) ↔ (m ≡ n)
ident_cmp-Equal = level ident_cmp ident_laws.matches_eq-law ident-decides
