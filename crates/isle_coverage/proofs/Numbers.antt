-- The numbers of tests.
use Rattle.std.proofs.Common.{◌≡◌, ◌↔◌, sym, ◌∙◌}
use Rattle.std.specs.Cmp.{Equal-is}
use Rattle.std.specs.declared.cmp.Ordering.TheVariants.{Equal}
use Rattle.isle_blocks.specs.contracts.constraint.ConstraintOrd.TheImpl as order
use Rattle.isle_blocks.specs.contracts.constraint.ConstraintOrd.TheImpl.Laws as order_laws
use Rattle.isle_blocks.specs.declared.constraint.Constraint.{Constraint}
use Rattle.isle_blocks.proofs.EqualTests.{constraint-decides}

-- tests are level exactly where they are one
pub test-level : (a b : Constraint) → ((order.ghosts).cmp a b ≡ Equal) ↔ (a ≡ b)
test-level a b = (
  λ e. (constraint-decides a b).0 (order_laws.matches_eq-law a b ∙ (Equal-is ((order.ghosts).cmp a b)).1 e),
  λ e. (Equal-is ((order.ghosts).cmp a b)).0 (sym (order_laws.matches_eq-law a b) ∙ (constraint-decides a b).1 e),
)
