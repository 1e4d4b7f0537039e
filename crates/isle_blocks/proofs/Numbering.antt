-- A table of sites as a set that numbers its members.
use Rattle.std.proofs.Common.{◌≡◌, ◌↔◌, Equal, sym, ◌∙◌}
use Rattle.std.specs.Cmp.{Equal-is}
use Rattle.isle_blocks.specs.declared.binding.Binding.{Binding}
use Rattle.isle_blocks.specs.contracts.binding.BindingOrd.TheImpl as order
use Rattle.isle_blocks.specs.contracts.binding.BindingOrd.TheImpl.Laws as order_laws
use Rattle.isle_blocks.proofs.EqualSites.{binding-decides}

-- sites are level exactly where they are one
pub binding-level : (a b : Binding) → ((order.ghosts).cmp a b ≡ Equal) ↔ (a ≡ b)
binding-level a b = (
  λ e. (binding-decides a b).0 (order_laws.matches_eq-law a b ∙ (Equal-is ((order.ghosts).cmp a b)).1 e),
  λ e. (Equal-is ((order.ghosts).cmp a b)).0 (sym (order_laws.matches_eq-law a b) ∙ (binding-decides a b).1 e),
)
