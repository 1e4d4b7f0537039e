-- The order of a store's nodes.
use Rattle.std.proofs.Common.{◌≡◌, ◌↔◌, Equal, sym, ap, ◌∙◌}
use Rattle.std.specs.Bool.{Decides}
use Rattle.std.specs.Cmp.{Equal-is, signed_Decides, booleans_Decides}
use Rattle.std.specs.Cmp.Lexicographic.{pointwise_decides}
use Rattle.std.proofs.lemmas.Bool.Decides.{Decides-eqb}
use Rattle.std.proofs.lemmas.Slice.Eq.{bytes_eq-Decides}
use Rattle.isle_blocks.proofs.EqualSites.{type-decides, variant-decides}
use Rattle.isle_calls.specs.declared.store.Stored.{Stored}
use Rattle.isle_calls.specs.declared.store.Stored.TheVariants.{Bool, Int, Const, Opaque, Variant, Struct}
use Rattle.isle_calls.specs.contracts.store.StoredPartialEq.TheImpl as stored_of
use Rattle.isle_calls.specs.contracts.store.StoredOrd.TheImpl as order
use Rattle.isle_calls.specs.contracts.store.StoredOrd.TheImpl.Laws as order_laws
use Rattle.isle_values.proofs.GroundValues.EqualNodes.{both, through}

-- `==` of nodes holds exactly where the two are the same
pub stored-decides : (a b : Stored) → Decides ((stored_of.ghosts).eq a b) (a ≡ b)
stored-decides (Bool a) (Bool b) = through (booleans_Decides a b) (λ h. ap Bool h) (λ e. cc)
stored-decides (Int a) (Int b) = through (signed_Decides a b) (λ h. ap Int h) (λ e. cc)
stored-decides (Const a) (Const b) = through (bytes_eq-Decides a b) (λ h. ap Const h) (λ e. cc)
stored-decides (Opaque a) (Opaque b) = through (Decides-eqb a b) (λ h. ap Opaque h) (λ e. cc)
stored-decides (Variant s v fs) (Variant t w gs) =
    through (both _ _ (type-decides s t) (both _ _ (variant-decides v w) (pointwise_decides Decides-eqb fs gs)))
    (λ h i. Variant (h.0 i) (h.1.0 i) (h.1.1 i)) (λ e. (cc, (cc, cc)))
stored-decides (Struct s fs) (Struct t gs) =
    through (both _ _ (type-decides s t) (pointwise_decides Decides-eqb fs gs)) (λ h i. Struct (h.0 i) (h.1 i)) (λ e. (cc, cc))
stored-decides a b = (λ e. cc, λ e. cc)

-- nodes are level exactly where they are one
pub stored-level : (a b : Stored) → ((order.ghosts).cmp a b ≡ Equal) ↔ (a ≡ b)
stored-level a b = (
  λ e. (stored-decides a b).0 (order_laws.matches_eq-law a b ∙ (Equal-is ((order.ghosts).cmp a b)).1 e),
  λ e. (Equal-is ((order.ghosts).cmp a b)).0 (sym (order_laws.matches_eq-law a b) ∙ (stored-decides a b).1 e),
)
