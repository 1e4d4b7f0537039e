-- The `==` of tests holds exactly where the two are the same.
use Rattle.std.proofs.Common.{◌≡◌, Bool, true, false, not, refl, ap}
use Rattle.std.specs.Bool.{Decides}
use Rattle.std.specs.Cmp.{signed_Decides, booleans_Decides}
use Rattle.isle_blocks.specs.declared.constraint.Constraint.{Constraint}
use Rattle.isle_blocks.specs.declared.constraint.Constraint.TheVariants as tests
use Rattle.isle_blocks.specs.contracts.constraint.ConstraintPartialEq.TheImpl as constraint_of
use Rattle.isle_blocks.proofs.EqualSites.{both, through, sym-decides, type-decides, variant-decides, index-decides}

pub constraint-decides : (a b : Constraint) → Decides ((constraint_of.ghosts).eq a b) (a ≡ b)
constraint-decides (tests.Variant s v f) (tests.Variant t w g) =
    through (both _ _ (type-decides s t) (both _ _ (variant-decides v w) (index-decides f g)))
    (λ h i. tests.Variant (h.0 i) (h.1.0 i) (h.1.1 i)) (λ e. (cc, (cc, cc)))
constraint-decides (tests.Struct s f) (tests.Struct t g) =
    through (both _ _ (type-decides s t) (index-decides f g)) (λ h i. tests.Struct (h.0 i) (h.1 i)) (λ e. (cc, cc))
constraint-decides (tests.ConstBool a s) (tests.ConstBool b t) =
    through (both _ _ (booleans_Decides a b) (type-decides s t)) (λ h i. tests.ConstBool (h.0 i) (h.1 i)) (λ e. (cc, cc))
constraint-decides (tests.ConstInt a s) (tests.ConstInt b t) =
    through (both _ _ (signed_Decides a b) (type-decides s t)) (λ h i. tests.ConstInt (h.0 i) (h.1 i)) (λ e. (cc, cc))
constraint-decides (tests.ConstPrim a) (tests.ConstPrim b) = through (sym-decides a b) (λ h. ap tests.ConstPrim h) (λ e. cc)
constraint-decides tests.Some tests.Some = (λ e. refl, λ e. refl)
constraint-decides a b = (λ e. cc, λ e. cc)

unnegated : (b : Bool) → false ≡ not b → b ≡ true
unnegated true e = refl
unnegated false e = cc

-- what a failed `==` says
pub different : (a b : Constraint) → true ≡ not ((constraint_of.ghosts).eq a b) → a ≡ b → ⊥
different a b e same = let t = (constraint-decides a b).1 same in cc

pub alike : (a b : Constraint) → false ≡ not ((constraint_of.ghosts).eq a b) → a ≡ b
alike a b e = (constraint-decides a b).0 (unnegated _ e)
