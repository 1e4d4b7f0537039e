-- The order of tests, as trees ask for it.
use Rattle.std.proofs.Common.{◌≡◌, true, false, Ordering, Less, Equal, Greater, refl, sym, ap, subst, ◌∙◌}
use Rattle.std.specs.Ordering.{is_le, ordering_reverse}
use Rattle.std.specs.Cmp.{IsTotalOrder, Equal-is}
use Rattle.isle_blocks.specs.contracts.constraint.ConstraintOrd.TheImpl as order
use Rattle.isle_blocks.specs.contracts.constraint.ConstraintOrd.TheImpl.Laws as order_laws
use Rattle.isle_blocks.specs.declared.constraint.Constraint.{Constraint}
use Rattle.isle_blocks.specs.Orders.{constraint_order}
use Rattle.isle_blocks.specs.Trees.View.{same_test}
use Rattle.isle_blocks.proofs.EqualTests.{constraint-decides}
use Rattle.isle_blocks.proofs.RuleFaults.FaultKeys.Order.{one_order}

-- Tests are compared exactly.
pub same_is : (c d : Constraint) → same_test c d ≡ true → c ≡ d
same_is c d e = (constraint-decides c d).0 e

-- Each is the same as itself.
pub same_itself : (c : Constraint) → same_test c c ≡ true
same_itself c = (constraint-decides c c).1 refl

-- the order of tests is total
total : IsTotalOrder constraint_order
total = subst IsTotalOrder one_order order_laws.total-law

-- tests that are level are one
level : (c d : Constraint) → constraint_order c d ≡ Equal → c ≡ d
level c d e =
    let f : (order.ghosts).cmp c d ≡ Equal = subst (λ (R : Constraint → Constraint → Ordering). R c d ≡ Equal) (sym one_order) e in
    (constraint-decides c d).0 (order_laws.matches_eq-law c d ∙ (Equal-is ((order.ghosts).cmp c d)).1 f)

-- a test is level with itself
itself : (c : Constraint) → constraint_order c c ≡ Equal
itself c = by (constraint_order c c) refl
  where
    by : (r : Ordering) → constraint_order c c ≡ r → constraint_order c c ≡ Equal
    by Less e = absurd (let f = sym e ∙ (total.antisymm c c ∙ ap ordering_reverse e) in cc)
    by Equal e = e
    by Greater e = absurd (let f = sym e ∙ (total.antisymm c c ∙ ap ordering_reverse e) in cc)

-- A test is at most itself.
pub least_self : (c : Constraint) → is_le (constraint_order c c) ≡ true
least_self c = ap is_le (itself c)

-- Of two tests each of which is at most the other both are one.
pub least_both : (c d : Constraint) → is_le (constraint_order c d) ≡ true → is_le (constraint_order d c) ≡ true → c ≡ d
least_both c d e f = by (constraint_order c d) refl
  where
    by : (r : Ordering) → constraint_order c d ≡ r → c ≡ d
    by Less g = absurd (let h = sym f ∙ ap is_le (total.antisymm d c ∙ ap ordering_reverse g) in cc)
    by Equal g = level c d g
    by Greater g = absurd (let h = sym e ∙ ap is_le g in cc)

-- Of two tests one is at most the other.
pub least_either : (c d : Constraint) → is_le (constraint_order c d) ≡ false → is_le (constraint_order d c) ≡ true
least_either c d e = by (constraint_order c d) refl
  where
    by : (r : Ordering) → constraint_order c d ≡ r → is_le (constraint_order d c) ≡ true
    by Less g = absurd (let h = sym e ∙ ap is_le g in cc)
    by Equal g = absurd (let h = sym e ∙ ap is_le g in cc)
    by Greater g = ap is_le (total.antisymm d c ∙ ap ordering_reverse g)

-- The order is transitive.
pub least_chain : (c d e : Constraint) → is_le (constraint_order c d) ≡ true → is_le (constraint_order d e) ≡ true
    → is_le (constraint_order c e) ≡ true
least_chain c d e f g = by (constraint_order c d) refl (constraint_order d e) refl
  where
    by : (r : Ordering) → constraint_order c d ≡ r → (s : Ordering) → constraint_order d e ≡ s → is_le (constraint_order c e) ≡ true
    by Less p Less q = ap is_le (total.trans c d e p q)
    by Less p Equal q = subst (λ (z : Constraint). is_le (constraint_order c z) ≡ true) (level d e q) f
    by Equal p s q = subst (λ (z : Constraint). is_le (constraint_order z e) ≡ true) (sym (level c d p)) g
    by Greater p s q = absurd (let h = sym f ∙ ap is_le p in cc)
    by Less p Greater q = absurd (let h = sym g ∙ ap is_le q in cc)
