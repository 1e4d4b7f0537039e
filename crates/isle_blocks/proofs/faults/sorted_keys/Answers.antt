use Rattle.std.proofs.Common.{Ordering, subst}
use Rattle.std.specs.Prelude.{IsSorted}
use Rattle.std.specs.Option.{option_cmp}
use Rattle.std.specs.Ordering.{nat_cmp, ordering_then}
use Rattle.isle_blocks.specs.declared.constraint.Constraint.{Constraint}
use Rattle.isle_blocks.specs.Inside.FaultKeys.{Key}
use Rattle.isle_blocks.proofs.RuleFaults.FaultKeys.Order.{keys_sorted, one_order}
use Rattle.isle_blocks.proofs.faults.sorted_keys.Goals as goal

pub returns : goal.returns
returns c =
    keys_sorted c.args.site c.args.rules.now c.in_ok-keys.keys.items c.sort_unstable.new.self.items c.in_ok-keys.ensures.fits
    c.in_ok-keys.ensures.keys c.sort_unstable.ensures.permutation
    (subst (λ (R : Constraint → Constraint → Ordering).
    IsSorted (λ (a b : Key). ordering_then (option_cmp R a.0 b.0) (nat_cmp a.1 b.1)) c.sort_unstable.new.self.items)
    one_order c.sort_unstable.ensures.sorted)
