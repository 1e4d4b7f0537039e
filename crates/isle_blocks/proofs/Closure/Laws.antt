-- The closure of demands says the same as they do.
use Rattle.isle_meaning.specs.Got.{Got}
use Rattle.isle_meaning.specs.Sites.{Site}
use Rattle.isle_meaning.specs.Held.{Held}
use Rattle.isle_meaning.specs.Demands.{Demand, constrained, equal, Among}
use Rattle.isle_meaning.specs.Holds.{Holds, Respects}
use Rattle.isle_meaning.specs.Derived.{Closed}
use Rattle.isle_meaning.proofs.Matching.Closing.{derived_holds, is_reachable, from_closed}
use Rattle.isle_meaning.proofs.Matching.Sorting.{among, each_of}
use Rattle.isle_blocks.specs.ClosureLaws.{ClosureSaysTheSame, UnreachableNeverHolds}

closed_holds : (val : Site → Got Held) → Respects val → (D : Demand → Type 0) → ((d : Demand) → D d → Holds val d)
    → (d : Demand) → Closed D d → Holds val d
closed_holds val respects D holds (constrained s c) h = derived_holds val respects D holds (constrained s c) h
closed_holds val respects D holds (equal s u) h = derived_holds val respects D holds (equal s u) h.0

pub closure_says_the_same : ClosureSaysTheSame
closure_says_the_same facts tys ds suit val respects proper = (
  λ all d closed. closed_holds val respects (Among ds) (among (Holds val) ds all) d closed,
  λ closed. each_of (Holds val) ds (λ d h. from_closed val respects facts tys (Among ds) suit closed d h (proper d h)),
)

pub unreachable_never_holds : UnreachableNeverHolds
unreachable_never_holds facts tys ds suit val respects dead all = is_reachable val respects (Among ds) (among (Holds val) ds all) facts tys suit dead
