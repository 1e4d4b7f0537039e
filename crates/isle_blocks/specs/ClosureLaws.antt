-- What the closure of demands means, under whatever values of sites.
use Rattle.std.specs.Prelude.{◌↔◌, ℕ, List}
use Rattle.isle_meaning.specs.Got.{Got}
use Rattle.isle_meaning.specs.Facts.{TermFacts}
use Rattle.isle_meaning.specs.Sites.{Site}
use Rattle.isle_meaning.specs.Held.{Held}
use Rattle.isle_meaning.specs.Demands.{Demand, Among}
use Rattle.isle_meaning.specs.Holds.{Holds, AllHold, IsProper, Respects}
use Rattle.isle_meaning.specs.Derived.{Closed}
use Rattle.isle_meaning.specs.Faults.{IsUnreachable}
use Rattle.isle_meaning.specs.Sorts.{AllSuit}

-- what holds of demands that are of their sites' types, under all values of sites of which fields are fields
abbrev pub UnderAll : (List Demand → (Site → Got Held) → Type 0) → Type 0
UnderAll P = (facts : TermFacts) (tys : List ℕ) (ds : List Demand) → AllSuit facts tys (Among ds)
    → (val : Site → Got Held) → Respects val → P ds val

-- Demands, none of which is an equality of a site with itself, hold exactly where their closure does.
abbrev pub ClosureSaysTheSame : Type 0
ClosureSaysTheSame = UnderAll (λ ds val. ((d : Demand) → Among ds d → IsProper d)
    → AllHold val ds ↔ ((d : Demand) → Closed (Among ds) d → Holds val d))

-- Demands that can't be met never hold.
abbrev pub UnreachableNeverHolds : Type 0
UnreachableNeverHolds = UnderAll (λ ds val. IsUnreachable (Among ds) → AllHold val ds → ⊥)
