-- What is bound, by site: bindings, the last first, and where they stand.
use Rattle.std.specs.Prelude.{◌≡◌, ◌==◌, ◌<◌, ◌≤◌, ℕ, List, [], ◌∷◌, map, reverse, length, Option, Some, None, if◌then◌else◌}
use Rattle.std.specs.BTreeMap.{BTreeMap, is_at}
use Rattle.std.specs.Map.{lookup}
use Rattle.std.specs.Ordering.{nat_cmp}
use Rattle.isle_calls.specs.declared.machine.bound.BoundSite.{BoundSite}

-- how many bindings are looked through
abbrev pub few : ℕ
few = 16

-- what a binding shows: its site and what it holds
abbrev pub shown_site : {T : Type 0} → BoundSite T → ℕ × T
shown_site b = (b.site, b.held)

-- the bindings, the last first
abbrev pub shown : {T : Type 0} → List (BoundSite T) → List (ℕ × T)
shown bindings = map shown_site (reverse bindings)

-- what a site holds: what it was bound to last
abbrev pub held_at : {T : Type 0} → ℕ → List (ℕ × T) → Option T
held_at site [] = None
held_at site (b ∷ bs) = if b.0 == site then Some b.1 else held_at site bs

-- where the last binding of a site stands, counted from the first
abbrev pub place_in : {T : Type 0} → ℕ → List (BoundSite T) → Option ℕ
place_in site [] = None
place_in site (b ∷ bs) = if b.site == site then Some (length bs) else place_in site bs

-- what a map has at a number
abbrev pub at_number : BTreeMap ℕ ℕ → ℕ → Option ℕ
at_number places k = lookup (is_at (nat_cmp k)) places.entries

-- where a site stood before a binding of it was made
abbrev pub undone : {T : Type 0} → BoundSite T → (ℕ → Option ℕ) → ℕ → Option ℕ
undone b index k = if k == b.site then b.before else index k

-- the numbers are where the sites of bindings stand, the last first, but for those of the first few
abbrev pub Indexes : {T : Type 0} → List (BoundSite T) → (ℕ → Option ℕ) → Type 0
Indexes [] index = (k : ℕ) → index k ≡ None
Indexes (b ∷ bs) index = (length bs < few → (k : ℕ) → index k ≡ None)
    × (few ≤ length bs → (index b.site ≡ Some (length bs)) × Indexes bs (undone b index))

-- so does a map
abbrev pub AreIndexed : {T : Type 0} → List (BoundSite T) → BTreeMap ℕ ℕ → Type 0
AreIndexed bindings places = Indexes (reverse bindings) (at_number places)
