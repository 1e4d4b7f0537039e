use Rattle.std.proofs.Common.{◌≡◌, ◌+◌, ℕ, get_or, drop, length}
use Rattle.isle_program.specs.Trees.{place_of_set}
use Rattle.isle_program.proofs.facts.places.places_by_term.Given as goal

-- the places of the sets from a place on
abbrev pub invariant-loop-place : goal.invariant-loop-place
invariant-loop-place l = (length l.places.items ≡ l.terms)
    × ((n : ℕ) → get_or l.places.items n (length l.sets) ≡ l.place + place_of_set (drop l.place l.sets) n)
