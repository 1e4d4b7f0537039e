use Rattle.std.proofs.Common.{◌≡◌, ℕ, get_or, drop, length}
use Rattle.isle_program.specs.Facts.Steps.{steps_in}
use Rattle.isle_program.proofs.facts.steps.steps_by_term.Given as goal

-- the steps by the sets from a place on
abbrev pub invariant-loop-place : goal.invariant-loop-place
invariant-loop-place l = (length l.steps.items ≡ l.terms) × ((n : ℕ) → get_or l.steps.items n 0 ≡ steps_in (drop l.place l.sets) n)
