use Rattle.std.proofs.Common.{◌≡◌, ◌≤◌, ◌+◌, ◌↔◌, ℕ, suc, drop}
use Rattle.isle_values.specs.Values.Lists.{Closes}
use Rattle.isle_values.proofs.queries.closes_at_end.Given as goal

-- the lists close where those do that are open now
abbrev pub invariant-loop-i : goal.invariant-loop-i
invariant-loop-i l = (d : ℕ) × (l.opened ≡ suc d) × (l.opened ≤ l.i + 1) × (Closes 1 l.tokens ↔ Closes (suc d) (drop l.i l.tokens))
