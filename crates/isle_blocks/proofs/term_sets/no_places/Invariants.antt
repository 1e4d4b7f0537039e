use Rattle.std.proofs.Common.{◌≡◌, [], All, length}
use Rattle.isle_blocks.proofs.term_sets.no_places.Given as goal

abbrev pub invariant-loop : goal.invariant-loop
invariant-loop l = (length l.places.items ≡ l.counter) × All (λ own. own.items ≡ []) l.places.items
