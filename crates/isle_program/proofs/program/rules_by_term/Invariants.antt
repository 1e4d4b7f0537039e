use Rattle.std.proofs.Common.{◌≡◌, ◌<◌, ℕ, length, take, slice_get}
use Rattle.std.specs.List.{filter}
use Rattle.isle_program.specs.Plain.LaidOut.Rules.{is_of_term, listed_at}
use Rattle.isle_program.proofs.program.rules_by_term.Given as goal

abbrev pub invariant-loop-place : goal.invariant-loop-place
invariant-loop-place l = record {
  fits : length l.lists.items ≡ length l.termenv.terms;
  lists : (t : ℕ) → t < length l.termenv.terms
      → listed_at l.lists.items t ≡ filter (λ i. is_of_term t (slice_get l.termenv.rules i)) (take l.place-index l.place-items);
}
