use Rattle.std.proofs.Common.{◌≡◌, ◌++◌, ℕ, List, drop}
use Rattle.isle_program.specs.Facts.Reach.{terms_in_iflets}
use Rattle.isle_program.proofs.facts.made.push_of_iflets.Given as goal

abbrev pub invariant-loop-iflet : goal.invariant-loop-iflet
invariant-loop-iflet l = (names : List (List ℕ)) →
    l.made.items ++ terms_in_iflets names (drop l.iflet-index l.iflets) ≡ l.initial.made.items ++ terms_in_iflets names l.iflets
