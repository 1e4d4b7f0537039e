use Rattle.std.proofs.Common.{◌≡◌, ◌++◌, ℕ, List, length, string_bytes}
use Rattle.isle_values.specs.Values.Text.{Closes}
use Rattle.isle_values.proofs.values.close_data.Given as goal

-- what the rest of the places needs, with what is closed so far
abbrev pub invariant-loop-end : goal.invariant-loop-end
invariant-loop-end l = (closed : List ℕ) × (string_bytes l.text ≡ string_bytes l.initial.text ++ closed)
    × ((rest more : List ℕ) → Closes l.at l.ends.items rest more → Closes l.at l.initial.ends.items rest (closed ++ more))

abbrev pub decreases-loop-end : goal.decreases-loop-end
decreases-loop-end l = length l.ends.items
