-- What is asked for of an expression.
use Rattle.std.specs.Prelude.{◌≡◌, ◌⊎◌, ◌<◌, ℕ, List, [], ◌∷◌, All}
use Rattle.isle_calls.specs.declared.plain.evaluation.Evaluation.{Evaluation}
use Rattle.isle_calls.specs.Inside.Plain.Underway.{IsKnown}

-- a part was asked for: it is evaluated, or it is first of what is to be evaluated, and the others stand before it
abbrev pub IsAskedFor : ℕ → Evaluation → Type 0
IsAskedFor root e = ((e.todo.items ≡ []) × IsKnown e root)
    ⊎ ((others : List ℕ) × (e.todo.items ≡ root ∷ others) × All (λ k. k < root) others)
