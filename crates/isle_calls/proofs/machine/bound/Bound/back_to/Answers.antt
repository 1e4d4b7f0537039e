-- One binding fewer is left, and one fewer has to go.
use Rattle.std.proofs.Common.{◌≡◌, ℕ, ◌-◌, ◌<◌, List, length, drop, length-drop, ap, ◌∙◌, arith}
use Rattle.std.proofs.lemmas.List.{drop-drop}
use Rattle.isle_calls.proofs.machine.bound.Bound.back_to.Goals as goal

-- the last ones without the first of them
drop_on : {T : Type 0} (xs : List T) (n : ℕ) → n < length xs → drop (length (drop 1 xs) - n) (drop 1 xs) ≡ drop (length xs - n) xs
drop_on xs n more = drop-drop (length (drop 1 xs) - n) 1 xs ∙ ap (λ k. drop k xs) (omega (arith, length-drop 1 xs))

pub loop-self-preserved : goal.loop-self-preserved
loop-self-preserved g c = rw c.undo.ensures (drop_on c.loop-self.self c.args.count (omega arith) ∙ c.loop-self.invariant)
