-- What can't but be.
use Rattle.std.proofs.Common.{◌⊎◌, inl, inr}
use Rattle.isle_meaning.specs.Laws.Calls.{Surely}

-- what is, can't but be
pub surely : {A : Type 0} → A → Surely A
surely a = λ k. k a

-- what follows from what can't but be
pub follows : {A B : Type 0} → Surely A → (A → Surely B) → Surely B
follows h f = λ k. h (λ a. f a k)

-- it is or it isn't
pub either : (A : Type 0) → Surely (A ⊎ (A → ⊥))
either A = λ k. k (inr (λ a. k (inl a)))
