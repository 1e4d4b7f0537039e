-- Ids as the numbers that they stand for.
use Rattle.std.specs.Prelude.{◌≡◌, ℕ, Bool, List, nat_eq}
use Rattle.std.specs.Ordering.{nat_cmp}
use Rattle.std.specs.declared.cmp.Ordering.{Ordering}
use Rattle.std.specs.Hash as hash

-- ids are equal where their numbers are, stand in the order of these, and are hashed as these
pub record AreNumbers {Id : Type 0} (number : Id → ℕ) (eq : Id → Id → Bool) (cmp : Id → Id → Ordering)
    (hash_input : Id → List (List ℕ)) : Type 0 where
  pub equality : (a b : Id) → eq a b ≡ nat_eq (number a) (number b)
  pub order : (a b : Id) → cmp a b ≡ nat_cmp (number a) (number b)
  pub hashes : (a : Id) → hash_input a ≡ hash.usize (number a)
