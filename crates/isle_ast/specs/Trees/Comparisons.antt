-- What comparisons and hashes tell of the values that they are of.
use Rattle.std.specs.Prelude.{◌≡◌, ◌↔◌, ◌++◌, ◌<◌, ◌^◌, ℕ, List, Bool, IsTrue, Option, Some}
use Rattle.std.specs.Cmp.{IsTotalOrder}
use Rattle.std.specs.Hash as hash
use Rattle.std.specs.declared.cmp.Ordering.{Ordering}
use Rattle.std.specs.declared.cmp.Ordering.TheVariants.{Equal}
use Rattle.isle_ast.specs.declared.pos.Pos.{Pos}
use Rattle.isle_ast.specs.declared.ast.Ident.{Ident}

-- an equality that is true exactly where two values are the same
abbrev pub DecidesSame : {A : Type 0} → (A → A → Bool) → Type 0
DecidesSame {A} eq = (a b : A) → IsTrue (eq a b) ↔ (a ≡ b)

-- an equality that is true exactly where two values have the same tree
abbrev pub DecidesSameTree : {A T : Type 0} → (A → T) → (A → A → Bool) → Type 0
DecidesSameTree {A} tree eq = (a b : A) → IsTrue (eq a b) ↔ (tree a ≡ tree b)

-- what is hashed of a position: its file, then its offset
abbrev pub pos_hash : Pos → List (List ℕ)
pos_hash p = hash.usize p.file ++ hash.usize p.offset

-- what is hashed of a name: its text, then its position
abbrev pub ident_hash : Ident → List (List ℕ)
ident_hash name = hash.str name.0 ++ pos_hash name.1

-- a position as the program can hold it
abbrev pub IsInRange : Pos → Type 0
IsInRange p = (p.file < 2 ^ 64) × (p.offset < 2 ^ 64)

-- different values of a kind are hashed differently
abbrev pub HashesApart : {A : Type 0} → (A → Type 0) → (A → List (List ℕ)) → Type 0
HashesApart {A} IsOfKind hash_input = (a b : A) → IsOfKind a → IsOfKind b → hash_input a ≡ hash_input b → a ≡ b

-- Values that compare by a total order in which two are level exactly where they are the same, that are equal exactly
-- there, and of which this is hashed.
pub record AreOrdered {A : Type 0} (order : A → A → Ordering) (hashed : A → List (List ℕ)) (eq : A → A → Bool)
    (partial_cmp : A → A → Option Ordering) (cmp : A → A → Ordering) (hash_input : A → List (List ℕ)) : Type 0 where
  pub compares : (a b : A) → cmp a b ≡ order a b
  pub compares_always : (a b : A) → partial_cmp a b ≡ Some (order a b)
  pub total : IsTotalOrder order
  pub level : (a b : A) → (order a b ≡ Equal) ↔ (a ≡ b)
  pub equality : DecidesSame eq
  pub hashes : (a : A) → hash_input a ≡ hashed a
