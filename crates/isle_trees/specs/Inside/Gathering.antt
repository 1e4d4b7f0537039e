-- Sites with what they are made of, gathered by marks.
use Rattle.std.specs.Prelude.{◌≡◌, ◌⊎◌, ℕ, ◌<◌, ◌++◌, List, Bool, true, false, length}
use Rattle.isle_trees.specs.Rules.{Rules, Elem, IsPartOf}
use Rattle.isle_trees.specs.Bag.{IsAscending}
use Rattle.isle_trees.specs.Search.{is_marked, AreDistinct}

-- listed is what is marked and wasn't at the start
pub record IsGathering (start marks : List Bool) (list : List ℕ) : Type 0 where
  pub size : length marks ≡ length start
  pub either : (x : ℕ) → is_marked marks x ≡ true → (is_marked start x ≡ true) ⊎ Elem x list
  pub kept : (x : ℕ) → is_marked start x ≡ true → is_marked marks x ≡ true
  pub here : (x : ℕ) → Elem x list → is_marked marks x ≡ true
  pub fresh : (x : ℕ) → Elem x list → is_marked start x ≡ false
  pub below : (x : ℕ) → Elem x list → x < length start
  pub distinct : AreDistinct list

-- sites that weren't marked were added to a list, and marked
pub record Gathers (sites : List ℕ) (old new : List Bool) (before after : List ℕ) : Type 0 where
  pub more : List ℕ
  pub list : after ≡ before ++ more
  pub from : (x : ℕ) → Elem x more → Elem x sites
  pub bound : (x : ℕ) → Elem x sites → is_marked new x ≡ true
  pub kept : (x : ℕ) → is_marked old x ≡ true → is_marked new x ≡ true
  pub size : length new ≡ length old
  pub gathering : (start : List Bool) → IsGathering start old before → IsGathering start new after

-- sites and what they are made of, but what was marked
pub record IsClosure {C V : Type 0} (R : Rules C V) (sites : List ℕ) (old new : List Bool) (list : List ℕ) : Type 0 where
  pub size : length new ≡ length old
  pub either : (x : ℕ) → is_marked new x ≡ true → (is_marked old x ≡ true) ⊎ Elem x list
  pub kept : (x : ℕ) → is_marked old x ≡ true → is_marked new x ≡ true
  pub here : (x : ℕ) → Elem x list → is_marked new x ≡ true
  pub fresh : (x : ℕ) → Elem x list → is_marked old x ≡ false
  pub below : (x : ℕ) → Elem x list → x < length old
  pub ascend : IsAscending list
  pub only : (x : ℕ) → Elem x list → IsPartOf R sites x
  pub bound : (x : ℕ) → Elem x sites → is_marked new x ≡ true
  pub closed : (x p : ℕ) → Elem x list → Elem p (R.parts x) → is_marked new p ≡ true
