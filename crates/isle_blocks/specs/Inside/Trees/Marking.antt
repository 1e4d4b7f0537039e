-- What is marked from step to step, as tests pass.
use Rattle.std.specs.Prelude.{◌≡◌, ◌≢◌, ◌⊎◌, ℕ, ◌++◌, ◌<◌, ◌&&◌, nat_lt, List, Bool, true, Some, length}
use Rattle.isle_trees.specs.Inside.Gathering.{IsGathering}
use Rattle.isle_trees.specs.Rules.{Want, Rules, Elem, Asked}
use Rattle.isle_trees.specs.Scopes.{Scope}
use Rattle.isle_trees.specs.Search.{AreMarked, AreSound, can_bind, is_marked, is_open}

-- what passed is the same, but for one site
abbrev pub IsPast : {C : Type 0} → Scope C → ℕ → Scope C → Type 0
IsPast before s after = (y : ℕ) → y ≢ s → after.passed y ≡ before.passed y

-- sites that can be bound were marked, and added to a list; none of those gone over is left that could be bound at once
pub record Spreads {C V : Type 0} (R : Rules C V) (sc : Scope C) (sites : List ℕ) (old new : List Bool) (before after : List ℕ) : Type 0 where
  pub more : List ℕ
  pub list : after ≡ before ++ more
  pub bound : (x : ℕ) → Elem x sites → can_bind R sc old x ≡ true → is_marked new x ≡ true
  pub kept : (x : ℕ) → is_marked old x ≡ true → is_marked new x ≡ true
  pub size : length new ≡ length old
  pub sound : AreSound R sc old → AreSound R sc new
  pub gathering : (start : List Bool) → IsGathering start old before → IsGathering start new after

-- Past a test of a site, marks are what they were and those of a list. Where all that rules ask was marked as far as it was available,
-- it is so again.
pub record IsSpread {C V : Type 0} (R : Rules C V) (sc : Scope C) (s : ℕ) (old new : List Bool) (list : List ℕ) : Type 0 where
  pub size : length new ≡ length old
  pub either : (x : ℕ) → is_marked new x ≡ true → (is_marked old x ≡ true) ⊎ Elem x list
  pub marked : (left : List ℕ) (before : Scope C) → AreMarked R left before old → IsPast before s sc → AreMarked R left sc new

-- each site that the tests of a rule ask is listed at each of its parts
pub record AreDependents {C V : Type 0} (R : Rules C V) (n : ℕ) (dependents : ℕ → List ℕ) : Type 0 where
  pub within : (p x : ℕ) → Elem x (dependents p) → x < n
  pub all : (i x p : ℕ) → Asked R i x → Elem p (R.parts x) → Elem x (dependents p)

-- a site was listed at each of its parts, and no other anywhere
pub record ListsAt (site : ℕ) (parts : List ℕ) (old new : ℕ → List ℕ) : Type 0 where
  pub kept : (p x : ℕ) → Elem x (old p) → Elem x (new p)
  pub here : (p : ℕ) → Elem p parts → Elem site (new p)
  pub only : (p x : ℕ) → Elem x (new p) → Elem x (old p) ⊎ (x ≡ site)

-- each site that rules left test, and that can be tested now, is listed
abbrev pub AreReady : {C V : Type 0} → Rules C V → List ℕ → Scope C → List Bool → List ℕ → Type 0
AreReady {C} R left sc marks ready = (i x : ℕ) (w : Want C) → Elem i left → R.at i x ≡ Some w → is_open sc marks x ≡ true → Elem x ready

-- a site can be tested now, and some rule tests it
abbrev pub is_testable : {C : Type 0} → (ℕ → List ℕ) → Scope C → List Bool → ℕ → Bool
is_testable users sc marks x = is_open sc marks x && nat_lt 0 (length (users x))
