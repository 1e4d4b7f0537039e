-- Trees that a machine can walk: each step binds sites of the table, and reads what is bound.
use Rattle.std.specs.Prelude.{◌≡◌, ℕ, Bool, true, false, List, [], ◌∷◌, Some, slice_get}
use Rattle.isle_trees.specs.Reads.{more, know}
use Rattle.isle_trees.specs.Rules.{Elem}
use Rattle.isle_trees.specs.Tree.{Steps, done, «match», equal, loop, give, Arms, no_arm, arm}
use Rattle.isle_meaning.specs.Machine.Runs.{TermTree, is_computed, opened}
use Rattle.isle_meaning.specs.Machine.Trees.{IsTermTree, parts_of_row}
use Rattle.isle_meaning.specs.Numbered.{Row}
use Rattle.isle_meaning.specs.Worlds.{CheckedProgram}

-- a site can be read: it is bound, or it is computed of what is
pub record CanRead (sites : List Row) (bound : ℕ → Bool) (k : ℕ) : Type 0 where
  pub row : Row
  pub there : slice_get sites k ≡ Some row
  pub is_bound : is_computed row ≡ false → bound k ≡ true
  pub parts_bound : is_computed row ≡ true → (j : ℕ) → Elem j (parts_of_row row) → bound j ≡ true

-- a site can be bound: its parts can be read
pub record CanBind (sites : List Row) (bound : ℕ → Bool) (k : ℕ) : Type 0 where
  pub row : Row
  pub there : slice_get sites k ≡ Some row
  pub parts : (j : ℕ) → Elem j (parts_of_row row) → CanRead sites bound j

-- so can sites in turn
abbrev pub CanBindAll : List Row → (ℕ → Bool) → List ℕ → Type 0
CanBindAll sites bound [] = Unit {0}
CanBindAll sites bound (k ∷ ks) = CanBind sites bound k × CanBindAll sites (more bound k) ks

-- The steps bind what can be bound, and test and return what can be read then; none of them takes one value of several.
abbrev mutual
  pub IsWalkable : {C : Type 0} → List Row → (ℕ → ℕ) → (ℕ → Bool) → Steps C → Type 0
  IsWalkable sites result bound done = Unit {0}
  IsWalkable sites result bound («match» binds s arms next) = CanBindAll sites bound binds × CanRead sites (know bound binds) s
      × AreWalkable sites result (know bound binds) arms × IsWalkable sites result (know bound binds) next
  IsWalkable sites result bound (equal binds a b body next) = CanBindAll sites bound binds × CanRead sites (know bound binds) a
      × CanRead sites (know bound binds) b × IsWalkable sites result (know bound binds) body × IsWalkable sites result (know bound binds) next
  IsWalkable sites result bound (loop binds k body next) = ⊥
  IsWalkable sites result bound (give binds i next) = CanBindAll sites bound binds × CanRead sites (know bound binds) (result i)

  -- so are the arms' steps, behind what the arms open
  pub AreWalkable : {C : Type 0} → List Row → (ℕ → ℕ) → (ℕ → Bool) → Arms C → Type 0
  AreWalkable sites result bound no_arm = Unit {0}
  AreWalkable sites result bound (arm c fields body arms) = CanBindAll sites bound (opened fields)
      × IsWalkable sites result (know bound (opened fields)) body × AreWalkable sites result bound arms

-- The tree of a term can be walked.
abbrev pub TermTreesAreWalkable : (C : Type 0) → Type 0
TermTreesAreWalkable C = (p : CheckedProgram) (runs : ℕ → Bool) (t : ℕ) (b : TermTree C) → IsTermTree p (λ u. runs u ≡ true) t b
    → IsWalkable b.sites b.result (λ k. false) b.tree
