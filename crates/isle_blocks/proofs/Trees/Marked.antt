-- A site that is marked already, or can't be bound, is passed over.
use Rattle.std.proofs.Common.{◌≡◌, inl, inr, ℕ, ◌+◌, ◌<◌, ◌&&◌, not, List, Bool, true, false, length, refl, sym, subst, get_or, take}
use Rattle.isle_trees.specs.Rules.{Rules}
use Rattle.isle_trees.specs.Scopes.{Scope}
use Rattle.isle_trees.specs.Search.{ArePartsFirst, can_bind, is_marked}
use Rattle.isle_trees.proofs.Basics.{SameIs, SameSelf, and_fails}
use Rattle.isle_trees.proofs.Building.Lists.{last_or}
use Rattle.isle_trees.proofs.Building.Marks.{Marking, marking_same}

not_false : (b : Bool) → not b ≡ false → b ≡ true
not_false true e = refl
not_false false e = cc

-- the list is gone over one site further, where that site is marked
marking_marked : {C V : Type 0} (R : Rules C V) (sc : Scope C) (sites : List ℕ) (start marks : List Bool) (i : ℕ) → i < length sites
    → Marking R sc (take i sites) start marks → is_marked marks (get_or sites i 0) ≡ true → Marking R sc (take (i + 1) sites) start marks
marking_marked R sc sites start marks i l h e = record {
  size = h.size;
  sound = h.sound;
  full = λ s m a. elim (last_or s 0 sites i l m) [
    | inl o ↦ h.full s o a
    | inr same ↦ let P : ℕ → Type 0 = λ x. is_marked marks x ≡ true in subst P (sym same) e
  ];
  kept = h.kept;
}

-- the same, where that site is marked or can't be bound
pub marking_passed : {C V : Type 0} (R : Rules C V) → SameIs R.tests → SameSelf R.tests
    → (sc : Scope C) (sites : List ℕ) (start marks : List Bool) (i : ℕ) → i < length sites
    → ArePartsFirst R sites → Marking R sc (take i sites) start marks
    → (not (is_marked marks (get_or sites i 0)) && can_bind R sc marks (get_or sites i 0)) ≡ false → Marking R sc (take (i + 1) sites) start marks
marking_passed R same self sc sites start marks i l first h e = elim (and_fails (not (is_marked marks (get_or sites i 0))) _ e) [
  | inl n ↦ marking_marked R sc sites start marks i l h (not_false _ n)
  | inr n ↦ marking_same R same self sc sites start marks i l first h n
]
