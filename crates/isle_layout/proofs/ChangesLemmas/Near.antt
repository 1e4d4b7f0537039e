-- A line is shown exactly where a change is within three lines of it.
use Rattle.std.proofs.Common.{◌≡◌, ℕ, ◌+◌, ◌-◌, List, [], ◌∷◌, take, false, refl, ap, ◌∙◌, arith}
use Rattle.std.specs.Prelude.{nat_lt, ◌||◌}
use Rattle.std.specs.List.{list_any}
use Rattle.std.proofs.lemmas.Bool.Decides.{nat_tests}
use Rattle.isle_layout.specs.declared.changes.hunks.Place.{Place}
use Rattle.isle_layout.specs.declared.changes.script.Mark.{Mark}
use Rattle.isle_layout.specs.declared.changes.script.Mark.TheVariants.{Kept, Removed, Added}
use Rattle.isle_layout.specs.Changes.Scripts.{Edit}
use Rattle.isle_layout.specs.Changes.Hunks.{behind, is_change, is_shown, place_after}
use Rattle.isle_layout.specs.Inside.Changes.{edit_by}

one_less : (k left : ℕ) → nat_lt k (left - 1) ≡ nat_lt (k + 1) left
one_less k left = grind (arith, nat_tests)

-- how many lines are left to show tells which of the three lines before are changed
record TellsNear (before : List Edit) (left : ℕ) : Type 0 where
  three : nat_lt 0 left ≡ list_any is_change (take 3 before)
  two : nat_lt 1 left ≡ list_any is_change (take 2 before)
  one : nat_lt 2 left ≡ list_any is_change (take 1 before)
  most : nat_lt 3 left ≡ false

tells_behind : (mark : Mark) (line : List ℕ) (before : List Edit) (place : Place) → TellsNear before place.left
    → TellsNear (edit_by mark line ∷ before) (behind place mark).left
tells_behind Kept line before place near = record {
  three = one_less 0 place.left ∙ near.two;
  two = one_less 1 place.left ∙ near.one;
  one = one_less 2 place.left ∙ near.most;
  most = grind (arith, nat_tests, near.most);
}
tells_behind Removed line before place near = record { three = refl; two = refl; one = refl; most = refl }
tells_behind Added line before place near = record { three = refl; two = refl; one = refl; most = refl }

tells_near : (before : List Edit) → TellsNear before (place_after before).left
tells_near [] = record { three = refl; two = refl; one = refl; most = refl }
tells_near (e ∷ before) = tells_behind e.mark e.line before (place_after before) (tells_near before)

-- a line is shown exactly where one of the three before it, it or one of the three behind it is changed
pub shown_near : (before after : List Edit)
    → is_shown (place_after before) after ≡ (list_any is_change (take 3 before) || list_any is_change (take 4 after))
shown_near before after = ap (λ b. b || list_any is_change (take 4 after)) (tells_near before).three
