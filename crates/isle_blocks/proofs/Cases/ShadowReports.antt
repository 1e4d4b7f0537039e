-- The errors of a rule that shadows two others, which overlap each other.
use Rattle.std.proofs.Common.{◌≡◌, ◌<◌, ◌≤◌, ℕ, zero, suc, false, List, [], ◌∷◌, Some, slice_get, codes, refl, ◌∙◌, arith}
use Rattle.std.specs.List.Sorted.{IsSorted, IsSortedByKey}
use Rattle.std.specs.Ordering.{is_gt}
use Rattle.std.proofs.lemmas.List.Elements.{filter-append}
use Rattle.std.proofs.lemmas.List.Sorted.{IsPermutation-refl}
use Rattle.isle_ast.specs.declared.error.Error.TheVariants.{OverlapError, ShadowedError}
use Rattle.isle_blocks.specs.declared.faults.Fault.TheVariants.{Overlap, Shadow}
use Rattle.isle_blocks.specs.declared.report.RulePlace.{RulePlace}
use Rattle.isle_blocks.specs.declared.report.Group.{Group}
use Rattle.isle_blocks.specs.Reports.{pos_order, place_order, partner_count, IsGreatest, no_pairs, headed, IsReport, is_headed_at}
use Rattle.isle_blocks.proofs.Cases.OverlapReports.{byte, span, second_line, third_line, fourth_line, lines, not_later, one_ascends, apart_in_turn}

-- (rule 1 (f _) 1) leaves (rule (f _) 2) and (rule (f _) 3) nothing to match
abbrev shadows : List (ℕ × ℕ)
shadows = (0, 1) ∷ (0, 2) ∷ []

-- which may match together
abbrev overlaps : List (ℕ × ℕ)
overlaps = (1, 2) ∷ []

-- a rule that shadows heads those that it shadows
abbrev of_second : Group
of_second = record { fault = Shadow; head = second_line; others = byte 32 ∷ byte 47 ∷ [] }

shadowing : IsGreatest lines (λ j. partner_count Shadow j shadows) 0
shadowing = record { rule = second_line; at = refl; most = most; last = last }
  where
    most : (j : ℕ) → j < 3 → partner_count Shadow j shadows ≤ 2
    most zero low = omega arith
    most (suc zero) low = omega arith
    most (suc (suc zero)) low = omega arith
    most (suc (suc (suc j))) low = absurd (omega arith)

    last : (j : ℕ) (other : RulePlace) → slice_get lines j ≡ Some other → partner_count Shadow j shadows ≡ 2
        → is_gt (place_order other second_line) ≡ false
    last zero other e same = not_later second_line other second_line e refl
    last (suc zero) other e same = absurd (omega (arith, same))
    last (suc (suc zero)) other e same = absurd (omega (arith, same))
    last (suc (suc (suc j))) other e same = absurd cc

third_before_fourth : IsSorted pos_order (byte 32 ∷ byte 47 ∷ [])
third_before_fourth zero d low high = refl
third_before_fourth (suc k) d low high = absurd (omega arith)

-- and of the two that overlap the later heads the earlier
abbrev of_fourth : Group
of_fourth = record { fault = Overlap; head = fourth_line; others = byte 32 ∷ [] }

overlapping : IsGreatest lines (λ j. partner_count Overlap j overlaps) 2
overlapping = record { rule = fourth_line; at = refl; most = most; last = last }
  where
    most : (j : ℕ) → j < 3 → partner_count Overlap j overlaps ≤ 1
    most zero low = omega arith
    most (suc zero) low = omega arith
    most (suc (suc zero)) low = omega arith
    most (suc (suc (suc j))) low = absurd (omega arith)

    last : (j : ℕ) (other : RulePlace) → slice_get lines j ≡ Some other → partner_count Overlap j overlaps ≡ 1
        → is_gt (place_order other fourth_line) ≡ false
    last zero other e same = absurd (omega (arith, same))
    last (suc zero) other e same = not_later third_line other fourth_line e refl
    last (suc (suc zero)) other e same = not_later fourth_line other fourth_line e refl
    last (suc (suc (suc j))) other e same = absurd cc

pub report : IsReport lines overlaps shadows
    (ShadowedError (span 32 33 ∷ span 47 48 ∷ []) (span 17 18)
    ∷ OverlapError (codes "rules are overlapping") (span 47 48 ∷ span 32 33 ∷ []) ∷ [])
report = record {
  overlapping = of_fourth ∷ [];
  shadowing = of_second ∷ [];
  sorted = of_second ∷ of_fourth ∷ [];
  overlapping_are = headed {i = 2} (omega arith) overlapping
      (record { fault_is = refl; head_is = refl; moved = IsPermutation-refl (byte 32 ∷ []); ascending = one_ascends (byte 32) }) no_pairs;
  shadowing_are = headed {i = 0} (omega arith) shadowing
      (record { fault_is = refl; head_is = refl; moved = IsPermutation-refl (byte 32 ∷ byte 47 ∷ []); ascending = third_before_fourth }) no_pairs;
  moved = record { moves = (0, 1) ∷ []; below = (omega arith, omega arith, tt); is = refl };
  ascending = ascends;
  in_turn = λ pos. apart_in_turn of_fourth of_second (λ same. omega (arith, same)) pos ∙ filter-append (is_headed_at pos)
      (of_fourth ∷ []) (of_second ∷ []);
  errors_are = refl;
}
  where
    ascends : IsSortedByKey (λ (group : Group). group.head.pos) pos_order (of_second ∷ of_fourth ∷ [])
    ascends zero d low high = refl
    ascends (suc k) d low high = absurd (omega arith)

-- a rule that is shadowed heads nothing
pub not_the_shadowed : IsGreatest lines (λ j. partner_count Shadow j shadows) 2 → ⊥
not_the_shadowed greatest = let few : 2 ≤ 0 = greatest.most 0 (omega arith) in omega arith
