-- The errors of a rule that both overlaps another and shadows a third: the overlap stands first.
use Rattle.std.proofs.Common.{◌≡◌, ◌<◌, ◌≤◌, ℕ, zero, suc, false, List, [], ◌∷◌, ◌++◌, Some, slice_get, codes, refl, inl, inr, arith}
use Rattle.std.specs.List.{filter}
use Rattle.std.specs.List.Sorted.{IsSortedByKey}
use Rattle.std.specs.Ordering.{is_gt}
use Rattle.std.proofs.lemmas.Bool.{cases_Bool}
use Rattle.std.proofs.lemmas.List.Elements.{filter-append}
use Rattle.std.proofs.lemmas.List.Sorted.{IsPermutation-refl}
use Rattle.isle_ast.specs.declared.pos.Pos.{Pos}
use Rattle.isle_ast.specs.declared.error.Error.TheVariants.{OverlapError, ShadowedError}
use Rattle.isle_blocks.specs.declared.faults.Fault.TheVariants.{Overlap, Shadow}
use Rattle.isle_blocks.specs.declared.report.RulePlace.{RulePlace}
use Rattle.isle_blocks.specs.declared.report.Group.{Group}
use Rattle.isle_blocks.specs.Reports.{pos_order, place_order, partner_count, IsGreatest, no_pairs, headed, IsReport, is_headed_at}
use Rattle.isle_blocks.proofs.Cases.OverlapReports.{byte, span, second_line, third_line, lines, not_later, one_ascends, same_offset}

-- (rule 1 (f _) 1) and (rule 1 (f _) 2) overlap
abbrev overlaps : List (ℕ × ℕ)
overlaps = (0, 1) ∷ []

-- and each leaves (rule (f _) 3) nothing to match
abbrev shadows : List (ℕ × ℕ)
shadows = (0, 2) ∷ (1, 2) ∷ []

-- the later of the two heads the earlier
abbrev overlapping_third : Group
overlapping_third = record { fault = Overlap; head = third_line; others = byte 17 ∷ [] }

-- and both head the last
abbrev shadowing_third : Group
shadowing_third = record { fault = Shadow; head = third_line; others = byte 47 ∷ [] }

abbrev shadowing_second : Group
shadowing_second = record { fault = Shadow; head = second_line; others = byte 47 ∷ [] }

third_overlaps : IsGreatest lines (λ j. partner_count Overlap j overlaps) 1
third_overlaps = record { rule = third_line; at = refl; most = most; last = last }
  where
    most : (j : ℕ) → j < 3 → partner_count Overlap j overlaps ≤ 1
    most zero low = omega arith
    most (suc zero) low = omega arith
    most (suc (suc zero)) low = omega arith
    most (suc (suc (suc j))) low = absurd (omega arith)

    last : (j : ℕ) (other : RulePlace) → slice_get lines j ≡ Some other → partner_count Overlap j overlaps ≡ 1
        → is_gt (place_order other third_line) ≡ false
    last zero other e same = not_later second_line other third_line e refl
    last (suc zero) other e same = not_later third_line other third_line e refl
    last (suc (suc zero)) other e same = absurd (omega (arith, same))
    last (suc (suc (suc j))) other e same = absurd cc

third_shadows : IsGreatest lines (λ j. partner_count Shadow j shadows) 1
third_shadows = record { rule = third_line; at = refl; most = most; last = last }
  where
    most : (j : ℕ) → j < 3 → partner_count Shadow j shadows ≤ 1
    most zero low = omega arith
    most (suc zero) low = omega arith
    most (suc (suc zero)) low = omega arith
    most (suc (suc (suc j))) low = absurd (omega arith)

    last : (j : ℕ) (other : RulePlace) → slice_get lines j ≡ Some other → partner_count Shadow j shadows ≡ 1
        → is_gt (place_order other third_line) ≡ false
    last zero other e same = not_later second_line other third_line e refl
    last (suc zero) other e same = not_later third_line other third_line e refl
    last (suc (suc zero)) other e same = absurd (omega (arith, same))
    last (suc (suc (suc j))) other e same = absurd cc

second_shadows : IsGreatest lines (λ j. partner_count Shadow j ((0, 2) ∷ [])) 0
second_shadows = record { rule = second_line; at = refl; most = most; last = last }
  where
    most : (j : ℕ) → j < 3 → partner_count Shadow j ((0, 2) ∷ []) ≤ 1
    most zero low = omega arith
    most (suc zero) low = omega arith
    most (suc (suc zero)) low = omega arith
    most (suc (suc (suc j))) low = absurd (omega arith)

    last : (j : ℕ) (other : RulePlace) → slice_get lines j ≡ Some other → partner_count Shadow j ((0, 2) ∷ []) ≡ 1
        → is_gt (place_order other second_line) ≡ false
    last zero other e same = not_later second_line other second_line e refl
    last (suc zero) other e same = absurd (omega (arith, same))
    last (suc (suc zero)) other e same = absurd (omega (arith, same))
    last (suc (suc (suc j))) other e same = absurd cc

-- so there are three errors: line 2 shadows line 4; line 3 overlaps line 2, and then shadows line 4
pub report : IsReport lines overlaps shadows
    (ShadowedError (span 47 48 ∷ []) (span 17 18)
    ∷ OverlapError (codes "rules are overlapping") (span 32 33 ∷ span 17 18 ∷ [])
    ∷ ShadowedError (span 47 48 ∷ []) (span 32 33) ∷ [])
report = record {
  overlapping = overlapping_third ∷ [];
  shadowing = shadowing_third ∷ shadowing_second ∷ [];
  sorted = shadowing_second ∷ overlapping_third ∷ shadowing_third ∷ [];
  overlapping_are = headed {i = 1} (omega arith) third_overlaps
      (record { fault_is = refl; head_is = refl; moved = IsPermutation-refl (byte 17 ∷ []); ascending = one_ascends (byte 17) }) no_pairs;
  shadowing_are = headed {i = 1} (omega arith) third_shadows
      (record { fault_is = refl; head_is = refl; moved = IsPermutation-refl (byte 47 ∷ []); ascending = one_ascends (byte 47) })
      (headed {i = 0} (omega arith) second_shadows
      (record { fault_is = refl; head_is = refl; moved = IsPermutation-refl (byte 47 ∷ []); ascending = one_ascends (byte 47) }) no_pairs);
  moved = record { moves = (1, 2) ∷ (0, 2) ∷ []; below = (omega arith, omega arith, (omega arith, omega arith, tt)); is = refl };
  ascending = ascends;
  in_turn = λ pos. in_turn pos;
  errors_are = refl;
}
  where
    ascends : IsSortedByKey (λ (group : Group). group.head.pos) pos_order (shadowing_second ∷ overlapping_third ∷ shadowing_third ∷ [])
    ascends zero d low high = refl
    ascends (suc zero) d low high = refl
    ascends (suc (suc k)) d low high = absurd (omega arith)

    in_turn : (pos : Pos) → filter (is_headed_at pos) (shadowing_second ∷ overlapping_third ∷ shadowing_third ∷ [])
        ≡ filter (is_headed_at pos) (overlapping_third ∷ []) ++ filter (is_headed_at pos) (shadowing_third ∷ shadowing_second ∷ [])
    in_turn pos = elim (cases_Bool (is_headed_at pos shadowing_second)) [
      | inl here ↦ elim (cases_Bool (is_headed_at pos overlapping_third)) [
        | inl there ↦ absurd (let e = same_offset shadowing_second pos here in let f = same_offset overlapping_third pos there in omega arith)
        | inr away ↦ rw (here, away) refl
      ]
      | inr away ↦ rw away (filter-append (is_headed_at pos) (overlapping_third ∷ []) (shadowing_third ∷ []))
    ]
