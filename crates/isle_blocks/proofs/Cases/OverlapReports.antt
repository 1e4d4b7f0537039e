-- Which rules head the errors of three rules, and which rules each error lists.
use Rattle.std.proofs.Common.{◌≡◌, ◌≢◌, ◌<◌, ◌≤◌, ℕ, zero, suc, true, false, List, [], ◌∷◌, ◌++◌, Some, slice_get, codes, refl, sym, subst, ◌∙◌, inl, inr, arith}
use Rattle.std.specs.List.{filter}
use Rattle.std.specs.List.Sorted.{IsSorted, IsSortedByKey}
use Rattle.std.proofs.lemmas.Bool.{cases_Bool}
use Rattle.std.proofs.lemmas.Bool.Decides.{nat_tests}
use Rattle.std.proofs.lemmas.List.{append-nil}
use Rattle.std.specs.Ordering.{is_gt}
use Rattle.std.proofs.lemmas.List.Sorted.{IsPermutation-refl}
use Rattle.isle_ast.specs.declared.pos.Pos.{Pos}
use Rattle.isle_ast.specs.declared.error.Span.{Span}
use Rattle.isle_ast.specs.declared.error.Error.TheVariants.{OverlapError}
use Rattle.isle_blocks.specs.declared.faults.Fault.TheVariants.{Overlap}
use Rattle.isle_blocks.specs.declared.report.RulePlace.{RulePlace}
use Rattle.isle_blocks.specs.declared.report.Group.{Group}
use Rattle.isle_blocks.specs.Reports.{pos_order, place_order, partner_count, IsGreatest, AreGroups, no_pairs, headed, IsReport, is_headed_at}

abbrev pub byte : ℕ → Pos
byte offset = record { file = 0; offset = offset }

-- one byte of the file
abbrev pub span : ℕ → ℕ → Span
span from to = record { from = byte from; to = byte to }

-- three rules, each in a line of its own
abbrev pub second_line : RulePlace
second_line = record { pos = byte 17; id = record { 0 = 0 } }

abbrev pub third_line : RulePlace
third_line = record { pos = byte 32; id = record { 0 = 1 } }

abbrev pub fourth_line : RulePlace
fourth_line = record { pos = byte 47; id = record { 0 = 2 } }

abbrev pub lines : List RulePlace
lines = second_line ∷ third_line ∷ fourth_line ∷ []

-- a rule that isn't later than another, by its place
pub not_later : (known other head : RulePlace) → Some known ≡ Some other → is_gt (place_order known head) ≡ false
    → is_gt (place_order other head) ≡ false
not_later known other head e is = let same : known ≡ other = cc in subst (λ (rule : RulePlace). is_gt (place_order rule head) ≡ false) same is

pub one_ascends : (a : Pos) → IsSorted pos_order (a ∷ [])
one_ascends a k d low high = absurd (omega arith)

second_before_third : IsSorted pos_order (byte 17 ∷ byte 32 ∷ [])
second_before_third zero d low high = refl
second_before_third (suc k) d low high = absurd (omega arith)

second_before_fourth : IsSorted pos_order (byte 17 ∷ byte 47 ∷ [])
second_before_fourth zero d low high = refl
second_before_fourth (suc k) d low high = absurd (omega arith)

-- one group at each position is in turn
pub alone_in_turn : (group : Group) (pos : Pos)
    → filter (is_headed_at pos) (group ∷ []) ≡ filter (is_headed_at pos) (group ∷ []) ++ filter (is_headed_at pos) []
alone_in_turn group pos = sym (append-nil (filter (is_headed_at pos) (group ∷ [])))

-- a group's head stands at the offset of its position
pub same_offset : (group : Group) (pos : Pos) → is_headed_at pos group ≡ true → group.head.pos.offset ≡ pos.offset
same_offset group pos is = grind (arith, nat_tests)

-- so are two whose heads stand at different offsets
pub apart_in_turn : (one other : Group) → one.head.pos.offset ≢ other.head.pos.offset → (pos : Pos)
    → filter (is_headed_at pos) (other ∷ one ∷ []) ≡ filter (is_headed_at pos) (one ∷ other ∷ [])
apart_in_turn one other apart pos = elim (cases_Bool (is_headed_at pos one)) [
  | inl here ↦ elim (cases_Bool (is_headed_at pos other)) [
    | inl there ↦ absurd (apart (same_offset one pos here ∙ sym (same_offset other pos there)))
    | inr elsewhere ↦ rw (here, elsewhere) refl
  ]
  | inr away ↦ rw away refl
]

-- (rule (f _) 1), (rule (f _) 2) and (rule (f _) 3) overlap each with each
abbrev each_with_each : List (ℕ × ℕ)
each_with_each = (0, 1) ∷ (0, 2) ∷ (1, 2) ∷ []

-- all have two partners, so the last one heads the two others
abbrev of_fourth : Group
of_fourth = record { fault = Overlap; head = fourth_line; others = byte 17 ∷ byte 32 ∷ [] }

last_of_three : IsGreatest lines (λ j. partner_count Overlap j each_with_each) 2
last_of_three = record { rule = fourth_line; at = refl; most = most; last = last }
  where
    most : (j : ℕ) → j < 3 → partner_count Overlap j each_with_each ≤ 2
    most zero low = omega arith
    most (suc zero) low = omega arith
    most (suc (suc zero)) low = omega arith
    most (suc (suc (suc j))) low = absurd (omega arith)

    last : (j : ℕ) (other : RulePlace) → slice_get lines j ≡ Some other → partner_count Overlap j each_with_each ≡ 2
        → is_gt (place_order other fourth_line) ≡ false
    last zero other e same = not_later second_line other fourth_line e refl
    last (suc zero) other e same = not_later third_line other fourth_line e refl
    last (suc (suc zero)) other e same = not_later fourth_line other fourth_line e refl
    last (suc (suc (suc j))) other e same = absurd cc

-- what is left is the pair of the first two, of which the later heads the other
abbrev of_third : Group
of_third = record { fault = Overlap; head = third_line; others = byte 17 ∷ [] }

last_of_two : IsGreatest lines (λ j. partner_count Overlap j ((0, 1) ∷ [])) 1
last_of_two = record { rule = third_line; at = refl; most = most; last = last }
  where
    most : (j : ℕ) → j < 3 → partner_count Overlap j ((0, 1) ∷ []) ≤ 1
    most zero low = omega arith
    most (suc zero) low = omega arith
    most (suc (suc zero)) low = omega arith
    most (suc (suc (suc j))) low = absurd (omega arith)

    last : (j : ℕ) (other : RulePlace) → slice_get lines j ≡ Some other → partner_count Overlap j ((0, 1) ∷ []) ≡ 1
        → is_gt (place_order other third_line) ≡ false
    last zero other e same = not_later second_line other third_line e refl
    last (suc zero) other e same = not_later third_line other third_line e refl
    last (suc (suc zero)) other e same = absurd (omega (arith, same))
    last (suc (suc (suc j))) other e same = absurd cc

their_groups : AreGroups Overlap lines each_with_each (of_fourth ∷ of_third ∷ [])
their_groups = headed {i = 2} (omega arith) last_of_three
    (record { fault_is = refl; head_is = refl; moved = IsPermutation-refl (byte 17 ∷ byte 32 ∷ []); ascending = second_before_third })
    (headed {i = 1} (omega arith) last_of_two
    (record { fault_is = refl; head_is = refl; moved = IsPermutation-refl (byte 17 ∷ []); ascending = one_ascends (byte 17) })
    no_pairs)

-- so there are two errors: of line 3 with line 2, and of line 4 with lines 2 and 3
pub report_of_three : IsReport lines each_with_each []
    (OverlapError (codes "rules are overlapping") (span 32 33 ∷ span 17 18 ∷ [])
    ∷ OverlapError (codes "rules are overlapping") (span 47 48 ∷ span 17 18 ∷ span 32 33 ∷ []) ∷ [])
report_of_three = record {
  overlapping = of_fourth ∷ of_third ∷ [];
  shadowing = [];
  sorted = of_third ∷ of_fourth ∷ [];
  overlapping_are = their_groups;
  shadowing_are = no_pairs;
  moved = record { moves = (0, 1) ∷ []; below = (omega arith, omega arith, tt); is = refl };
  ascending = ascends;
  in_turn = λ pos. apart_in_turn of_fourth of_third (λ same. omega (arith, same)) pos
      ∙ sym (append-nil (filter (is_headed_at pos) (of_fourth ∷ of_third ∷ [])));
  errors_are = refl;
}
  where
    ascends : IsSortedByKey (λ (group : Group). group.head.pos) pos_order (of_third ∷ of_fourth ∷ [])
    ascends zero d low high = refl
    ascends (suc k) d low high = absurd (omega arith)

-- the one of line 3 doesn't head them, as that of line 4 has as many partners and stands later
pub not_the_third : IsGreatest lines (λ j. partner_count Overlap j each_with_each) 1 → ⊥
not_the_third greatest =
    let same : greatest.rule ≡ third_line = let e = greatest.at in cc in
    let h : is_gt (place_order fourth_line third_line) ≡ false =
    subst (λ (rule : RulePlace). is_gt (place_order fourth_line rule) ≡ false) same (greatest.last 2 fourth_line refl refl) in cc

-- of a chain, in which the first and the last don't overlap, the middle one alone heads an error, and lists both others
abbrev chain : List (ℕ × ℕ)
chain = (0, 1) ∷ (1, 2) ∷ []

abbrev of_middle : Group
of_middle = record { fault = Overlap; head = third_line; others = byte 17 ∷ byte 47 ∷ [] }

middle : IsGreatest lines (λ j. partner_count Overlap j chain) 1
middle = record { rule = third_line; at = refl; most = most; last = last }
  where
    most : (j : ℕ) → j < 3 → partner_count Overlap j chain ≤ 2
    most zero low = omega arith
    most (suc zero) low = omega arith
    most (suc (suc zero)) low = omega arith
    most (suc (suc (suc j))) low = absurd (omega arith)

    last : (j : ℕ) (other : RulePlace) → slice_get lines j ≡ Some other → partner_count Overlap j chain ≡ 2
        → is_gt (place_order other third_line) ≡ false
    last zero other e same = not_later second_line other third_line e refl
    last (suc zero) other e same = not_later third_line other third_line e refl
    last (suc (suc zero)) other e same = absurd (omega (arith, same))
    last (suc (suc (suc j))) other e same = absurd cc

pub report_of_chain : IsReport lines chain [] (OverlapError (codes "rules are overlapping") (span 32 33 ∷ span 17 18 ∷ span 47 48 ∷ []) ∷ [])
report_of_chain = record {
  overlapping = of_middle ∷ [];
  shadowing = [];
  sorted = of_middle ∷ [];
  overlapping_are = headed {i = 1} (omega arith) middle
      (record { fault_is = refl; head_is = refl; moved = IsPermutation-refl (byte 17 ∷ byte 47 ∷ []); ascending = second_before_fourth }) no_pairs;
  shadowing_are = no_pairs;
  moved = IsPermutation-refl (of_middle ∷ []);
  ascending = λ k d low high. absurd (omega arith);
  in_turn = alone_in_turn of_middle;
  errors_are = refl;
}

-- no other heads it
pub only_the_middle : (i : ℕ) → IsGreatest lines (λ j. partner_count Overlap j chain) i → i ≡ 1
only_the_middle zero greatest = let few : 2 ≤ 1 = greatest.most 1 (omega arith) in absurd (omega arith)
only_the_middle (suc zero) greatest = refl
only_the_middle (suc (suc zero)) greatest = let few : 2 ≤ 1 = greatest.most 1 (omega arith) in absurd (omega arith)
only_the_middle (suc (suc (suc i))) greatest = let none = greatest.at in absurd cc
