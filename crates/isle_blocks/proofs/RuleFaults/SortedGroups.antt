-- Groups sorted by the positions of their heads: those of one position stay in the order in which they stood.
use Rattle.std.proofs.Common.{◌≡◌, ℕ, Bool, List, [], ◌∷◌, ◌++◌, map, refl, sym, ap, ◌∙◌, not, ◌&&◌, ◌==◌, arith}
use Rattle.std.specs.List.{filter}
use Rattle.std.specs.List.Sorted.{IsPermutation, IsSortedByKey, IsStableByKey}
use Rattle.std.specs.Ordering.{nat_cmp, ordering_then, is_lt}
use Rattle.std.proofs.lemmas.Bool.Decides.{nat_tests}
use Rattle.std.proofs.lemmas.List.Elements.{filter-append}
use Rattle.isle_ast.specs.declared.pos.Pos.{Pos}
use Rattle.isle_ast.specs.declared.error.Error.{Error}
use Rattle.isle_blocks.specs.declared.faults.Fault.TheVariants.{Overlap, Shadow}
use Rattle.isle_blocks.specs.declared.report.RulePlace.{RulePlace}
use Rattle.isle_blocks.specs.declared.report.Group.{Group}
use Rattle.isle_blocks.specs.Reports.{AddsGroups, IsReport, error_of, is_headed_at, pos_order}

-- two positions tie where they are one
tied : (a b c d : ℕ) → not (is_lt (ordering_then (nat_cmp a c) (nat_cmp b d))) && not (is_lt (ordering_then (nat_cmp c a) (nat_cmp d b)))
    ≡ (c == a) && (d == b)
tied a b c d = grind (arith, nat_tests)

filter_same : {X : Type 0} (p q : X → Bool) (xs : List X) → ((x : X) → p x ≡ q x) → filter p xs ≡ filter q xs
filter_same p q [] same = refl
filter_same p q (x ∷ xs) same = rw (same x, filter_same p q xs same) refl

-- whether a group's head ties with a position
abbrev ties_at : Pos → Group → Bool
ties_at pos group = not (is_lt (pos_order pos group.head.pos)) && not (is_lt (pos_order group.head.pos pos))

-- groups at a position are those that tie with it
tied_at : (pos : Pos) (groups : List Group) → filter (ties_at pos) groups ≡ filter (is_headed_at pos) groups
tied_at pos groups = filter_same (ties_at pos) (is_headed_at pos) groups
    (λ group. tied pos.file pos.offset group.head.pos.file group.head.pos.offset)

-- some group with a head at a position
abbrev group_at : Pos → Group
group_at pos = record { fault = Overlap; head = record { pos = pos; id = record { 0 = 0 } }; others = [] }

-- a stable sort leaves the groups of one position in their order
stays_at : (groups sorted : List Group) → IsStableByKey (λ (group : Group). group.head.pos) pos_order groups sorted → (pos : Pos)
    → filter (is_headed_at pos) sorted ≡ filter (is_headed_at pos) groups
stays_at groups sorted stable pos = sym (tied_at pos sorted) ∙ stable (group_at pos) ∙ tied_at pos groups

-- the groups of overlaps, and then those of shadows, sorted, are a report
pub report_is : (rules : List RulePlace) (overlaps shadows : List (ℕ × ℕ)) (first both sorted : List Group) (errors : List Error)
    → AddsGroups Overlap rules overlaps [] first → AddsGroups Shadow rules shadows first both → IsPermutation both sorted
    → IsSortedByKey (λ (group : Group). group.head.pos) pos_order sorted → IsStableByKey (λ (group : Group). group.head.pos) pos_order both sorted
    → errors ≡ map error_of sorted → IsReport rules overlaps shadows errors
report_is rules overlaps shadows first both sorted errors one other moved ascending stable are =
    let joined : both ≡ one.groups ++ other.groups = other.added ∙ ap (λ (l : List Group). l ++ other.groups) one.added in
    record {
      overlapping = one.groups;
      shadowing = other.groups;
      sorted = sorted;
      overlapping_are = one.are_groups;
      shadowing_are = other.are_groups;
      moved = rw joined at moved;
      ascending = ascending;
      in_turn = λ pos. stays_at both sorted stable pos ∙ ap (λ (l : List Group). filter (is_headed_at pos) l) joined
          ∙ filter-append (is_headed_at pos) one.groups other.groups;
      errors_are = are;
    }
