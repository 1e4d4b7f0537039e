-- What is reported of rules that overlap or shadow others. Rules go by their places in a list.
use Rattle.std.specs.Prelude.{◌≡◌, ◌≢◌, ◌<◌, ◌≤◌, ◌⊎◌, ◌==◌, ◌&&◌, ℕ, Bool, false, not, cond, List, [], ◌∷◌, ◌++◌, length, map, filter, count_by, codes}
use Rattle.std.specs.Prelude.{All, Option, Some, None, IsSome, is_some, option_map, slice_get, slice_index, IsPermutation, IsSorted}
use Rattle.std.specs.List.{AllZip, filter_map, flat_map}
use Rattle.std.specs.List.Sorted.{IsSortedByKey}
use Rattle.std.specs.Ordering.{nat_cmp, ordering_then, is_gt}
use Rattle.std.specs.declared.cmp.Ordering.{Ordering}
use Rattle.std.specs.declared.cmp.Ordering.TheVariants.{Less}
use Rattle.isle_ast.specs.Errors.{span_at}
use Rattle.isle_ast.specs.declared.pos.Pos.{Pos}
use Rattle.isle_ast.specs.declared.error.Error.{Error}
use Rattle.isle_ast.specs.declared.error.Error.TheVariants.{OverlapError, ShadowedError}
use Rattle.isle_blocks.specs.declared.faults.Fault.{Fault}
use Rattle.isle_blocks.specs.declared.faults.Fault.TheVariants.{Overlap, Shadow}
use Rattle.isle_blocks.specs.declared.report.RulePlace.{RulePlace}
use Rattle.isle_blocks.specs.declared.report.Group.{Group}

-- positions ascend by the file, then by the offset
abbrev pub pos_order : Pos → Pos → Ordering
pos_order a b = ordering_then (nat_cmp a.file b.file) (nat_cmp a.offset b.offset)

-- rules ascend by the position, then by the number
abbrev pub place_order : RulePlace → RulePlace → Ordering
place_order a b = ordering_then (pos_order a.pos b.pos) (nat_cmp a.id.0 b.id.0)

-- each pair is of two different places
abbrev pub ArePairs : ℕ → List (ℕ × ℕ) → Type 0
ArePairs n pairs = All (λ pair. (pair.0 < n) × (pair.1 < n) × (pair.0 ≢ pair.1)) pairs

-- the other place of a pair that i heads: of an overlap either may head it, of a shadow only the rule that shadows
abbrev pub partner : Fault → ℕ → ℕ × ℕ → Option ℕ
partner Overlap i pair = cond (pair.0 == i) (Some pair.1) (cond (pair.1 == i) (Some pair.0) None)
partner Shadow i pair = cond (pair.0 == i) (Some pair.1) None

-- the partners of a place
abbrev pub partners : Fault → ℕ → List (ℕ × ℕ) → List ℕ
partners fault i pairs = filter_map (partner fault i) pairs

-- how many they are
abbrev pub partner_count : Fault → ℕ → List (ℕ × ℕ) → ℕ
partner_count fault i pairs = count_by (λ pair. is_some (partner fault i pair)) pairs

-- the pairs that i doesn't head
abbrev pub pairs_without : Fault → ℕ → List (ℕ × ℕ) → List (ℕ × ℕ)
pairs_without fault i pairs = filter (λ pair. not (is_some (partner fault i pair))) pairs

-- the positions of the rules at places
abbrev pub positions : List RulePlace → List ℕ → List Pos
positions rules places = filter_map (λ i. option_map (λ (rule : RulePlace). rule.pos) (slice_get rules i)) places

-- the second place has a greater count, or the same one and a later rule
pub record IsBelow (rules : List RulePlace) (counts : List ℕ) (i j : ℕ) : Type 0 where
  pub first : RulePlace
  pub second : RulePlace
  pub first_at : slice_get rules i ≡ Some first
  pub second_at : slice_get rules j ≡ Some second
  pub below : (slice_index counts i < slice_index counts j)
      ⊎ ((slice_index counts i ≡ slice_index counts j) × (place_order first second ≡ Less))

-- no place has a greater count, and among those with that count no rule stands later
pub record IsGreatest (rules : List RulePlace) (count : ℕ → ℕ) (i : ℕ) : Type 0 where
  pub rule : RulePlace
  pub at : slice_get rules i ≡ Some rule
  pub most : (j : ℕ) → j < length rules → count j ≤ count i
  pub last : (j : ℕ) (other : RulePlace) → slice_get rules j ≡ Some other → count j ≡ count i → is_gt (place_order other rule) ≡ false

-- the group of a place: its rule, and the positions of its partners in ascending order
pub record IsGroup (fault : Fault) (rules : List RulePlace) (i : ℕ) (pairs : List (ℕ × ℕ)) (group : Group) : Type 0 where
  pub fault_is : group.fault ≡ fault
  pub head_is : slice_get rules i ≡ Some group.head
  pub moved : IsPermutation (positions rules (partners fault i pairs)) group.others
  pub ascending : IsSorted pos_order group.others

-- While pairs are left, the rule with most partners left, among these the last, heads a group of its partners left, and
-- its pairs are taken out.
pub data AreGroups (fault : Fault) (rules : List RulePlace) : List (ℕ × ℕ) → List Group → Type 0 where
  no_pairs : AreGroups fault rules [] []
  headed : {pairs : List (ℕ × ℕ)} {i : ℕ} {group : Group} {groups : List Group} → 0 < partner_count fault i pairs
      → IsGreatest rules (λ j. partner_count fault j pairs) i → IsGroup fault rules i pairs group
      → AreGroups fault rules (pairs_without fault i pairs) groups → AreGroups fault rules pairs (group ∷ groups)

-- the groups of the pairs stand behind the old ones
pub record AddsGroups (fault : Fault) (rules : List RulePlace) (pairs : List (ℕ × ℕ)) (old new : List Group) : Type 0 where
  pub groups : List Group
  pub added : new ≡ old ++ groups
  pub are_groups : AreGroups fault rules pairs groups

abbrev pub overlap_message : List ℕ
overlap_message = codes "rules are overlapping"

-- the error of a group: of overlapping rules with the head first, of a shadowing rule with the ones that it shadows
abbrev pub error_by : Fault → Group → Error
error_by Overlap group = OverlapError overlap_message (span_at group.head.pos ∷ map span_at group.others)
error_by Shadow group = ShadowedError (map span_at group.others) (span_at group.head.pos)

abbrev pub error_of : Group → Error
error_of group = error_by group.fault group

-- whether a group's head stands at a position
abbrev pub is_headed_at : Pos → Group → Bool
is_headed_at pos group = (group.head.pos.file == pos.file) && (group.head.pos.offset == pos.offset)

-- The errors of all groups, ascending by the positions of their heads. At one position those of overlaps stand first, and then
-- those of shadows, each in the order in which they are made.
pub record IsReport (rules : List RulePlace) (overlaps shadows : List (ℕ × ℕ)) (errors : List Error) : Type 0 where
  pub overlapping : List Group
  pub shadowing : List Group
  pub sorted : List Group
  pub overlapping_are : AreGroups Overlap rules overlaps overlapping
  pub shadowing_are : AreGroups Shadow rules shadows shadowing
  pub moved : IsPermutation (overlapping ++ shadowing) sorted
  pub ascending : IsSortedByKey (λ (group : Group). group.head.pos) pos_order sorted
  pub in_turn : (pos : Pos) → filter (is_headed_at pos) sorted ≡ filter (is_headed_at pos) overlapping ++ filter (is_headed_at pos) shadowing
  pub errors_are : errors ≡ map error_of sorted

-- the error names a rule that heads each of some pairs, and its partners in them, and nothing else
pub record ListsPairsOf (fault : Fault) (rules : List RulePlace) (pairs : List (ℕ × ℕ)) (error : Error) : Type 0 where
  pub head : ℕ
  pub group : Group
  pub some : 0 < length pairs
  pub heads : All (λ pair. IsSome (partner fault head pair)) pairs
  pub is_group : IsGroup fault rules head pairs group
  pub error_is : error ≡ error_of group

-- the pairs are shared out among the errors, each in exactly one share, and each error lists its share
pub record AreSharedOut (fault : Fault) (rules : List RulePlace) (pairs : List (ℕ × ℕ)) (errors : List Error) : Type 0 where
  pub shares : List (List (ℕ × ℕ))
  pub once : IsPermutation pairs (flat_map (λ share. share) shares)
  pub listed : AllZip (ListsPairsOf fault rules) shares errors

-- the errors are of overlaps or of shadows, and each pair is listed by exactly one of its kind
pub record ListsEachOnce (rules : List RulePlace) (overlaps shadows : List (ℕ × ℕ)) (errors : List Error) : Type 0 where
  pub of_overlaps : List Error
  pub of_shadows : List Error
  pub overlaps_shared : AreSharedOut Overlap rules overlaps of_overlaps
  pub shadows_shared : AreSharedOut Shadow rules shadows of_shadows
  pub moved : IsPermutation (of_overlaps ++ of_shadows) errors

-- In a report each pair stands in exactly one error.
abbrev pub ReportsListEachOnce : Type 0
ReportsListEachOnce = (rules : List RulePlace) (overlaps shadows : List (ℕ × ℕ)) (errors : List Error)
    → IsReport rules overlaps shadows errors → ListsEachOnce rules overlaps shadows errors
