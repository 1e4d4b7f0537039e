-- The sites that a rule holds equal, set by set.
use Rattle.std.specs.Prelude.{◌≡◌, ◌≤◌, true, List, All, slice_get}
use Rattle.std.specs.List.{filter_map}
use Rattle.std.specs.List.Sorted.{IsStrictlySortedBy}
use Rattle.isle_containers.specs.JoinedSets.{AreDisjoint, are_joined}
use Rattle.isle_blocks.specs.declared.ids.BindingId.{BindingId}
use Rattle.isle_blocks.specs.ClosedRules.{same_site}
use Rattle.isle_blocks.specs.Rules.{site_cmp}

-- the first of each set
abbrev pub firsts : List (List BindingId) → List BindingId
firsts sets = filter_map (λ set. slice_get set 0) sets

-- The sets of equal sites, each once, and no other sites: a set's sites ascend, and so do the first sites of the sets.
pub record ListsEqualSites (equals sets : List (List BindingId)) : Type 0 where
  pub joined : (a b : BindingId) → a.0 ≤ 65535 → are_joined same_site sets a b ≡ are_joined same_site equals a b
  pub only : (a b : BindingId) → are_joined same_site sets a b ≡ true → are_joined same_site equals a b ≡ true
  pub disjoint : AreDisjoint same_site sets
  pub ascending : All (λ set. IsStrictlySortedBy site_cmp set) sets
  pub in_order : IsStrictlySortedBy site_cmp (firsts sets)
