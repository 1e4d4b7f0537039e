-- Of the rule (rule (term x @ 2 x) 7) the arguments the other way round: not in order.
use Rattle.std.proofs.Common.{◌≡◌, ◌++◌, inl, inr, ℕ, List, [], ◌∷◌, Some, slice_get, pos, refl, sym, ap, subst}
use Rattle.isle_containers.proofs.Lists.{slice_get-kept}
use Rattle.isle_rules.specs.TypedRules.{TypedRule}
use Rattle.isle_meaning.specs.Sites.{Site, argument}
use Rattle.isle_meaning.specs.Numbered.{Row, argument_row, int_row, make_some_row}
use Rattle.isle_meaning.specs.Demands.{DemandOf}
use Rattle.isle_blocks.specs.AddedRules.{needs_in_order}
use Rattle.isle_blocks.specs.Building.Standing.{Adds, begin, next, IsEntryOf, IsPut, NumbersBehind}
use Rattle.isle_blocks.specs.DefinedSets.{AreNumberedInOrder, none_numbered, rule_numbered}
use Rattle.isle_blocks.proofs.Cases.NumberedSites.{facts, with_x, after, needed}

-- the same sites, the arguments the other way round
abbrev swapped : List Row
swapped = argument_row 1 ∷ argument_row 0 ∷ int_row (pos 7) 1 ∷ make_some_row 2 ∷ []

no_last : {X : Type 0} (xs : List X) (x : X) → xs ++ x ∷ [] ≡ [] → ⊥
no_last [] x e = cc
no_last (y ∷ xs) x e = cc

adds_nothing : {needs : List Site} {table : List Row} → Adds [] needs table → needs ≡ [] → table ≡ []
adds_nothing begin e = refl
adds_nothing (next {needed = before} new site row k early entry put) e = absurd (no_last before site e)

put_first : (old : List Row) (row : Row) (k : ℕ) (new : List Row) → old ≡ [] → row ≡ argument_row 0 → IsPut old row k new
    → slice_get new 0 ≡ Some (argument_row 0)
put_first [] row k new nothing is (inl (there, same)) = absurd cc
put_first [] row k new nothing is (inr (absent, at, same)) = subst (λ (l : List Row). slice_get l 0 ≡ Some (argument_row 0)) (sym same) cc
put_first (x ∷ xs) row k new nothing is put = absurd cc

stays : (old : List Row) (row : Row) (k : ℕ) (new : List Row) (found : Row) → slice_get old 0 ≡ Some found → IsPut old row k new
    → slice_get new 0 ≡ Some found
stays old row k new found is (inl (there, same)) = subst (λ (l : List Row). slice_get l 0 ≡ Some found) (sym same) is
stays old row k new found is (inr (absent, at, same)) =
    subst (λ (l : List Row). slice_get l 0 ≡ Some found) (sym same) (slice_get-kept old (row ∷ []) 0 found is)

-- what is needed first stands first
first_stands : {needs : List Site} {table : List Row} (others : List Site) → Adds [] needs table → needs ≡ argument 0 ∷ others
    → slice_get table 0 ≡ Some (argument_row 0)
first_stands others begin e = absurd cc
first_stands others (next {needed = []} {old = old} new site row k early entry put) e =
    let same : site ≡ argument 0 = cc in
    put_first old row k new (adds_nothing early refl) (subst (λ (s : Site). IsEntryOf old s row) same entry) put
first_stands others (next {needed = x ∷ xs} {old = old} new site row k early entry put) e =
    let same : x ≡ argument 0 = cc in
    stays old row k new (argument_row 0) (first_stands xs early (ap (λ (s : Site). s ∷ xs) same)) put

none_before : {rules : List TypedRule} {places : List ℕ} {table : List Row} → AreNumberedInOrder facts rules places table → places ≡ [] → table ≡ []
none_before none_numbered e = refl
none_before (rule_numbered {places = places} i rule new early at behind) e = absurd (no_last places i e)

lone : {places : List ℕ} {table : List Row} → AreNumberedInOrder facts (with_x ∷ []) places table → places ≡ 0 ∷ []
    → NumbersBehind [] (needed 7) (DemandOf facts with_x) table
lone none_numbered e = absurd cc
lone (rule_numbered {places = []} {old = old} i rule new early at behind) e =
    let first : i ≡ 0 = cc in
    let there : slice_get (with_x ∷ []) 0 ≡ Some rule = subst (λ (j : ℕ). slice_get (with_x ∷ []) j ≡ Some rule) first at in
    let same : rule ≡ with_x = cc in
    subst (λ (r : TypedRule). NumbersBehind [] (needs_in_order facts (facts.partial r.root) r) (DemandOf facts r) new) same
    (subst (λ (l : List Row). NumbersBehind l (needs_in_order facts (facts.partial rule.root) rule) (DemandOf facts rule) new)
    (none_before early refl) behind)
lone (rule_numbered {places = x ∷ xs} i rule new early at behind) e =
    let rest : xs ++ i ∷ [] ≡ [] = cc in absurd (no_last xs i rest)

-- that isn't the order
pub not_in_order : AreNumberedInOrder facts (with_x ∷ []) (0 ∷ []) swapped → ⊥
not_in_order numbered = let first : Some (argument_row 1) ≡ Some (argument_row 0) = starts swapped (lone numbered refl) in cc
  where
    starts : (table : List Row) → NumbersBehind [] (needed 7) (DemandOf facts with_x) table → slice_get table 0 ≡ Some (argument_row 0)
    starts table behind = behind.goes_on 0 (argument_row 0) (first_stands (after 7) behind.added refl)
