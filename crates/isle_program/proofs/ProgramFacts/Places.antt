-- Where the rule sets of terms stand, and what stands there.
use Rattle.std.proofs.Common.{◌≡◌, ◌<◌, ◌+◌, inl, inr, ℕ, zero, suc, Bool, true, false, List, [], ◌∷◌, length, set, replicate, get_or, Some, None, slice_get, refl, sym, ◌∙◌, ap, arith, eq-eqb}
use Rattle.std.specs.Prelude.{◌==◌, if◌then◌else◌}
use Rattle.std.proofs.lemmas.Bool.{cases_eq, ne_eqb}
use Rattle.std.proofs.lemmas.List.{get_or_past, get_or-set_same, get_or-set_other}
use Rattle.isle_types.specs.declared.ids.TermId.{TermId}
use Rattle.isle_blocks.specs.RuleSets.{RulesOverSites}
use Rattle.isle_blocks.specs.Trees.Shown.{BlockShown}
use Rattle.isle_program.specs.Trees.{place_of_set, set_and_tree}

-- the places with one more rule set before the others
pub places_next : (now : List ℕ) (first : TermId × RulesOverSites) (others : List (TermId × RulesOverSites)) (place none : ℕ) → first.0.0 < length now
    → ((n : ℕ) → get_or now n none ≡ suc place + place_of_set others n)
    → (n : ℕ) → get_or (set now first.0.0 place) n none ≡ place + place_of_set (first ∷ others) n
places_next now first others place none within before n =
    let rest = place_of_set others n in
    let here : place ≡ place + 0 = omega arith in
    let behind : suc place + rest ≡ place + suc rest = omega arith in
    elim (cases_eq first.0.0 n) [
      | inl same ↦
          ap (λ (x : ℕ). get_or (set now first.0.0 place) x none) (sym same) ∙ get_or-set_same now first.0.0 place none within ∙ here
          ∙ ap (λ (b : Bool). place + (if b then 0 else suc rest)) (sym (eq-eqb first.0.0 n same))
      | inr other ↦
          get_or-set_other now first.0.0 n place none (λ e. other (sym e)) ∙ before n ∙ behind
          ∙ ap (λ (b : Bool). place + (if b then 0 else suc rest)) (sym (ne_eqb first.0.0 n other))
    ]

-- no places yet
pub no_places : (count none n : ℕ) → ◌≡◌ {A = ℕ} (get_or (replicate count none) n none) none
no_places zero none n = get_or_past [] n none (omega arith)
no_places (suc count) none zero = refl
no_places (suc count) none (suc n) = no_places count none n

-- what stands at the place of a term's rule set is the term's
pub found_at_place : (sets : List (TermId × RulesOverSites)) (trees : List BlockShown) (term : ℕ) (own : TermId × RulesOverSites) (tree : BlockShown)
    → slice_get sets (place_of_set sets term) ≡ Some own → slice_get trees (place_of_set sets term) ≡ Some tree
    → set_and_tree sets trees term ≡ Some (own.1, tree)
found_at_place [] trees term own tree one other = absurd cc
found_at_place (first ∷ sets) [] term own tree one other = absurd cc
found_at_place (first ∷ sets) (block ∷ trees) term own tree one other =
    elim (first.0.0 == term)
    as (λ b. slice_get (first ∷ sets) (if b then 0 else suc (place_of_set sets term)) ≡ Some own
    → slice_get (block ∷ trees) (if b then 0 else suc (place_of_set sets term)) ≡ Some tree
    → (if b then Some (first.1, block) else set_and_tree sets trees term) ≡ Some (own.1, tree)) [
      | true ↦ λ p q. let same : first ≡ own = cc in let its : block ≡ tree = cc in cc
      | false ↦ λ p q. found_at_place sets trees term own tree p q
    ] one other

-- a term has no rule set where none stands at its place
pub no_set_at_place : (sets : List (TermId × RulesOverSites)) (trees : List BlockShown) (term : ℕ) → slice_get sets (place_of_set sets term) ≡ None
    → set_and_tree sets trees term ≡ None
no_set_at_place [] trees term none = refl
no_set_at_place (first ∷ sets) [] term none = refl
no_set_at_place (first ∷ sets) (block ∷ trees) term none =
    elim (first.0.0 == term)
    as (λ b. slice_get (first ∷ sets) (if b then 0 else suc (place_of_set sets term)) ≡ None
    → (if b then Some (first.1, block) else set_and_tree sets trees term) ≡ None) [
      | true ↦ λ p. absurd cc
      | false ↦ λ p. no_set_at_place sets trees term p
    ] none

-- nor one with a tree where no tree stands there
pub no_tree_at_place : (sets : List (TermId × RulesOverSites)) (trees : List BlockShown) (term : ℕ) → slice_get trees (place_of_set sets term) ≡ None
    → set_and_tree sets trees term ≡ None
no_tree_at_place [] trees term none = refl
no_tree_at_place (first ∷ sets) [] term none = refl
no_tree_at_place (first ∷ sets) (block ∷ trees) term none =
    elim (first.0.0 == term)
    as (λ b. slice_get (block ∷ trees) (if b then 0 else suc (place_of_set sets term)) ≡ None
    → (if b then Some (first.1, block) else set_and_tree sets trees term) ≡ None) [
      | true ↦ λ p. absurd cc
      | false ↦ λ p. no_tree_at_place sets trees term p
    ] none
