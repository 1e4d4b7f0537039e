-- The steps of rules.
use Rattle.std.proofs.Common.{◌≡◌, ◌<◌, inl, inr, ℕ, zero, suc, Bool, List, [], ◌∷◌, length, set, replicate, get_or, Some, refl, sym, ◌∙◌, ap, arith, eq-eqb}
use Rattle.std.specs.Prelude.{if◌then◌else◌}
use Rattle.std.proofs.lemmas.Bool.{cases_eq, ne_eqb}
use Rattle.std.proofs.lemmas.List.{get_or_past, get_or-set_same, get_or-set_other}
use Rattle.isle_types.specs.declared.ids.TermId.{TermId}
use Rattle.isle_blocks.specs.RuleSets.{RulesOverSites}
use Rattle.isle_program.specs.Facts.Steps.{set_steps, set_of, steps_of, steps_in}

-- the steps of one more rule set
pub steps_next : (now : List ℕ) (first : TermId × RulesOverSites) (others : List (TermId × RulesOverSites)) (steps : ℕ) → first.0.0 < length now
    → steps ≡ set_steps first.1 → ((n : ℕ) → get_or now n 0 ≡ steps_in others n) → (n : ℕ)
    → get_or (set now first.0.0 steps) n 0 ≡ steps_in (first ∷ others) n
steps_next now first others steps within is before n = elim (cases_eq first.0.0 n) [
  | inl same ↦
      ap (λ (x : ℕ). get_or (set now first.0.0 steps) x 0) (sym same) ∙ get_or-set_same now first.0.0 steps 0 within ∙ is
      ∙ ap (λ (b : Bool). steps_of (if b then Some first.1 else set_of others n)) (sym (eq-eqb first.0.0 n same))
  | inr other ↦
      get_or-set_other now first.0.0 n steps 0 (λ e. other (sym e)) ∙ before n
      ∙ ap (λ (b : Bool). steps_of (if b then Some first.1 else set_of others n)) (sym (ne_eqb first.0.0 n other))
]

-- no steps yet
pub no_steps : (count n : ℕ) → ◌≡◌ {A = ℕ} (get_or (replicate count 0) n 0) 0
no_steps zero n = get_or_past [] n 0 (omega arith)
no_steps (suc count) zero = refl
no_steps (suc count) (suc n) = no_steps count n
