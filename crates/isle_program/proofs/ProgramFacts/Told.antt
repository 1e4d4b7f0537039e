-- What the numbers of a program tell, of which it is known that there is a proof.
use Rattle.std.proofs.Common.{◌≡◌, ◌↔◌, inl, inr, ℕ, Bool, true, false, List, length, map, get_or, refl, sym, arith}
use Rattle.std.proofs.Math.Logic.{∥∥₁_elim}
use Rattle.std.proofs.Math.Bool.{Bool-set}
use Rattle.std.proofs.Math.Nat.{ℕ_set}
use Rattle.std.specs.Prelude.{not}
use Rattle.std.proofs.lemmas.Bool.{cases_Bool, cases_lt}
use Rattle.isle_types.specs.declared.ids.TermId.{TermId}
use Rattle.isle_types.specs.TypeTables.{TypeTables}
use Rattle.isle_rules.specs.Shown.TermTables.{TermTables}
use Rattle.isle_blocks.specs.Inside.Building.Contents.{Marked}
use Rattle.isle_blocks.specs.RuleSets.{RulesOverSites}
use Rattle.isle_program.specs.declared.facts.Numbers.{Numbers}
use Rattle.isle_program.specs.Facts.Asked.{AreNumbersOf, AreRoots, term_number}
use Rattle.isle_program.specs.Facts.Inhabited.{AreAllInhabited}
use Rattle.isle_program.specs.Facts.Reach.{is_hindered, is_root, IsBarred, IsRunnable}
use Rattle.isle_program.specs.Facts.Steps.{steps_in}
use Rattle.isle_program.specs.Trees.{place_of_set}
use Rattle.isle_program.proofs.ProgramFacts.InhabitedTypes.{are_decided}

-- a truth value whose opposite is true, and the other way about
pub opposite : (b : Bool) → not b ≡ true → b ≡ false
opposite true is = sym is
opposite false is = refl

pub opposite_back : (b : Bool) → b ≡ false → not b ≡ true
opposite_back true is = sym is
opposite_back false is = refl

module _ (tyenv : TypeTables) (env : TermTables) (sets : List (TermId × RulesOverSites)) (numbers : Numbers)
    (known : ∥ AreNumbersOf tyenv env sets numbers ∥₁) where
  -- a term that is barred is marked
  barred_of : (n : ℕ) → IsBarred tyenv env n → get_or numbers.barred.items n false ≡ false → ⊥
  barred_of n barred free = ∥∥₁_elim known (hlevel) (λ all. let marked : Marked numbers.barred.items n = (all.barred n).1 barred in
      let e = free in absurd cc)

  pub is_runnable : (n : ℕ) → is_root env n ≡ true → get_or numbers.barred.items n false ≡ false → IsRunnable tyenv env n
  is_runnable n root free = record {
    rules = root;
    free = elim (cases_Bool (is_hindered tyenv env n)) [ inl here ↦ absurd (barred_of n (inl here) free) | inr not_it ↦ not_it ];
    reached = λ to reaches. elim (cases_Bool (is_hindered tyenv env to)) [
      | inl here ↦ absurd (barred_of n (inr (to, reaches, here)) free)
      | inr not_it ↦ not_it
    ];
  }

  pub runnable_free : (n : ℕ) → IsRunnable tyenv env n → get_or numbers.barred.items n false ≡ false
  runnable_free n runs = elim (cases_Bool (get_or numbers.barred.items n false)) [
    | inr free ↦ free
    | inl marked ↦ absurd (∥∥₁_elim known (hlevel) (λ all. elim ((all.barred n).0 marked) [
      | inl here ↦ let e = runs.free in absurd cc
      | inr (to, reaches, here) ↦ let e = runs.reached to reaches in absurd cc
    ]))
  ]

  pub roots_told : AreRoots env numbers.with_rules.items
  roots_told = record {
    listed = λ n. ∥∥₁_elim known (Bool-set _ _) (λ all. all.with_rules.listed n);
    ascending = λ k l d less within.
        let numbers_of = map term_number numbers.with_rules.items in
        elim (cases_lt (get_or numbers_of k d) (get_or numbers_of l d)) [
          | inl up ↦ up
          | inr down ↦ absurd (∥∥₁_elim known (hlevel) (λ all. let up = all.with_rules.ascending k l d less within in omega (arith, up, down)))
        ];
  }

  pub steps_told : (n : ℕ) → get_or numbers.steps.items n 0 ≡ steps_in sets n
  steps_told n = ∥∥₁_elim known (ℕ_set _ _) (λ all. all.steps n)

  pub places_told : (n : ℕ) → get_or numbers.places.items n (length sets) ≡ place_of_set sets n
  places_told n = ∥∥₁_elim known (ℕ_set _ _) (λ all. all.places n)

  pub inhabited_told : (numbers.inhabited ≡ true) ↔ AreAllInhabited tyenv.types
  inhabited_told = (
    λ yes_told. elim (are_decided tyenv.types) [
      | inl all ↦ all
      | inr none ↦ absurd (∥∥₁_elim known (hlevel) (λ numbers_known. none (numbers_known.inhabited.0 yes_told)))
    ],
    λ each. ∥∥₁_elim known (Bool-set _ _) (λ numbers_known. numbers_known.inhabited.1 each),
  )

-- no truth value is both
pub apart : (b : Bool) → b ≡ true → b ≡ false → ⊥
apart true is no_is = absurd cc
apart false is no_is = absurd cc
