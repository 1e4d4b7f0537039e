-- The places of each term's rules, as they are listed one by one.
use Rattle.std.proofs.Common.{◌≡◌, ◌<◌, ◌≤◌, ◌==◌, ◌&&◌, inl, inr, ℕ, Bool, true, false, List, [], ◌∷◌, length, slice_get}
use Rattle.std.proofs.Common.{refl, sym, ap, ◌∙◌, arith}
use Rattle.std.specs.Prelude.{All}
use Rattle.std.specs.List.{filter, list_any}
use Rattle.std.proofs.lemmas.Bool.{eqb-true, cases_Bool}
use Rattle.std.proofs.lemmas.Cmp.{nat_eq_equiv}
use Rattle.std.proofs.lemmas.List.Kept.{AllPairs-filter}
use Rattle.std.proofs.lemmas.Map.Views.{list_any-from_Contains}
use Rattle.std.proofs.lemmas.Option.{slice_get_cases}
use Rattle.isle_types.proofs.Zipped.{all_at}
use Rattle.isle_rules.specs.declared.rules.Rule.{Rule}
use Rattle.isle_program.specs.Plain.LaidOut.Rules.{is_of_term, TriedBefore, AreByPriority, AreTried}

-- what a filter keeps of a number
any_filtered : (p : ℕ → Bool) (i : ℕ) (xs : List ℕ) → list_any (λ x. i == x) (filter p xs) ≡ (p i && list_any (λ x. i == x) xs)
any_filtered p i [] = elim (p i) as (λ b. false ≡ (b && false)) [ true ↦ refl | false ↦ refl ]
any_filtered p i (x ∷ xs) = go (any_filtered p i xs) (p x) (i == x) refl refl
  where
    go : (list_any (λ y. i == y) (filter p xs) ≡ (p i && list_any (λ y. i == y) xs)) → (kept is : Bool) → p x ≡ kept → (i == x) ≡ is
        → list_any (λ y. i == y) (filter p (x ∷ xs)) ≡ (p i && list_any (λ y. i == y) (x ∷ xs))
    go rest true true e f = let g : p i ≡ true = ap p (eqb-true i x f) ∙ e in rw (e, f, g) refl
    go rest true false e f = rw (e, f) rest
    go rest false true e f = let g : p i ≡ false = ap p (eqb-true i x f) ∙ e in rw (e, g) (rest ∙ rw g refl)
    go rest false false e f = rw (e, f) rest

-- a place beyond the rules is of no term
of_term_within : (rules : List Rule) (t i : ℕ) → is_of_term t (slice_get rules i) ≡ true → i < length rules
of_term_within rules t i e = elim ((slice_get_cases rules i).1) [
  | inl here ↦ here.1
  | inr past ↦ absurd (let f : is_of_term t (slice_get rules i) ≡ false = ap (is_of_term t) past.1 in cc)
]

-- what of the places of all rules is of a term
pub tried_of_term : (rules : List Rule) (places : List ℕ) (t : ℕ) → AreByPriority rules places
    → AreTried rules t (filter (λ i. is_of_term t (slice_get rules i)) places)
tried_of_term rules places t known = record {
  all = λ i. any_filtered (λ j. is_of_term t (slice_get rules j)) i places ∙ with_all i;
  order = AllPairs-filter (TriedBefore rules) (λ i. is_of_term t (slice_get rules i)) places known.order;
}
  where
    with_all : (i : ℕ) → (is_of_term t (slice_get rules i) && list_any (λ x. i == x) places) ≡ is_of_term t (slice_get rules i)
    with_all i = elim (cases_Bool (is_of_term t (slice_get rules i))) [
      | inl of_it ↦
          let there : list_any (λ x. i == x) places ≡ true =
          list_any-from_Contains nat_eq_equiv i places (known.all i (of_term_within rules t i of_it)) in
          rw (of_it, there) refl
      | inr no_rule ↦ rw no_rule refl
    ]

-- a number beyond the terms has no rules
pub tried_beyond : (rules : List Rule) (count t : ℕ) → All (λ (rule : Rule). rule.root_term.0 < count) rules → count ≤ t
    → AreTried rules t []
tried_beyond rules count t rooted beyond = record {
  all = λ i. elim (cases_Bool (is_of_term t (slice_get rules i))) [
    | inl of_it ↦ elim ((slice_get_cases rules i).1) [
      | inl (rule, within, at, is) ↦
          let low : rule.root_term.0 < count = all_at (λ (r : Rule). r.root_term.0 < count) rules rooted i rule at in
          let same : rule.root_term.0 ≡ t = eqb-true rule.root_term.0 t (sym (ap (is_of_term t) at) ∙ of_it) in
          absurd (omega (arith, low, same, beyond))
      | inr past ↦ sym (ap (is_of_term t) past.1)
    ]
    | inr no_rule ↦ sym no_rule
  ];
  order = λ i j d less within. absurd (omega arith);
}
