-- A program's rules as they are tried and laid out, by what is meant by its calls.
use Rattle.std.proofs.Common.{◌≡◌, ◌⊎◌, ◌<◌, ◌<ℤ◌, inl, inr, ℕ, ℤ, true, false, List, get_or, Option, Some, None, slice_get}
use Rattle.std.proofs.Common.{Ordering, Less, Equal, Greater, refl, sym, ap, subst, ◌∙◌}
use Rattle.std.specs.Option.{option_map}
use Rattle.std.specs.Ordering.{nat_cmp, int_cmp, ordering_then, MatchOrdering}
use Rattle.std.specs.Cmp.{int_ranks, ranks}
use Rattle.std.proofs.lemmas.Bool.{eqb-true, eq-eqb}
use Rattle.std.proofs.lemmas.Cmp.{nat_eq_equiv}
use Rattle.std.proofs.lemmas.Map.Views.{Contains-from_any, list_any-from_Contains, exact_unsigned_eq}
use Rattle.std.proofs.lemmas.Option.{same_Some, slice_get-map, slice_get_within, get_or_from_slice_get}
use Rattle.isle_rules.specs.declared.rules.Rule.{Rule}
use Rattle.isle_rules.specs.TypedRules.{TypedRule}
use Rattle.isle_meaning.specs.Calls.{IsRuleAt}
use Rattle.isle_program.specs.declared.laid.LaidRule.{LaidRule}
use Rattle.isle_program.specs.declared.program.Program.{Program}
use Rattle.isle_program.specs.Plain.Laid.{IsLaidRule}
use Rattle.isle_program.specs.Plain.LaidOut.Rules.{IsRuleLaidOut, priority_of, TriedBefore, is_of_term, AreTried}
use Rattle.isle_program.specs.Meanings.{checked, rule_shown}
use Rattle.isle_meaning.specs.PlainRuns.{IsTriedBefore, AreTriedInOrder}
use Rattle.isle_program.specs.Programs.{types_of, terms_of}

module _ (program : Program) where
  -- a rule as it is shown stands at its place
  shown_at : (i : ℕ) (rule : Rule) → slice_get (terms_of program).rules i ≡ Some rule
      → slice_get (checked program).rules i ≡ Some (rule_shown (types_of program).names rule)
  shown_at i rule at =
      slice_get-map (rule_shown (types_of program).names) (terms_of program).rules i
      ∙ ap (option_map (rule_shown (types_of program).names)) at

  -- what is shown at a place is of a rule that stands there
  rule_at : (i : ℕ) (shown : TypedRule) → slice_get (checked program).rules i ≡ Some shown
      → (rule : Rule) × (slice_get (terms_of program).rules i ≡ Some rule) × (shown ≡ rule_shown (types_of program).names rule)
  rule_at i shown at = by (slice_get (terms_of program).rules i) refl
    where
      by : (found : Option Rule) → slice_get (terms_of program).rules i ≡ found
          → (rule : Rule) × (slice_get (terms_of program).rules i ≡ Some rule) × (shown ≡ rule_shown (types_of program).names rule)
      by (Some rule) e = (rule, e, same_Some shown (rule_shown (types_of program).names rule) (sym at ∙ shown_at i rule e))
      by None e =
          let none : slice_get (checked program).rules i ≡ None =
          slice_get-map (rule_shown (types_of program).names) (terms_of program).rules i
          ∙ ap (option_map (rule_shown (types_of program).names)) e in
          absurd cc

  -- a rule whose expressions are laid out is a laid rule of the program
  pub laid_rule_at : (i : ℕ) (rule : Rule) (laid : LaidRule) → slice_get (terms_of program).rules i ≡ Some rule
      → IsRuleLaidOut (types_of program) (terms_of program) rule laid → IsLaidRule program i rule laid
  laid_rule_at i rule laid at out = record { there = shown_at i rule at; iflets = out.iflets; right = out.right }

  -- what is tried first has the greater priority, or the same and the lesser place
  tried_first : (x y : ℤ) (i j : ℕ) → ordering_then (int_cmp y x) (nat_cmp i j) ≡ Less → (y <ℤ x) ⊎ ((x ≡ y) × (i < j))
  tried_first x y i j e = by (int_cmp y x) refl
    where
      place : (q : Ordering) → nat_cmp i j ≡ q → q ≡ Less → i < j
      place Less f g = subst (λ (r : Ordering). MatchOrdering r (i < j) (i ≡ j) (j < i)) f (ranks i j)
      place Equal f g = absurd cc
      place Greater f g = absurd cc

      by : (p : Ordering) → int_cmp y x ≡ p → (y <ℤ x) ⊎ ((x ≡ y) × (i < j))
      by Less f = inl (subst (λ (r : Ordering). MatchOrdering r (y <ℤ x) (y ≡ x) (x <ℤ y)) f (int_ranks y x))
      by Equal f =
          let same : y ≡ x = subst (λ (r : Ordering). MatchOrdering r (y <ℤ x) (y ≡ x) (x <ℤ y)) f (int_ranks y x) in
          let low : nat_cmp i j ≡ Less = sym (ap (λ (r : Ordering). ordering_then r (nat_cmp i j)) f) ∙ e in
          inr (sym same, place (nat_cmp i j) refl low)
      by Greater f = let g : Greater ≡ Less = sym (ap (λ (r : Ordering). ordering_then r (nat_cmp i j)) f) ∙ e in absurd cc

  -- the places of a term's rules are those that calls try, in this order
  pub tried_in_order : (t : ℕ) (places : List ℕ) → AreTried (terms_of program).rules t places → AreTriedInOrder (checked program) t places
  tried_in_order t places tried = record {
    all = λ i. (
      λ among.
          let here : is_of_term t (slice_get (terms_of program).rules i) ≡ true =
          sym (tried.all i) ∙ list_any-from_Contains nat_eq_equiv i places among in
          rule_of i here (slice_get (terms_of program).rules i) refl,
      λ (shown, is_rule).
          let (rule, at, same) = rule_at i shown is_rule.listed in
          let root : rule.root_term.0 ≡ t = sym (ap (λ (r : TypedRule). r.root) same) ∙ is_rule.of_term in
          Contains-from_any exact_unsigned_eq i places
          (tried.all i ∙ ap (is_of_term t) at ∙ eq-eqb rule.root_term.0 t root),
    );
    order = λ k l i j one other less first second one_at other_at.
        let (rule, at, same) = rule_at i one one_at in
        let (later, there, is) = rule_at j other other_at in
        let before : TriedBefore (terms_of program).rules i j =
        subst (λ (x : ℕ). TriedBefore (terms_of program).rules x j) (get_or_from_slice_get places k i 0 first)
        (subst (λ (y : ℕ). TriedBefore (terms_of program).rules (get_or places k 0) y) (get_or_from_slice_get places l j 0 second)
        (tried.order k l 0 less (slice_get_within places l j second))) in
        let ranked : ordering_then (int_cmp later.prio rule.prio) (nat_cmp i j) ≡ Less =
        ap (λ (x : ℤ). ordering_then (int_cmp x rule.prio) (nat_cmp i j)) (sym (ap priority_of there))
        ∙ ap (λ (x : ℤ). ordering_then (int_cmp (priority_of (slice_get (terms_of program).rules j)) x) (nat_cmp i j))
        (sym (ap priority_of at))
        ∙ before in
        subst (λ (r : TypedRule). IsTriedBefore i r j other) (sym same)
        (subst (λ (r : TypedRule). IsTriedBefore i (rule_shown (types_of program).names rule) j r) (sym is)
        (tried_first rule.prio later.prio i j ranked));
  }
    where
      rule_of : (i : ℕ) → is_of_term t (slice_get (terms_of program).rules i) ≡ true → (found : Option Rule)
          → slice_get (terms_of program).rules i ≡ found → (shown : TypedRule) × IsRuleAt (checked program) t i shown
      rule_of i here (Some rule) e = (
        rule_shown (types_of program).names rule,
        record { listed = shown_at i rule e; of_term = eqb-true rule.root_term.0 t (sym (ap (is_of_term t) e) ∙ here) },
      )
      rule_of i here None e = let f : false ≡ true = sym (ap (is_of_term t) e) ∙ here in absurd cc
