-- The order of keys, and what it says of those between two and behind.
use Rattle.std.proofs.Common.{◌≡◌, ◌<◌, ◌≤◌, inl, inr, ℕ, zero, suc, false, List, [], ◌∷◌, length, get_or, Option, Some, None, slice_get}
use Rattle.std.proofs.Common.{Ordering, Less, Equal, Greater, refl, sym, ap, subst, ◌∙◌, arith}
use Rattle.std.specs.Prelude.{IsPermutation, IsSorted}
use Rattle.std.specs.Option.{option_cmp}
use Rattle.std.specs.Ordering.{nat_cmp, ordering_then, ordering_reverse, is_lt}
use Rattle.std.specs.Cmp.{IsTotalOrder, Equal-is, then_total, on_total, nat_cmp_total}
use Rattle.std.specs.Cmp.Lexicographic.{options_total}
use Rattle.std.proofs.lemmas.Bool.{cases_eq, true≢false}
use Rattle.std.proofs.lemmas.Option.{same_Some, slice_get_within, get_or_from_slice_get}
use Rattle.std.proofs.lemmas.List.Sorted.{sorted_far, ranks_by, Contains-permutation, IsPermutation-sym}
use Rattle.isle_blocks.specs.contracts.constraint.ConstraintOrd.TheImpl as order
use Rattle.isle_blocks.specs.contracts.constraint.ConstraintOrd.TheImpl.Laws as order_laws
use Rattle.isle_blocks.specs.declared.ids.BindingId.{BindingId}
use Rattle.isle_blocks.specs.declared.constraint.Constraint.{Constraint}
use Rattle.isle_blocks.specs.declared.constraint.Constraint.TheVariants as tests
use Rattle.isle_blocks.specs.declared.rule.Rule.{Rule}
use Rattle.isle_blocks.specs.Orders.{constraint_order}
use Rattle.isle_blocks.specs.Inside.FaultKeys.{Key, key_order, test_at, AreKeys, MayMeet}
use Rattle.isle_blocks.proofs.Counting.{place_of, stands_at}
use Rattle.isle_blocks.proofs.EqualTests.{constraint-decides}

then_assoc : (p q r : Ordering) → ordering_then p (ordering_then q r) ≡ ordering_then (ordering_then p q) r
then_assoc Less q r = refl
then_assoc Equal q r = refl
then_assoc Greater q r = refl

-- the order of tests is the derived one
orders_agree : (a b : Constraint) → (order.ghosts).cmp a b ≡ constraint_order a b
orders_agree (tests.Variant s v f) (tests.Variant t w g) = then_assoc (nat_cmp s.0 t.0) (nat_cmp v.0 w.0) (nat_cmp f.0 g.0)
orders_agree (tests.Struct s f) (tests.Struct t g) = refl
orders_agree (tests.ConstBool a s) (tests.ConstBool b t) = refl
orders_agree (tests.ConstInt a s) (tests.ConstInt b t) = refl
orders_agree (tests.ConstPrim a) (tests.ConstPrim b) = refl
orders_agree tests.Some tests.Some = refl
orders_agree a b = refl

pub one_order : (order.ghosts).cmp ≡ constraint_order
one_order = λ i a b. orders_agree a b i

constraints_total : IsTotalOrder constraint_order
constraints_total = subst IsTotalOrder one_order order_laws.total-law

keys_total : IsTotalOrder key_order
keys_total = then_total (on_total (λ (k : Key). k.0) (options_total constraints_total)) (on_total (λ (k : Key). k.1) nat_cmp_total)

level : (a b : Constraint) → constraint_order a b ≡ Equal → a ≡ b
level a b e = (constraint-decides a b).0 (order_laws.matches_eq-law a b ∙ (Equal-is ((order.ghosts).cmp a b)).1 (orders_agree a b ∙ e))

option_level : (t u : Option Constraint) → option_cmp constraint_order t u ≡ Equal → t ≡ u
option_level None None e = refl
option_level None (Some y) e = absurd cc
option_level (Some x) None e = absurd cc
option_level (Some x) (Some y) e = ap Some (level x y e)

option_turned : (t u : Option Constraint) → option_cmp constraint_order t u ≡ Greater → option_cmp constraint_order u t ≡ Less
option_turned None None e = absurd cc
option_turned None (Some y) e = absurd cc
option_turned (Some x) None e = refl
option_turned (Some x) (Some y) e = constraints_total.antisymm y x ∙ ap ordering_reverse e

not_less : (r s : Ordering) → is_lt (ordering_then r s) ≡ false → r ≡ Less → ⊥
not_less r s h e = true≢false (sym (ap (λ (x : Ordering). is_lt (ordering_then x s)) e) ∙ h)

-- a key between two with one test has it too
between : (a b c : Key) → is_lt (key_order b a) ≡ false → is_lt (key_order c b) ≡ false → c.0 ≡ a.0 → b.0 ≡ a.0
between a b c first second same = by (option_cmp constraint_order b.0 a.0) refl
  where
    by : (r : Ordering) → option_cmp constraint_order b.0 a.0 ≡ r → b.0 ≡ a.0
    by Less e = absurd (not_less _ _ first e)
    by Equal e = option_level b.0 a.0 e
    by Greater e = absurd (not_less _ _ second (ap (λ (t : Option Constraint). option_cmp constraint_order t b.0) same ∙ option_turned b.0 a.0 e))

-- no test stands before any
none_first : (a c : Key) → is_lt (key_order c a) ≡ false → c.0 ≡ None → a.0 ≡ None
none_first a c h none = by a.0 refl
  where
    by : (t : Option Constraint) → a.0 ≡ t → a.0 ≡ None
    by None e = e
    by (Some x) e = absurd (not_less _ _ h (ap (λ (t : Option Constraint). option_cmp constraint_order t a.0) none
        ∙ ap (λ (t : Option Constraint). option_cmp constraint_order None t) e))

-- behind a key that may not meet the first none may
pub none_meets : (site : BindingId) (rules : List Rule) (keys : List Key) → AreKeys site rules keys → (p e l : ℕ) (a b c : Key)
    → slice_get keys p ≡ Some a → slice_get keys e ≡ Some b → slice_get keys l ≡ Some c → p < e → e ≤ l
    → (MayMeet a.0 b.0 → ⊥) → MayMeet a.0 c.0 → ⊥
none_meets site rules keys are p e l a b c p_at e_at l_at early late apart (inl none) = apart (inl none)
none_meets site rules keys are p e l a b c p_at e_at l_at early late apart (inr (inl none)) =
    apart (inl (none_first a c (are.ascending p l a c (omega arith) p_at l_at) none))
none_meets site rules keys are p e l a b c p_at e_at l_at early late apart (inr (inr same)) = elim (cases_eq e l) [
  | inl one ↦
      let last : b ≡ c = same_Some b c (sym e_at ∙ ap (λ (x : ℕ). slice_get keys x) one ∙ l_at) in
      apart (inr (inr (same ∙ sym (ap (λ (k : Key). k.0) last))))
  | inr other ↦
      apart (inr (inr (sym (between a b c (are.ascending p e a b early p_at e_at) (are.ascending e l b c (omega arith) e_at l_at) (sym same)))))
]

-- ---- the keys of all rules, sorted

rule_there : (rules : List Rule) (i : ℕ) → i < length rules → (rule : Rule) × (slice_get rules i ≡ Some rule)
rule_there [] i within = absurd (omega arith)
rule_there (rule ∷ more) zero within = (rule, refl)
rule_there (rule ∷ more) (suc i) within = rule_there more i (omega arith)

pub keys_sorted : (site : BindingId) (rules : List Rule) (made keys : List Key) → length made ≡ length rules
    → ((i : ℕ) (rule : Rule) → slice_get rules i ≡ Some rule → slice_get made i ≡ Some (test_at site rule, i))
    → IsPermutation made keys → IsSorted key_order keys → AreKeys site rules keys
keys_sorted site rules made keys fits is moved sorted = record {
  each = λ p key at.
      let (i, there) = place_of made key (Contains-permutation keys made key (IsPermutation-sym made keys moved) (stands_at keys p key at)) in
      let within = slice_get_within made i key there in
      let (rule, rule_at) = rule_there rules i (omega (arith, within, fits)) in
      let same : key ≡ (test_at site rule, i) = same_Some key (test_at site rule, i) (sym there ∙ is i rule rule_at) in
      (rule, subst (λ (k : ℕ). slice_get rules k ≡ Some rule) (sym (ap (λ (k : Key). k.1) same)) rule_at, ap (λ (k : Key). k.0) same);
  all = λ i within.
      let (rule, rule_at) = rule_there rules i within in
      let key : Key = (test_at site rule, i) in
      let (p, at) = place_of keys key (Contains-permutation made keys key moved (stands_at made i key (is i rule rule_at))) in
      (p, key, at, refl);
  ascending = λ p q a b less at there.
      let far = sorted_far (λ x y. is_lt (key_order x y)) (ranks_by keys_total (λ (k : Key). k)) keys sorted p q a (omega arith)
      (slice_get_within keys q b there) in
      subst (λ (x : Key). is_lt (key_order b x) ≡ false) (get_or_from_slice_get keys p a a at)
      (subst (λ (y : Key). is_lt (key_order y (get_or keys p a)) ≡ false) (get_or_from_slice_get keys q b a there) far);
}
