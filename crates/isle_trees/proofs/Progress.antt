-- Where no test is left, the first rule is known.
use Rattle.std.proofs.Common.{◌≡◌, ◌≢◌, ◌⊎◌, inl, inr, ℕ, zero, suc, ◌<◌, ◌≤◌, ◌≤ℤ◌, nat_le, List, true, Some, None, length, refl, sym, ◌∙◌, arith, leb-true, leb-false}
use Rattle.isle_trees.specs.Builds.{HasNoTest}
use Rattle.isle_trees.specs.Premises.{IsWellMade, TestsItsFields}
use Rattle.isle_trees.specs.Rules.{Want, has, one_value, Source, Rules, Elem, Asked}
use Rattle.isle_trees.specs.Scopes.{Scope, IsAvailable, Test, on_match, on_equal, on_loop, has_test, counted, IsReady}
use Rattle.isle_trees.proofs.Basics.{true_or, none_or, eq_or, has_length, source_part, top_counts}

-- each rule left wants what the path met
abbrev pub Carries : {C V : Type 0} → Rules C V → List ℕ → Scope C → Type 0
Carries {C} R left sc = (i s : ℕ) (w : Want C) → Elem i left → sc.passed s ≡ Some w → R.at i s ≡ Some w

-- a rule's demands hold on the path
pub record IsKnown {C V : Type 0} (R : Rules C V) (sc : Scope C) (i : ℕ) : Type 0 where
  pub wants : (s : ℕ) (w : Want C) → R.at i s ≡ Some w → sc.passed s ≡ Some w
  pub equals : (a b : ℕ) → R.joins i a b ≡ true → a ≢ b → sc.label a ≡ sc.label b

-- a rule of greatest priority, where no test is left
pub record IsLast {C V : Type 0} (R : Rules C V) (left : List ℕ) (sc : Scope C) (i : ℕ) : Type 0 where
  pub carries : Carries R left sc
  pub none : HasNoTest R left sc
  pub there : Elem i left
  pub top : (j : ℕ) → Elem j left → R.prio j ≤ℤ R.prio i

-- it has no ready test
no_ready : {C V : Type 0} (R : Rules C V) (left : List ℕ) (sc : Scope C) (i : ℕ) (t : Test) → IsLast R left sc i
    → has_test R i t ≡ true → IsReady R sc t → ⊥
no_ready R left sc i t l h r =
    let m : 0 < length (counted R t left) = has_length _ i (top_counts R t left i l.there h l.top) in
    let z : length (counted R t left) ≡ 0 = l.none t r in
    omega arith

-- nor wants it something of an available site that isn't tested
no_untested : {C V : Type 0} (R : Rules C V) (left : List ℕ) (sc : Scope C) (i s : ℕ) (w : Want C) → IsLast R left sc i
    → R.at i s ≡ Some w → IsAvailable R sc s
    → sc.passed s ≡ None → ⊥
no_untested R left sc i s (has c) l e a p = no_ready R left sc i (on_match s) l (rw e refl) (a, p)
no_untested R left sc i s one_value l e a p = no_ready R left sc i (on_loop s) l (rw e refl) (a, p)

-- what it wants of an available site was met
met : {C V : Type 0} (R : Rules C V) (left : List ℕ) (sc : Scope C) (i s : ℕ) (w : Want C) → IsLast R left sc i
    → R.at i s ≡ Some w → IsAvailable R sc s
    → sc.passed s ≡ Some w
met R left sc i s w l e a = elim (none_or (sc.passed s)) [
  | inl n ↦ absurd (no_untested R left sc i s w l e a n)
  | inr h ↦ h.1 ∙ sym (l.carries i s (h.0) l.there (h.1)) ∙ e
]

-- sites of which each field has its test among what it wants are available, from the least on
pub all_available : {C V : Type 0} (R : Rules C V) (left : List ℕ) (sc : Scope C) (i : ℕ) (P : ℕ → Type 0)
    → ((s p : ℕ) → P s → Elem p (R.parts s) → P p)
    → ((s : ℕ) (m : Source C) → P s → R.made s ≡ Some m → R.at i m.site ≡ Some m.want) → IsWellMade R → IsLast R left sc i
    → (n s : ℕ) → s < n → P s → IsAvailable R sc s
all_available R left sc i P down tested w l zero s lt a = absurd (omega arith)
all_available R left sc i P down tested w l (suc n) s lt a =
    let parts : (p : ℕ) → Elem p (R.parts s) → IsAvailable R sc p =
    λ p m. let b : p < s = w.lower s p m in all_available R left sc i P down tested w l n p (omega arith) (down s p a m) in
    IsAvailable.from_parts s parts (λ m e. met R left sc i m.site m.want l (tested s m a e) (parts m.site (source_part R s m w e)))

asked_available : {C V : Type 0} (R : Rules C V) (left : List ℕ) (sc : Scope C) (i s : ℕ) → IsWellMade R → TestsItsFields R
    → IsLast R left sc i → Asked R i s
    → IsAvailable R sc s
asked_available R left sc i s w its l a =
    all_available R left sc i (Asked R i) (λ s p a m. Asked.by_part s p a m) (λ s m a e. its i s m a e) w l (suc s) s (omega arith) a

order : (a b : ℕ) → a ≢ b → (a < b) ⊎ (b < a)
order a b n = elim (true_or (nat_le b a)) [
  | inl e ↦ let l : b ≤ a = leb-true b a e in inr (omega arith)
  | inr e ↦ inl (leb-false b a e)
]

pub first_known : {C V : Type 0} (R : Rules C V) (left : List ℕ) (sc : Scope C) (i : ℕ) → IsWellMade R → TestsItsFields R
    → IsLast R left sc i → IsKnown R sc i
first_known {C} R left sc i w its l =
    let there : (s : ℕ) → Asked R i s → IsAvailable R sc s = λ s a. asked_available R left sc i s w its l a in
    let fresh : (a b : ℕ) → R.joins i a b ≡ true → sc.passed a ≡ None = λ a b j. elim (none_or (sc.passed a)) [
      | inl f ↦ f
      | inr h ↦ let f : None ≡ Some (h.0) = sym (w.apart i a b j) ∙ l.carries i a (h.0) l.there (h.1) in cc
    ] in
    let less : (a b : ℕ) → R.joins i a b ≡ true → a < b → sc.label a ≡ sc.label b =
    λ a b j lt. elim (eq_or (sc.label a) (sc.label b)) [
      | inl e ↦ e
      | inr n ↦ absurd (no_ready R left sc i (on_equal a b) l j
          (lt, there a (Asked.by_class a b j), there b (Asked.by_class b a (w.both i a b j)), fresh a b j, fresh b a (w.both i a b j), n))
    ] in
    record {
      wants = λ s u d. met R left sc i s u l d (there s (Asked.by_demand s u d));
      equals = λ a b j n. elim (order a b n) [ inl lt ↦ less a b j lt | inr lt ↦ sym (less b a (w.both i a b j) lt) ];
    }
