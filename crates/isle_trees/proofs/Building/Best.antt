-- The best test is a maximum.
use Rattle.std.proofs.Common.{◌≡◌, ◌≢◌, ◌⊎◌, inl, inr, ℕ, ◌<◌, ◌≤◌, ◌==◌, ◌&&◌, ◌||◌, nat_lt, List, Bool, true, false, Option, Some, None, length, refl, sym, ◌∙◌, subst, arith, eqb-true}
use Rattle.std.proofs.lemmas.Bool.{ltb-true, ltb-false, eqb-false}
use Rattle.isle_trees.specs.Builds.{Key, key, IsAtMost}
use Rattle.isle_trees.specs.Ranking.{Ranked, above, better, IsRanked, IsNoBetter}
use Rattle.isle_trees.specs.Rules.{Rules}
use Rattle.isle_trees.specs.Scopes.{Scope, Test, on_match, on_equal, on_loop, counted, IsReady}
use Rattle.isle_trees.proofs.Basics.{true_or, eq_or, and_both, and_fails, or_holds, or_fails}

-- one place of the order
abbrev Lex : ℕ → ℕ → Type 0 → Type 0
Lex a b P = (a < b) ⊎ ((a ≡ b) × P)

lex_false : (x y : ℕ) (t : Bool) (Q : Type 0) → (nat_lt y x || ((x == y) && t)) ≡ false → (t ≡ false → Q) → Lex x y Q
lex_false x y t Q e f =
    let both = or_fails (nat_lt y x) _ e in
    let le : x ≤ y = ltb-false y x (both.0) in
    elim (and_fails (x == y) t (both.1)) [
      | inl n ↦ let d : x ≢ y = eqb-false x y n in inl (omega arith)
      | inr g ↦ elim (eq_or x y) [ inl same ↦ inr (same, f g) | inr d ↦ inl (omega arith) ]
    ]

lex_true : (x y : ℕ) (t : Bool) (Q : Type 0) → (nat_lt y x || ((x == y) && t)) ≡ true → (t ≡ true → Q) → Lex y x Q
lex_true x y t Q e f = elim (or_holds (nat_lt y x) _ e) [
  | inl l ↦ inl (ltb-true y x l)
  | inr h ↦ let both = and_both (x == y) t h in inr (sym (eqb-true x y (both.0)), f (both.1))
]

lex_trans : (x y z : ℕ) (P Q S : Type 0) → Lex x y P → Lex y z Q → (P → Q → S) → Lex x z S
lex_trans x y z P Q S (inl l) (inl m) f = inl (omega arith)
lex_trans x y z P Q S (inl l) (inr m) f = let e : y ≡ z = m.0 in inl (omega arith)
lex_trans x y z P Q S (inr l) (inl m) f = let e : x ≡ y = l.0 in inl (omega arith)
lex_trans x y z P Q S (inr l) (inr m) f = inr (l.0 ∙ m.0, f (l.1) (m.1))

-- a key that isn't above is at most
pub not_above : (a b : Key) → above a b ≡ false → IsAtMost a b
not_above a b e =
    lex_false a.count b.count _ _ e (λ f. lex_false a.state b.state _ _ f (λ g. lex_false a.kind b.kind _ _ g (λ h.
    lex_false b.first a.first _ _ h (λ k. ltb-false _ _ k))))

pub is_above_most : (a b : Key) → above a b ≡ true → IsAtMost b a
is_above_most a b e =
    lex_true a.count b.count _ _ e (λ f. lex_true a.state b.state _ _ f (λ g. lex_true a.kind b.kind _ _ g (λ h.
    lex_true b.first a.first _ _ h (λ k. let l : a.second < b.second = ltb-true _ _ k in omega arith))))

pub at_most_trans : (a b c : Key) → IsAtMost a b → IsAtMost b c → IsAtMost a c
at_most_trans a b c p q =
    lex_trans a.count b.count c.count _ _ _ p q (λ p q. lex_trans a.state b.state c.state _ _ _ p q
    (λ p q. lex_trans a.kind b.kind c.kind _ _ _ p q (λ p q.
    lex_trans c.first b.first a.first _ _ _ q p (λ (x : c.second ≤ b.second) (y : b.second ≤ a.second). omega arith))))

pub at_most_self : (a : Key) → IsAtMost a a
at_most_self a = inr (refl, inr (refl, inr (refl, inr (refl, omega arith))))

pub none_least : (a b : Key) → a.count ≡ 0 → 0 < b.count → IsAtMost a b
none_least a b e l = inl (omega arith)

abbrev pub HasCount : Key → Type 0
HasCount k = 0 < k.count

-- what the better one is
pub better_old : {C V : Type 0} (R : Rules C V) (left : List ℕ) (sc : Scope C) (best : Option Ranked) (new : Ranked) (u : Test)
    → IsRanked R left sc best
    → IsNoBetter R left sc best u → IsNoBetter R left sc (better best new) u
better_old R left sc None new u r h = elim (true_or (nat_lt 0 new.key.count)) [
  | inl e ↦ rw e (none_least _ _ h (ltb-true _ _ e))
  | inr e ↦ rw e h
]
better_old R left sc (Some old) new u r h = elim (true_or (above new.key old.key)) [
  | inl e ↦ rw e (at_most_trans _ _ _ h (is_above_most new.key old.key e))
  | inr e ↦ rw e h
]

pub better_new : {C V : Type 0} (R : Rules C V) (left : List ℕ) (sc : Scope C) (best : Option Ranked) (new : Ranked)
    → new.key ≡ key R left sc new.test
    → IsNoBetter R left sc (better best new) new.test
better_new R left sc None new k = elim (true_or (nat_lt 0 new.key.count)) [
  | inl e ↦ rw e (rw (sym k) (at_most_self new.key))
  | inr e ↦ rw e (let l : new.key.count ≤ 0 = ltb-false _ _ e in let P : Key → Type 0 = λ x. x.count ≡ 0 in subst P k (omega arith))
]
better_new R left sc (Some old) new k = elim (true_or (above new.key old.key)) [
  | inl e ↦ rw e (rw (sym k) (at_most_self new.key))
  | inr e ↦ rw e (rw (sym k) (not_above new.key old.key e))
]

pub key_count : {C V : Type 0} (R : Rules C V) (left : List ℕ) (sc : Scope C) (t : Test) → (key R left sc t).count ≡ length (counted R t left)
key_count R left sc (on_match s) = refl
key_count R left sc (on_loop s) = refl
key_count R left sc (on_equal a b) = refl
