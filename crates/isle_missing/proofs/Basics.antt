-- Tests, members of lists, and what two demands say of each other.
use Rattle.std.proofs.Common.{◌≡◌, ◌⊎◌, inl, inr, ℕ, zero, suc, ◌==◌, ◌&&◌, ◌||◌, not, Bool, true, false, List, [], ◌∷◌, Contains, refl, sym, ◌∙◌, ap, subst, arith, eqb-true, eq-eqb}
use Rattle.std.specs.List.{list_any}
use Rattle.std.proofs.lemmas.Bool.{eqb-false}
use Rattle.isle_missing.specs.declared.demand.Demand.{Demand}
use Rattle.isle_missing.specs.declared.demand.Demand.TheVariants.{Passes, Same}
use Rattle.isle_missing.specs.Sites.{is_listed}
use Rattle.isle_missing.specs.Demands.{World, passes, equals}
use Rattle.isle_missing.specs.Inside.Rows.{same_demand, denies}

pub true_or : (b : Bool) → (b ≡ true) ⊎ (b ≡ false)
true_or true = inl refl
true_or false = inr refl

pub and_both : (a b : Bool) → (a && b) ≡ true → (a ≡ true) × (b ≡ true)
and_both true true e = (refl, refl)
and_both true false e = cc
and_both false b e = cc

pub or_holds : (a b : Bool) → (a || b) ≡ true → (a ≡ true) ⊎ (b ≡ true)
or_holds true b e = inl refl
or_holds false b e = inr e

pub or_fails : (a b : Bool) → (a || b) ≡ false → (a ≡ false) × (b ≡ false)
or_fails true b e = cc
or_fails false b e = (refl, e)

pub not_true : (b : Bool) → not b ≡ true → b ≡ false
not_true true e = cc
not_true false e = refl

pub not_false : (b : Bool) → not b ≡ false → b ≡ true
not_false true e = refl
not_false false e = cc

pub clash : {A : Type 0} (b : Bool) → b ≡ true → b ≡ false → A
clash b e f = absurd (let g : true ≡ false = sym e ∙ f in cc)

-- demands that are one are equal
pub same_is_equal : (d e : Demand) → same_demand d e ≡ true → d ≡ e
same_is_equal (Passes s t) (Passes u v) h =
    let both : ((s.0 == u.0) ≡ true) × ((t.0 == v.0) ≡ true) = and_both (s.0 == u.0) (t.0 == v.0) h in
    ap (λ (k : ℕ). passes k t.0) (eqb-true s.0 u.0 (both.0)) ∙ ap (λ (k : ℕ). passes u.0 k) (eqb-true t.0 v.0 (both.1))
same_is_equal (Passes s t) (Same a b) h = cc
same_is_equal (Same a b) (Passes s t) h = cc
same_is_equal (Same a b) (Same c d) h =
    let both : ((a.0 == c.0) ≡ true) × ((b.0 == d.0) ≡ true) = and_both (a.0 == c.0) (b.0 == d.0) h in
    ap (λ (k : ℕ). equals k b.0) (eqb-true a.0 c.0 (both.0)) ∙ ap (λ (k : ℕ). equals c.0 k) (eqb-true b.0 d.0 (both.1))

-- of two demands of which one denies the other not both hold
pub denied_fails : (w : World) (d e : Demand) → denies d e ≡ true → w.holds d ≡ true → w.holds e ≡ true → ⊥
denied_fails w (Passes s t) (Passes u v) h p q =
    let both : ((s.0 == u.0) ≡ true) × (not (t.0 == v.0) ≡ true) = and_both (s.0 == u.0) (not (t.0 == v.0)) h in
    let there : w.holds (passes s.0 v.0) ≡ true = ap (λ (k : ℕ). w.holds (passes k v.0)) (eqb-true s.0 u.0 (both.0)) ∙ q in
    eqb-false t.0 v.0 (not_true (t.0 == v.0) (both.1)) (w.one s.0 t.0 v.0 p there)
denied_fails w (Passes s t) (Same a b) h p q = clash false h refl
denied_fails w (Same a b) e h p q = clash false h refl

pub true_and : (a b : Bool) → a ≡ true → b ≡ true → (a && b) ≡ true
true_and true true e f = refl
true_and true false e f = cc
true_and false b e f = cc

-- ---- members

pub member_head : {X : Type 0} (x : X) (xs : List X) → Contains (x ∷ xs) x
member_head x xs = (0, omega arith, refl)

pub member_tail : {X : Type 0} (x y : X) (xs : List X) → Contains xs y → Contains (x ∷ xs) y
member_tail x y xs (k, below, same) = (suc k, omega arith, same)

-- a member passes a test that some member passes, and the other way
pub any_member : {X : Type 0} (p : X → Bool) (xs : List X) (x : X) → Contains xs x → p x ≡ true → list_any p xs ≡ true
any_member p [] x m h = absurd (omega (arith, m.1))
any_member p (y ∷ ys) x (zero, below, same) h = true_or_any (p y) (list_any p ys) (subst (λ z. p z ≡ true) (sym same) h) where
  true_or_any : (a b : Bool) → a ≡ true → (a || b) ≡ true
  true_or_any true b e = refl
  true_or_any false b e = cc
any_member p (y ∷ ys) x (suc k, below, same) h = any_or_true (p y) (list_any p ys) (any_member p ys x (k, omega arith, same) h) where
  any_or_true : (a b : Bool) → b ≡ true → (a || b) ≡ true
  any_or_true true b e = refl
  any_or_true false b e = e

pub any_found : {X : Type 0} (p : X → Bool) (xs : List X) → list_any p xs ≡ true → (x : X) × Contains xs x × (p x ≡ true)
any_found p [] h = clash false h refl
any_found {X} p (y ∷ ys) h = elim (or_holds (p y) (list_any p ys) h) [
  | inl here ↦ (y, member_head y ys, here)
  | inr later ↦
      let r : (x : X) × Contains ys x × (p x ≡ true) = any_found p ys later in
      (r.0, member_tail y (r.0) ys (r.1), r.2)
]

-- a listed test is a member, and the other way
pub listed_member : (ts : List ℕ) (t : ℕ) → is_listed ts t ≡ true → Contains ts t
listed_member ts t h =
    let r : (u : ℕ) × Contains ts u × ((u == t) ≡ true) = any_found (λ (u : ℕ). u == t) ts h in
    subst (λ (u : ℕ). Contains ts u) (eqb-true (r.0) t (r.2)) (r.1)

pub member_listed : (ts : List ℕ) (t : ℕ) → Contains ts t → is_listed ts t ≡ true
member_listed ts t m = any_member (λ (u : ℕ). u == t) ts t m (eq-eqb t t refl)
