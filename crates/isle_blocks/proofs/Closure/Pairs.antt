-- Lists of pairs under a push and a pop, and own tests as they are read.
use Rattle.std.proofs.Common.{◌≡◌, ◌<◌, ◌+◌, ◌++◌, ◌⊎◌, inl, inr, ℕ, List, [], ◌∷◌, length, get_or, Option, Some, None, sym, ◌∙◌, ap, subst, arith}
use Rattle.std.specs.Prelude.{Contains}
use Rattle.std.proofs.lemmas.List.{get_or_default, get_or-set_same, get_or-set_other}
use Rattle.std.proofs.Math.ListN.{set, get_or-eq_default}
use Rattle.std.proofs.lemmas.Bool.{cases_lt, cases_eq}
use Rattle.std.proofs.lemmas.List.Elements.{Contains-push, Contains-append_left, Contains-push_cases, Contains-get_or}
use Rattle.isle_blocks.specs.declared.ids.BindingId.{BindingId}
use Rattle.isle_blocks.specs.declared.constraint.Constraint.{Constraint}
use Rattle.isle_blocks.specs.Inside.ClosureStates.{HasOwn}

pub last_of : {X : Type 0} (xs ys : List X) (x : X) → xs ≡ ys ++ x ∷ [] → Contains xs x
last_of {X = X} xs ys x e = subst (λ (l : List X). Contains l x) (sym e) (Contains-push ys x)

pub front_of : {X : Type 0} (xs ys : List X) (x y : X) → xs ≡ ys ++ x ∷ [] → Contains ys y → Contains xs y
front_of {X = X} xs ys x y e h = subst (λ (l : List X). Contains l y) (sym e) (Contains-append_left ys (x ∷ []) y h)

pub split_of : {X : Type 0} (xs ys : List X) (x y : X) → xs ≡ ys ++ x ∷ [] → Contains xs y → Contains ys y ⊎ (x ≡ y)
split_of {X = X} xs ys x y e h = Contains-push_cases ys x y (subst (λ (l : List X). Contains l y) e h)

pub pair_path : {A B : Type 0} (a c : A) (b d : B) → a ≡ c → b ≡ d → ◌≡◌ {A = A × B} (a, b) (c, d)
pair_path {A = A} {B = B} a c b d s t = let f : A → A × B = λ x. (x, b) in let g : B → A × B = λ y. (c, y) in ap f s ∙ ap g t

-- a site's own test, as it was read
pub own_read : (own : List (Option Constraint)) (a : ℕ) (x : Option Constraint) → a < length own → x ≡ get_or own a x → get_or own a None ≡ x
own_read own a x h e = get_or_default own a None x h ∙ sym e

pub own_written : (own : List (Option Constraint)) (a : ℕ) (c : Constraint) → a < length own → HasOwn (set own a (Some c)) a c
own_written own a c h = get_or-set_same own a (Some c) None h

pub own_kept : (own : List (Option Constraint)) (a b : ℕ) (c d : Constraint) → get_or own a None ≡ None → HasOwn own b d
    → HasOwn (set own a (Some c)) b d
own_kept own a b c d e h = elim (cases_eq b a) [
  | inl s ↦ absurd (let x : get_or own b None ≡ None = ap (λ (j : ℕ). get_or own j None) s ∙ e in cc)
  | inr n ↦ get_or-set_other own a b (Some c) None n ∙ h
]

pub own_before : (own : List (Option Constraint)) (a b : ℕ) (c d : Constraint) → a < length own → HasOwn (set own a (Some c)) b d
    → HasOwn own b d ⊎ ((a ≡ b) × (c ≡ d))
own_before own a b c d l h = elim (cases_eq b a) [
  | inl s ↦ let x : get_or (set own a (Some c)) b None ≡ Some c = ap (λ (j : ℕ). get_or (set own a (Some c)) j None) s ∙ get_or-set_same own a
      (Some c) None l in
      inr (sym s, cc)
  | inr n ↦ inl (sym (get_or-set_other own a b (Some c) None n) ∙ h)
]

pub own_in : (own : List (Option Constraint)) (a : ℕ) (c : Constraint) → HasOwn own a c → a < length own
own_in own a c h = elim (cases_lt a (length own)) [ inl l ↦ l | inr g ↦ let e : get_or own a None ≡ None = get_or-eq_default own None g in absurd cc ]

-- the demands below a number are read
pub record IsRead (has : List (BindingId × Constraint)) (own : List (Option Constraint)) (n : ℕ) : Type 0 where
  pub demanded : (a : ℕ) (c : Constraint) → HasOwn own a c → (id : BindingId) × (id.0 ≡ a) × Contains has (id, c)
  pub all : (a : BindingId) (c : Constraint) (k : ℕ) → k < n → get_or has k (a, c) ≡ (a, c) → HasOwn own a.0 c

-- The demands read so far, and one more.
module _ (has : List (BindingId × Constraint)) (i : ℕ) (d : BindingId × Constraint) (h : i < length has) where
  here : BindingId × Constraint
  here = get_or has i d

  read_more : (own : List (Option Constraint)) → ((a : BindingId) (c : Constraint) (k : ℕ) → k < i → get_or has k (a, c) ≡ (a, c) → HasOwn own a.0 c)
      → HasOwn own (get_or has i d).0.0 (get_or has i d).1 → (a : BindingId) (c : Constraint) (k : ℕ) → k < i + 1
      → get_or has k (a, c) ≡ (a, c) → HasOwn own a.0 c
  read_more own below now a c k l e = elim (cases_lt k i) [
    | inl less ↦ below a c k less e
    | inr more ↦
        let same : k ≡ i = omega arith in
        let same_at : get_or has i d ≡ (a, c) = get_or_default has i d (a, c) h ∙ ap (λ (j : ℕ). get_or has j (a, c)) (sym same) ∙ e in
        subst (λ (p : BindingId × Constraint). HasOwn own p.0.0 p.1) same_at now
  ]

  module _ (own : List (Option Constraint)) (read : IsRead has own i) where
    pub read_again : HasOwn own (get_or has i d).0.0 (get_or has i d).1 → IsRead has own (i + 1)
    read_again e = record { demanded = read.demanded; all = read_more own read.all e }

    pub read_first : (get_or has i d).0.0 < length own → get_or own (get_or has i d).0.0 None ≡ None
        → IsRead has (set own (get_or has i d).0.0 (Some (get_or has i d).1)) (i + 1)
    read_first l e =
        let p = get_or has i d in
        record {
          demanded = λ b c k. elim (own_before own p.0.0 b p.1 c l k) [
            | inl m ↦ read.demanded b c m
            | inr (s, t) ↦ (p.0, s, subst (λ (z : Constraint). Contains has (p.0, z)) t (Contains-get_or has i d h))
          ];
          all = read_more (set own p.0.0 (Some p.1)) (λ b c k m q. own_kept own p.0.0 b.0 p.1 c e (read.all b c k m q)) (own_written own p.0.0 p.1 l);
        }
