-- Rules left build the same trees in any order.
use Rattle.std.proofs.Common.{◌≡◌, inl, inr, ℕ, ◌+◌, ◌<◌, ◌==◌, ◌&&◌, not, List, [], ◌∷◌, Bool, length, refl, sym, ◌∙◌, ap, subst, arith, eqb-true, eq-eqb}
use Rattle.std.specs.Prelude.{if◌then◌else◌, sum_by}
use Rattle.std.specs.List.{filter, list_all}
use Rattle.std.proofs.lemmas.List.Sums.{sum_by-cons}
use Rattle.isle_trees.specs.Bag.{IsSameBag}
use Rattle.isle_trees.specs.Builds.{Key, key, state, IsAtMost, IsBest, HasNoTest, IsFirst, IsLeast, Returns, Builds, BuildsArms, without, wanting, not_wanting}
use Rattle.isle_trees.specs.Counting.{weight, unlearned}
use Rattle.isle_trees.specs.Rules.{has, one_value, Rules, Elem}
use Rattle.isle_trees.specs.Scopes.{Scope, join, release, is_want, inside, Test, on_match, on_equal, on_loop, has_test, allows, counts, counted, others}
use Rattle.isle_trees.specs.Tree.{Steps, done, «match», equal, loop, give, Arms, no_arm, arm}
use Rattle.isle_trees.proofs.Basics.{true_or, all_from, all_gives}
use Rattle.isle_trees.proofs.Building.Lists.{both_ways}
use Rattle.isle_trees.proofs.Sums.{sum_filter}

pub same_turned : (xs ys : List ℕ) → IsSameBag xs ys → IsSameBag ys xs
same_turned xs ys h f = sym (h f)

same_filter : (p : ℕ → Bool) (xs ys : List ℕ) → IsSameBag xs ys → IsSameBag (filter p xs) (filter p ys)
same_filter p xs ys h f = sum_filter f p xs ∙ h (λ x. if p x then f x else 0) ∙ sym (sum_filter f p ys)

length_sum : (xs : List ℕ) → length xs ≡ sum_by (λ x. 1) xs
length_sum [] = refl
length_sum (x ∷ xs) =
    let q = length_sum xs in let c : sum_by (λ (y : ℕ). 1) (x ∷ xs) ≡ 1 + sum_by (λ (y : ℕ). 1) xs = sum_by-cons (λ (y : ℕ). 1) x xs in omega arith

pub same_length : (xs ys : List ℕ) → IsSameBag xs ys → length xs ≡ length ys
same_length xs ys h = length_sum xs ∙ h (λ x. 1) ∙ sym (length_sum ys)

abbrev pub is_one : ℕ → ℕ → ℕ
is_one x y = if y == x then 1 else 0

pub elem_sum : (x : ℕ) (xs : List ℕ) → Elem x xs → 0 < sum_by (is_one x) xs
elem_sum x [] m = absurd m
elem_sum x (y ∷ ys) (inl e) =
    let c : sum_by (is_one x) (y ∷ ys) ≡ is_one x y + sum_by (is_one x) ys = sum_by-cons (is_one x) y ys in
    let o : is_one x y ≡ 1 = rw (eq-eqb y x (sym e)) refl in
    omega arith
elem_sum x (y ∷ ys) (inr m) =
    let c : sum_by (is_one x) (y ∷ ys) ≡ is_one x y + sum_by (is_one x) ys = sum_by-cons (is_one x) y ys in let q = elem_sum x ys m in omega arith

pub sum_elem : (x : ℕ) (xs : List ℕ) → 0 < sum_by (is_one x) xs → Elem x xs
sum_elem x [] l = absurd (omega arith)
sum_elem x (y ∷ ys) l = elim (true_or (y == x)) [
  | inl e ↦ inl (sym (eqb-true y x e))
  | inr e ↦
      let c : sum_by (is_one x) (y ∷ ys) ≡ is_one x y + sum_by (is_one x) ys = sum_by-cons (is_one x) y ys in
      let o : is_one x y ≡ 0 = rw e refl in
      inr (sum_elem x ys (omega arith))
]

pub same_elem : (xs ys : List ℕ) (x : ℕ) → IsSameBag xs ys → Elem x xs → Elem x ys
same_elem xs ys x h m = let l = elem_sum x xs m in let e = h (is_one x) in sum_elem x ys (omega arith)

same_all : (p : ℕ → Bool) (xs ys : List ℕ) → IsSameBag xs ys → list_all p xs ≡ list_all p ys
same_all p xs ys h = both_ways (list_all p xs) (list_all p ys)
    (λ e. all_from p ys (λ x m. all_gives p xs x e (same_elem ys xs x (same_turned xs ys h) m)))
    (λ e. all_from p xs (λ x m. all_gives p ys x e (same_elem xs ys x h m)))

same_counts : {C V : Type 0} (R : Rules C V) (t : Test) (xs ys : List ℕ) → IsSameBag xs ys → counts R t xs ≡ counts R t ys
same_counts R t xs ys h = λ p. λ i. has_test R i t && same_all (allows R t i) xs ys h p

pub same_counted : {C V : Type 0} (R : Rules C V) (t : Test) (xs ys : List ℕ) → IsSameBag xs ys → IsSameBag (counted R t xs) (counted R t ys)
same_counted R t xs ys h f = ap (λ (c : ℕ → Bool). sum_by f (filter c xs)) (same_counts R t xs ys h) ∙ same_filter (counts R t ys) xs ys h f

pub same_others : {C V : Type 0} (R : Rules C V) (t : Test) (xs ys : List ℕ) → IsSameBag xs ys → IsSameBag (others R t xs) (others R t ys)
same_others R t xs ys h f =
    ap (λ (c : ℕ → Bool). sum_by f (filter (λ i. not (c i)) xs)) (same_counts R t xs ys h) ∙ same_filter (λ i. not (counts R t ys i)) xs ys h f

same_count : {C V : Type 0} (R : Rules C V) (t : Test) (xs ys : List ℕ) → IsSameBag xs ys → length (counted R t xs) ≡ length (counted R t ys)
same_count R t xs ys h = same_length (counted R t xs) (counted R t ys) (same_counted R t xs ys h)

same_key : {C V : Type 0} (R : Rules C V) (sc : Scope C) (t : Test) (xs ys : List ℕ) → IsSameBag xs ys → key R xs sc t ≡ key R ys sc t
same_key R sc (on_match s) xs ys h =
    ap (λ (n : ℕ). record { count = n; state = state sc (on_match s); kind = 2; first = s; second = s }) (same_count R (on_match s) xs ys h)
same_key R sc (on_loop s) xs ys h =
    ap (λ (n : ℕ). record { count = n; state = state sc (on_loop s); kind = 0; first = s; second = s }) (same_count R (on_loop s) xs ys h)
same_key R sc (on_equal a b) xs ys h =
    ap (λ (n : ℕ). record { count = n; state = state sc (on_equal a b); kind = 1; first = a; second = b }) (same_count R (on_equal a b) xs ys h)

pub same_best : {C V : Type 0} (R : Rules C V) (sc : Scope C) (t : Test) (xs ys : List ℕ) → IsSameBag xs ys → IsBest R xs sc t → IsBest R ys sc t
same_best R sc t xs ys h b = record {
  ready = b.ready;
  useful = let l = b.useful in let e = same_count R t xs ys h in omega arith;
  greatest = λ u r.
      let P : Key → Type 0 = λ k. IsAtMost k (key R ys sc t) in
      let Q : Key → Type 0 = λ k. IsAtMost (key R xs sc u) k in
      subst P (same_key R sc u xs ys h) (subst Q (same_key R sc t xs ys h) (b.greatest u r));
}

same_no_test : {C V : Type 0} (R : Rules C V) (sc : Scope C) (xs ys : List ℕ) → IsSameBag xs ys → HasNoTest R xs sc → HasNoTest R ys sc
same_no_test R sc xs ys h n u r = sym (same_count R u xs ys h) ∙ n u r

same_nil : (xs ys : List ℕ) → IsSameBag xs ys → xs ≡ [] → ys ≡ []
same_nil xs [] h e = refl
same_nil xs (y ∷ ys) h e =
    let l : length xs ≡ length (y ∷ ys) = same_length xs (y ∷ ys) h in let k : length xs ≡ 0 = ap length e in absurd (omega arith)

same_first : {C V : Type 0} (R : Rules C V) (xs ys : List ℕ) (i : ℕ) → IsSameBag xs ys → IsFirst R xs i → IsFirst R ys i
same_first R xs ys i h f = (same_elem xs ys i h (f.0), λ j m. f.1 j (same_elem ys xs j (same_turned xs ys h) m))

same_returns : {C V : Type 0} (R : Rules C V) (T : Steps C) (xs ys : List ℕ) (sc : Scope C) → IsSameBag xs ys → Returns R xs sc T → Returns R ys sc T
same_returns R done xs ys sc h r = same_nil xs ys h r
same_returns R («match» binds s arms next) xs ys sc h r = r
same_returns R (equal binds a b body next) xs ys sc h r = r
same_returns R (loop binds x body next) xs ys sc h r = r
same_returns R (give binds i next) xs ys sc h r = (
  same_first R xs ys i h (r.0),
  (
    r.1.0,
    r.1.1,
    same_returns R next (without i xs) (without i ys) (r.1.0)
        (same_filter (λ j. not (j == i)) xs ys h) (r.1.2),
  ),
)

same_least : {C V : Type 0} (R : Rules C V) (s : ℕ) (c : C) (xs ys : List ℕ) → IsSameBag xs ys → IsLeast R s xs c → IsLeast R s ys c
same_least R s c xs ys h f = ((f.0.0, same_elem xs ys (f.0.0) h (f.0.1), f.0.2), λ i j m e. f.1 i j (same_elem ys xs i (same_turned xs ys h) m) e)

mutual
  pub same_builds : {C V : Type 0} (R : Rules C V) (T : Steps C) (xs ys : List ℕ) (sc : Scope C) → IsSameBag xs ys → Builds R xs sc T
      → Builds R ys sc T
  same_builds R done xs ys sc h b = same_nil xs ys h b
  same_builds R (give binds i next) xs ys sc h b = (same_no_test R sc xs ys h (b.0), same_returns R (give binds i next) xs ys sc h (b.1))
  same_builds R («match» binds s arms next) xs ys sc h b = (
    same_best R sc (on_match s) xs ys h (b.0),
    (
      b.1.0,
      b.1.1,
      same_arms R arms (counted R (on_match s) xs) (counted R (on_match s) ys) (b.1.0) s (same_counted R (on_match s) xs ys h) (b.1.2),
      same_builds R next (others R (on_match s) xs) (others R (on_match s) ys) (b.1.0) (same_others R (on_match s) xs ys h) (b.1.3),
    ),
  )
  same_builds R (equal binds x y body next) xs ys sc h b = (
    same_best R sc (on_equal x y) xs ys h (b.0),
    (
      b.1.0,
      b.1.1,
      same_builds R body (counted R (on_equal x y) xs) (counted R (on_equal x y) ys) (join (b.1.0) x y)
          (same_counted R (on_equal x y) xs ys h) (b.1.2),
      same_builds R next (others R (on_equal x y) xs) (others R (on_equal x y) ys) (b.1.0) (same_others R (on_equal x y) xs ys h) (b.1.3),
    ),
  )
  same_builds R (loop binds x body next) xs ys sc h b = (
    b.0,
    b.1,
    same_best R sc (on_loop (b.0)) xs ys h (b.2),
    (
      b.3.0,
      b.3.1,
      same_builds R body (counted R (on_loop (b.0)) xs) (counted R (on_loop (b.0)) ys) (inside R (b.3.0) (b.0) one_value)
          (same_counted R (on_loop (b.0)) xs ys h) (b.3.2),
      same_builds R next (others R (on_loop (b.0)) xs) (others R (on_loop (b.0)) ys) (release (b.3.0) (b.0))
          (same_others R (on_loop (b.0)) xs ys h) (b.3.3),
    ),
  )

  pub same_arms : {C V : Type 0} (R : Rules C V) (T : Arms C) (xs ys : List ℕ) (sc : Scope C) (s : ℕ) → IsSameBag xs ys → BuildsArms R xs sc s T
      → BuildsArms R ys sc s T
  same_arms R no_arm xs ys sc s h b = same_nil xs ys h b
  same_arms R (arm c bindings body more) xs ys sc s h b = (
    same_least R s c xs ys h (b.0),
    b.1,
    same_builds R body (wanting R s c xs) (wanting R s c ys) (inside R sc s (has c))
        (same_filter (λ i. is_want R.tests (has c) (R.at i s)) xs ys h) (b.2),
    same_arms R more (not_wanting R s c xs) (not_wanting R s c ys) sc s (same_filter (λ i. not (is_want R.tests (has c) (R.at i s))) xs ys h) (b.3),
  )

pub same_weight : {C V : Type 0} (R : Rules C V) (sc : Scope C) (xs ys : List ℕ) → IsSameBag xs ys → weight R sc xs ≡ weight R sc ys
same_weight R sc xs ys h = h (λ i. unlearned R sc i + 1)

-- what holds of all holds of all in another order
pub same_each : (P : ℕ → Type 0) (xs ys : List ℕ) → IsSameBag xs ys → ((i : ℕ) → Elem i xs → P i) → (i : ℕ) → Elem i ys → P i
same_each P xs ys h w i m = w i (same_elem ys xs i (same_turned xs ys h) m)
