-- What a path knows, as lists keep it.
use Rattle.std.proofs.Common.{◌≡◌, ◌≢◌, inl, inr, ℕ, suc, zero, ◌++◌, ◌+◌, ◌<◌, ◌≤◌, ◌==◌, List, [], ◌∷◌, Bool, false, Option, Some, None, length, refl, sym, ◌∙◌, ap, arith, get_or, map, set, eqb-true}
use Rattle.std.proofs.lemmas.Bool.{eqb-false}
use Rattle.std.proofs.lemmas.Grind.{common_steps}
use Rattle.std.specs.Prelude.{◌||◌, if◌then◌else◌}
use Rattle.isle_trees.specs.Rules.{Want, Rules}
use Rattle.isle_trees.specs.Scopes.{Scope, nothing_known, join, is_source, inside}
use Rattle.isle_trees.proofs.Basics.{true_or}
use Rattle.isle_trees.proofs.Building.Lists.{less_or}

pub scope_same : {C : Type 0} (a b : Scope C) → ((s : ℕ) → a.passed s ≡ b.passed s) → ((s : ℕ) → a.label s ≡ b.label s)
    → ((s : ℕ) → a.emitted s ≡ b.emitted s) → a ≡ b
scope_same a b p l e = λ i. record { passed = λ s. p s i; label = λ s. l s i; emitted = λ s. e s i }

abbrev pub relabel : ℕ → ℕ → ℕ → ℕ
relabel from to label = if label == from then to else label

pub map_length : {A B : Type 0} (f : A → B) (xs : List A) → length (map f xs) ≡ length xs
map_length f [] = refl
map_length f (x ∷ xs) = ap suc (map_length f xs)

pub get_past : {A : Type 0} (xs : List A) (i : ℕ) (d : A) → length xs ≤ i → get_or xs i d ≡ d
get_past [] i d l = refl
get_past (x ∷ xs) zero d l = absurd (omega arith)
get_past (x ∷ xs) (suc i) d l = get_past xs i d (omega arith)

pub get_map : {A B : Type 0} (f : A → B) (xs : List A) (i : ℕ) (d : B) (e : A) → i < length xs → get_or (map f xs) i d ≡ f (get_or xs i e)
get_map f [] i d e l = absurd (omega arith)
get_map f (x ∷ xs) zero d e l = refl
get_map f (x ∷ xs) (suc i) d e l = get_map f xs i d e (omega arith)

pub relabelled : (xs : List ℕ) (a b x : ℕ) → get_or xs a a < length xs
    → get_or (map (relabel (get_or xs a a) b) xs) x x ≡ relabel (get_or xs a a) b (get_or xs x x)
relabelled xs a b x l = elim (less_or x (length xs)) [
  | inl m ↦ get_map (relabel (get_or xs a a) b) xs x x x m
  | inr m ↦
      let size = map_length (relabel (get_or xs a a) b) xs in
      let p : get_or (map (relabel (get_or xs a a) b) xs) x x ≡ x = get_past (map (relabel (get_or xs a a) b) xs) x x (omega arith) in
      let q : get_or xs x x ≡ x = get_past xs x x m in
      elim (true_or (x == get_or xs a a)) [
        | inl y ↦ let r : x ≡ get_or xs a a = eqb-true x _ y in absurd (omega arith)
        | inr n ↦ p ∙ sym (rw (q, n) refl)
      ]
]

pub relabel_below : (a b x n : ℕ) → b < n → x < n → relabel a b x < n
relabel_below a b x n l m = elim (true_or (x == a)) [ inl e ↦ rw e l | inr e ↦ rw e m ]

pub set_passed : {A : Type 0} (xs : List (Option A)) (s : ℕ) (w : A) (x : ℕ) → s < length xs
    → get_or (set xs s (Some w)) x None ≡ (if x == s then Some w else get_or xs x None)
set_passed xs s w x l = elim (true_or (x == s)) [
  | inl y ↦ let e : x ≡ s = eqb-true x s y in rw y (grind (arith, common_steps))
  | inr n ↦ let e : x ≢ s = eqb-false x s n in rw n (grind (arith, common_steps))
]

pub joined_below : (labels new : List ℕ) (a b n : ℕ) → length labels ≡ n → ((x : ℕ) → x < n → get_or labels x x < n) → b < n
    → new ≡ map (relabel (get_or labels a a) (get_or labels b b)) labels → (x : ℕ) → x < n → get_or new x x < n
joined_below labels new a b n size below lb e x l =
    rw (e, get_map (relabel (get_or labels a a) (get_or labels b b)) labels x x x (omega arith)) (relabel_below _ _ _ n (below b lb) (below x l))

-- one more mark
pub marks_more : (f : ℕ → Bool) (marks more : List Bool) (n : ℕ) (b : Bool) → length marks ≡ n → ((y : ℕ) → y < n → get_or marks y false ≡ f y)
    → more ≡ marks ++ b ∷ [] → b ≡ f n
    → (y : ℕ) → y < n + 1 → get_or more y false ≡ f y
marks_more f marks more n b w h e q y l = elim (less_or y n) [
  | inl m ↦ let p : get_or (marks ++ b ∷ []) y false ≡ get_or marks y false = grind (arith, common_steps) in rw e (p ∙ h y m)
  | inr m ↦
      let same : y ≡ n = omega arith in
      let p : get_or (marks ++ b ∷ []) y false ≡ b = grind (arith, common_steps) in
      rw e (p ∙ q ∙ ap f (sym same))
]
