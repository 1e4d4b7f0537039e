-- Lists with the same items as often, told by the sums over them; such lists in order are one.
use Rattle.std.proofs.Common.{◌≡◌, ◌<◌, ◌+◌, ◌++◌, ◌∷◌, [], ℕ, zero, suc, Bool, true, false, cond, Option, Some, None, List, get_or, inl, inr}
use Rattle.std.proofs.Common.{refl, sym, ap, subst, ◌∙◌, arith}
use Rattle.std.specs.Prelude.{Contains, sum_by, count_by}
use Rattle.std.specs.Option.{option_map_or}
use Rattle.std.specs.Cmp.{IsStrictWeakOrder}
use Rattle.std.specs.List.{cons_option, filter, filter_map}
use Rattle.std.specs.List.Sorted.{IsSortedBy}
use Rattle.std.proofs.lemmas.Bool.{cases_Bool}
use Rattle.std.proofs.lemmas.List.Elements.{Contains-append_left, Contains-append_right, Contains-append_cases}
use Rattle.std.proofs.lemmas.List.Sorted.{sorted_far}
use Rattle.std.proofs.lemmas.List.Sums.{sum_by-append, sum_by-cons}
use Rattle.isle_blocks.proofs.Counting.{Once, once_both, once_left, once_right}
use Rattle.isle_blocks.proofs.Sets.ListedSets.{both_apart}

-- each sum over the two lists is the same
pub record SameSums {X : Type 0} (xs ys : List X) : Type 0 where
  pub sums : (f : X → ℕ) → sum_by f xs ≡ sum_by f ys

-- what a test counts
abbrev weight : Bool → ℕ
weight b = cond b 1 0

module _ {X : Type 0} where
  later : (x : X) (xs : List X) (y : X) → Contains xs y → Contains (x ∷ xs) y
  later x xs y h = Contains-append_right (x ∷ []) xs y h

  first : (x : X) (xs : List X) → Contains (x ∷ xs) x
  first x xs = Contains-append_left (x ∷ []) xs x (0, omega arith, refl)

  -- a list round an item
  around : (ys : List X) (x : X) → Contains ys x → (before : List X) × (behind : List X) × (ys ≡ before ++ x ∷ behind)
  around [] x (k, within, is) = absurd (omega arith)
  around (y ∷ ys) x (zero, within, is) = ([], ys, ap (λ (z : X). z ∷ ys) is)
  around (y ∷ ys) x (suc k, within, is) =
      let (before, behind, e) = around ys x (k, omega arith, is) in (y ∷ before, behind, ap (λ (l : List X). y ∷ l) e)

  -- lists in which nothing stands twice, and that have the same items
  pub same_sums : (xs ys : List X) → Once xs → Once ys → ((x : X) → Contains xs x → Contains ys x) → ((x : X) → Contains ys x → Contains xs x)
      → SameSums xs ys
  same_sums [] [] once other to back = record { sums = λ f. refl }
  same_sums [] (y ∷ ys) once other to back = absurd (let (k, within, is) = back y (first y ys) in omega arith)
  same_sums (x ∷ xs) ys once other to back =
      let (before, behind, e) = around ys x (to x (first x xs)) in
      let split : Once (before ++ x ∷ behind) = subst (λ (l : List X). Once l) e other in
      let tail = once_right before (x ∷ behind) split in
      let joined = once_both before behind (once_left before (x ∷ behind) split) (once_right (x ∷ []) behind tail)
      (λ z one two. both_apart before (x ∷ behind) split z one (later x behind z two)) in
      let rest = same_sums xs (before ++ behind) (once_right (x ∷ []) xs once) joined
      (λ z among. elim (Contains-append_cases before (x ∷ behind) z (subst (λ (l : List X). Contains l z) e (to z (later x xs z among)))) [
        | inl early ↦ Contains-append_left before behind z early
        | inr late ↦ elim (Contains-append_cases (x ∷ []) behind z late) [
          | inl same ↦ absurd (both_apart (x ∷ []) xs once z same among)
          | inr far ↦ Contains-append_right before behind z far
        ]
      ])
      (λ z among. elim (Contains-append_cases before behind z among) [
        | inl early ↦ elim (Contains-append_cases (x ∷ []) xs z
            (back z (subst (λ (l : List X). Contains l z) (sym e) (Contains-append_left before (x ∷ behind) z early)))) [
              | inl same ↦ absurd (both_apart before (x ∷ behind) split z early (Contains-append_left (x ∷ []) behind z same))
              | inr there ↦ there
            ]
        | inr late ↦ elim (Contains-append_cases (x ∷ []) xs z
            (back z (subst (λ (l : List X). Contains l z) (sym e) (Contains-append_right before (x ∷ behind) z (later x behind z late))))) [
              | inl same ↦ absurd (both_apart (x ∷ []) behind tail z same late)
              | inr there ↦ there
            ]
      ]) in
      record {
        sums = λ f.
            let a = sum_by-cons f x xs in
            let b = rest.sums f in
            let c = sum_by-append f before behind in
            let g = sum_by-append f before (x ∷ behind) in
            let h = sum_by-cons f x behind in
            let i : sum_by f ys ≡ sum_by f (before ++ x ∷ behind) = ap (sum_by f) e in
            omega (arith, a, b, c, g, h, i);
      }

  -- a sum over what passes
  sum_filter : (f : X → ℕ) (p : X → Bool) (xs : List X) → sum_by f (filter p xs) ≡ sum_by (λ x. cond (p x) (f x) 0) xs
  sum_filter f p [] = refl
  sum_filter f p (x ∷ xs) = go (sum_filter f p xs) (p x) refl
    where
      go : sum_by f (filter p xs) ≡ sum_by (λ z. cond (p z) (f z) 0) xs → (b : Bool) → p x ≡ b
          → sum_by f (cond b (x ∷ filter p xs) (filter p xs)) ≡ sum_by (λ z. cond (p z) (f z) 0) (x ∷ xs)
      go rest true e =
          let a = sum_by-cons f x (filter p xs) in
          let b = sum_by-cons (λ z. cond (p z) (f z) 0) x xs in
          let c : cond (p x) (f x) 0 ≡ f x = ap (λ (t : Bool). cond t (f x) 0) e in omega (arith, a, b, c, rest)
      go rest false e =
          let b = sum_by-cons (λ z. cond (p z) (f z) 0) x xs in
          let c : cond (p x) (f x) 0 ≡ 0 = ap (λ (t : Bool). cond t (f x) 0) e in omega (arith, b, c, rest)

  pub same_filter : (p : X → Bool) (xs ys : List X) → SameSums xs ys → SameSums (filter p xs) (filter p ys)
  same_filter p xs ys same = record {
    sums = λ f. sum_filter f p xs ∙ same.sums (λ x. cond (p x) (f x) 0) ∙ sym (sum_filter f p ys);
  }

  -- an item that passes, where some do
  some_passing : (p : X → Bool) (xs : List X) → 0 < count_by p xs → (x : X) × Contains xs x × (p x ≡ true)
  some_passing p [] some = absurd (omega arith)
  some_passing p (x ∷ xs) some = elim (cases_Bool (p x)) [
    | inl passes ↦ (x, first x xs, passes)
    | inr fails ↦
        let all = sum_by-cons (λ z. cond (p z) 1 0) x xs in
        let none = ap weight fails in
        let more : 0 < count_by p xs = omega (arith, some, all, none) in
        let (z, among, passes) = some_passing p xs more in (z, later x xs z among, passes)
  ]

  passing_counts : (p : X → Bool) (xs : List X) (x : X) → Contains xs x → p x ≡ true → 0 < count_by p xs
  passing_counts p xs x among passes =
      let (before, behind, e) = around xs x among in
      let all : count_by p xs ≡ count_by p (before ++ x ∷ behind) = ap (count_by p) e in
      let split = sum_by-append (λ z. cond (p z) 1 0) before (x ∷ behind) in
      let here = sum_by-cons (λ z. cond (p z) 1 0) x behind in
      let one = ap weight passes in omega (arith, all, split, here, one)

  -- each item of the one stands in the other, where a test tells items apart
  pub moved_in : (same : X → X → Bool) → ((a b : X) → same a b ≡ true → a ≡ b) → ((a : X) → same a a ≡ true) → (xs ys : List X) → SameSums xs ys
      → (a : X) → Contains xs a → Contains ys a
  moved_in same tells itself xs ys sums a among =
      let counts : count_by (same a) xs ≡ count_by (same a) ys = sums.sums (λ z. cond (same a z) 1 0) in
      let some = passing_counts (same a) xs a among (itself a) in
      let more : 0 < count_by (same a) ys = omega (arith, counts, some) in
      let (b, there, is) = some_passing (same a) ys more in
      subst (λ (z : X). Contains ys z) (sym (tells a b is)) there

  -- what stands behind the first is in order too
  pub sorted_behind : (lt : X → X → Bool) (x : X) (xs : List X) → IsSortedBy lt (x ∷ xs) → IsSortedBy lt xs
  sorted_behind lt x xs up = λ k d low high.
      subst (λ (n : ℕ). lt (get_or (x ∷ xs) n d) (get_or xs k d) ≡ false) (let e : suc k + 1 ≡ suc (k + 1) = omega arith in e)
      (up (suc k) d (omega arith) (omega arith))

  -- nothing is less than the first
  pub least_first : (lt : X → X → Bool) → IsStrictWeakOrder lt → (x : X) (xs : List X) → IsSortedBy lt (x ∷ xs) → (a : X) → Contains (x ∷ xs) a
      → lt a x ≡ false
  least_first lt order x xs up a (k, within, is) =
      subst (λ (z : X). lt z x ≡ false) is (sorted_far lt order (x ∷ xs) up 0 k a (omega arith) within)

  -- lists in order with the same items as often are one, where what ties is one
  pub sorted_one : (lt : X → X → Bool) → IsStrictWeakOrder lt → ((a b : X) → lt a b ≡ false → lt b a ≡ false → a ≡ b)
      → (same : X → X → Bool) → ((a b : X) → same a b ≡ true → a ≡ b) → ((a : X) → same a a ≡ true)
      → (xs ys : List X) → IsSortedBy lt xs → IsSortedBy lt ys → SameSums xs ys → xs ≡ ys
  sorted_one lt order ties same tells itself [] [] up also sums = refl
  sorted_one lt order ties same tells itself [] (y ∷ ys) up also sums =
      absurd (let none = sums.sums (λ z. 1) in let some = sum_by-cons (λ z. 1) y ys in omega (arith, none, some))
  sorted_one lt order ties same tells itself (x ∷ xs) [] up also sums =
      absurd (let none = sums.sums (λ z. 1) in let some = sum_by-cons (λ z. 1) x xs in omega (arith, none, some))
  sorted_one lt order ties same tells itself (x ∷ xs) (y ∷ ys) up also sums =
      let back : SameSums (y ∷ ys) (x ∷ xs) = record { sums = λ f. sym (sums.sums f) } in
      let x_there = moved_in same tells itself (x ∷ xs) (y ∷ ys) sums x (first x xs) in
      let y_there = moved_in same tells itself (y ∷ ys) (x ∷ xs) back y (first y ys) in
      let one : x ≡ y = ties x y (least_first lt order y ys also x x_there) (least_first lt order x xs up y y_there) in
      let rest = sorted_one lt order ties same tells itself xs ys (sorted_behind lt x xs up) (sorted_behind lt y ys also) (record {
        sums = λ f.
            let a = sum_by-cons f x xs in let b = sum_by-cons f y ys in let c = sums.sums f in
            let g : f x ≡ f y = ap f one in omega (arith, a, b, c, g);
      }) in
      cc

  -- what passes stands in the list
  pub filter_in : (p : X → Bool) (xs : List X) (a : X) → Contains (filter p xs) a → Contains xs a
  filter_in p [] a h = h
  filter_in p (x ∷ xs) a h = go (λ g. filter_in p xs a g) (p x) h
    where
      go : (Contains (filter p xs) a → Contains xs a) → (b : Bool) → Contains (cond b (x ∷ filter p xs) (filter p xs)) a → Contains (x ∷ xs) a
      go rest true g = elim (Contains-append_cases (x ∷ []) (filter p xs) a g) [
        | inl here ↦ Contains-append_left (x ∷ []) xs a here
        | inr there ↦ later x xs a (rest there)
      ]
      go rest false g = later x xs a (rest g)

module _ {X Y : Type 0} where
  -- a sum over what is picked
  sum_picked : (f : Y → ℕ) (h : X → Option Y) (xs : List X) → sum_by f (filter_map h xs) ≡ sum_by (λ x. option_map_or f (h x) 0) xs
  sum_picked f h [] = refl
  sum_picked f h (x ∷ xs) = go (sum_picked f h xs) (h x) refl
    where
      go : sum_by f (filter_map h xs) ≡ sum_by (λ z. option_map_or f (h z) 0) xs → (o : Option Y) → h x ≡ o
          → sum_by f (cons_option o (filter_map h xs)) ≡ sum_by (λ z. option_map_or f (h z) 0) (x ∷ xs)
      go rest None e =
          let b = sum_by-cons (λ z. option_map_or f (h z) 0) x xs in
          let c : option_map_or f (h x) 0 ≡ 0 = ap (λ (o : Option Y). option_map_or f o 0) e in omega (arith, b, c, rest)
      go rest (Some y) e =
          let a = sum_by-cons f y (filter_map h xs) in
          let b = sum_by-cons (λ z. option_map_or f (h z) 0) x xs in
          let c : option_map_or f (h x) 0 ≡ f y = ap (λ (o : Option Y). option_map_or f o 0) e in omega (arith, a, b, c, rest)

  pub same_picked : (h : X → Option Y) (xs ys : List X) → SameSums xs ys → SameSums (filter_map h xs) (filter_map h ys)
  same_picked h xs ys same = record {
    sums = λ f. sum_picked f h xs ∙ same.sums (λ x. option_map_or f (h x) 0) ∙ sym (sum_picked f h ys);
  }
