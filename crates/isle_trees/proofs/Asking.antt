-- What a tree binds before it chooses is asked by a rule.
use Rattle.std.proofs.Common.{◌≡◌, ◌⊎◌, inl, inr, ℕ, ◌++◌, List, [], ◌∷◌, subst}
use Rattle.isle_trees.specs.Asks.{AllAsked, AsksOnly, ArmsAskOnly}
use Rattle.isle_trees.specs.Builds.{IsBest, Binds, own, BindsEach, without, wanting, not_wanting, Returns, Builds, BuildsArms}
use Rattle.isle_trees.specs.Rules.{has, one_value, Rules, rights, Elem, Asked, Used, IsPartOf}
use Rattle.isle_trees.specs.Scopes.{Scope, join, emit, release, inside, Test, on_match, on_equal, on_loop, sites_of, counted, others}
use Rattle.isle_trees.specs.Tree.{Steps, done, «match», equal, loop, give, Arms, no_arm, arm}
use Rattle.isle_trees.proofs.Basics.{JoinsBothWays, true_or, from_filter, some_elem, counted_has, counted_left, others_left}
use Rattle.isle_trees.proofs.Leaf.{parts_up, part_more, in_all}
use Rattle.isle_trees.proofs.Path.{asks}

part_asked : {C V : Type 0} (R : Rules C V) (i : ℕ) (sites : List ℕ) (x : ℕ) → ((s : ℕ) → Elem s sites → Asked R i s)
    → IsPartOf R sites x → Asked R i x
part_asked R i sites _ f (IsPartOf.itself s m) = f s m
part_asked R i sites _ f (IsPartOf.of_part s p h m) = Asked.by_part s p (part_asked R i sites s f h) m

step_asks : {C V : Type 0} (R : Rules C V) (all left : List ℕ) (sc from after : Scope C) (t : Test) (binds : List ℕ)
    → JoinsBothWays R → ((i : ℕ) → Elem i left → Elem i all)
    → IsBest R left sc t → Binds R from (sites_of t) binds after → AllAsked R all binds
step_asks R all left sc from after t binds w f best b x m =
    let one = some_elem (counted R t left) best.useful in
    let its = counted_has R t left (one.0) (one.1) in (
      one.0,
      f (one.0) (its.0),
      part_asked R (one.0) (sites_of t) x (asks R (one.0) t w (its.1))
          (b.only x (in_all R from after (sites_of t) binds b x m)),
    )

pub used_part : {C V : Type 0} (R : Rules C V) (i x : ℕ) → IsPartOf R (rights R i) x → Used R i x
used_part R i _ (IsPartOf.itself x m) = Used.by_right x m
used_part R i _ (IsPartOf.of_part x p h m) = Used.by_part_of x p (used_part R i x h) m

pub elem_append : {A : Type 0} (x : A) (xs ys : List A) → Elem x (xs ++ ys) → Elem x xs ⊎ Elem x ys
elem_append x [] ys m = inr m
elem_append x (y ∷ xs) ys (inl e) = inl (inl e)
elem_append x (y ∷ xs) ys (inr m) = elim (elem_append x xs ys m) [ inl h ↦ inl (inr h) | inr h ↦ inr h ]

pub own_is : {C V : Type 0} (R : Rules C V) (u x : ℕ) → Elem x (own R u) → x ≡ u
own_is R u x m = elim (true_or (R.stands u)) [
  | inl y ↦ let n : Elem x (u ∷ []) = rw y at m in elim n [ inl e ↦ e | inr b ↦ absurd b ]
  | inr y ↦ let n : Elem x [] = rw y at m in absurd n
]

-- what binding sites one after another binds is a part of one of them
pub each_part : {C V : Type 0} (us : List ℕ) (R : Rules C V) (sc : Scope C) (binds : List ℕ) (after : Scope C)
    → BindsEach R sc us binds after → (x : ℕ) → Elem x binds → IsPartOf R us x
each_part [] R sc binds after (e, same) x m = absurd (subst (λ (l : List ℕ). Elem x l) e m)
each_part (u ∷ us) R sc binds after (inl (e, b)) x m = part_more R us (u ∷ us) x (λ s n. inr n) (each_part us R sc binds after b x m)
each_part (u ∷ us) R sc binds after (inr (e, (front, rest, mid, bs, b, written))) x m =
    elim (elem_append x front (own R u ++ rest) (subst (λ (l : List ℕ). Elem x l) written m)) [
      | inl n ↦ part_more R (u ∷ []) (u ∷ us) x (λ s q. elim q [ inl y ↦ inl y | inr y ↦ absurd y ])
          (parts_up R u x (bs.only x (in_all R sc mid (R.parts u) front bs x n)))
      | inr n ↦ elim (elem_append x (own R u) rest n) [
        | inl q ↦ IsPartOf.itself x (inl (own_is R u x q))
        | inr q ↦ part_more R us (u ∷ us) x (λ s y. inr y) (each_part us R (emit mid u) rest after b x q)
      ]
    ]

returns_ask : {C V : Type 0} (T : Steps C) (R : Rules C V) (all left : List ℕ) (sc : Scope C) → Returns R left sc T → AsksOnly R all T
returns_ask done R all left sc b = tt
returns_ask («match» binds s arms next) R all left sc b = absurd b
returns_ask (equal binds x y body next) R all left sc b = absurd b
returns_ask (loop binds x body next) R all left sc b = absurd b
returns_ask (give binds i next) R all left sc (first, (after, each, rest)) =
    ((λ x m. used_part R i x (each_part (rights R i) R sc binds after each x m)), returns_ask next R all (without i left) after rest)

mutual
  pub asked : {C V : Type 0} (T : Steps C) (R : Rules C V) (all left : List ℕ) (sc : Scope C) → JoinsBothWays R
      → ((i : ℕ) → Elem i left → Elem i all) → Builds R left sc T → AsksOnly R all T
  asked done R all left sc w f b = tt
  asked (give binds i next) R all left sc w f b = returns_ask (give binds i next) R all left sc (b.1)
  asked («match» binds s arms next) R all left sc w f (best, (after, bs, inner, rest)) = (
    step_asks R all left sc sc after (on_match s) binds w f best bs,
    (
      asked_arms arms R all (counted R (on_match s) left) after s w (λ i m. f i (counted_left R (on_match s) left i m)) inner,
      asked next R all (others R (on_match s) left) after w (λ i m. f i (others_left R (on_match s) left i m)) rest,
    ),
  )
  asked (equal binds a b body next) R all left sc w f (best, (after, bs, inner, rest)) = (
    step_asks R all left sc sc after (on_equal a b) binds w f best bs,
    (
      asked body R all (counted R (on_equal a b) left) (join after a b) w (λ i m. f i (counted_left R (on_equal a b) left i m)) inner,
      asked next R all (others R (on_equal a b) left) after w (λ i m. f i (others_left R (on_equal a b) left i m)) rest,
    ),
  )
  asked (loop binds x body next) R all left sc w f (s, made, best, (after, bs, inner, rest)) = (
    step_asks R all left sc (release sc s) after (on_loop s) binds w f best bs,
    (
      asked body R all (counted R (on_loop s) left) (inside R after s one_value) w (λ i m. f i (counted_left R (on_loop s) left i m)) inner,
      asked next R all (others R (on_loop s) left) (release after s) w (λ i m. f i (others_left R (on_loop s) left i m)) rest,
    ),
  )

  pub asked_arms : {C V : Type 0} (arms : Arms C) (R : Rules C V) (all left : List ℕ) (sc : Scope C) (s : ℕ)
      → JoinsBothWays R → ((i : ℕ) → Elem i left → Elem i all) → BuildsArms R left sc s arms
      → ArmsAskOnly R all arms
  asked_arms no_arm R all left sc s w f b = tt
  asked_arms (arm c bindings body more) R all left sc s w f b = (
    asked body R all (wanting R s c left) (inside R sc s (has c)) w (λ i m. f i ((from_filter _ left i m).0)) (b.2),
    asked_arms more R all (not_wanting R s c left) sc s w (λ i m. f i ((from_filter _ left i m).0)) (b.3),
  )
