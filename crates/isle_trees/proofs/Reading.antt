-- Each step reads only what is at hand.
use Rattle.std.proofs.Common.{◌≡◌, ◌⊎◌, inl, inr, ℕ, ◌<◌, ◌==◌, ◌++◌, List, [], ◌∷◌, Bool, true, false, Option, Some, None, refl, sym, ◌∙◌, ap, subst, arith, eqb-true, eq-eqb}
use Rattle.std.specs.List.{filter}
use Rattle.isle_trees.specs.Builds.{IsOrder, Binds, own, BindsEach, without, wanting, not_wanting, Returns, Builds, BuildsArms}
use Rattle.isle_trees.specs.Premises.{IsWellMade}
use Rattle.isle_trees.specs.Reads.{IsMulti, IsListed, more, know, know_fields, IsReadable, is_bound, computed, IsInOrder, IsClosed, AreClosed}
use Rattle.isle_trees.specs.Rules.{Want, has, one_value, Rules, rights, Elem, IsPartOf}
use Rattle.isle_trees.specs.Scopes.{Scope, join, emit, emit_all, release, is_source, inside, on_match, on_equal, on_loop, counted, others}
use Rattle.isle_trees.specs.Tree.{Steps, done, «match», equal, loop, give, Arms, no_arm, arm}
use Rattle.isle_trees.proofs.Basics.{true_or, or_holds, or_left, or_right, clash, source_made, by_made}
use Rattle.isle_trees.proofs.Path.{emitted_or, still_emitted}

-- what is bound is at hand, and what is at hand is bound, or a multi call
pub record IsCovered {C V : Type 0} (R : Rules C V) (sc : Scope C) (env : ℕ → Bool) : Type 0 where
  pub read : (x : ℕ) → sc.emitted x ≡ true → IsReadable R env x
  pub kept : (x : ℕ) → env x ≡ true → (sc.emitted x ≡ true) ⊎ IsMulti R x

read_more : {C V : Type 0} (R : Rules C V) (env to : ℕ → Bool) (x : ℕ) → ((y : ℕ) → env y ≡ true → to y ≡ true)
    → IsReadable R env x → IsReadable R to x
read_more R env to _ f (IsReadable.is_bound x e) = is_bound x (f x e)
read_more R env to _ f (IsReadable.computed x n parts) = computed x n (λ p m. read_more R env to p f (parts p m))

more_old : (env : ℕ → Bool) (x y : ℕ) → env y ≡ true → more env x y ≡ true
more_old env x y e = or_right (y == x) (env y) e

more_or : (env : ℕ → Bool) (x y : ℕ) → more env x y ≡ true → (y ≡ x) ⊎ (env y ≡ true)
more_or env x y e = elim (or_holds (y == x) (env y) e) [ inl f ↦ inl (eqb-true y x f) | inr f ↦ inr f ]

know_append : (env : ℕ → Bool) (xs ys : List ℕ) → know env (xs ++ ys) ≡ know (know env xs) ys
know_append env [] ys = refl
know_append env (x ∷ xs) ys = know_append (more env x) xs ys

order_append : {C V : Type 0} (R : Rules C V) (env : ℕ → Bool) (xs ys : List ℕ) → IsInOrder R env xs → IsInOrder R (know env xs) ys
    → IsInOrder R env (xs ++ ys)
order_append R env [] ys a b = b
order_append R env (x ∷ xs) ys a b = (a.0, a.1, order_append R (more env x) xs ys (a.2) b)

-- one site
new_or : {C V : Type 0} (R : Rules C V) (sc : Scope C) (env : ℕ → Bool) (x : ℕ) → IsCovered R sc env → sc.emitted x ≡ false
    → (env x ≡ false) ⊎ IsMulti R x
new_or R sc env x c e = elim (true_or (env x)) [
  | inr n ↦ inl n
  | inl y ↦ elim (c.kept x y) [ inl f ↦ clash _ f e | inr m ↦ inr m ]
]

covers_bound : {C V : Type 0} (R : Rules C V) (sc : Scope C) (env : ℕ → Bool) (x : ℕ) → IsCovered R sc env → IsCovered R (emit sc x) (more env x)
covers_bound R sc env x c = record {
  read = λ y e. elim (or_holds (y == x) (sc.emitted y) e) [
    | inl f ↦ is_bound y (or_left (y == x) (env y) f)
    | inr f ↦ read_more R env (more env x) y (λ z g. more_old env x z g) (c.read y f)
  ];
  kept = λ y e. elim (more_or env x y e) [
    | inl f ↦ inl (or_left (y == x) (sc.emitted y) (eq-eqb y x f))
    | inr f ↦ elim (c.kept y f) [ inl g ↦ inl (or_right (y == x) (sc.emitted y) g) | inr m ↦ inr m ]
  ];
}

covers_computed : {C V : Type 0} (R : Rules C V) (sc : Scope C) (env : ℕ → Bool) (x : ℕ) → R.stands x ≡ false
    → ((p : ℕ) → Elem p (R.parts x) → sc.emitted p ≡ true) → IsCovered R sc env → IsCovered R (emit sc x) env
covers_computed R sc env x n parts c = record {
  read = λ y e. elim (or_holds (y == x) (sc.emitted y) e) [
    | inl f ↦ let P : ℕ → Type 0 = λ z. IsReadable R env z in subst P (sym (eqb-true y x f)) (computed x n (λ p m. c.read p (parts p m)))
    | inr f ↦ c.read y f
  ];
  kept = λ y e. elim (c.kept y e) [ inl g ↦ inl (or_right (y == x) (sc.emitted y) g) | inr m ↦ inr m ];
}

-- an order
order_closed : {C V : Type 0} (all : List ℕ) (R : Rules C V) (sc : Scope C) (env : ℕ → Bool) → IsCovered R sc env → IsOrder R sc all
    → IsInOrder R env (filter R.stands all) × IsCovered R (emit_all sc all) (know env (filter R.stands all))
order_closed [] R sc env c o = (tt, c)
order_closed (x ∷ xs) R sc env c o = elim (true_or (R.stands x)) [
  | inl y ↦ let ih = order_closed xs R (emit sc x) (more env x) (covers_bound R sc env x c) (o.2) in
      rw y ((new_or R sc env x c (o.0), (λ p m. c.read p (o.1 p m)), ih.0), ih.1)
  | inr n ↦ let ih = order_closed xs R (emit sc x) env (covers_computed R sc env x n (o.1) c) (o.2) in rw n ih
]

binds_closed : {C V : Type 0} (R : Rules C V) (sc after : Scope C) (env : ℕ → Bool) (sites binds : List ℕ)
    → IsCovered R sc env → Binds R sc sites binds after
    → IsInOrder R env binds × IsCovered R after (know env binds)
binds_closed {C = C} R sc after env sites binds c bs =
    let one = order_closed bs.all R sc env c bs.order in
    let P : List ℕ → Type 0 = λ l. IsInOrder R env l in
    let Q : Scope C → Type 0 = λ s. IsCovered R s (know env binds) in
    let S : List ℕ → Type 0 = λ l. IsCovered R (emit_all sc bs.all) (know env l) in
    (subst P (sym bs.written) (one.0), subst Q (sym bs.ending) (subst S (sym bs.written) (one.1)))

own_closed : {C V : Type 0} (R : Rules C V) (sc : Scope C) (env : ℕ → Bool) (u : ℕ) → IsCovered R sc env → ((env u ≡ false) ⊎ IsMulti R u)
    → ((p : ℕ) → Elem p (R.parts u) → sc.emitted p ≡ true)
    → IsInOrder R env (own R u) × IsCovered R (emit sc u) (know env (own R u))
own_closed R sc env u c new parts = elim (true_or (R.stands u)) [
  | inl y ↦ rw y ((new, (λ p m. c.read p (parts p m)), tt), covers_bound R sc env u c)
  | inr n ↦ rw n (tt, covers_computed R sc env u n parts c)
]

part_below : {C V : Type 0} (R : Rules C V) (xs : List ℕ) (n x : ℕ) → IsWellMade R → ((y : ℕ) → Elem y xs → y < n) → IsPartOf R xs x → x < n
part_below R xs n _ w b (IsPartOf.itself s m) = b s m
part_below R xs n _ w b (IsPartOf.of_part s p h m) = let one : s < n = part_below R xs n s w b h in let two : p < s = w.lower s p m in omega arith

not_own : {C V : Type 0} (R : Rules C V) (sc mid : Scope C) (u : ℕ) (front : List ℕ) → IsWellMade R → Binds R sc (R.parts u) front mid
    → sc.emitted u ≡ false → mid.emitted u ≡ true → ⊥
not_own {C = C} R sc mid u front w bs e f =
    let P : Scope C → Type 0 = λ s. s.emitted u ≡ true in
    elim (emitted_or sc bs.all u (subst P bs.ending f)) [
      | inl m ↦ let l : u < u = part_below R (R.parts u) u u w (λ x n. w.lower u x n) (bs.only u m) in omega arith
      | inr g ↦ absurd (clash _ g e)
    ]

each_closed : {C V : Type 0} (us : List ℕ) (R : Rules C V) (sc : Scope C) (env : ℕ → Bool) (binds : List ℕ) (after : Scope C)
    → IsWellMade R → IsCovered R sc env → BindsEach R sc us binds after
    → IsInOrder R env binds × IsCovered R after (know env binds)
each_closed {C = C} [] R sc env binds after w c (none, same) =
    let P : List ℕ → Type 0 = λ l. IsInOrder R env l × IsCovered R after (know env l) in
    let Q : Scope C → Type 0 = λ s. IsCovered R s env in
    subst P (sym none) (tt, subst Q (sym same) c)
each_closed (u ∷ us) R sc env binds after w c (inl (e, b)) = each_closed us R sc env binds after w c b
each_closed (u ∷ us) R sc env binds after w c (inr (e, (front, rest, mid, bs, b, written))) =
    let one = binds_closed R sc mid env (R.parts u) front c bs in
    let new : (know env front u ≡ false) ⊎ IsMulti R u = elim (true_or (know env front u)) [
      | inr n ↦ inl n
      | inl y ↦ elim ((one.1).kept u y) [ inl f ↦ absurd (not_own R sc mid u front w bs e f) | inr m ↦ inr m ]
    ] in
    let two = own_closed R mid (know env front) u (one.1) new (λ p m. bs.bound p m) in
    let three = each_closed us R (emit mid u) (know (know env front) (own R u)) rest after w (two.1) b in
    let tail : IsInOrder R (know env front) (own R u ++ rest) = order_append R (know env front) (own R u) rest (two.0) (three.0) in
    let P : List ℕ → Type 0 = λ l. IsInOrder R env l × IsCovered R after (know env l) in
    let Q : (ℕ → Bool) → Type 0 = λ f. IsCovered R after f in
    subst P (sym written) (
      order_append R env front (own R u ++ rest) (one.0) tail,
      subst Q (sym (know_append env front (own R u ++ rest) ∙ know_append (know env front) (own R u) rest)) (three.1),
    )

-- the sites that a return names are bound
each_bound : {C V : Type 0} (us : List ℕ) (R : Rules C V) (sc : Scope C) (binds : List ℕ) (after : Scope C) → BindsEach R sc us binds after
    → ((x : ℕ) → sc.emitted x ≡ true → after.emitted x ≡ true) × ((u : ℕ) → Elem u us → after.emitted u ≡ true)
each_bound {C = C} [] R sc binds after (none, same) = ((λ x e. ap (λ (s : Scope C). s.emitted x) same ∙ e), λ u m. absurd m)
each_bound (u ∷ us) R sc binds after (inl (e, b)) =
    let ih = each_bound us R sc binds after b in
    (ih.0, λ x m. elim m [ inl f ↦ ih.0 x (ap sc.emitted f ∙ e) | inr n ↦ ih.1 x n ])
each_bound {C = C} (u ∷ us) R sc binds after (inr (e, (front, rest, mid, bs, b, written))) =
    let ih = each_bound us R (emit mid u) rest after b in
    let P : ℕ → Scope C → Type 0 = λ x s. s.emitted x ≡ true in (
      (λ x f. ih.0 x (or_right (x == u) (mid.emitted x) (subst (P x) (sym bs.ending) (still_emitted sc bs.all x f)))),
      λ x m. elim m [ inl f ↦ ih.0 x (or_left (x == u) (mid.emitted x) (eq-eqb x u f)) | inr n ↦ ih.1 x n ],
    )

elem_end : (xs : List ℕ) (r : ℕ) → Elem r (xs ++ r ∷ [])
elem_end [] r = inl refl
elem_end (x ∷ xs) r = inr (elem_end xs r)

stands_bound : {C V : Type 0} (R : Rules C V) (env : ℕ → Bool) (s : ℕ) → R.stands s ≡ true → IsReadable R env s → env s ≡ true
stands_bound R env _ e (IsReadable.is_bound s f) = f
stands_bound R env _ e (IsReadable.computed s n parts) = cc

-- inside an arm and a loop
fields_old : (env : ℕ → Bool) (xs : List (Option ℕ)) (y : ℕ) → env y ≡ true → know_fields env xs y ≡ true
fields_old env [] y e = e
fields_old env (None ∷ xs) y e = fields_old env xs y e
fields_old env (Some x ∷ xs) y e = fields_old (more env x) xs y (more_old env x y e)

fields_in : (env : ℕ → Bool) (xs : List (Option ℕ)) (y : ℕ) → Elem (Some y) xs → know_fields env xs y ≡ true
fields_in env [] y m = absurd m
fields_in env (None ∷ xs) y (inl e) = cc
fields_in env (Some x ∷ xs) y (inl e) = let f : y ≡ x = cc in fields_old (more env x) xs y (rw (eq-eqb y x f) refl)
fields_in env (None ∷ xs) y (inr m) = fields_in env xs y m
fields_in env (Some x ∷ xs) y (inr m) = fields_in (more env x) xs y m

fields_or : (env : ℕ → Bool) (xs : List (Option ℕ)) (y : ℕ) → know_fields env xs y ≡ true → Elem (Some y) xs ⊎ (env y ≡ true)
fields_or env [] y e = inr e
fields_or env (None ∷ xs) y e = elim (fields_or env xs y e) [ inl m ↦ inl (inr m) | inr f ↦ inr f ]
fields_or env (Some x ∷ xs) y e = elim (fields_or (more env x) xs y e) [
  | inl m ↦ inl (inr m)
  | inr f ↦ elim (more_or env x y f) [ inl g ↦ inl (inl (ap Some g)) | inr g ↦ inr g ]
]

covers_made : {C V : Type 0} (R : Rules C V) (sc : Scope C) (env to : ℕ → Bool) (s : ℕ) (w : Want C) → IsWellMade R → IsCovered R sc env
    → ((y : ℕ) → env y ≡ true → to y ≡ true) → ((y : ℕ) → to y ≡ true → (R.made y ≡ Some (record { site = s; want = w })) ⊎ (env y ≡ true))
    → ((y : ℕ) → R.made y ≡ Some (record { site = s; want = w }) → to y ≡ true) → IsCovered R (inside R sc s w) to
covers_made R sc env to s w k c old or new = record {
  read = λ y e. elim (or_holds (is_source R.tests s w (R.made y)) (sc.emitted y) e) [
    | inl f ↦ is_bound y (new y (source_made R s w _ k f))
    | inr f ↦ read_more R env to y old (c.read y f)
  ];
  kept = λ y e. elim (or y e) [
    | inl m ↦ inl (or_left (is_source R.tests s w (R.made y)) (sc.emitted y) (by_made R s w _ k m))
    | inr f ↦ elim (c.kept y f) [ inl g ↦ inl (or_right (is_source R.tests s w (R.made y)) (sc.emitted y) g) | inr m ↦ inr m ]
  ];
}

covers_arm : {C V : Type 0} (R : Rules C V) (sc : Scope C) (env : ℕ → Bool) (s : ℕ) (c : C) → IsWellMade R → IsListed R → IsCovered R sc env
    → IsCovered R (inside R sc s (has c)) (know_fields env (R.fields s c))
covers_arm R sc env s c w li co =
    covers_made R sc env (know_fields env (R.fields s c)) s (has c) w co (fields_old env (R.fields s c))
    (λ y e. elim (fields_or env (R.fields s c) y e) [ inl m ↦ inl (li.fields_made s y c m) | inr f ↦ inr f ])
    (λ y m. fields_in env (R.fields s c) y (li.fields_listed y s c m))

covers_loop : {C V : Type 0} (R : Rules C V) (sc : Scope C) (env : ℕ → Bool) (s x : ℕ) → IsWellMade R → IsListed R
    → R.value s ≡ Some x → IsCovered R sc env
    → IsCovered R (inside R sc s one_value) (more env x)
covers_loop R sc env s x w li v co =
    covers_made R sc env (more env x) s one_value w co (more_old env x)
    (λ y e. elim (more_or env x y e) [ inl f ↦ inl (ap R.made f ∙ w.value_made s x v) | inr f ↦ inr f ])
    (λ y m. let h : Some y ≡ Some x = sym (li.value_listed y s m) ∙ v in let same : y ≡ x = cc in or_left (y == x) (env y) (eq-eqb y x same))

covers_release : {C V : Type 0} (R : Rules C V) (sc : Scope C) (env : ℕ → Bool) (s : ℕ) → IsMulti R s → IsCovered R sc env
    → IsCovered R (release sc s) env
covers_release R sc env s mu c = record {
  read = λ y e. elim (true_or (y == s)) [
    | inl f ↦ let g : false ≡ true = rw f at e in cc
    | inr f ↦ let g : sc.emitted y ≡ true = rw f at e in c.read y g
  ];
  kept = λ y e. elim (true_or (y == s)) [
    | inl f ↦ inr (mu.0, ap R.value (eqb-true y s f) ∙ mu.1)
    | inr f ↦ elim (c.kept y e) [ inl g ↦ inl (rw f g) | inr m ↦ inr m ]
  ];
}

covers_join : {C V : Type 0} (R : Rules C V) (sc : Scope C) (env : ℕ → Bool) (a b : ℕ) → IsCovered R sc env → IsCovered R (join sc a b) env
covers_join R sc env a b c = record { read = c.read; kept = c.kept }

returns_closed : {C V : Type 0} (T : Steps C) (R : Rules C V) (left : List ℕ) (sc : Scope C) (env : ℕ → Bool)
    → IsWellMade R → IsCovered R sc env → Returns R left sc T → IsClosed R env T
returns_closed done R left sc env w c b = tt
returns_closed («match» binds s arms next) R left sc env w c b = absurd b
returns_closed (equal binds x y body next) R left sc env w c b = absurd b
returns_closed (loop binds x body next) R left sc env w c b = absurd b
returns_closed (give binds i next) R left sc env w c (first, (after, each, rest)) =
    let one = each_closed (rights R i) R sc env binds after w c each in
    let all = each_bound (rights R i) R sc binds after each in (
      one.0,
      (
        (one.1).read (R.result i) (all.1 (R.result i) (elem_end (R.calls i) (R.result i))),
        returns_closed next R (without i left) after (know env binds) w (one.1) rest,
      ),
    )

mutual
  pub closed : {C V : Type 0} (T : Steps C) (R : Rules C V) (left : List ℕ) (sc : Scope C) (env : ℕ → Bool)
      → IsWellMade R → IsListed R → IsCovered R sc env → Builds R left sc T → IsClosed R env T
  closed done R left sc env w li c b = tt
  closed (give binds i next) R left sc env w li c b = returns_closed (give binds i next) R left sc env w c (b.1)
  closed («match» binds s arms next) R left sc env w li c (best, (after, bs, inner, rest)) =
      let one = binds_closed R sc after env (s ∷ []) binds c bs in (
        one.0,
        (
          (one.1).read s (bs.bound s (inl refl)),
          (
            closed_arms arms R (counted R (on_match s) left) after s (know env binds) w li (one.1) inner,
            closed next R (others R (on_match s) left) after (know env binds) w li (one.1) rest,
          ),
        ),
      )
  closed (equal binds x y body next) R left sc env w li c (best, (after, bs, inner, rest)) =
      let one = binds_closed R sc after env (x ∷ y ∷ []) binds c bs in (
        one.0,
        (
          (one.1).read x (bs.bound x (inl refl)),
          (
            (one.1).read y (bs.bound y (inr (inl refl))),
            (
              closed body R (counted R (on_equal x y) left) (join after x y) (know env binds) w li
                  (covers_join R after (know env binds) x y (one.1)) inner,
              closed next R (others R (on_equal x y) left) after (know env binds) w li (one.1) rest,
            ),
          ),
        ),
      )
  closed (loop binds x body next) R left sc env w li c (s, value, best, (after, bs, inner, rest)) =
      let mu : IsMulti R s = (x, value) in
      let one = binds_closed R (release sc s) after env (s ∷ []) binds (covers_release R sc env s mu c) bs in
      let here : know env binds s ≡ true = stands_bound R (know env binds) s (li.multi_stands s mu) ((one.1).read s (bs.bound s (inl refl))) in (
        one.0,
        (
          (s, value, here),
          (
            closed body R (counted R (on_loop s) left) (inside R after s one_value) (more (know env binds) x) w li
                (covers_loop R after (know env binds) s x w li value (one.1)) inner,
            closed next R (others R (on_loop s) left) (release after s) (know env binds) w li
                (covers_release R after (know env binds) s mu (one.1)) rest,
          ),
        ),
      )

  pub closed_arms : {C V : Type 0} (arms : Arms C) (R : Rules C V) (left : List ℕ) (sc : Scope C) (s : ℕ) (env : ℕ → Bool)
      → IsWellMade R → IsListed R → IsCovered R sc env
      → BuildsArms R left sc s arms → AreClosed R env s arms
  closed_arms no_arm R left sc s env w li co b = tt
  closed_arms (arm c bindings body later) R left sc s env w li co b = (
    λ x m. li.fields_made s x c (subst (λ (l : List (Option ℕ)). Elem (Some x) l) (b.1) m),
    (
      subst (λ (l : List (Option ℕ)). IsClosed R (know_fields env l) body) (sym (b.1))
          (closed body R (wanting R s c left) (inside R sc s (has c)) (know_fields env (R.fields s c)) w li (covers_arm R sc env s c w li co) (b.2)),
      closed_arms later R (not_wanting R s c left) sc s env w li co (b.3),
    ),
  )
