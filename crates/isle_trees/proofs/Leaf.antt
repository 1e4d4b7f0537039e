-- What binding comes to, and a right side bound as it is written.
use Rattle.std.proofs.Common.{◌≡◌, ◌≢◌, ◌⊎◌, inl, inr, ℕ, ◌==◌, ◌++◌, List, [], ◌∷◌, true, false, refl, sym, ◌∙◌, ap, subst, eqb-true, eq-eqb, append-nil, append_assoc}
use Rattle.std.specs.List.{filter}
use Rattle.std.specs.Prelude.{if◌then◌else◌}
use Rattle.isle_trees.specs.Got.{unknown, fails, gives}
use Rattle.isle_trees.specs.Answers.{Answers, HasValue, has_value, all_have, Extends, Agree}
use Rattle.isle_trees.specs.Builds.{IsBest, IsOrder, Binds, own, BindsEach}
use Rattle.isle_trees.specs.Choice.{trace, IsMet, IsOpen, IsAskedBy, OpensIn, FailsIn, IsOpenFor}
use Rattle.isle_trees.specs.Premises.{IsWellMade, EffectsFirst, Respects, IsStrict}
use Rattle.isle_trees.specs.Rules.{Rules, rights, Elem, IsPartOf, itself, of_part}
use Rattle.isle_trees.specs.Scopes.{Scope, emit, emit_all, Test, sites_of}
use Rattle.isle_trees.specs.Walk.{Bound, goes, opens, breaks, bound_then, bind, call, events}
use Rattle.isle_trees.proofs.Basics.{true_or, none_or, or_left, or_right, or_fails, clash, from_filter, all_gives, all_from, value_or, gives_true, true_gives, given_known, given_holds, failed_known}
use Rattle.isle_trees.proofs.Path.{Holds, available_parts, step_there, emitted_or, still_emitted}

bind_append : {V : Type 0} (v : Answers V) (xs ys : List ℕ) → bind v (xs ++ ys) ≡ bound_then (bind v xs) (bind v ys)
bind_append v [] ys = refl
bind_append v (x ∷ xs) ys = elim (value_or (v x)) [
  | inl e ↦ rw e refl
  | inr h ↦ elim h [ inl e ↦ rw e refl | inr g ↦ rw (g.1) (bind_append v xs ys) ]
]

pub bind_valued : {V : Type 0} (v : Answers V) (xs : List ℕ) → ((x : ℕ) → Elem x xs → HasValue (v x)) → bind v xs ≡ goes
bind_valued v [] h = refl
bind_valued v (x ∷ xs) h = rw ((h x (inl refl)).1) (bind_valued v xs (λ y m. h y (inr m)))

-- under answers that know more, binding that is settled comes to the same, and no calls are lost
pub bind_kept : {C V : Type 0} (xs : List ℕ) (R : Rules C V) (r v : Answers V) → Extends r v
    → (more : List ℕ) × (events R v xs ≡ events R r xs ++ more) × (IsOpenFor v (bind r xs) → (bind v xs ≡ bind r xs) × (more ≡ []))
bind_kept [] R r v ext = ([], refl, λ h. (refl, refl))
bind_kept (x ∷ xs) R r v ext = elim (value_or (r x)) [
  | inl e ↦ (
    if has_value (v x) then events R v xs else [],
    rw e (sym (append_assoc (call R x) [] _)),
    λ h. let f : v x ≡ unknown = rw e at h in (rw (e, f) refl, rw f refl),
  )
  | inr o ↦ elim o [
    | inl e ↦ let f : v x ≡ fails = ext x (failed_known _ e) ∙ e in ([], rw (e, f) (sym (append-nil _)), λ h. (rw (e, f) refl, refl))
    | inr g ↦
        let f : v x ≡ gives (g.0) = ext x (given_known _ g) ∙ g.1 in
        let ih = bind_kept xs R r v ext in (
          ih.0,
          rw (g.1, f) (ap (λ (l : List ℕ). call R x ++ l) (ih.1) ∙ sym (append_assoc (call R x) (events R r xs) (ih.0))),
          λ h. let k = ih.2 (rw (g.1) at h) in (rw (g.1, f) (k.0), k.1),
        )
  ]
]

events_valued : {C V : Type 0} (R : Rules C V) (v : Answers V) (xs ys : List ℕ) → ((x : ℕ) → Elem x xs → HasValue (v x))
    → ((x : ℕ) → Elem x xs → R.effect x ≡ false)
    → events R v (xs ++ ys) ≡ events R v ys
events_valued R v [] ys h p = refl
events_valued R v (x ∷ xs) ys h p =
    let e : has_value (v x) ≡ true = gives_true _ (h x (inl refl)) in
    rw (p x (inl refl), e) (events_valued R v xs ys (λ y m. h y (inr m)) (λ y m. p y (inr m)))

-- where binding ends early, no impure call is made but among what it bound
events_ended : {C V : Type 0} (R : Rules C V) (v : Answers V) (xs ys : List ℕ) → bind v xs ≢ goes → ((x : ℕ) → Elem x xs → R.effect x ≡ false)
    → events R v (xs ++ ys) ≡ []
events_ended R v [] ys n p = absurd (n refl)
events_ended R v (x ∷ xs) ys n p = elim (value_or (v x)) [
  | inl u ↦ rw (p x (inl refl), u) refl
  | inr o ↦ elim o [
    | inl u ↦ rw (p x (inl refl), u) refl
    | inr g ↦ rw (p x (inl refl), g.1) (events_ended R v xs ys (λ e. n (rw (g.1) e)) (λ y m. p y (inr m)))
  ]
]

-- what is bound was not
pub order_new : {C V : Type 0} (R : Rules C V) (sc : Scope C) (xs : List ℕ) (x : ℕ) → IsOrder R sc xs → Elem x xs → sc.emitted x ≡ false
order_new R sc [] x o m = absurd m
order_new R sc (y ∷ ys) x o (inl e) = ap sc.emitted e ∙ o.0
order_new R sc (y ∷ ys) x o (inr m) = (or_fails (x == y) (sc.emitted x) (order_new R (emit sc y) ys x (o.2) m)).1

abbrev pub AllValued : {C V : Type 0} → Answers V → Scope C → Type 0
AllValued v sc = (x : ℕ) → sc.emitted x ≡ true → HasValue (v x)

valued_more : {C V : Type 0} (v : Answers V) (sc : Scope C) (xs : List ℕ) → AllValued v sc → ((x : ℕ) → Elem x xs → HasValue (v x))
    → AllValued v (emit_all sc xs)
valued_more v sc xs a h x e = elim (emitted_or sc xs x e) [ inl m ↦ h x m | inr f ↦ a x f ]

one_valued : {V : Type 0} (v : Answers V) (y : ℕ) (ys : List ℕ) → HasValue (v y) → ((x : ℕ) → Elem x ys → HasValue (v x))
    → (x : ℕ) → Elem x (y ∷ ys) → HasValue (v x)
one_valued v y ys g h x (inl e) = subst (λ (z : ℕ). HasValue (v z)) (sym e) g
one_valued v y ys g h x (inr m) = h x m

-- what binding an order comes to: all have values, or the first that hasn't is open, or is a field that fails
data OrderEnd {C V : Type 0} (R : Rules C V) (r : Answers V) (sc : Scope C) (xs : List ℕ) : Type 0 where
  all_there : AllValued r (emit_all sc xs) → ((x : ℕ) → Elem x xs → HasValue (r x)) → OrderEnd R r sc xs
  one_open : (s : ℕ) → Elem s xs → IsOpen R r s → bind r (filter R.stands xs) ≡ opens s → OrderEnd R r sc xs
  one_breaks : (s : ℕ) → Elem s xs → ((p : ℕ) → Elem p (R.parts s) → HasValue (r p)) → r s ≡ fails → bind r (filter R.stands xs) ≡ breaks
      → OrderEnd R r sc xs

bind_more : {C V : Type 0} (R : Rules C V) (r : Answers V) (y : ℕ) (ys : List ℕ) (b : Bound) → HasValue (r y) → bind r (filter R.stands ys) ≡ b
    → bind r (filter R.stands (y ∷ ys)) ≡ b
bind_more R r y ys b g e = elim (true_or (R.stands y)) [ inl f ↦ rw (f, g.1) e | inr f ↦ rw f e ]

-- what stands in no order has a value, where its parts have
pub plain_valued : {C V : Type 0} (R : Rules C V) (r : Answers V) (y : ℕ) → IsWellMade R → Respects R r → R.stands y ≡ false
    → ((p : ℕ) → Elem p (R.parts y) → HasValue (r p)) → HasValue (r y)
plain_valued R r y w rs n parts = elim (value_or (r y)) [
  | inl u ↦ absurd (rs.plain y n parts u)
  | inr o ↦ elim o [
    | inr g ↦ g
    | inl u ↦ elim (none_or (R.made y)) [ inl e ↦ absurd (rs.whole y e parts u) | inr m ↦ clash (R.stands y) (w.field_stands y (m.0) (m.1)) n ]
  ]
]

order_ends : {C V : Type 0} (xs : List ℕ) (R : Rules C V) (r : Answers V) (sc : Scope C) → IsWellMade R → Respects R r
    → AllValued r sc → IsOrder R sc xs → OrderEnd R r sc xs
order_ends [] R r sc w rs a o = OrderEnd.all_there a (λ x m. absurd m)
order_ends (y ∷ ys) R r sc w rs a o =
    let parts : (p : ℕ) → Elem p (R.parts y) → HasValue (r p) = λ p m. a p (o.1 p m) in
    let rest : HasValue (r y) → OrderEnd R r sc (y ∷ ys) = λ g.
    elim (order_ends ys R r (emit sc y) w rs (valued_more r sc (y ∷ []) a (one_valued r y [] g (λ x m. absurd m))) (o.2)) [
      | OrderEnd.all_there b f ↦ OrderEnd.all_there b (one_valued r y ys g f)
      | OrderEnd.one_open s m op b ↦ OrderEnd.one_open s (inr m) op (bind_more R r y ys (opens s) g b)
      | OrderEnd.one_breaks s m ps f b ↦ OrderEnd.one_breaks s (inr m) ps f (bind_more R r y ys breaks g b)
    ] in
    elim (true_or (R.stands y)) [
      | inr n ↦ rest (plain_valued R r y w rs n parts)
      | inl e ↦ elim (value_or (r y)) [
        | inl u ↦ OrderEnd.one_open y (inl refl) (parts, u) (rw (e, u) refl)
        | inr h ↦ elim h [ inl u ↦ OrderEnd.one_breaks y (inl refl) parts u (rw (e, u) refl) | inr g ↦ rest g ]
      ]
    ]

-- what a step binds has values, or the first that hasn't is open, and a rule left asks it
pub step_ends : {C V : Type 0} (R : Rules C V) (r : Answers V) (left : List ℕ) (sc from after : Scope C) (t : Test) (binds : List ℕ)
    → IsWellMade R → Respects R r
    → Holds R r sc → AllValued r from → IsBest R left sc t → Binds R from (sites_of t) binds after
    → ((bind r binds ≡ goes) × AllValued r after) ⊎ ((s : ℕ) × (bind r binds ≡ opens s) × IsAskedBy R left s × IsOpen R r s)
step_ends {C} R r left sc from after t binds w rs h a best bs = elim (order_ends bs.all R r from w rs a bs.order) [
  | OrderEnd.all_there b f ↦ inl (
    rw bs.written (bind_valued r _ (λ x m. f x ((from_filter R.stands bs.all x m).0))),
    subst (λ (c : Scope C). AllValued r c) (sym bs.ending) b,
  )
  | OrderEnd.one_open s m op b ↦ inr (s, ap (bind r) bs.written ∙ b, (step_there R left sc from after t binds w.both best bs s m).1, op)
  | OrderEnd.one_breaks s m ps f b ↦
      let tested = (available_parts R sc s ((step_there R left sc from after t binds w.both best bs s m).0)).1 in
      elim (none_or (R.made s)) [
        | inl e ↦ absurd (rs.whole s e ps f)
        | inr n ↦ absurd (given_holds (r s) (rs.field s (n.0) (n.1) (h.wants (n.0.site) (n.0.want) (tested (n.0) (n.1)))) f)
      ]
]

-- what has a value has it at any depth
deep_valued : {C V : Type 0} (R : Rules C V) (v : Answers V) (sites : List ℕ) (x : ℕ) → IsStrict R v → ((s : ℕ) → Elem s sites → HasValue (v s))
    → IsPartOf R sites x → HasValue (v x)
deep_valued R v sites _ st h (IsPartOf.itself x m) = h x m
deep_valued R v sites _ st h (IsPartOf.of_part x p q m) = st x (deep_valued R v sites x st h q) p m

pub parts_up : {C V : Type 0} (R : Rules C V) (s x : ℕ) → IsPartOf R (R.parts s) x → IsPartOf R (s ∷ []) x
parts_up R s _ (IsPartOf.itself x m) = of_part s x (itself s (inl refl)) m
parts_up R s _ (IsPartOf.of_part x p h m) = of_part x p (parts_up R s x h) m

pub part_more : {C V : Type 0} (R : Rules C V) (xs ys : List ℕ) (x : ℕ) → ((s : ℕ) → Elem s xs → Elem s ys) → IsPartOf R xs x → IsPartOf R ys x
part_more R xs ys _ f (IsPartOf.itself s m) = IsPartOf.itself s (f s m)
part_more R xs ys _ f (IsPartOf.of_part s p h m) = IsPartOf.of_part s p (part_more R xs ys s f h) m

fails_more : {C V : Type 0} (R : Rules C V) (r : Answers V) (xs ys : List ℕ) → ((s : ℕ) → Elem s xs → Elem s ys) → FailsIn R r xs → FailsIn R r ys
fails_more R r xs ys f (s, m, parts, h) = (s, part_more R xs ys s f m, parts, h)

-- how a right side ends: open at a call that it has, or, where what it meets is answered, as it is written
abbrev pub Ends : {C V : Type 0} → Rules C V → (r v : Answers V) → (calls : List ℕ) → (result : ℕ) → Bound → List ℕ → Type 0
Ends R r v calls result (opens s) e = IsOpen R r s × OpensIn R r (calls ++ result ∷ []) s e
Ends R r v calls result goes e =
    HasValue (r result) × (IsMet R v (calls ++ result ∷ []) → (bind v (calls ++ result ∷ []) ≡ goes) × (trace R v calls ≡ e))
Ends R r v calls result breaks e =
    FailsIn R r (calls ++ result ∷ []) × (IsMet R v (calls ++ result ∷ []) → (bind v (calls ++ result ∷ []) ≡ breaks) × (trace R v calls ≡ e))

-- the site and its parts are answered
abbrev IsKnownAt : {C V : Type 0} → Rules C V → Answers V → ℕ → Type 0
IsKnownAt R v u = (x : ℕ) → IsPartOf R (u ∷ []) x → v x ≢ unknown

-- one site after its parts: it has a value; or it or a part is open; or all ends here
data SiteEnd {C V : Type 0} (R : Rules C V) (r v : Answers V) (u : ℕ) (front all : List ℕ) : Type 0 where
  there : HasValue (r u) → ((x : ℕ) → Elem x all → HasValue (r x)) → SiteEnd R r v u front all
  open_at : (s : ℕ) → IsPartOf R (u ∷ []) s → IsOpen R r s
      → ((rest : List ℕ) → (bind r (front ++ (own R u ++ rest)) ≡ opens s) × (events R r (front ++ (own R u ++ rest)) ≡ call R s))
      → SiteEnd R r v u front all
  fails_at : ((rest : List ℕ) → (bind r (front ++ (own R u ++ rest)) ≡ breaks) × (events R r (front ++ (own R u ++ rest)) ≡ []))
      → FailsIn R r (u ∷ []) → (IsKnownAt R v u → (v u ≡ fails) × ((all_have v (R.parts u) ≡ false) ⊎ (R.effect u ≡ false)))
      → SiteEnd R r v u front all

call_none : {C V : Type 0} (R : Rules C V) (s : ℕ) → R.effect s ≡ false → call R s ≡ []
call_none R s e = rw e refl

-- no impure call is bound as a part
no_effect : {C V : Type 0} (R : Rules C V) (sc mid : Scope C) (u : ℕ) (front : List ℕ)
    → ((x : ℕ) → IsPartOf R (R.parts u) x → R.effect x ≡ true → sc.emitted x ≡ true)
    → (bs : Binds R sc (R.parts u) front mid) → (x : ℕ) → Elem x bs.all → R.effect x ≡ false
no_effect R sc mid u front ef bs x m = elim (true_or (R.effect x)) [
  | inl e ↦ clash (sc.emitted x) (ef x (bs.only x m) e) (order_new R sc bs.all x bs.order m)
  | inr e ↦ e
]

pub in_all : {C V : Type 0} (R : Rules C V) (sc after : Scope C) (sites binds : List ℕ) → (bs : Binds R sc sites binds after)
    → (x : ℕ) → Elem x binds → Elem x bs.all
in_all R sc after sites binds bs x m = (from_filter R.stands bs.all x (subst (λ (l : List ℕ). Elem x l) bs.written m)).0

not_goes : (s : ℕ) (b : Bound) → b ≡ opens s → b ≢ goes
not_goes s b e f = let g : opens s ≡ goes = sym e ∙ f in cc

not_gone : (b : Bound) → b ≡ breaks → b ≢ goes
not_gone b e f = let g : breaks ≡ goes = sym e ∙ f in cc

one_site : {C V : Type 0} (R : Rules C V) (r v : Answers V) (sc mid : Scope C) (u : ℕ) (front : List ℕ) → IsWellMade R
    → Respects R r → Agree r v → IsStrict R v → AllValued r sc
    → ((x : ℕ) → IsPartOf R (R.parts u) x → R.effect x ≡ true → sc.emitted x ≡ true)
    → (bs : Binds R sc (R.parts u) front mid) → SiteEnd R r v u front bs.all
one_site {C} R r v sc mid u front w rs ag st a ef bs =
    let calm : (x : ℕ) → Elem x bs.all → R.effect x ≡ false = no_effect R sc mid u front ef bs in
    let pure : (x : ℕ) → Elem x front → R.effect x ≡ false = λ x m. calm x (in_all R sc mid (R.parts u) front bs x m) in
    elim (order_ends bs.all R r sc w rs a bs.order) [
      | OrderEnd.one_open s m op b ↦
          let e : bind r front ≡ opens s = ap (bind r) bs.written ∙ b in
          SiteEnd.open_at s (parts_up R u s (bs.only s m)) op (λ rest.
          (bind_append r front _ ∙ rw e refl, events_ended R r front _ (not_goes s _ e) pure ∙ sym (call_none R s (calm s m))))
      | OrderEnd.one_breaks s m ps f b ↦
          let e : bind r front ≡ breaks = ap (bind r) bs.written ∙ b in
          SiteEnd.fails_at (λ rest. (bind_append r front _ ∙ rw e refl, events_ended R r front _ (not_gone _ e) pure))
          (s, parts_up R u s (bs.only s m), ps, f) (λ k.
          let no : ((p : ℕ) → Elem p (R.parts u) → HasValue (v p)) → ⊥ = λ q.
          given_holds (v s) (deep_valued R v (R.parts u) s st q (bs.only s m)) (ag s (failed_known _ f) (k s (parts_up R u s (bs.only s m))) ∙ f) in (
            elim (value_or (v u)) [ inl x ↦ absurd (k u (itself u (inl refl)) x) | inr o ↦ elim o [ inl x ↦ x | inr g ↦ absurd (no (st u g)) ] ],
            inl (elim (true_or (all_have v (R.parts u))) [
              | inr n ↦ n
              | inl y ↦ absurd (no (λ p q. true_gives _ (all_gives (λ x. has_value (v x)) (R.parts u) p y q)))
            ]),
          ))
      | OrderEnd.all_there b f ↦
          let ff : (x : ℕ) → Elem x front → HasValue (r x) = λ x m. f x (in_all R sc mid (R.parts u) front bs x m) in
          let parts : (p : ℕ) → Elem p (R.parts u) → HasValue (r p) = λ p m.
          subst (λ (c : Scope C). AllValued r c) (sym bs.ending) b p (bs.bound p m) in
          let goes_on : (rest : List ℕ) → (bind r (front ++ rest) ≡ bind r rest) × (events R r (front ++ rest) ≡ events R r rest) = λ rest.
          (bind_append r front rest ∙ rw (bind_valued r front ff) refl, events_valued R r front rest ff pure) in
          elim (true_or (R.stands u)) [
            | inr n ↦ SiteEnd.there (plain_valued R r u w rs n parts) f
            | inl y ↦ elim (value_or (r u)) [
              | inl k ↦ SiteEnd.open_at u (itself u (inl refl)) (parts, k) (λ rest.
                  ((goes_on _).0 ∙ rw (y, k) refl, (goes_on _).1 ∙ rw (y, k) (append-nil (call R u))))
              | inr o ↦ elim o [
                | inr g ↦ SiteEnd.there g f
                | inl k ↦ elim (none_or (R.made u)) [
                  | inl e ↦ absurd (rs.whole u e parts k)
                  | inr m ↦
                      let still : R.effect u ≡ false = w.field_pure u (m.0) (m.1) in
                      SiteEnd.fails_at (λ rest. ((goes_on _).0 ∙ rw (y, k) refl, (goes_on _).1 ∙ rw (y, still, k) refl))
                      (u, itself u (inl refl), parts, k)
                      (λ x. (ag u (failed_known _ k) (x u (itself u (inl refl))) ∙ k, inr still))
                ]
              ]
            ]
          ]
    ]

-- where it has a value, what follows decides
has_bind : {C V : Type 0} (R : Rules C V) (v : Answers V) (u : ℕ) (front rest : List ℕ) → IsWellMade R → HasValue (v u)
    → ((x : ℕ) → Elem x front → HasValue (v x))
    → ((x : ℕ) → Elem x front → R.effect x ≡ false)
    → (bind v (front ++ (own R u ++ rest)) ≡ bind v rest) × (events R v (front ++ (own R u ++ rest)) ≡ call R u ++ events R v rest)
has_bind R v u front rest w g h p = elim (true_or (R.stands u)) [
  | inl e ↦ (
    bind_append v front (own R u ++ rest) ∙ rw (bind_valued v front h, e, g.1) refl,
    events_valued R v front (own R u ++ rest) h p ∙ rw (e, gives_true _ g) refl,
  )
  | inr e ↦
      let f : R.effect u ≡ false = elim (true_or (R.effect u)) [ inl y ↦ clash (R.stands u) (w.call_stands u y) e | inr n ↦ n ] in (
        bind_append v front (own R u ++ rest) ∙ rw (bind_valued v front h, e) refl,
        events_valued R v front (own R u ++ rest) h p ∙ rw (e, f) refl,
      )
]

-- what has a value has it under other answers, where these know it
more_given : {V : Type 0} (r v : Answers V) (u : ℕ) → Agree r v → HasValue (r u) → v u ≢ unknown → HasValue (v u)
more_given r v u ag g k = (g.0, ag u (given_known _ g) k ∙ g.1)

next_written : {C V : Type 0} (R : Rules C V) (v : Answers V) (u : ℕ) (us rights e : List ℕ) (b : Bound) → IsStrict R v → HasValue (v u)
    → (bind v rights ≡ b) × (trace R v us ≡ e) → (bind v (u ∷ rights) ≡ b) × (trace R v (u ∷ us) ≡ call R u ++ e)
next_written R v u us rights e b st k ih =
    let have : all_have v (R.parts u) ≡ true = all_from (λ x. has_value (v x)) (R.parts u) (λ p m. gives_true _ (st u k p m)) in
    (rw (k.1) (ih.0), rw (have, gives_true _ k) (ap (λ (l : List ℕ). call R u ++ l) (ih.1)))

-- after a site that has a value
end_next : {C V : Type 0} (R : Rules C V) (r v : Answers V) (u : ℕ) (us : List ℕ) (result : ℕ) (b : Bound) (e : List ℕ)
    → Agree r v → IsStrict R v → HasValue (r u)
    → Ends R r v us result b e → Ends R r v (u ∷ us) result b (call R u ++ e)
end_next R r v u us result (opens s) e ag st g (op, o) = (op, inr (g, (e, o, refl)))
end_next R r v u us result goes e ag st g (whole, h) = (
  whole,
  λ met.
      let k = more_given r v u ag g (met.0 u (itself u (inl refl))) in next_written R v u us (us ++ result ∷ []) e goes st k (h (met.1 k)),
)
end_next R r v u us result breaks e ag st g (f, h) = (
  fails_more R r (us ++ result ∷ []) (u ∷ us ++ result ∷ []) (λ x m. inr m) f,
  λ met.
      let k = more_given r v u ag g (met.0 u (itself u (inl refl))) in next_written R v u us (us ++ result ∷ []) e breaks st k (h (met.1 k)),
)

end_as : {C V : Type 0} (R : Rules C V) (r v : Answers V) (us : List ℕ) (result : ℕ) (b c : Bound) (e f : List ℕ)
    → c ≡ b → f ≡ e → Ends R r v us result b e → Ends R r v us result c f
end_as R r v us result b c e f p q h =
    subst (λ (x : Bound). Ends R r v us result x f) (sym p) (subst (λ (x : List ℕ). Ends R r v us result b x) (sym q) h)

-- the result alone
end_here : {C V : Type 0} (R : Rules C V) (r v : Answers V) (result : ℕ) → Agree r v → HasValue (r result) → Ends R r v [] result goes []
end_here R r v result ag g = (g, λ met. (rw ((more_given r v result ag g (met.0 result (itself result (inl refl)))).1) refl, refl))

ends_trace : {C V : Type 0} (R : Rules C V) (v : Answers V) (u : ℕ) (us : List ℕ) → v u ≡ fails
    → (all_have v (R.parts u) ≡ false) ⊎ (R.effect u ≡ false) → trace R v (u ∷ us) ≡ []
ends_trace R v u us a (inl e) = rw e refl
ends_trace R v u us a (inr e) = elim (true_or (all_have v (R.parts u))) [ inl f ↦ rw (f, e, a) refl | inr f ↦ rw f refl ]

abbrev pub OnlySeen : {C V : Type 0} → Rules C V → Scope C → List ℕ → Type 0
OnlySeen R sc seen = (x : ℕ) → R.effect x ≡ true → sc.emitted x ≡ true → Elem x seen

-- after a site and its parts are bound
record After {C V : Type 0} (R : Rules C V) (r : Answers V) (sc mid : Scope C) (u : ℕ) (seen : List ℕ) : Type 0 where
  pub valued : AllValued r (emit mid u)
  pub only : OnlySeen R (emit mid u) (u ∷ seen)
  pub kept : (x : ℕ) → Elem x (u ∷ seen) → (emit mid u).emitted x ≡ true

goes_after : {C V : Type 0} (R : Rules C V) (r : Answers V) (sc mid : Scope C) (u : ℕ) (front seen : List ℕ) → AllValued r sc → OnlySeen R sc seen
    → ((x : ℕ) → Elem x seen → sc.emitted x ≡ true) → ((x : ℕ) → IsPartOf R (R.parts u) x → R.effect x ≡ true → Elem x seen)
    → (bs : Binds R sc (R.parts u) front mid) → HasValue (r u) → ((x : ℕ) → Elem x bs.all → HasValue (r x)) → After R r sc mid u seen
goes_after {C} R r sc mid u front seen a only kept ef bs g h = record {
  valued = subst (λ (c : Scope C). AllValued r (emit c u)) (sym bs.ending)
      (valued_more r (emit_all sc bs.all) (u ∷ []) (valued_more r sc bs.all a h) (one_valued r u [] g (λ x m. absurd m)));
  only = λ x f e. elim (true_or (x == u)) [
    | inl y ↦ inl (eqb-true x u y)
    | inr n ↦
        let k : mid.emitted x ≡ true = rw n at e in
        elim (emitted_or sc bs.all x (subst (λ (c : Scope C). c.emitted x ≡ true) bs.ending k))
        [ inl m ↦ inr (ef x (bs.only x m) f) | inr y ↦ inr (only x f y) ]
  ];
  kept = λ x m. elim m [
    | inl e ↦ or_left (x == u) (mid.emitted x) (eq-eqb x u e)
    | inr n ↦ or_right (x == u) (mid.emitted x) (subst (λ (c : Scope C). c.emitted x ≡ true) (sym bs.ending) (still_emitted sc bs.all x (kept x n)))
  ];
}

-- the calls in order, then the result
pub leaf : {C V : Type 0} (us : List ℕ) (R : Rules C V) (r v : Answers V) (result : ℕ) (sc : Scope C) (seen binds : List ℕ) (after : Scope C)
    → IsWellMade R → Respects R r
    → Agree r v → IsStrict R v → AllValued r sc → OnlySeen R sc seen → ((x : ℕ) → Elem x seen → sc.emitted x ≡ true) → EffectsFirst R result seen us
    → BindsEach R sc (us ++ result ∷ []) binds after → Ends R r v us result (bind r binds) (events R r binds)
leaf [] R r v result sc seen binds after w rs ag st a only kept ef (inl (e, (none, same))) = rw none (end_here R r v result ag (a result e))
leaf [] R r v result sc seen binds after w rs ag st a only kept ef (inr (e, (front, rest, mid, bs, (none, same), written))) =
    let before : (x : ℕ) → IsPartOf R (R.parts result) x → R.effect x ≡ true → sc.emitted x ≡ true =
    λ x p f. kept x (ef x (parts_up R result x p) f) in
    let calm : R.effect result ≡ false = elim (true_or (R.effect result)) [
      | inl y ↦ clash (sc.emitted result) (kept result (ef result (itself result (inl refl)) y)) e
      | inr n ↦ n
    ] in
    rw (written, none) (elim (one_site R r v sc mid result front w rs ag st a before bs) [
      | SiteEnd.there g h ↦
          let on = has_bind R r result front [] w g (λ x m. h x (in_all R sc mid (R.parts result) front bs x m))
          (λ x m. no_effect R sc mid result front before bs x (in_all R sc mid (R.parts result) front bs x m)) in
          end_as R r v [] result goes _ [] _ (on.0) (on.1 ∙ rw calm refl) (end_here R r v result ag g)
      | SiteEnd.open_at s p op h ↦ let both = h [] in end_as R r v [] result (opens s) _ (call R s) _ (both.0) (both.1) (op, inl (p, refl))
      | SiteEnd.fails_at h q f ↦ let both = h [] in end_as R r v [] result breaks _ [] _ (both.0) (both.1) (q, λ met. (rw ((f (met.0)).0) refl, refl))
    ])
leaf (u ∷ us) R r v result sc seen binds after w rs ag st a only kept ef (inl (e, b)) =
    let calm : R.effect u ≡ false = elim (true_or (R.effect u)) [ inl y ↦ absurd (ef.1 y (only u y e)) | inr n ↦ n ] in
    let ih = leaf us R r v result sc (u ∷ seen) binds after w rs ag st a (λ x f q. inr (only x f q))
    (λ x m. elim m [ inl q ↦ ap sc.emitted q ∙ e | inr n ↦ kept x n ]) (ef.2) b in
    end_as R r v (u ∷ us) result (bind r binds) (bind r binds) (call R u ++ events R r binds) (events R r binds) refl
    (rw calm refl) (end_next R r v u us result _ _ ag st (a u e) ih)
leaf (u ∷ us) R r v result sc seen binds after w rs ag st a only kept ef (inr (e, (front, rest, mid, bs, b, written))) =
    let before : (x : ℕ) → IsPartOf R (R.parts u) x → R.effect x ≡ true → sc.emitted x ≡ true = λ x p f. kept x (ef.0 x p f) in
    rw written (elim (one_site R r v sc mid u front w rs ag st a before bs) [
      | SiteEnd.there g h ↦
          let on = has_bind R r u front rest w g (λ x m. h x (in_all R sc mid (R.parts u) front bs x m))
          (λ x m. no_effect R sc mid u front before bs x (in_all R sc mid (R.parts u) front bs x m)) in
          let aft = goes_after R r sc mid u front seen a only kept (ef.0) bs g h in
          let ih = leaf us R r v result (emit mid u) (u ∷ seen) rest after w rs ag st aft.valued aft.only aft.kept (ef.2) b in
          end_as R r v (u ∷ us) result (bind r rest) _ (call R u ++ events R r rest) _ (on.0) (on.1) (end_next R r v u us result _ _ ag st g ih)
      | SiteEnd.open_at s p op h ↦ let both = h rest in end_as R r v (u ∷ us) result (opens s) _ (call R s) _ (both.0) (both.1) (op, inl (p, refl))
      | SiteEnd.fails_at h q f ↦
          let both = h rest in
          end_as R r v (u ∷ us) result breaks _ [] _ (both.0) (both.1) (
            fails_more R r (u ∷ []) (u ∷ us ++ result ∷ []) (λ x m. elim m [ inl y ↦ inl y | inr b ↦ absurd b ]) q,
            λ met. let k = f (met.0) in
                (rw (k.0) refl, ends_trace R v u us (k.0) (k.1)),
          )
    ])
