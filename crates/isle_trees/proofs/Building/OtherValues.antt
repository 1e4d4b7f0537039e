-- Which trees rules build doesn't depend on how tests pass or values compare.
use Rattle.std.proofs.Common.{◌≡◌, inl, inr, ℕ, ◌<◌, ◌==◌, ◌&&◌, ◌||◌, not, List, [], ◌∷◌, Bool, Option, Some, None, length, refl, sym, ap, subst}
use Rattle.std.specs.List.{filter}
use Rattle.isle_trees.specs.Builds.{Key, key, IsAtMost, IsBest, HasNoTest, IsOrder, Binds, BindsEach, Returns, Builds, BuildsArms, wanting, not_wanting, without}
use Rattle.isle_trees.specs.Rules.{Want, has, one_value, Source, Rules, IsPartOf, rights}
use Rattle.isle_trees.specs.Scopes.{Scope, emit, release, join, same_want, is_want, is_source, inside, IsAvailable, IsReady, Test, on_match, on_equal, on_loop, counted, others}
use Rattle.isle_trees.specs.Tree.{Steps, done, «match», equal, loop, give, Arms, no_arm, arm}
use Rattle.isle_trees.specs.Values.{over_values}

part_over : {C V W : Type 0} (R : Rules C V) (p : C → W → Bool) (a : W → W → Bool) (sites : List ℕ) (x : ℕ) → IsPartOf R sites x
    → IsPartOf (over_values R p a) sites x
part_over R p a sites _ (IsPartOf.itself s m) = IsPartOf.itself s m
part_over R p a sites _ (IsPartOf.of_part s x h m) = IsPartOf.of_part s x (part_over R p a sites s h) m

available_over : {C V W : Type 0} (R : Rules C V) (p : C → W → Bool) (a : W → W → Bool) (sc : Scope C) (s : ℕ) → IsAvailable R sc s
    → IsAvailable (over_values R p a) sc s
available_over R p a sc _ (IsAvailable.from_parts s parts tested) = IsAvailable.from_parts s (λ x m. available_over R p a sc x (parts x m)) tested

ready_over : {C V W : Type 0} (R : Rules C V) (p : C → W → Bool) (a : W → W → Bool) (sc : Scope C) (t : Test) → IsReady R sc t
    → IsReady (over_values R p a) sc t
ready_over R p a sc (on_match s) r = (available_over R p a sc s (r.0), r.1)
ready_over R p a sc (on_loop s) r = (available_over R p a sc s (r.0), r.1)
ready_over R p a sc (on_equal x y) r = (r.0, available_over R p a sc x (r.1), available_over R p a sc y (r.2), r.3, r.4, r.5)

-- and back, since the rules over their own values are the rules
ready_back : {C V W : Type 0} (R : Rules C V) (p : C → W → Bool) (a : W → W → Bool) (sc : Scope C) (t : Test) → IsReady (over_values R p a) sc t
    → IsReady R sc t
ready_back R p a sc t r = ready_over (over_values R p a) R.tests.passes R.tests.alike sc t r

counted_over : {C V W : Type 0} (R : Rules C V) (p : C → W → Bool) (a : W → W → Bool) (t : Test) (left : List ℕ)
    → counted (over_values R p a) t left ≡ counted R t left
counted_over R p a (on_match s) left = refl
counted_over R p a (on_loop s) left = refl
counted_over R p a (on_equal x y) left = refl

key_over : {C V W : Type 0} (R : Rules C V) (p : C → W → Bool) (a : W → W → Bool) (left : List ℕ) (sc : Scope C) (t : Test)
    → key R left sc t ≡ key (over_values R p a) left sc t
key_over R p a left sc (on_match s) = refl
key_over R p a left sc (on_loop s) = refl
key_over R p a left sc (on_equal x y) = refl

best_over : {C V W : Type 0} (R : Rules C V) (p : C → W → Bool) (a : W → W → Bool) (left : List ℕ) (sc : Scope C) (t : Test) → IsBest R left sc t
    → IsBest (over_values R p a) left sc t
best_over R p a left sc t b = record {
  ready = ready_over R p a sc t b.ready;
  useful = let P : List ℕ → Type 0 = λ l. 0 < length l in subst P (sym (counted_over R p a t left)) b.useful;
  greatest = λ u r.
      let P : Key → Type 0 = λ k. IsAtMost k (key (over_values R p a) left sc t) in
      let Q : Key → Type 0 = λ k. IsAtMost (key R left sc u) k in
      subst P (key_over R p a left sc u) (subst Q (key_over R p a left sc t) (b.greatest u (ready_back R p a sc u r)));
}

none_over : {C V W : Type 0} (R : Rules C V) (p : C → W → Bool) (a : W → W → Bool) (left : List ℕ) (sc : Scope C) → HasNoTest R left sc
    → HasNoTest (over_values R p a) left sc
none_over R p a left sc n u r =
    let P : List ℕ → Type 0 = λ l. length l ≡ 0 in subst P (sym (counted_over R p a u left)) (n u (ready_back R p a sc u r))

order_over : {C V W : Type 0} (R : Rules C V) (p : C → W → Bool) (a : W → W → Bool) (sc : Scope C) (xs : List ℕ) → IsOrder R sc xs
    → IsOrder (over_values R p a) sc xs
order_over R p a sc [] o = tt
order_over R p a sc (x ∷ xs) o = (o.0, o.1, order_over R p a (emit sc x) xs (o.2))

binds_over : {C V W : Type 0} (R : Rules C V) (p : C → W → Bool) (a : W → W → Bool) (sc : Scope C) (sites binds : List ℕ) (after : Scope C)
    → Binds R sc sites binds after → Binds (over_values R p a) sc sites binds after
binds_over R p a sc sites binds after b = record {
  all = b.all;
  order = order_over R p a sc b.all b.order;
  only = λ x m. part_over R p a sites x (b.only x m);
  ending = b.ending;
  bound = b.bound;
  written = b.written;
}

each_over : {C V W : Type 0} (R : Rules C V) (p : C → W → Bool) (a : W → W → Bool) (sc : Scope C) (us binds : List ℕ) (after : Scope C)
    → BindsEach R sc us binds after → BindsEach (over_values R p a) sc us binds after
each_over R p a sc [] binds after b = b
each_over R p a sc (u ∷ us) binds after (inl b) = inl (b.0, each_over R p a sc us binds after (b.1))
each_over R p a sc (u ∷ us) binds after (inr (e, (front, rest, mid, bs, b, w))) =
    inr (e, (front, rest, mid, binds_over R p a sc (R.parts u) front mid bs, each_over R p a (emit mid u) us rest after b, w))

returns_over : {C V W : Type 0} (R : Rules C V) (p : C → W → Bool) (a : W → W → Bool) (left : List ℕ) (sc : Scope C) (T : Steps C)
    → Returns R left sc T → Returns (over_values R p a) left sc T
returns_over R p a left sc done r = r
returns_over R p a left sc («match» binds s arms next) r = r
returns_over R p a left sc (equal binds x y body next) r = r
returns_over R p a left sc (loop binds x body next) r = r
returns_over R p a left sc (give binds i next) (first, (after, each, rest)) =
    (first, (after, each_over R p a sc (rights R i) binds after each, returns_over R p a (without i left) after next rest))

-- wants
want_over : {C V W : Type 0} (R : Rules C V) (p : C → W → Bool) (a : W → W → Bool) (w u : Want C)
    → same_want R.tests w u ≡ same_want (over_values R p a).tests w u
want_over R p a (has c) (has d) = refl
want_over R p a (has c) one_value = refl
want_over R p a one_value (has d) = refl
want_over R p a one_value one_value = refl

is_want_over : {C V W : Type 0} (R : Rules C V) (p : C → W → Bool) (a : W → W → Bool) (w : Want C) (o : Option (Want C))
    → is_want R.tests w o ≡ is_want (over_values R p a).tests w o
is_want_over R p a w None = refl
is_want_over R p a w (Some u) = want_over R p a w u

source_over : {C V W : Type 0} (R : Rules C V) (p : C → W → Bool) (a : W → W → Bool) (s : ℕ) (w : Want C) (o : Option (Source C))
    → is_source R.tests s w o ≡ is_source (over_values R p a).tests s w o
source_over R p a s w None = refl
source_over R p a s w (Some m) = ap (λ (b : Bool). (m.site == s) && b) (want_over R p a w m.want)

inside_over : {C V W : Type 0} (R : Rules C V) (p : C → W → Bool) (a : W → W → Bool) (sc : Scope C) (s : ℕ) (w : Want C)
    → inside R sc s w ≡ inside (over_values R p a) sc s w
inside_over R p a sc s w = λ i. record {
  passed = (inside R sc s w).passed;
  label = sc.label;
  emitted = λ x. source_over R p a s w (R.made x) i || sc.emitted x;
}

wanting_over : {C V W : Type 0} (R : Rules C V) (p : C → W → Bool) (a : W → W → Bool) (s : ℕ) (c : C) (left : List ℕ)
    → wanting R s c left ≡ wanting (over_values R p a) s c left
wanting_over R p a s c left = λ i. filter (λ j. is_want_over R p a (has c) (R.at j s) i) left

not_wanting_over : {C V W : Type 0} (R : Rules C V) (p : C → W → Bool) (a : W → W → Bool) (s : ℕ) (c : C) (left : List ℕ)
    → not_wanting R s c left ≡ not_wanting (over_values R p a) s c left
not_wanting_over R p a s c left = λ i. filter (λ j. not (is_want_over R p a (has c) (R.at j s) i)) left

mutual
  pub builds_over : {C V W : Type 0} (T : Steps C) (R : Rules C V) (p : C → W → Bool) (a : W → W → Bool) (left : List ℕ) (sc : Scope C)
      → Builds R left sc T → Builds (over_values R p a) left sc T
  builds_over done R p a left sc b = b
  builds_over (give binds i next) R p a left sc b = (none_over R p a left sc (b.0), returns_over R p a left sc (give binds i next) (b.1))
  builds_over {C} («match» binds s arms next) R p a left sc (best, (after, bs, inner, rest)) = (
    best_over R p a left sc (on_match s) best,
    (
      after,
      binds_over R p a sc (s ∷ []) binds after bs,
      arms_over arms R p a (counted R (on_match s) left) after s inner,
      builds_over next R p a (others R (on_match s) left) after rest,
    ),
  )
  builds_over (equal binds x y body next) R p a left sc (best, (after, bs, inner, rest)) = (
    best_over R p a left sc (on_equal x y) best,
    (
      after,
      binds_over R p a sc (x ∷ y ∷ []) binds after bs,
      builds_over body R p a (counted R (on_equal x y) left) (join after x y) inner,
      builds_over next R p a (others R (on_equal x y) left) after rest,
    ),
  )
  builds_over {C} {V} {W} (loop binds x body next) R p a left sc (s, v, best, (after, bs, inner, rest)) =
      let P : Scope C → Type 0 = λ i. Builds (over_values R p a) (counted R (on_loop s) left) i body in (
        s,
        v,
        best_over R p a left sc (on_loop s) best,
        (
          after,
          binds_over R p a (release sc s) (s ∷ []) binds after bs,
          subst P (inside_over R p a after s one_value) (builds_over body R p a (counted R (on_loop s) left) (inside R after s one_value) inner),
          builds_over next R p a (others R (on_loop s) left) (release after s) rest,
        ),
      )

  pub arms_over : {C V W : Type 0} (arms : Arms C) (R : Rules C V) (p : C → W → Bool) (a : W → W → Bool) (left : List ℕ) (sc : Scope C) (s : ℕ)
      → BuildsArms R left sc s arms → BuildsArms (over_values R p a) left sc s arms
  arms_over no_arm R p a left sc s b = b
  arms_over {C} (arm c bindings body more) R p a left sc s (least, fields, inner, rest) =
      let P : Scope C → Type 0 = λ i. Builds (over_values R p a) (wanting R s c left) i body in
      let Q : List ℕ → Type 0 = λ l. Builds (over_values R p a) l (inside (over_values R p a) sc s (has c)) body in
      let S : List ℕ → Type 0 = λ l. BuildsArms (over_values R p a) l sc s more in (
        least,
        fields,
        subst Q (wanting_over R p a s c left) (subst P (inside_over R p a sc s (has c))
            (builds_over body R p a (wanting R s c left) (inside R sc s (has c)) inner)),
        subst S (not_wanting_over R p a s c left) (arms_over more R p a (not_wanting R s c left) sc s rest),
      )
