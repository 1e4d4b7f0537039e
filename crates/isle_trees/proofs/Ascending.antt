-- The arms of each step ascend by their tests.
use Rattle.std.proofs.Common.{◌≡◌, ◌≢◌, ℕ, not, List, true, Some}
use Rattle.isle_trees.specs.Asks.{AllLater, Ascends, ArmsAscend}
use Rattle.isle_trees.specs.Builds.{without, wanting, not_wanting, Returns, Builds, BuildsArms}
use Rattle.isle_trees.specs.Rules.{has, one_value, Rules, Elem}
use Rattle.isle_trees.specs.Scopes.{Scope, join, release, is_want, inside, on_match, on_equal, on_loop, counted, others}
use Rattle.isle_trees.specs.Tree.{Steps, done, «match», equal, loop, give, Arms, no_arm, arm}
use Rattle.isle_trees.proofs.Basics.{SameSelf, not_true, clash, from_filter, is_want_same}

all_later : {C V : Type 0} (arms : Arms C) (R : Rules C V) (left : List ℕ) (sc : Scope C) (s : ℕ) (c : C)
    → ((i : ℕ) (d : C) → Elem i left → R.at i s ≡ Some (has d) → (R.tests.at_most c d ≡ true) × (c ≢ d)) → BuildsArms R left sc s arms
    → AllLater R c arms
all_later no_arm R left sc s c h b = tt
all_later (arm d bindings body later) R left sc s c h b =
    let one = h (b.0.0.0) d (b.0.0.1) (b.0.0.2) in
    (one.0, one.1, all_later later R (not_wanting R s d left) sc s c (λ i e m a. h i e ((from_filter _ left i m).0) a) (b.3))

returns_ascend : {C V : Type 0} (T : Steps C) (R : Rules C V) (left : List ℕ) (sc : Scope C) → Returns R left sc T → Ascends R T
returns_ascend done R left sc b = tt
returns_ascend («match» binds s arms next) R left sc b = absurd b
returns_ascend (equal binds x y body next) R left sc b = absurd b
returns_ascend (loop binds x body next) R left sc b = absurd b
returns_ascend (give binds i next) R left sc (first, (after, each, rest)) = returns_ascend next R (without i left) after rest

mutual
  pub ascending : {C V : Type 0} (T : Steps C) (R : Rules C V) (left : List ℕ) (sc : Scope C) → SameSelf R.tests → Builds R left sc T → Ascends R T
  ascending done R left sc w b = tt
  ascending (give binds i next) R left sc w b = returns_ascend (give binds i next) R left sc (b.1)
  ascending («match» binds s arms next) R left sc w (best, (after, bs, inner, rest)) =
      (arms_ascend arms R (counted R (on_match s) left) after s w inner, ascending next R (others R (on_match s) left) after w rest)
  ascending (equal binds a b body next) R left sc w (best, (after, bs, inner, rest)) =
      (ascending body R (counted R (on_equal a b) left) (join after a b) w inner, ascending next R (others R (on_equal a b) left) after w rest)
  ascending (loop binds x body next) R left sc w (s, made, best, (after, bs, inner, rest)) = (
    ascending body R (counted R (on_loop s) left) (inside R after s one_value) w inner,
    ascending next R
        (others R (on_loop s) left) (release after s) w rest,
  )

  pub arms_ascend : {C V : Type 0} (arms : Arms C) (R : Rules C V) (left : List ℕ) (sc : Scope C) (s : ℕ)
      → SameSelf R.tests → BuildsArms R left sc s arms → ArmsAscend R arms
  arms_ascend no_arm R left sc s w b = tt
  arms_ascend (arm c bindings body later) R left sc s w b = (
    all_later later R (not_wanting R s c left) sc s c (λ i d m e.
        let f = from_filter (λ j. not (is_want R.tests (has c) (R.at j s))) left i m in (
          b.0.1 i d (f.0) e,
          λ same. clash _ (is_want_same R.tests (has c) (R.at i s) w (rw same e)) (not_true _ (f.1)),
        )) (b.3),
    (ascending body R (wanting R s c left) (inside R sc s (has c)) w (b.2), arms_ascend later R (not_wanting R s c left) sc s w (b.3)),
  )
