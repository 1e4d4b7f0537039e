-- What a test counts and what it leaves weigh no more than the rules left.
use Rattle.std.proofs.Common.{◌≡◌, ◌≢◌, ℕ, ◌+◌, ◌≤◌, List, Bool, Some, None, refl, sym, ◌∙◌, ap, subst, arith, not}
use Rattle.std.proofs.lemmas.List.Filters.{sum_by-filter_both}
use Rattle.isle_trees.specs.Builds.{IsBest, IsLeast, wanting, not_wanting}
use Rattle.isle_trees.specs.Counting.{weight, unlearned}
use Rattle.isle_trees.specs.Rules.{has, one_value, Rules, Elem}
use Rattle.isle_trees.specs.Scopes.{Scope, emit_all, release, join, is_want, inside, Test, on_equal, on_loop, counted, others}
use Rattle.isle_trees.proofs.Basics.{SameIs, SameSelf, to_filter, some_elem, counted_has, is_want_same, one_of}
use Rattle.isle_trees.proofs.Building.Sorting.{loop_untested}
use Rattle.isle_trees.proofs.Path.{wanting_is, label_bound}
use Rattle.isle_trees.proofs.Weight.{WantsAreListed, ClassesAreListed, sums_lt, pass_less, first_weighs, bound_same, split_weighs, arm_weighs, join_weighs, loop_weighs, fewer_weigh}

-- binding changes nothing
pub after_weighs : {C V : Type 0} (R : Rules C V) (sc after : Scope C) (xs : List ℕ) → after ≡ emit_all sc xs → (some : List ℕ)
    → weight R after some ≡ weight R sc some
after_weighs R sc after xs e some = rw e (bound_same R sc xs some)

pub loop_same : {C V : Type 0} (R : Rules C V) (sc freed after last : Scope C) (s : ℕ) (xs : List ℕ) → freed ≡ release sc s
    → after ≡ emit_all freed xs → last ≡ release after s
    → (some : List ℕ) → weight R last some ≡ weight R sc some
loop_same R sc freed after last s xs f e l some =
    let p : weight R (release after s) some ≡ weight R after some = refl in
    let q : weight R after some ≡ weight R freed some = rw e (bound_same R freed xs some) in
    let r : weight R freed some ≡ weight R sc some = rw f refl in
    rw l (p ∙ q ∙ r)

-- what is left after a test, and what it counts
pub rest_share : {C V : Type 0} (R : Rules C V) (left chosen rest : List ℕ) (sc after : Scope C) (t : Test)
    → ((some : List ℕ) → weight R after some ≡ weight R sc some) → chosen ≡ counted R t left
    → rest ≡ others R t left → weight R after chosen + weight R after rest ≡ weight R sc left
rest_share R left chosen rest sc after t w c r =
    let p : weight R after chosen ≡ weight R after (counted R t left) = ap (weight R after) c in
    let q : weight R after rest ≡ weight R after (others R t left) = ap (weight R after) r in
    let s = split_weighs R after t left in
    let l = w left in
    omega arith

pub useful_weighs : {C V : Type 0} (R : Rules C V) (left chosen : List ℕ) (sc after : Scope C) (t : Test) → IsBest R left sc t
    → chosen ≡ counted R t left → 1 ≤ weight R after chosen
useful_weighs R left chosen sc after t best c =
    let one = some_elem (counted R t left) (best.useful) in
    let P : List ℕ → Type 0 = λ l. 1 ≤ weight R after l in
    subst P (sym c) (first_weighs R after (counted R t left) (one.0) (one.1))

pub joined_less : {C V : Type 0} (R : Rules C V) (left chosen : List ℕ) (sc after inner : Scope C) (x y : ℕ) (xs : List ℕ) → ClassesAreListed R
    → IsBest R left sc (on_equal x y)
    → after ≡ emit_all sc xs → chosen ≡ counted R (on_equal x y) left → inner ≡ join after x y → weight R inner chosen + 1 ≤ weight R after chosen
joined_less R left chosen sc after inner x y xs w best e r j =
    let apart : after.label x ≢ after.label y = λ h. best.ready.5 (sym (label_bound sc xs x) ∙ rw e at h ∙ label_bound sc xs y) in
    let l : weight R (join after x y) (counted R (on_equal x y) left) + 1 ≤ weight R after (counted R (on_equal x y) left) =
    join_weighs R after x y (counted R (on_equal x y) left) w apart (λ i m. (counted_has R (on_equal x y) left i m).1) (best.useful) in
    rw (j, r) l

pub looped_less : {C V : Type 0} (R : Rules C V) (left chosen : List ℕ) (sc freed after inner : Scope C) (s : ℕ) (xs : List ℕ) → WantsAreListed R
    → IsBest R left sc (on_loop s)
    → freed ≡ release sc s → after ≡ emit_all freed xs → chosen ≡ counted R (on_loop s) left → inner ≡ inside R after s one_value
    → weight R inner chosen + 1 ≤ weight R after chosen
looped_less R left chosen sc freed after inner s xs w best f e r j =
    let wants : (i : ℕ) → Elem i (counted R (on_loop s) left) → R.at i s ≡ Some one_value = λ i m. one_of
    (R.at i s) ((counted_has R (on_loop s) left i m).1) in
    let l : weight R (inside R after s one_value) (counted R (on_loop s) left) + 1 ≤ weight R after (counted R (on_loop s) left) =
    loop_weighs R after s (counted R (on_loop s) left) w (loop_untested sc freed after s xs f e (best.ready.1)) wants (best.useful) in
    rw (j, r) l

-- what an arm takes, and what it leaves
least_there : {C V : Type 0} (R : Rules C V) (s : ℕ) (c : C) (group : List ℕ) → SameSelf R.tests → (least : IsLeast R s group c)
    → Elem (least.0.0) (wanting R s c group)
least_there R s c group k least =
    to_filter (λ i. is_want R.tests (has c) (R.at i s)) group (least.0.0) (least.0.1) (is_want_same R.tests (has c) _ k (least.0.2))

pub arm_share : {C V : Type 0} (R : Rules C V) (sc inner : Scope C) (s : ℕ) (c : C) (group rules rest : List ℕ) → SameIs R.tests → SameSelf R.tests
    → WantsAreListed R → sc.passed s ≡ None
    → IsLeast R s group c → inner ≡ inside R sc s (has c) → rules ≡ wanting R s c group → rest ≡ not_wanting R s c group
    → weight R inner rules + weight R sc rest + 1 ≤ weight R sc group
arm_share R sc inner s c group rules rest is self w e least i p q =
    let wants : ℕ → Bool = λ j. is_want R.tests (has c) (R.at j s) in
    let less : (j : ℕ) → Elem j (wanting R s c group) → unlearned R (inside R sc s (has c)) j + 1 ≤ unlearned R sc j =
    λ j n. pass_less R sc s (has c) j w e ((wanting_is R group s c is j n).1) in
    let here : Elem (least.0.0) (wanting R s c group) = least_there R s c group self least in
    let l : weight R (inside R sc s (has c)) (wanting R s c group) + 1 ≤ weight R sc (wanting R s c group) =
    sums_lt (λ i. unlearned R (inside R sc s (has c)) i + 1) (λ i. unlearned R sc i + 1) (wanting R s c group)
    (least.0.0) (λ j n. let z = less j n in omega arith) here
    (let z = less (least.0.0) here in omega arith) in
    let b : weight R sc (wanting R s c group) + weight R sc (not_wanting R s c group) ≡ weight R sc group =
    sum_by-filter_both wants (λ i. not (wants i)) (λ i. refl) (λ i. unlearned R sc i + 1) group in
    let l2 : weight R inner rules + 1 ≤ weight R sc (wanting R s c group) = rw (i, p) l in
    let r2 : weight R sc rest ≡ weight R sc (not_wanting R s c group) = ap (weight R sc) q in
    omega arith
