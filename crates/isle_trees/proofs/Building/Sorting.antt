-- Steps, arms and returns make trees that the rules left build.
use Rattle.std.proofs.Common.{◌≡◌, ℕ, ◌+◌, ◌<◌, ◌≤◌, List, [], ◌∷◌, Bool, Option, Some, None, length, refl, sym, ◌∙◌, ap, subst, arith, not}
use Rattle.isle_trees.specs.Bag.{IsSameBag}
use Rattle.isle_trees.specs.Builds.{Builds, BuildsArms, Returns, HasNoTest, IsBest, IsLeast, Binds, wanting, not_wanting}
use Rattle.isle_trees.specs.Ranking.{Emits, AreWithin, AreAllWithin}
use Rattle.isle_trees.specs.Rules.{has, one_value, Rules, Elem}
use Rattle.isle_trees.specs.Scopes.{Scope, emit_all, release, join, is_want, inside, Test, on_match, on_equal, on_loop, counts, counted, others}
use Rattle.isle_trees.specs.Search.{AllWant, AreMarked, IsBuildable, IsSamePath}
use Rattle.isle_trees.specs.Tree.{Steps, done, «match», equal, loop, give, Arms, arm}
use Rattle.isle_trees.proofs.Basics.{SameSelf, from_filter, some_elem, counted_has, others_left, is_want_same, test_of, one_of}
use Rattle.isle_trees.proofs.Building.Emission.{binds_from}
use Rattle.isle_trees.proofs.Building.Enter.{marked_path}
use Rattle.isle_trees.proofs.Building.Lists.{filter_less}
use Rattle.isle_trees.proofs.Building.Reorder.{same_length}
use Rattle.isle_trees.proofs.Path.{passed_bound, some_counted}

-- one arm
pub one_arm : {C V : Type 0} (R : Rules C V) (sc inner : Scope C) (s : ℕ) (c : C) (group chosen rest : List ℕ)
    (bindings : List (Option ℕ)) (body : Steps C) (T : Arms C) → IsLeast R s group c → bindings ≡ R.fields s c
    → inner ≡ inside R sc s (has c) → chosen ≡ wanting R s c group → rest ≡ not_wanting R s c group
    → Builds R chosen inner body → BuildsArms R rest sc s T → BuildsArms R group sc s (arm c bindings body T)
one_arm {C} R sc inner s c group chosen rest bindings body T f bound p q r b a =
    let P : List ℕ → Type 0 = λ l. Builds R l (inside R sc s (has c)) body in
    let Q : Scope C → Type 0 = λ x. Builds R chosen x body in
    let A : List ℕ → Type 0 = λ l. BuildsArms R l sc s T in
    (f, bound, subst P q (subst Q p b), subst A r a)

pub still_untested : {C : Type 0} (sc after : Scope C) (xs : List ℕ) (s : ℕ) → after ≡ emit_all sc xs → sc.passed s ≡ None → after.passed s ≡ None
still_untested sc after xs s e n = rw e (passed_bound sc xs s ∙ n)

pub chosen_want : {C V : Type 0} (R : Rules C V) (left chosen : List ℕ) (s : ℕ) → chosen ≡ counted R (on_match s) left → AllWant R chosen s
chosen_want R left chosen s r =
    let A : List ℕ → Type 0 = λ l. AllWant R l s in
    subst A (sym r) (λ i m. test_of (R.at i s) ((counted_has R (on_match s) left i m).1))

pub match_builds : {C V : Type 0} (R : Rules C V) (left chosen : List ℕ) (sc after : Scope C) (s : ℕ) (old binds : List ℕ)
    (arms : Arms C) (T : Steps C) → IsBest R left sc (on_match s) → old ≡ []
    → Emits R sc (s ∷ []) old binds after → chosen ≡ counted R (on_match s) left → BuildsArms R chosen after s arms
    → Builds R (others R (on_match s) left) after T
    → Builds R left sc («match» binds s arms T)
match_builds R left chosen sc after s old binds arms T best none e r a b =
    let A : List ℕ → Type 0 = λ l. BuildsArms R l after s arms in
    (best, (after, binds_from R sc after (s ∷ []) old binds none e, subst A r a, b))

pub equal_builds : {C V : Type 0} (R : Rules C V) (left chosen : List ℕ) (sc after inner : Scope C) (x y : ℕ) (old binds : List ℕ) (body T : Steps C)
    → IsBest R left sc (on_equal x y) → old ≡ []
    → Emits R sc (x ∷ y ∷ []) old binds after → chosen ≡ counted R (on_equal x y) left → inner ≡ join after x y → Builds R chosen inner body
    → Builds R (others R (on_equal x y) left) after T
    → Builds R left sc (equal binds x y body T)
equal_builds {C} R left chosen sc after inner x y old binds body T best none e r j a b =
    let A : List ℕ → Type 0 = λ l. Builds R l (join after x y) body in
    let J : Scope C → Type 0 = λ i. Builds R chosen i body in
    (best, (after, binds_from R sc after (x ∷ y ∷ []) old binds none e, subst A r (subst J j a), b))

pub loop_builds : {C V : Type 0} (R : Rules C V) (left chosen : List ℕ) (sc freed after inner last : Scope C)
    (s x : ℕ) (old binds : List ℕ) (body T : Steps C) → IsBest R left sc (on_loop s) → old ≡ []
    → freed ≡ release sc s → Emits R freed (s ∷ []) old binds after → chosen ≡ counted R (on_loop s) left → inner ≡ inside R after s one_value
    → last ≡ release after s → R.value s ≡ Some x
    → Builds R chosen inner body → Builds R (others R (on_loop s) left) last T → Builds R left sc (loop binds x body T)
loop_builds {C} R left chosen sc freed after inner last s x old binds body T best none f e r j l v a b =
    let A : List ℕ → Type 0 = λ l. Builds R l (inside R after s one_value) body in
    let J : Scope C → Type 0 = λ i. Builds R chosen i body in
    let L : Scope C → Type 0 = λ i. Builds R (others R (on_loop s) left) i T in
    let E : Scope C → Type 0 = λ i. Binds R i (s ∷ []) binds after in
    (s, v, best, (after, subst E f (binds_from R freed after (s ∷ []) old binds none e), subst A r (subst J j a), subst L l b))

pub loop_untested : {C : Type 0} (sc freed after : Scope C) (s : ℕ) (xs : List ℕ) → freed ≡ release sc s → after ≡ emit_all freed xs
    → sc.passed s ≡ None → after.passed s ≡ None
loop_untested sc freed after s xs f e n =
    let p : freed.passed s ≡ sc.passed s = rw f refl in
    rw e (passed_bound freed xs s ∙ p ∙ n)

-- returns stand for a tree where no test is left
pub returns_build : {C V : Type 0} (R : Rules C V) (left : List ℕ) (sc : Scope C) (T : Steps C) → HasNoTest R left sc → Returns R left sc T
    → Builds R left sc T
returns_build R left sc done n r = r
returns_build R left sc («match» binds s arms next) n r = absurd r
returns_build R left sc (equal binds a b body next) n r = absurd r
returns_build R left sc (loop binds x body next) n r = absurd r
returns_build R left sc (give binds i next) n r = (n, r)

-- what the best test tells
pub best_within : {C V : Type 0} (R : Rules C V) (n : ℕ) (left : List ℕ) (sc : Scope C) (t : Test) → AreAllWithin R n → IsBest R left sc t
    → AreWithin t n
best_within R n left sc t w best = let one = some_counted R left sc t best in w (one.0) t (one.2)

pub best_loops : {C V : Type 0} (R : Rules C V) (left : List ℕ) (sc : Scope C) (s : ℕ) → IsBest R left sc (on_loop s)
    → (i : ℕ) × Elem i left × (R.at i s ≡ Some one_value)
best_loops R left sc s best = let one = some_counted R left sc (on_loop s) best in (one.0, one.1, one_of (R.at (one.0) s) (one.2))

pub loop_value : {C V : Type 0} (R : Rules C V) (n : ℕ) (rules left : List ℕ) (sc : Scope C) (s : ℕ) → IsBuildable R n rules
    → IsBest R left sc (on_loop s) → (x : ℕ) × (R.value s ≡ Some x)
loop_value R n rules left sc s b best = let one = best_loops R left sc s best in b.values (one.0) s (one.2)

pub chosen_some : {C V : Type 0} (R : Rules C V) (left chosen group : List ℕ) (sc : Scope C) (t : Test) → IsBest R left sc t
    → chosen ≡ counted R t left → IsSameBag chosen group → 0 < length group
chosen_some R left chosen group sc t best c same =
    let l : length chosen ≡ length group = same_length chosen group same in
    let e : length chosen ≡ length (counted R t left) = ap length c in
    let u = best.useful in
    omega arith

-- what is marked for the rules left is marked for those that a test leaves
pub rest_marked : {C V : Type 0} (R : Rules C V) (left rest : List ℕ) (sc after : Scope C) (t : Test) (marks : List Bool) → IsSamePath sc after
    → rest ≡ others R t left
    → AreMarked R left sc marks → AreMarked R rest after marks
rest_marked R left rest sc after t marks path r m =
    let P : List ℕ → Type 0 = λ l. AreMarked R l after marks in
    subst P (sym r) (marked_path R left (others R t left) sc after marks path (λ i n. others_left R t left i n) m)
