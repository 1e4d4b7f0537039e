-- Which trees the rules left build.
use Rattle.std.specs.Prelude.{◌≡◌, ℕ, ◌++◌, ◌<◌, ◌≤◌, ◌<ℤ◌, ◌==◌, ◌&&◌, not, List, [], ◌∷◌, true, false, Some, ◌⊎◌, if◌then◌else◌, length}
use Rattle.std.specs.List.{filter}
use Rattle.isle_trees.specs.Tree.{Steps, done, «match», equal, loop, give, Arms, no_arm, arm}
use Rattle.isle_trees.specs.Rules.{has, one_value, Rules, Elem, IsPartOf, rights}
use Rattle.isle_trees.specs.Premises.{IsWellMade, IsSingle, UsesNoMulti}
use Rattle.isle_trees.specs.Scopes.{nothing_known, Scope, join, emit, emit_all, release, is_want, inside, Test, on_match, on_equal, on_loop, counted, others, IsReady}

-- how a test is ranked
pub record Key : Type 0 where
  pub count : ℕ
  pub state : ℕ
  pub kind : ℕ
  pub first : ℕ
  pub second : ℕ

-- emitted before available
abbrev pub state : {C : Type 0} → Scope C → Test → ℕ
state sc (on_match s) = if sc.emitted s then 1 else 0
state sc (on_equal a b) = if sc.emitted a && sc.emitted b then 1 else 0
state sc (on_loop s) = if sc.emitted s then 1 else 0

-- greater counts, greater states, `Match` before `Equal` before `Loop`, lesser sites
abbrev pub key : {C V : Type 0} → Rules C V → List ℕ → Scope C → Test → Key
key R left sc (on_match s) =
    record { count = length (counted R (on_match s) left); state = state sc (on_match s); kind = 2; first = s; second = s }
key R left sc (on_equal a b) =
    record { count = length (counted R (on_equal a b) left); state = state sc (on_equal a b); kind = 1; first = a; second = b }
key R left sc (on_loop s) =
    record { count = length (counted R (on_loop s) left); state = state sc (on_loop s); kind = 0; first = s; second = s }

-- the first key isn't above the second
abbrev pub IsAtMost : Key → Key → Type 0
IsAtMost k j =
    (k.count < j.count) ⊎ ((k.count ≡ j.count) ×
    ((k.state < j.state) ⊎ ((k.state ≡ j.state) ×
    ((k.kind < j.kind) ⊎ ((k.kind ≡ j.kind) ×
    ((j.first < k.first) ⊎ ((j.first ≡ k.first) × (j.second ≤ k.second))))))))

-- the greatest available test
pub record IsBest {C V : Type 0} (R : Rules C V) (left : List ℕ) (sc : Scope C) (t : Test) : Type 0 where
  pub ready : IsReady R sc t
  pub useful : 0 < length (counted R t left)
  pub greatest : (u : Test) → IsReady R sc u → IsAtMost (key R left sc u) (key R left sc t)

abbrev pub HasNoTest : {C V : Type 0} → Rules C V → List ℕ → Scope C → Type 0
HasNoTest R left sc = (u : Test) → IsReady R sc u → length (counted R u left) ≡ 0

-- each is bound once, after what it is made of
abbrev pub IsOrder : {C V : Type 0} → Rules C V → Scope C → List ℕ → Type 0
IsOrder R sc [] = Unit {0}
IsOrder R sc (x ∷ xs) = (sc.emitted x ≡ false) × ((p : ℕ) → Elem p (R.parts x) → sc.emitted p ≡ true) × IsOrder R (emit sc x) xs

-- these sites and their parts are bound, and nothing else; sites that stand in no order are left out of it
pub record Binds {C V : Type 0} (R : Rules C V) (sc : Scope C) (sites binds : List ℕ) (after : Scope C) : Type 0 where
  pub all : List ℕ
  pub order : IsOrder R sc all
  pub only : (x : ℕ) → Elem x all → IsPartOf R sites x
  pub ending : after ≡ emit_all sc all
  pub bound : (x : ℕ) → Elem x sites → after.emitted x ≡ true
  pub written : binds ≡ filter R.stands all

abbrev pub own : {C V : Type 0} → Rules C V → ℕ → List ℕ
own R s = if R.stands s then s ∷ [] else []

-- these sites one after another, each after its parts
abbrev pub BindsEach : {C V : Type 0} → Rules C V → Scope C → List ℕ → List ℕ → Scope C → Type 0
BindsEach R sc [] binds after = (binds ≡ []) × (after ≡ sc)
BindsEach {C} R sc (u ∷ us) binds after =
    ((sc.emitted u ≡ true) × BindsEach R sc us binds after)
    ⊎ ((sc.emitted u ≡ false)
    × ((front rest : List ℕ) × (mid : Scope C) × Binds R sc (R.parts u) front mid × BindsEach R (emit mid u) us rest after
    × (binds ≡ front ++ (own R u ++ rest))))

-- the first of the rules left by descending priority, then by order
abbrev pub IsFirst : {C V : Type 0} → Rules C V → List ℕ → ℕ → Type 0
IsFirst R left i = Elem i left × ((j : ℕ) → Elem j left → (R.prio j <ℤ R.prio i) ⊎ ((R.prio j ≡ R.prio i) × (i ≤ j)))

abbrev pub without : ℕ → List ℕ → List ℕ
without i left = filter (λ j. not (j == i)) left

abbrev pub wanting : {C V : Type 0} → Rules C V → ℕ → C → List ℕ → List ℕ
wanting R s c left = filter (λ i. is_want R.tests (has c) (R.at i s)) left

abbrev pub not_wanting : {C V : Type 0} → Rules C V → ℕ → C → List ℕ → List ℕ
not_wanting R s c left = filter (λ i. not (is_want R.tests (has c) (R.at i s))) left

-- the least test that the rules want of the site
abbrev pub IsLeast : {C V : Type 0} → Rules C V → ℕ → List ℕ → C → Type 0
IsLeast {C} R s left c =
    ((i : ℕ) × Elem i left × (R.at i s ≡ Some (has c)))
    × ((i : ℕ) (d : C) → Elem i left → R.at i s ≡ Some (has d) → R.tests.at_most c d ≡ true)

-- the rules left return in order
abbrev pub Returns : {C V : Type 0} → Rules C V → List ℕ → Scope C → Steps C → Type 0
Returns R left sc done = left ≡ []
Returns R left sc («match» binds s arms next) = ⊥
Returns R left sc (equal binds a b body next) = ⊥
Returns R left sc (loop binds x body next) = ⊥
Returns {C} R left sc (give binds i next) =
    IsFirst R left i × ((after : Scope C) × BindsEach R sc (rights R i) binds after × Returns R (without i left) after next)

abbrev mutual
  -- the steps that rules left build under what the path knows
  pub Builds : {C V : Type 0} → Rules C V → List ℕ → Scope C → Steps C → Type 0
  Builds R left sc done = left ≡ []
  Builds R left sc (give binds i next) = HasNoTest R left sc × Returns R left sc (give binds i next)
  Builds {C} R left sc («match» binds s arms next) =
      IsBest R left sc (on_match s)
      × ((after : Scope C) × Binds R sc (s ∷ []) binds after
      × BuildsArms R (counted R (on_match s) left) after s arms
      × Builds R (others R (on_match s) left) after next)
  Builds {C} R left sc (equal binds a b body next) =
      IsBest R left sc (on_equal a b)
      × ((after : Scope C) × Binds R sc (a ∷ b ∷ []) binds after
      × Builds R (counted R (on_equal a b) left) (join after a b) body
      × Builds R (others R (on_equal a b) left) after next)
  Builds {C} R left sc (loop binds x body next) =
      (s : ℕ) × (R.value s ≡ Some x) × IsBest R left sc (on_loop s)
      × ((after : Scope C) × Binds R (release sc s) (s ∷ []) binds after
      × Builds R (counted R (on_loop s) left) (inside R after s one_value) body
      × Builds R (others R (on_loop s) left) (release after s) next)

  -- an arm for each test that a rule wants, in order, with the sites of its fields
  pub BuildsArms : {C V : Type 0} → Rules C V → List ℕ → Scope C → ℕ → Arms C → Type 0
  BuildsArms R left sc s no_arm = left ≡ []
  BuildsArms R left sc s (arm c bindings body more) =
      IsLeast R s left c × (bindings ≡ R.fields s c) × Builds R (wanting R s c left) (inside R sc s (has c)) body
      × BuildsArms R (not_wanting R s c left) sc s more

-- the rules of a term without multi calls, and a tree that they build
pub record IsTreeOf {C V : Type 0} (R : Rules C V) (left : List ℕ) (T : Steps C) : Type 0 where
  pub made : IsWellMade R
  pub single : IsSingle R
  pub no_multi : UsesNoMulti R left
  pub builds : Builds R left nothing_known T
