-- The bag of a `multi` term, and the walk that makes rounds.
use Rattle.std.specs.Prelude.{◌≡◌, ◌≢◌, ℕ, ◌<◌, ◌==◌, ◌++◌, List, [], ◌∷◌, Bool, true, Option, Some, None, if◌then◌else◌, map, sum_by}
use Rattle.std.specs.List.{filter, flat_map}
use Rattle.isle_trees.specs.Got.{unknown}
use Rattle.isle_trees.specs.Answers.{Answers, all_have}
use Rattle.isle_trees.specs.Tree.{Steps, done, «match», equal, loop, give, Arms, no_arm, arm}
use Rattle.isle_trees.specs.Rules.{one_value, Source, Rules, Elem, Used, passes_got, alike_got, Matches}
use Rattle.isle_trees.specs.Premises.{Respects}

-- the value taken from each multi call
abbrev pub Picks : Type 0 → Type 0
Picks V = ℕ → V

abbrev pub pick : {V : Type 0} → Picks V → ℕ → V → Picks V
pick h s c = λ x. if x == s then c else h x

-- which values may be taken, what each site is where they are, and what each multi call lists
pub record Model (V : Type 0) : Type 0 where
  pub fits : Picks V → Bool
  pub values : Picks V → Answers V
  pub many : Picks V → ℕ → List V

-- calls are functions of what their parts are
pub record IsModel {C V : Type 0} (R : Rules C V) (M : Model V) : Type 0 where
  pub respects : (h : Picks V) → M.fits h ≡ true → Respects R (M.values h)
  pub answered : (h : Picks V) → M.fits h ≡ true → (s : ℕ) → M.values h s ≢ unknown
  pub taken : (h : Picks V) (s : ℕ) (c : V) → M.fits h ≡ true → Elem c (M.many h s) → M.fits (pick h s c) ≡ true
  pub by_parts : (h g : Picks V) (s : ℕ) → ((p : ℕ) → Elem p (R.parts s) → M.values h p ≡ M.values g p)
      → ((m : Source C) → R.made s ≡ Some m → m.want ≡ one_value → h m.site ≡ g m.site) → M.values h s ≡ M.values g s
  pub many_by_parts : (h g : Picks V) (s : ℕ) → ((p : ℕ) → Elem p (R.parts s) → M.values h p ≡ M.values g p) → M.many h s ≡ M.many g s

abbrev pub IsAscending : List ℕ → Type 0
IsAscending [] = Unit {0}
IsAscending (x ∷ xs) = ((y : ℕ) → Elem y xs → x < y) × IsAscending xs

-- the rules of a `multi` term: no priorities, no content without its test, and their multi calls are listed
pub record IsMany {C V : Type 0} (R : Rules C V) : Type 0 where
  pub even : (i j : ℕ) → R.prio i ≡ R.prio j
  pub tested : (i s : ℕ) (m : Source C) → Used R i s → R.made s ≡ Some m → R.at i m.site ≡ Some m.want
  pub looped : (i s : ℕ) → Elem s (R.loops i) → R.at i s ≡ Some one_value
  pub all_looped : (i s : ℕ) → R.at i s ≡ Some one_value → Elem s (R.loops i)
  pub ascending : (i : ℕ) → IsAscending (R.loops i)

-- tells whether a rule matches
pub record Tells {C V : Type 0} (R : Rules C V) (M : Model V) (d : Picks V → ℕ → Bool) : Type 0 where
  pub sound : (h : Picks V) (i : ℕ) → d h i ≡ true → Matches R (M.values h) i
  pub full : (h : Picks V) (i : ℕ) → Matches R (M.values h) i → d h i ≡ true

-- what a round answers
pub data Round (V : Type 0) : Type 0 where
  gave : ℕ → Picks V → Round V
  stopped : Round V

-- each way to take one value from each of these multi calls
abbrev pub ways : {V : Type 0} → Model V → List ℕ → Picks V → List (Picks V)
ways M [] h = h ∷ []
ways M (s ∷ ss) h = flat_map (λ c. ways M ss (pick h s c)) (M.many h s)

-- one answer for each way in which the rule matches
abbrev pub answers : {C V : Type 0} → Rules C V → Model V → (Picks V → ℕ → Bool) → Picks V → ℕ → List (Round V)
answers R M d h i = map (gave i) (filter (λ g. d g i) (ways M (R.loops i) h))

abbrev pub bag : {C V : Type 0} → Rules C V → Model V → (Picks V → ℕ → Bool) → Picks V → List ℕ → List (Round V)
bag R M d h left = flat_map (answers R M d h) left

-- the same items, each as often, in any order
abbrev pub IsSameBag : {A : Type 0} → List A → List A → Type 0
IsSameBag {A} xs ys = (f : A → ℕ) → sum_by f xs ≡ sum_by f ys

abbrev pub source_of : {C : Type 0} → Option (Source C) → ℕ
source_of None = 0
source_of (Some m) = m.site

abbrev mutual
  -- a loop enters its body once for each value, and a return goes on
  pub walk_all : {C V : Type 0} → Rules C V → Model V → Steps C → Picks V → List (Round V)
  walk_all R M done h = []
  walk_all R M («match» binds s arms next) h =
      if all_have (M.values h) binds then walk_all_arms R M s arms h ++ walk_all R M next h else stopped ∷ []
  walk_all R M (equal binds a b body next) h =
      if all_have (M.values h) binds
      then (if alike_got R (M.values h a) (M.values h b) then walk_all R M body h else []) ++ walk_all R M next h
      else stopped ∷ []
  walk_all R M (loop binds x body next) h =
      if all_have (M.values h) binds
      then flat_map (λ c. walk_all R M body (pick h (source_of (R.made x)) c)) (M.many h (source_of (R.made x))) ++ walk_all R M next h
      else stopped ∷ []
  walk_all R M (give binds i next) h = if all_have (M.values h) binds then gave i h ∷ walk_all R M next h else stopped ∷ []

  pub walk_all_arms : {C V : Type 0} → Rules C V → Model V → ℕ → Arms C → Picks V → List (Round V)
  walk_all_arms R M s no_arm h = []
  walk_all_arms R M s (arm c bindings body more) h =
      if passes_got R c (M.values h s) then walk_all R M body h else walk_all_arms R M s more h
