-- A machine that keeps the values that it bound, and asks for nothing else.
use Rattle.std.specs.Prelude.{◌≡◌, ℕ, zero, suc, ◌==◌, ◌++◌, List, [], ◌∷◌, Option, Some, None, if◌then◌else◌}
use Rattle.isle_trees.specs.Got.{Got, unknown, fails, gives}
use Rattle.isle_trees.specs.Answers.{Answers, has_value}
use Rattle.isle_trees.specs.Tree.{Steps, done, «match», equal, loop, give, Arms, no_arm, arm}
use Rattle.isle_trees.specs.Rules.{Rules, passes_got, alike_got}
use Rattle.isle_trees.specs.Walk.{Bound, goes, Outcome, chooses, ends, stops, bound, bound_then, after_bound, and_then, call}

-- what a site is, where its parts have these values: a call's answer, made data, a field
abbrev pub Makes : Type 0 → Type 0
Makes V = ℕ → List V → Got V

abbrev pub Env : Type 0 → Type 0
Env V = ℕ → Option V

abbrev pub both_of : {V : Type 0} → Got V → Option (List V) → Option (List V)
both_of unknown o = None
both_of fails o = None
both_of (gives x) None = None
both_of (gives x) (Some xs) = Some (x ∷ xs)

abbrev pub gather : {V : Type 0} → (ℕ → Got V) → List ℕ → Option (List V)
gather f [] = Some []
gather f (p ∷ ps) = both_of (f p) (gather f ps)

abbrev pub apply : {V : Type 0} → Makes V → ℕ → Option (List V) → Got V
apply makes s None = unknown
apply makes s (Some xs) = makes s xs

abbrev pub read_or : {V : Type 0} → Option V → Got V → Got V
read_or (Some x) g = gives x
read_or None g = g

-- what is bound, or computed where it is used
abbrev pub read : {C V : Type 0} → Rules C V → Makes V → Env V → ℕ → ℕ → Got V
read R makes env zero s = unknown
read R makes env (suc n) s = read_or (env s) (if R.stands s then unknown else apply makes s (gather (read R makes env n) (R.parts s)))

abbrev pub value_in : {C V : Type 0} → Rules C V → Makes V → Env V → ℕ → Got V
value_in R makes env s = read R makes env (suc s) s

abbrev pub made_in : {C V : Type 0} → Rules C V → Makes V → Env V → ℕ → Got V
made_in R makes env x = apply makes x (gather (value_in R makes env) (R.parts x))

abbrev pub put : {V : Type 0} → Env V → ℕ → Got V → Env V
put env x unknown = env
put env x fails = env
put env x (gives y) = λ z. if z == x then Some y else env z

abbrev pub bound_by : {C V : Type 0} → Rules C V → Makes V → Env V → List ℕ → Bound
bound_by R makes env [] = goes
bound_by R makes env (x ∷ xs) = bound_then (bound x (made_in R makes env x)) (bound_by R makes (put env x (made_in R makes env x)) xs)

abbrev pub env_after : {C V : Type 0} → Rules C V → Makes V → Env V → List ℕ → Env V
env_after R makes env [] = env
env_after R makes env (x ∷ xs) = env_after R makes (put env x (made_in R makes env x)) xs

abbrev pub env_fields : {C V : Type 0} → Rules C V → Makes V → Env V → List (Option ℕ) → Env V
env_fields R makes env [] = env
env_fields R makes env (None ∷ xs) = env_fields R makes env xs
env_fields R makes env (Some x ∷ xs) = env_fields R makes (put env x (made_in R makes env x)) xs

abbrev pub events_by : {C V : Type 0} → Rules C V → Makes V → Env V → List ℕ → List ℕ
events_by R makes env [] = []
events_by R makes env (x ∷ xs) =
    call R x ++ (if has_value (made_in R makes env x) then events_by R makes (put env x (made_in R makes env x)) xs else [])

abbrev mutual
  pub run : {C V : Type 0} → Rules C V → Makes V → Steps C → Env V → Outcome
  run R makes done env = ends
  run R makes («match» binds s arms next) env =
      after_bound (bound_by R makes env binds)
      (and_then (run_arms R makes s arms (env_after R makes env binds)) (run R makes next (env_after R makes env binds)))
  run R makes (equal binds a b body next) env =
      after_bound (bound_by R makes env binds)
      (and_then (if alike_got R (value_in R makes (env_after R makes env binds) a) (value_in R makes (env_after R makes env binds) b)
      then run R makes body (env_after R makes env binds) else ends)
      (run R makes next (env_after R makes env binds)))
  run R makes (loop binds x body next) env = stops
  run R makes (give binds i next) env = chooses i (bound_by R makes env binds) (events_by R makes env binds)

  pub run_arms : {C V : Type 0} → Rules C V → Makes V → ℕ → Arms C → Env V → Outcome
  run_arms R makes s no_arm env = ends
  run_arms R makes s (arm c bindings body more) env =
      if passes_got R c (value_in R makes env s) then run R makes body (env_fields R makes env bindings) else run_arms R makes s more env

-- these are the values of the sites
abbrev pub AreValues : {V : Type 0} → Answers V → List ℕ → List V → Type 0
AreValues v [] [] = Unit {0}
AreValues v [] (x ∷ xs) = ⊥
AreValues v (p ∷ ps) [] = ⊥
AreValues v (p ∷ ps) (x ∷ xs) = (v p ≡ gives x) × AreValues v ps xs

-- the answers are what the sites make of their parts
pub record IsMadeBy {C V : Type 0} (R : Rules C V) (makes : Makes V) (v : Answers V) : Type 0 where
  pub of_parts : (s : ℕ) (xs : List V) → AreValues v (R.parts s) xs → v s ≡ makes s xs
