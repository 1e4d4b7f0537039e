-- A walk of a block for given answers.
use Rattle.std.specs.Prelude.{ℕ, ◌++◌, List, [], ◌∷◌, if◌then◌else◌}
use Rattle.isle_trees.specs.Got.{Got, unknown, fails, gives}
use Rattle.isle_trees.specs.Answers.{Answers, has_value}
use Rattle.isle_trees.specs.Tree.{Steps, done, «match», equal, loop, give, Arms, no_arm, arm}
use Rattle.isle_trees.specs.Rules.{Rules, passes_got, alike_got}

-- how binding ends: each site has a value, or the first without is not answered, or fails
pub data Bound : Type 0 where
  goes : Bound
  opens : ℕ → Bound
  breaks : Bound

pub data Outcome : Type 0 where
  -- a rule is chosen; how its right side ends, and the impure calls made
  chooses : ℕ → Bound → List ℕ → Outcome
  -- the block ends without a return
  ends : Outcome
  -- before a choice: a site isn't answered
  waits : ℕ → Outcome
  -- before a choice: a site is bound that fails, or a loop is met
  stops : Outcome

abbrev pub bound_then : Bound → Bound → Bound
bound_then goes o = o
bound_then (opens s) o = opens s
bound_then breaks o = breaks

abbrev pub bound : {V : Type 0} → ℕ → Got V → Bound
bound s unknown = opens s
bound s fails = breaks
bound s (gives x) = goes

abbrev pub bind : {V : Type 0} → Answers V → List ℕ → Bound
bind v [] = goes
bind v (s ∷ ss) = bound_then (bound s (v s)) (bind v ss)

-- the site, where it is an impure call
abbrev pub call : {C V : Type 0} → Rules C V → ℕ → List ℕ
call R s = if R.effect s then s ∷ [] else []

-- the impure calls among what is bound, up to the first site without a value
abbrev pub events : {C V : Type 0} → Rules C V → Answers V → List ℕ → List ℕ
events R v [] = []
events R v (s ∷ ss) = call R s ++ (if has_value (v s) then events R v ss else [])

abbrev pub and_then : Outcome → Outcome → Outcome
and_then (chooses i b e) o = chooses i b e
and_then ends o = o
and_then (waits s) o = waits s
and_then stops o = stops

abbrev pub after_bound : Bound → Outcome → Outcome
after_bound goes o = o
after_bound (opens s) o = waits s
after_bound breaks o = stops

abbrev mutual
  pub walk : {C V : Type 0} → Rules C V → Answers V → Steps C → Outcome
  walk R v done = ends
  walk R v («match» binds s arms next) = after_bound (bind v binds) (and_then (walk_arms R v s arms) (walk R v next))
  walk R v (equal binds a b body next) =
      after_bound (bind v binds) (and_then (if alike_got R (v a) (v b) then walk R v body else ends) (walk R v next))
  walk R v (loop binds x body next) = stops
  walk R v (give binds i next) = chooses i (bind v binds) (events R v binds)

  pub walk_arms : {C V : Type 0} → Rules C V → Answers V → ℕ → Arms C → Outcome
  walk_arms R v s no_arm = ends
  walk_arms R v s (arm c bindings body more) = if passes_got R c (v s) then walk R v body else walk_arms R v s more
