-- How many steps a walk reaches, and what the rules left have still to learn.
use Rattle.std.specs.Prelude.{ℕ, ◌+◌, ◌==◌, List, [], ◌∷◌, is_some, if◌then◌else◌, length, map, sum_by}
use Rattle.std.specs.List.{list_any}
use Rattle.isle_trees.specs.Answers.{Answers}
use Rattle.isle_trees.specs.Tree.{Steps, done, «match», equal, loop, give, Arms, no_arm, arm}
use Rattle.isle_trees.specs.Rules.{Rules, passes_got, alike_got}
use Rattle.isle_trees.specs.Scopes.{Scope}
use Rattle.isle_trees.specs.Walk.{Bound, goes, opens, breaks, Outcome, chooses, ends, waits, stops, bind, walk, walk_arms}

-- the sites of which a rule wants something, and those in its classes
abbrev pub total_constraints : {C V : Type 0} → Rules C V → ℕ → ℕ
total_constraints R i = length (R.demands i) + sum_by length (R.classes i)

abbrev pub steps_at_most : {C V : Type 0} → Rules C V → List ℕ → ℕ
steps_at_most R left = sum_by (λ i. total_constraints R i + 1) left

-- 0 where the list has the number, else 1
abbrev pub fresh : ℕ → List ℕ → ℕ
fresh x xs = if list_any (λ y. y == x) xs then 0 else 1

-- how many different numbers a list has
abbrev pub different : List ℕ → ℕ
different [] = 0
different (x ∷ xs) = fresh x xs + different xs

abbrev pub untested : {C : Type 0} → Scope C → ℕ → ℕ
untested sc s = if is_some (sc.passed s) then 0 else 1

-- what a rule has still to learn: its sites that aren't tested, and in each class the labels
abbrev pub unlearned : {C V : Type 0} → Rules C V → Scope C → ℕ → ℕ
unlearned R sc i = sum_by (untested sc) (R.demands i) + sum_by (λ c. different (map sc.label c)) (R.classes i)

-- what falls with each test
abbrev pub weight : {C V : Type 0} → Rules C V → Scope C → List ℕ → ℕ
weight R sc left = sum_by (λ i. unlearned R sc i + 1) left

-- what follows counts only where the walk goes on
abbrev pub after : Outcome → ℕ → ℕ
after (chooses i b e) n = 0
after ends n = n
after (waits s) n = 0
after stops n = 0

abbrev pub if_bound : Bound → ℕ → ℕ
if_bound goes n = n
if_bound (opens s) n = 0
if_bound breaks n = 0

abbrev mutual
  -- how many steps a walk reaches
  pub reached : {C V : Type 0} → Rules C V → Answers V → Steps C → ℕ
  reached R v done = 0
  reached R v («match» binds s arms next) =
      1 + if_bound (bind v binds) (reached_arms R v s arms + after (walk_arms R v s arms) (reached R v next))
  reached R v (equal binds a b body next) =
      1 + if_bound (bind v binds) ((if alike_got R (v a) (v b) then reached R v body else 0)
      + after (if alike_got R (v a) (v b) then walk R v body else ends) (reached R v next))
  reached R v (loop binds x body next) = 1
  reached R v (give binds i next) = 1

  pub reached_arms : {C V : Type 0} → Rules C V → Answers V → ℕ → Arms C → ℕ
  reached_arms R v s no_arm = 0
  reached_arms R v s (arm c bindings body more) = if passes_got R c (v s) then reached R v body else reached_arms R v s more
