-- A machine's run reaches no more steps than the rules have constraints, and one for each rule.
use Rattle.std.proofs.Common.{◌≡◌, ◌≢◌, inl, inr, ℕ, zero, suc, ◌+◌, ◌<◌, ◌≤◌, not, Bool, true, List, [], ◌∷◌, Some, None, length, map, sum_by, sym, ◌∙◌, ap, arith}
use Rattle.std.proofs.lemmas.List.Sums.{sum_by-cons}
use Rattle.isle_trees.proofs.Basics.{none_or, counted_has, some_elem, has_length}
use Rattle.isle_trees.proofs.Path.{passed_bound, label_bound}
use Rattle.isle_trees.proofs.Weight.{fresh_small, first_weighs, bound_same, split_weighs, arm_weighs, join_weighs, fewer_weigh, sums_le}
use Rattle.isle_trees.specs.Builds.{wanting, not_wanting, Builds, BuildsArms}
use Rattle.isle_trees.specs.Counting.{total_constraints, steps_at_most, different, untested, unlearned, weight}
use Rattle.isle_trees.specs.Premises.{IsWellMade}
use Rattle.isle_trees.specs.Rules.{Rules, Elem, has}
use Rattle.isle_trees.specs.Scopes.{Scope, nothing_known, join, inside, is_want, on_match, on_equal, counted, others}
use Rattle.isle_trees.specs.Tree.{Steps, done, «match», equal, loop, give, Arms, no_arm, arm}
use Rattle.isle_meaning.specs.Held.{Held}
use Rattle.isle_meaning.specs.Laws.Machine.{MachineRunsAreShort}
use Rattle.isle_meaning.specs.Machine.Runs.{TermTree, Env, Runs, Going, nothing_bound, Goes, BindsRun, opened, Returns, StepsRun, ArmsRun}
use Rattle.isle_meaning.specs.Machine.Runs.{EqualRuns, Unmatched, MachineRun}
use Rattle.isle_meaning.specs.Machine.Trees.{HasTermTrees}
use Rattle.isle_meaning.specs.Outcomes.{Outcome, given, missing, ended}
use Rattle.isle_meaning.specs.Values.{Value, Values}
use Rattle.isle_meaning.specs.Words.{set}
use Rattle.isle_meaning.specs.Worlds.{CheckedProgram, Answers, Event}

-- labels are no more than what is labelled
few_labels : (f : ℕ → ℕ) (c : List ℕ) → different (map f c) ≤ length c
few_labels f [] = omega arith
few_labels f (x ∷ xs) = let p = few_labels f xs in let q = fresh_small (f x) (map f xs) in omega arith

-- untested sites are no more than sites
few_sites : {C : Type 0} (sc : Scope C) (xs : List ℕ) → sum_by (untested sc) xs ≤ length xs
few_sites sc [] = omega arith
few_sites sc (x ∷ xs) =
    let p = few_sites sc xs in
    let q : untested sc x ≤ 1 = elim (none_or (sc.passed x)) [ inl e ↦ rw e (omega arith) | inr e ↦ rw (e.1) (omega arith) ] in
    omega (arith, sum_by-cons (untested sc) x xs)

-- no more steps than this
abbrev Few : Going → ℕ → Type 0
Few g k = (m : ℕ) (trace : List Event) (r : Outcome Value) → g m trace r → m ≤ k

module _ {C : Type 0} (p : CheckedProgram) (w : Answers) (below : Runs) (b : TermTree C) (partial : Bool)
    (args : Values) (R : Rules C Held) (made : IsWellMade R) where
  -- sites that are bound
  binds_few : (binds : List ℕ) (env : Env) (next : Env → Going) (k : ℕ) → ((env : Env) → Few (next env) k)
      → Few (BindsRun p w below b.sites args env binds next) k
  binds_few [] env next k f m trace r run = f env m trace r run
  binds_few (x ∷ xs) env next k f m trace r (row, effects, rest, o, at, run, split, after) =
      go o after (λ h q. binds_few xs (set env x (Some h)) next k f m rest r q)
    where
      go : (o : Outcome Held) → Goes o (λ h. BindsRun p w below b.sites args (set env x (Some h)) xs next) m rest r
          → ((h : Held) → BindsRun p w below b.sites args (set env x (Some h)) xs next m rest r → m ≤ k) → m ≤ k
      go (given h) q f = f h q
      go missing q f = let e : m ≡ 0 = q.0 in omega arith
      go (ended e) q f = let e : m ≡ 0 = q.0 in omega arith

  -- so where one more step counts
  binds_more : (binds : List ℕ) (env : Env) (next : Env → Going) (k : ℕ) → 1 ≤ k
      → ((env : Env) (m : ℕ) (trace : List Event) (r : Outcome Value) → next env m trace r → m + 1 ≤ k)
      → (m : ℕ) (trace : List Event) (r : Outcome Value) → BindsRun p w below b.sites args env binds next m trace r → m + 1 ≤ k
  binds_more [] env next k one f m trace r run = f env m trace r run
  binds_more (x ∷ xs) env next k one f m trace r (row, effects, rest, o, at, run, split, after) =
      go o after (λ h q. binds_more xs (set env x (Some h)) next k one f m rest r q)
    where
      go : (o : Outcome Held) → Goes o (λ h. BindsRun p w below b.sites args (set env x (Some h)) xs next) m rest r
          → ((h : Held) → BindsRun p w below b.sites args (set env x (Some h)) xs next m rest r → m + 1 ≤ k) → m + 1 ≤ k
      go (given h) q f = f h q
      go missing q f = let e : m ≡ 0 = q.0 in omega arith
      go (ended e) q f = let e : m ≡ 0 = q.0 in omega arith

  -- some rule left weighs
  counted_some : (sc : Scope C) (left : List ℕ) → 0 < length left → (k : ℕ) → 1 ≤ weight R sc left + k
  counted_some sc left l k = let (i, m) = some_elem left l in let q = first_weighs R sc left i m in omega arith

  -- sites that are compared
  equal_few : (body : Steps C) (env : Env) (x y : ℕ) (other : Going) (a k : ℕ) → Few (StepsRun p w below b partial args env body other) (a + k)
      → Few other k
      → Few (EqualRuns b.sites args env x y (StepsRun p w below b partial args env body other) other) (a + k)
  equal_few body env x y other a k f g m trace r (h, j, rx, ry, inl (e, run)) = f m trace r run
  equal_few body env x y other a k f g m trace r (h, j, rx, ry, inr (n, run)) = let q = g m trace r run in omega arith

  -- the arms that follow one whose test fails
  more_few : (arms : Arms C) (left : List ℕ) (sc : Scope C) (s : ℕ) (c : C) (env : Env) (later : Going) (k : ℕ) (i : ℕ) → Elem i left → Few later k
      → (m : ℕ) (trace : List Event) (r : Outcome Value)
      → (0 < length (not_wanting R s c left) → ArmsRun p w below b partial args env s arms later m trace r
      → m + 1 ≤ weight R sc (not_wanting R s c left) + k)
      → BuildsArms R (not_wanting R s c left) sc s arms → ArmsRun p w below b partial args env s arms later m trace r → m + 1 ≤ weight R sc left + k
  more_few no_arm left sc s c env later k i n f m trace r h bu run = let q = f m trace r run in let one = first_weighs R sc left i n in omega arith
  more_few (arm d fields body arms) left sc s c env later k i n f m trace r h bu run =
      let q = h (has_length (not_wanting R s c left) (bu.0.0.0) (bu.0.0.1)) run in
      let l = fewer_weigh R sc (λ j. not (is_want R.tests (has c) (R.at j s))) left in
      omega arith

  -- the run of steps
  abbrev Run : Env → Steps C → Going → Going
  Run env T later = StepsRun p w below b partial args env T later

  mutual
    -- steps
    steps_few : (T : Steps C) (left : List ℕ) (sc : Scope C) (env : Env) (later : Going) (k : ℕ) → Builds R left sc T → Few later k
        → Few (Run env T later) (weight R sc left + k)
    steps_few done left sc env later k bu f m trace r run = let q = f m trace r run in omega arith
    steps_few (loop binds x body next) left sc env later k bu f m trace r run = absurd run
    steps_few (give binds i next) left sc env later k bu f m trace r (n, e, run) =
        let q : n ≤ 0 = binds_few binds env (λ env. Returns b.sites partial args env (b.result i)) 0
        (λ env m trace r a. let z : m ≡ 0 = a.2 in omega arith) n trace r run in
        let one = first_weighs R sc left i (bu.1.0.0) in
        omega arith
    steps_few («match» binds s arms next) left sc env later k (best, (aft, bs, inner, rest)) f m trace r (n, e, run) =
        let same : weight R aft left ≡ weight R sc left = rw bs.ending (bound_same R sc bs.all left) in
        let split = split_weighs R aft (on_match s) left in
        let clear : aft.passed s ≡ None = rw bs.ending (passed_bound sc bs.all s ∙ best.ready.1) in
        let k' : ℕ = weight R aft (others R (on_match s) left) + k in
        let q : n + 1 ≤ weight R aft (counted R (on_match s) left) + k' =
        binds_more binds env (λ env. ArmsRun p w below b partial args env s arms (Run env next later))
        (weight R aft (counted R (on_match s) left) + k')
        (counted_some aft (counted R (on_match s) left) best.useful k')
        (λ env m trace r a. arms_few arms (counted R (on_match s) left) aft s env (Run env next later) k' clear best.useful inner
        (steps_few next (others R (on_match s) left) aft env later k rest f) m trace r a) n trace r run in
        omega arith
    steps_few (equal binds x y body next) left sc env later k (best, (aft, bs, inner, rest)) f m trace r (n, e, run) =
        let same : weight R aft left ≡ weight R sc left = rw bs.ending (bound_same R sc bs.all left) in
        let split = split_weighs R aft (on_equal x y) left in
        let apart : aft.label x ≢ aft.label y = λ e. best.ready.5 (sym (label_bound sc bs.all x) ∙ rw bs.ending at e ∙ label_bound sc bs.all y) in
        let l : weight R (join aft x y) (counted R (on_equal x y) left) + 1 ≤ weight R aft (counted R (on_equal x y) left) =
        join_weighs R aft x y (counted R (on_equal x y) left) made.grouped apart (λ i m. (counted_has R (on_equal x y) left i m).1) best.useful in
        let k' : ℕ = weight R aft (others R (on_equal x y) left) + k in
        let q : n ≤ weight R (join aft x y) (counted R (on_equal x y) left) + k' =
        binds_few binds env (λ env. EqualRuns b.sites args env x y (Run env body (Run env next later)) (Run env next later))
        (weight R (join aft x y) (counted R (on_equal x y) left) + k')
        (λ env m trace r a. equal_few body env x y (Run env next later) (weight R (join aft x y) (counted R (on_equal x y) left)) k'
        (steps_few body (counted R (on_equal x y) left) (join aft x y) env (Run env next later) k' inner
        (steps_few next (others R (on_equal x y) left) aft env later k rest f))
        (steps_few next (others R (on_equal x y) left) aft env later k rest f) m trace r a) n trace r run in
        omega arith

    -- arms
    arms_few : (arms : Arms C) (left : List ℕ) (sc : Scope C) (s : ℕ) (env : Env) (later : Going) (k : ℕ) → sc.passed s ≡ None → 0 < length left
        → BuildsArms R left sc s arms → Few later k → (m : ℕ) (trace : List Event) (r : Outcome Value)
        → ArmsRun p w below b partial args env s arms later m trace r
        → m + 1 ≤ weight R sc left + k
    arms_few no_arm left sc s env later k clear some bu f m trace r run =
        absurd (let e : left ≡ [] = bu in let o : 0 < length left = some in let z : length left ≡ 0 = ap (λ (l : List ℕ). length l) e in omega arith)
    arms_few (arm c fields body arms) left sc s env later k clear some bu f m trace r (h, here, inl (meets, run)) =
        let q : weight R (inside R sc s (has c)) (wanting R s c left) + 1 ≤ weight R sc left =
        arm_weighs R sc s c left made.exact.same made.exact.same_self made.listed clear (bu.0.0.0) (bu.0.0.1) (bu.0.0.2) in
        let n = binds_few (opened fields) env (λ env. Run env body later) (weight R (inside R sc s (has c)) (wanting R s c left) + k)
        (λ env. steps_few body (wanting R s c left) (inside R sc s (has c)) env later k (bu.2) f) m trace r run in
        omega arith
    arms_few (arm c fields body arms) left sc s env later k clear some bu f m trace r (h, here, inr (fails, run)) =
        more_few arms left sc s c env later k (bu.0.0.0) (bu.0.0.1) f m trace r
        (λ l a. arms_few arms (not_wanting R s c left) sc s env later k clear l (bu.3) f m trace r a) (bu.3) run

-- what all the rules weigh
whole_few : {C : Type 0} (R : Rules C Held) (left : List ℕ) → weight R nothing_known left ≤ steps_at_most R left
whole_few {C} R left = sums_le (λ i. unlearned R nothing_known i + 1) (λ i. total_constraints R i + 1) left (λ i m.
    let x : sum_by (untested (nothing_known {C = C})) (R.demands i) ≤ length (R.demands i) = few_sites (nothing_known {C = C}) (R.demands i) in
    let y : sum_by (λ c. different (map (nothing_known {C = C}).label c)) (R.classes i) ≤ sum_by (λ c. length c) (R.classes i) =
    sums_le (λ c. different (map (nothing_known {C = C}).label c)) (λ c. length c) (R.classes i)
    (λ c n. few_labels (nothing_known {C = C}).label c) in
    omega arith)

-- A call reaches no more steps than its rules have constraints and sites made equal, and one for each rule.
pub machine_run_short : {C : Type 0} (p : CheckedProgram) (w : Answers) (R : ℕ → Type 0) (trees : ℕ → TermTree C) (H : HasTermTrees p R trees)
    (n t : ℕ) (args : Values) (steps : ℕ) (trace : List Event) (r : Outcome Value) (h : R t) → MachineRun p trees w n t args steps trace r
    → steps ≤ steps_at_most (H.of_term t h).set (H.of_term t h).left
machine_run_short p w R trees H zero t args steps trace r h run = let e : steps ≡ 0 = run.0 in omega arith
machine_run_short p w R trees H (suc n) t args steps trace r h run =
    let B = H.of_term t h in
    let q = steps_few p w (λ u vs effects q. (reached : ℕ) × MachineRun p trees w n u vs reached effects q)
    (trees t) (p.terms.partial t) args B.set B.tree.made
    (trees t).tree B.left nothing_known nothing_bound (Unmatched p t args) 0 B.tree.builds (λ m trace r u. let z : m ≡ 0 = u.0 in omega arith)
    steps trace r run in
    let l = whole_few B.set B.left in
    omega arith

pub machine_runs_are_short : {C : Type 0} → MachineRunsAreShort C
machine_runs_are_short p w runs trees H n t args steps trace r h run =
    machine_run_short p w (λ u. runs u ≡ true) trees H n t args steps trace r h run
