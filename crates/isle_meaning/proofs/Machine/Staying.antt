-- A run that isn't spent stays at every greater depth.
use Rattle.std.proofs.Common.{◌≡◌, ◌≢◌, inl, inr, ℕ, zero, suc, Bool, true, false, List, [], ◌∷◌, Some, None, ◌∙◌, ap, arith}
use Rattle.isle_trees.specs.Tree.{Steps, done, «match», equal, loop, give, Arms, no_arm, arm}
use Rattle.isle_meaning.specs.Asking.{Ended, spent}
use Rattle.isle_meaning.specs.Held.{Held, held_value}
use Rattle.isle_meaning.specs.Laws.Machine.{MachineRunsStay}
use Rattle.isle_meaning.specs.Machine.Runs.{TermTree, Env, Runs, Going, holding, option_if, RowRuns, Goes, BindsRun, opened, Returns}
use Rattle.isle_meaning.specs.Machine.Runs.{StepsRun, ArmsRun, EqualRuns, Unmatched, MachineRun}
use Rattle.isle_meaning.specs.Numbered.{Row, bool_row, int_row, prim_row, argument_row, extractor_row, constructor_row, iterator_row}
use Rattle.isle_meaning.specs.Numbered.{make_variant_row, match_variant_row, make_struct_row, extract_struct_row, make_some_row}
use Rattle.isle_meaning.specs.Numbered.{match_some_row, match_tuple_row}
use Rattle.isle_meaning.specs.Outcomes.{Outcome, given, missing, ended, ConstructsIf, EffectsIf}
use Rattle.isle_meaning.specs.Values.{Value, Values}
use Rattle.isle_meaning.specs.Words.{set}
use Rattle.isle_meaning.specs.Worlds.{CheckedProgram, Answers, Event}

-- a call that is spent holds nothing
spent_option : (partial : Bool) (g : Outcome Value) → g ≡ ended spent → option_if partial (holding held_value g) ≡ ended spent
spent_option true g e = ap (λ (x : Outcome Value). option_if true (holding held_value x)) e
spent_option false g e = ap (λ (x : Outcome Value). option_if false (holding held_value x)) e

-- what doesn't end spent is what comes of other runs too
abbrev Stays : Going → Going → Type 0
Stays g h = (m : ℕ) (trace : List Event) (r : Outcome Value) → r ≢ ended spent → g m trace r → h m trace r

module _ {C : Type 0} (p : CheckedProgram) (w : Answers) (below above : Runs) (b : TermTree C) (partial : Bool) (args : Values)
    (up : (u : ℕ) (vs : Values) (effects : List Event) (q : Outcome Value) → q ≢ ended spent → below u vs effects q → above u vs effects q) where
  -- a pure call
  pure_stays : (c : Bool) (u : ℕ) (vs : Values) (g : Outcome Value) → g ≢ ended spent → ConstructsIf p w below c u vs g
      → ConstructsIf p w above c u vs g
  pure_stays true u vs g n run = up u vs [] g n run
  pure_stays false u vs g n run = run

  -- an impure one
  impure_stays : (c : Bool) (u : ℕ) (vs : Values) (effects : List Event) (g : Outcome Value) → g ≢ ended spent → EffectsIf p below c u vs effects g
      → EffectsIf p above c u vs effects g
  impure_stays true u vs effects g n run = up u vs effects g n run
  impure_stays false u vs effects g n run = run

  -- a site
  row_stays : (env : Env) (row : Row) (effects : List Event) (o : Outcome Held) → o ≢ ended spent → RowRuns p w below b.sites args env row effects o
      → RowRuns p w above b.sites args env row effects o
  row_stays env (extractor_row u j) effects o n run = run
  row_stays env (constructor_row u js zero) effects o n (vs, g, e, run, m, q) =
      (vs, g, e, pure_stays (p.has_rules u) u vs g (λ s. n (q ∙ spent_option (p.terms.partial u) g s)) run, m, q)
  row_stays env (constructor_row u js (suc i)) effects o n (vs, g, e, run, q) =
      (vs, g, e, impure_stays (p.has_rules u) u vs effects g (λ s. n (q ∙ spent_option (p.terms.partial u) g s)) run, q)
  row_stays env (bool_row x ty) effects o n run = run
  row_stays env (int_row x ty) effects o n run = run
  row_stays env (prim_row x) effects o n run = run
  row_stays env (argument_row i) effects o n run = run
  row_stays env (iterator_row j) effects o n run = run
  row_stays env (make_variant_row ty k js) effects o n run = run
  row_stays env (match_variant_row j k i) effects o n run = run
  row_stays env (make_struct_row ty js) effects o n run = run
  row_stays env (extract_struct_row j i) effects o n run = run
  row_stays env (make_some_row j) effects o n run = run
  row_stays env (match_some_row j) effects o n run = run
  row_stays env (match_tuple_row j i) effects o n run = run

  -- sites in order
  binds_stay : (binds : List ℕ) (env : Env) (next further : Env → Going) → ((env : Env) → Stays (next env) (further env))
      → Stays (BindsRun p w below b.sites args env binds next) (BindsRun p w above b.sites args env binds further)
  binds_stay [] env next further f m trace r n run = f env m trace r n run
  binds_stay (x ∷ xs) env next further f m trace r n (row, effects, rest, o, at, run, split, after) = (
    row,
    effects,
    rest,
    o,
    at,
    row_stays env row effects o (not_spent o after) run,
    split,
    go o (λ h q. binds_stay xs (set env x (Some h)) next further f m rest r n q) after,
  )
    where
      not_spent : (o : Outcome Held) → Goes o (λ h. BindsRun p w below b.sites args (set env x (Some h)) xs next) m rest r → o ≢ ended spent
      not_spent (given h) q e = cc
      not_spent missing q e = cc
      not_spent (ended z) q e = let s : z ≡ spent = cc in n (q.2 ∙ ap (λ (y : Ended). ended y) s)

      go : (o : Outcome Held)
          → ((h : Held) → BindsRun p w below b.sites args (set env x (Some h)) xs next m rest r
          → BindsRun p w above b.sites args (set env x (Some h)) xs further m rest r)
          → Goes o (λ h. BindsRun p w below b.sites args (set env x (Some h)) xs next) m rest r
          → Goes o (λ h. BindsRun p w above b.sites args (set env x (Some h)) xs further) m rest r
      go (given h) f q = f h q
      go missing f q = q
      go (ended e) f q = q

  -- sites that are compared
  equal_stays : (env : Env) (x y : ℕ) (same same' other other' : Going) → Stays same same' → Stays other other'
      → Stays (EqualRuns b.sites args env x y same other) (EqualRuns b.sites args env x y same' other')
  equal_stays env x y same same' other other' f g m trace r n (h, j, rx, ry, inl (e, run)) = (h, j, rx, ry, inl (e, f m trace r n run))
  equal_stays env x y same same' other other' f g m trace r n (h, j, rx, ry, inr (e, run)) = (h, j, rx, ry, inr (e, g m trace r n run))

  mutual
    -- steps
    steps_stay : (T : Steps C) (env : Env) (later further : Going) → Stays later further
        → Stays (StepsRun p w below b partial args env T later) (StepsRun p w above b partial args env T further)
    steps_stay done env later further f m trace r n run = f m trace r n run
    steps_stay (loop binds x body next) env later further f m trace r n run = run
    steps_stay (give binds i next) env later further f m trace r n (k, e, run) = (
      k,
      e,
      binds_stay binds env (λ env. Returns b.sites partial args env (b.result i)) (λ env. Returns b.sites partial args env (b.result i))
          (λ env m trace r n a. a) k trace r n run,
    )
    steps_stay («match» binds s arms next) env later further f m trace r n (k, e, run) = (
      k,
      e,
      binds_stay binds env _ _ (λ env. arms_stay arms s env (StepsRun p w below b partial args env next later)
          (StepsRun p w above b partial args env next further)
          (steps_stay next env later further f)) k trace r n run,
    )
    steps_stay (equal binds x y body next) env later further f m trace r n (k, e, run) = (
      k,
      e,
      binds_stay binds env
          (λ env. EqualRuns b.sites args env x y (StepsRun p w below b partial args env body (StepsRun p w below b partial args env next later))
          (StepsRun p w below b partial args env next later))
          (λ env. EqualRuns b.sites args env x y (StepsRun p w above b partial args env body (StepsRun p w above b partial args env next further))
          (StepsRun p w above b partial args env next further))
          (λ env. equal_stays env x y _ _ _ _
          (steps_stay body env (StepsRun p w below b partial args env next later) (StepsRun p w above b partial args env next further)
          (steps_stay next env later further f))
          (steps_stay next env later further f)) k trace r n run,
    )

    -- arms
    arms_stay : (arms : Arms C) (s : ℕ) (env : Env) (later further : Going) → Stays later further
        → Stays (ArmsRun p w below b partial args env s arms later) (ArmsRun p w above b partial args env s arms further)
    arms_stay no_arm s env later further f m trace r n run = f m trace r n run
    arms_stay (arm c fields body arms) s env later further f m trace r n (h, here, inl (meets, run)) = (
      h,
      here,
      inl (
        meets,
        binds_stay (opened fields) env (λ env. StepsRun p w below b partial args env body later)
            (λ env. StepsRun p w above b partial args env body further)
            (λ env. steps_stay body env later further f) m trace r n run,
      ),
    )
    arms_stay (arm c fields body arms) s env later further f m trace r n (h, here, inr (fails, run)) =
        (h, here, inr (fails, arms_stay arms s env later further f m trace r n run))

-- A machine's run that isn't spent is the run at every greater depth.
pub machine_runs_stay : {C : Type 0} → MachineRunsStay C
machine_runs_stay p w trees zero m t args steps trace r less n run = absurd (n (run.2))
machine_runs_stay p w trees (suc k) zero t args steps trace r less n run = absurd (omega (arith, less))
machine_runs_stay p w trees (suc k) (suc m) t args steps trace r less n run =
    steps_stay p w (λ u vs effects q. (reached : ℕ) × MachineRun p trees w k u vs reached effects q)
    (λ u vs effects q. (reached : ℕ) × MachineRun p trees w m u vs reached effects q) (trees t) (p.terms.partial t) args
    (λ u vs effects q d a. (a.0, machine_runs_stay p w trees k m u vs (a.0) effects q (omega (arith, less)) d (a.1)))
    (trees t).tree (λ k. None) (Unmatched p t args) (Unmatched p t args) (λ m trace r n a. a) steps trace r n run
