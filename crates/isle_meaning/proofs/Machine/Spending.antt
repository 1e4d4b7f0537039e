-- Where no term reaches itself, no machine's run is spent at a depth of at least the number of terms with rules.
use Rattle.std.proofs.Common.{◌≡◌, inl, inr, ◌≤◌, ℕ, zero, suc, Bool, true, false, List, [], ◌∷◌, length, Some, slice_get}
use Rattle.std.proofs.Common.{Contains, refl, subst, arith}
use Rattle.isle_trees.specs.Tree.{Steps, done, «match», equal, loop, give, Arms, no_arm, arm}
use Rattle.isle_meaning.specs.Values.{Values}
use Rattle.isle_meaning.specs.Words.{set}
use Rattle.isle_meaning.specs.Held.{Held}
use Rattle.isle_meaning.specs.Numbered.{Row, bool_row, int_row, prim_row, argument_row, extractor_row, constructor_row, iterator_row}
use Rattle.isle_meaning.specs.Numbered.{make_variant_row, match_variant_row, make_struct_row, extract_struct_row, make_some_row}
use Rattle.isle_meaning.specs.Numbered.{match_some_row, match_tuple_row}
use Rattle.isle_meaning.specs.Worlds.{CheckedProgram, Answers, Event}
use Rattle.isle_meaning.specs.Asking.{Ended, spent}
use Rattle.isle_meaning.specs.Outcomes.{Outcome, given, missing, ended, WorldExtracts, ConstructsIf, EffectsIf, unmatched}
use Rattle.isle_meaning.specs.Reaching.{Calls, Reaches, at_once, onwards}
use Rattle.isle_meaning.specs.Laws.Machine.{NoMachineRunSpent}
use Rattle.isle_meaning.specs.SoundPrograms.{IsSound}
use Rattle.isle_meaning.specs.Machine.Runs.{TermTree, Env, nothing_bound, Runs, Going, made_of, read, RowRuns, Goes, BindsRun, opened}
use Rattle.isle_meaning.specs.Machine.Runs.{Returns, EqualRuns, StepsRun, ArmsRun, Unmatched, MachineRun}
use Rattle.isle_meaning.specs.Machine.Trees.{IsTermTree, HasTermTrees}
use Rattle.isle_meaning.proofs.Calls.Spending.{Has, contained, taken, pure_never, impure_never}
use Rattle.isle_meaning.proofs.Chains.WordEnds.{judged_ended}
use Rattle.isle_meaning.proofs.Machine.RowEnds.{ended_outputs, ended_answer, comes_never_ends, no_call_no_end}
use Rattle.isle_meaning.proofs.Machine.Bound.{AllAre, BindsOnly, ArmsBindOnly}
use Rattle.isle_meaning.proofs.Machine.Called.{IsCalled, tree_calls, its_call}

-- it isn't spent
abbrev NeverSpent : Going → Type 0
NeverSpent g = (m : ℕ) (trace : List Event) → g m trace (ended spent) → ⊥

module _ {C : Type 0} (p : CheckedProgram) (w : Answers) (R : ℕ → Type 0) (below : Runs) (t : ℕ) (args : Values) (b : TermTree C)
    (B : IsTermTree p R t b) (never : (u : ℕ) (vs : Values) (effects : List Event) → Calls p t u → R u → below u vs effects (ended spent) → ⊥) where
  -- a call that the term makes isn't spent
  called_never : (u : ℕ) (vs : Values) (effects : List Event) → ((p.has_rules u ≡ true) → Calls p t u × R u) → p.has_rules u ≡ true
      → below u vs effects (ended spent) → ⊥
  called_never u vs effects q ruled run = never u vs effects ((q ruled).0) ((q ruled).1) run

  -- a site that is bound
  row_never : (k : ℕ) (row : Row) (env : Env) (effects : List Event) → IsCalled p R t b B k → slice_get b.sites k ≡ Some row
      → RowRuns p w below b.sites args env row effects (ended spent) → ⊥
  row_never k row env effects (inr calm) at run = no_call_no_end p w below b.sites args env row effects spent (calm row at) run
  row_never k (extractor_row u j) env effects (inl its) at (v, g, e, run, m, is) =
      let world = subst (WorldExtracts p w u v) (ended_outputs (p.terms.infallible u) g spent is) run in
      let wrong = (judged_ended _ _ _ spent world.judged).1 in cc
  row_never k (constructor_row u js zero) env effects (inl its) at (vs, g, e, run, m, is) =
      pure_never p w below (λ u. (p.has_rules u ≡ true) → Calls p t u × R u) called_never (p.has_rules u) u vs refl
      (λ ruled. (its_call p R t b B k u zero js its at ruled, B.called k u zero js at ruled))
      (subst (ConstructsIf p w below (p.has_rules u) u vs) (ended_answer (p.terms.partial u) g spent is) run)
  row_never k (constructor_row u js (suc i)) env effects (inl its) at (vs, g, e, run, is) =
      impure_never p w below (λ u. (p.has_rules u ≡ true) → Calls p t u × R u) called_never (p.has_rules u) u vs effects refl
      (λ ruled. (its_call p R t b B k u (suc i) js its at ruled, B.called k u (suc i) js at ruled))
      (subst (EffectsIf p below (p.has_rules u) u vs effects) (ended_answer (p.terms.partial u) g spent is) run)
  row_never k (bool_row x ty) env effects (inl its) at (m, q) = comes_never_ends (made_of args (read b.sites args env) (bool_row x ty)) spent q
  row_never k (int_row x ty) env effects (inl its) at (m, q) = comes_never_ends (made_of args (read b.sites args env) (int_row x ty)) spent q
  row_never k (prim_row x) env effects (inl its) at (m, q) = comes_never_ends (made_of args (read b.sites args env) (prim_row x)) spent q
  row_never k (argument_row i) env effects (inl its) at (m, q) = comes_never_ends (made_of args (read b.sites args env) (argument_row i)) spent q
  row_never k (iterator_row j) env effects (inl its) at (m, q) = comes_never_ends (made_of args (read b.sites args env) (iterator_row j)) spent q
  row_never k (make_variant_row ty v js) env effects (inl its) at (m, q) =
      comes_never_ends (made_of args (read b.sites args env) (make_variant_row ty v js)) spent q
  row_never k (match_variant_row j v i) env effects (inl its) at (m, q) =
      comes_never_ends (made_of args (read b.sites args env) (match_variant_row j v i)) spent q
  row_never k (make_struct_row ty js) env effects (inl its) at (m, q) =
      comes_never_ends (made_of args (read b.sites args env) (make_struct_row ty js)) spent q
  row_never k (extract_struct_row j i) env effects (inl its) at (m, q) =
      comes_never_ends (made_of args (read b.sites args env) (extract_struct_row j i)) spent q
  row_never k (make_some_row j) env effects (inl its) at (m, q) = comes_never_ends (made_of args (read b.sites args env) (make_some_row j)) spent q
  row_never k (match_some_row j) env effects (inl its) at (m, q) = comes_never_ends (made_of args (read b.sites args env) (match_some_row j)) spent q
  row_never k (match_tuple_row j i) env effects (inl its) at (m, q) =
      comes_never_ends (made_of args (read b.sites args env) (match_tuple_row j i)) spent q

  -- sites that are bound
  binds_never : (binds : List ℕ) → AllAre (IsCalled p R t b B) binds → (env : Env) (next : Env → Going) → ((env : Env) → NeverSpent (next env))
      → NeverSpent (BindsRun p w below b.sites args env binds next)
  binds_never [] calls env next f m trace run = f env m trace run
  binds_never (k ∷ ks) calls env next f m trace (row, effects, rest, o, at, made, split, after) =
      go o made after (λ h q. binds_never ks (λ j n. calls j (inr n)) (set env k (Some h)) next f m rest q)
    where
      go : (o : Outcome Held) → RowRuns p w below b.sites args env row effects o
          → Goes o (λ h. BindsRun p w below b.sites args (set env k (Some h)) ks next) m rest (ended spent)
          → ((h : Held) → BindsRun p w below b.sites args (set env k (Some h)) ks next m rest (ended spent) → ⊥) → ⊥
      go (given h) made after f = f h after
      go missing made after f = let q : ended spent ≡ missing = after.2 in cc
      go (ended e) made after f =
          let q : ended spent ≡ ended e = after.2 in
          let s : e ≡ spent = cc in
          row_never k row env effects (calls k (inl refl)) at (subst (λ (x : Ended). RowRuns p w below b.sites args env row effects (ended x)) s made)

  -- sites that are compared
  equal_never : (env : Env) (x y : ℕ) (same other : Going) → NeverSpent same → NeverSpent other
      → NeverSpent (EqualRuns b.sites args env x y same other)
  equal_never env x y same other f g m trace (h, j, rx, ry, inl (e, run)) = f m trace run
  equal_never env x y same other f g m trace (h, j, rx, ry, inr (e, run)) = g m trace run

  -- steps of a tree
  abbrev Run : Env → Steps C → Going → Going
  Run env T later = StepsRun p w below b (p.terms.partial t) args env T later

  mutual
    -- steps of a tree
    steps_never : (T : Steps C) → BindsOnly (IsCalled p R t b B) T → (env : Env) (later : Going) → NeverSpent later → NeverSpent (Run env T later)
    steps_never done calls env later f m trace run = f m trace run
    steps_never (loop binds x body next) calls env later f m trace run = run
    steps_never (give binds i next) calls env later f m trace (k, e, run) =
        binds_never binds calls env (λ env. Returns b.sites (p.terms.partial t) args env (b.result i))
        (λ env m trace a. let q : ended spent ≡ given (a.0) = a.4 in cc) k trace run
    steps_never («match» binds s arms next) calls env later f m trace (k, e, run) =
        binds_never binds (calls.0) env (λ env. ArmsRun p w below b (p.terms.partial t) args env s arms (Run env next later))
        (λ env. arms_never arms s (calls.1) env (Run env next later) (steps_never next (calls.2) env later f)) k trace run
    steps_never (equal binds x y body next) calls env later f m trace (k, e, run) =
        binds_never binds (calls.0) env (λ env. EqualRuns b.sites args env x y (Run env body (Run env next later)) (Run env next later))
        (λ env. equal_never env x y (Run env body (Run env next later)) (Run env next later)
        (steps_never body (calls.1) env (Run env next later) (steps_never next (calls.2) env later f)) (steps_never next (calls.2) env later f))
        k trace run

    -- arms
    arms_never : (arms : Arms C) (s : ℕ) → ArmsBindOnly (IsCalled p R t b B) arms → (env : Env) (later : Going) → NeverSpent later
        → NeverSpent (ArmsRun p w below b (p.terms.partial t) args env s arms later)
    arms_never no_arm s calls env later f m trace run = f m trace run
    arms_never (arm c fields body arms) s calls env later f m trace (h, here, inl (meets, run)) =
        binds_never (opened fields) (calls.0) env (λ env. Run env body later) (λ env. steps_never body (calls.1) env later f) m trace run
    arms_never (arm c fields body arms) s calls env later f m trace (h, here, inr (left_out, run)) =
        arms_never arms s (calls.2) env later f m trace run

  -- Nor is the term's.
  pub tree_never : (m : ℕ) (trace : List Event)
      → StepsRun p w below b (p.terms.partial t) args nothing_bound b.tree (Unmatched p t args) m trace (ended spent) → ⊥
  tree_never = steps_never b.tree (tree_calls p R t b B) nothing_bound (Unmatched p t args) (λ m trace a. none_left (p.terms.partial t) (a.2))
    where
      none_left : (partial : Bool) → ended spent ≡ unmatched partial t args → ⊥
      none_left true e = cc
      none_left false e = cc

module _ {C : Type 0} (p : CheckedProgram) (w : Answers) (R : ℕ → Type 0) (trees : ℕ → TermTree C) (H : HasTermTrees p R trees)
    (acyclic : (t : ℕ) → Reaches p t t → ⊥) where
  -- a run at a depth of at least the number of terms that are reached
  spent_never : (n : ℕ) (terms : List ℕ) (t : ℕ) → length terms ≤ n → Has terms t → ((v : ℕ) → Reaches p t v → Has terms v)
      → (args : Values) (steps : ℕ) (trace : List Event) → R t → MachineRun p trees w n t args steps trace (ended spent) → ⊥
  spent_never zero [] t l has reached args steps trace runs run = has
  spent_never zero (x ∷ xs) t l has reached args steps trace runs run = omega (arith, l)
  spent_never (suc n) terms t l has reached args steps trace runs run =
      let (others, shorter, kept) = taken terms t has in
      tree_never p w R (λ u vs effects q. (reached : ℕ) × MachineRun p trees w n u vs reached effects q) t args (trees t) (H.of_term t runs)
      (λ u vs effects calls r a. spent_never n others u (omega (arith, l, shorter))
      (kept u (reached u (at_once calls)) (λ e. acyclic t (subst (Reaches p t) e (at_once calls))))
      (λ v h. kept v (reached v (onwards calls h)) (λ e. acyclic t (subst (Reaches p t) e (onwards calls h)))) vs (a.0) effects r (a.1))
      steps trace run

-- Where no term reaches itself, no machine's run is spent at a depth of at least the number of terms with rules.
pub never_spent : {C : Type 0} (p : CheckedProgram) (w : Answers) (R : ℕ → Type 0) (trees : ℕ → TermTree C) → IsSound p R → HasTermTrees p R trees
    → ((t : ℕ) → Reaches p t t → ⊥) → (terms : List ℕ) → ((t : ℕ) → p.has_rules t ≡ true → Contains terms t)
    → (n t : ℕ) (args : Values) (steps : ℕ) (trace : List Event) → length terms ≤ n → R t
    → MachineRun p trees w n t args steps trace (ended spent) → ⊥
never_spent p w R trees sound H acyclic terms all n t args steps trace l may run =
    spent_never p w R trees H acyclic n terms t l (contained terms t (all t (sound.ruled t may)))
    (λ v h. contained terms v (all v (reached_ruled t v h))) args steps trace may run
  where
    reached_ruled : (t v : ℕ) → Reaches p t v → p.has_rules v ≡ true
    reached_ruled t v (at_once h) = h.has_rules
    reached_ruled t v (onwards h k) = reached_ruled _ v k

pub no_machine_run_spent : {C : Type 0} → NoMachineRunSpent C
no_machine_run_spent p w runs trees sound H acyclic terms all n t args steps trace l may run =
    never_spent p w (λ u. runs u ≡ true) trees sound H acyclic terms all n t args steps trace l may run
