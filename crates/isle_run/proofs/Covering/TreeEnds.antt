-- Where a run by a term's tree ends unanswered: at a call of the term on arguments of its types, at an answer that isn't allowed, or as stuck.
use Rattle.std.proofs.Common.{◌≡◌, inl, inr, ℕ, zero, suc, Bool, true, false, List, [], ◌∷◌, Some, slice_get, refl, sym, subst}
use Rattle.isle_trees.specs.Tree.{Steps, done, «match», equal, loop, give, Arms, no_arm, arm}
use Rattle.isle_meaning.specs.Asking.{Asked, Ended, stuck, ill_typed, asks_value, asks_outputs}
use Rattle.isle_meaning.specs.GroundValues.{AreValuesOf}
use Rattle.isle_meaning.specs.Held.{Held}
use Rattle.isle_meaning.specs.Inside.TypedWords.{GivesTyped}
use Rattle.isle_meaning.specs.Machine.Runs.{TermTree, Env, nothing_bound, Runs, Going, made_of, read, RowRuns, Goes, BindsRun, opened}
use Rattle.isle_meaning.specs.Machine.Runs.{Returns, EqualRuns, StepsRun, ArmsRun, Unmatched}
use Rattle.isle_meaning.specs.Machine.Trees.{IsTermTree}
use Rattle.isle_meaning.specs.Numbered.{Row, bool_row, int_row, prim_row, argument_row, extractor_row, constructor_row, iterator_row}
use Rattle.isle_meaning.specs.Numbered.{make_variant_row, match_variant_row, make_struct_row, extract_struct_row, make_some_row}
use Rattle.isle_meaning.specs.Numbered.{match_some_row, match_tuple_row}
use Rattle.isle_meaning.specs.Outcomes.{Outcome, given, missing, ended, WorldExtracts, ConstructsIf, EffectsIf, unmatched}
use Rattle.isle_meaning.specs.Reaching.{IsCalledInRule, Calls}
use Rattle.isle_meaning.specs.SoundPrograms.{IsSound}
use Rattle.isle_meaning.specs.Values.{Value, Values}
use Rattle.isle_meaning.specs.Words.{set}
use Rattle.isle_meaning.specs.Worlds.{CheckedProgram, Answers, Event}
use Rattle.isle_meaning.proofs.Chains.Subtrees.{whole}
use Rattle.isle_meaning.proofs.Chains.WordEnds.{judged_ended}
use Rattle.isle_meaning.proofs.Machine.Bound.{AllAre, BindsOnly, ArmsBindOnly}
use Rattle.isle_meaning.proofs.Machine.Called.{IsOfThese, IsRules, IsCalled, tree_calls}
use Rattle.isle_meaning.proofs.Machine.RowEnds.{ended_outputs, ended_answer, comes_never_ends, no_call_no_end}
use Rattle.isle_meaning.proofs.Machine.Rows.{IsTypedEnv, nothing_typed, row_typed, set_typed, call_typed}
use Rattle.isle_run.specs.Laws.Coverage.{WritesCall}

-- a call that a rule of a term may make of the world
abbrev pub IsAskedIn : CheckedProgram → ℕ → Asked → Type 0
IsAskedIn p t (asks_value u vs) = WritesCall p t u
IsAskedIn p t (asks_outputs u v) = Unit {0}

-- a term with rules that is called
pub ruled_call : (p : CheckedProgram) (t u : ℕ) → WritesCall p t u → p.has_rules u ≡ true → Calls p t u
ruled_call p t u h ruled = record { place = h.place; rule = h.rule; at = h.at; called = h.called; has_rules = ruled }

-- What is said of the ends of calls one depth lower: of those of a term on arguments of their types, each of which it calls.
abbrev pub EndsOfCalls : CheckedProgram → (ℕ → Type 0) → (ℕ → Values → List Event → Outcome Value → Type 0) → ℕ → (Ended → Type 0) → Type 0
EndsOfCalls p R below t Q = (u : ℕ) (vs : Values) (effects : List Event) (e : Ended) → Calls p t u → R u
    → AreValuesOf p.values vs (p.terms.inputs u) → below u vs effects (ended e) → Q e

module _ {C : Type 0} (p : CheckedProgram) (w : Answers) (R : ℕ → Type 0) (sound : IsSound p R) (below : Runs) (gives_typed : GivesTyped p R below)
    (t : ℕ) (args : Values) (args_typed : AreValuesOf p.values args (p.terms.inputs t)) (b : TermTree C) (B : IsTermTree p R t b)
    (Q : Ended → Type 0) (ends : EndsOfCalls p R below t Q) (wrong : (q : Asked) → IsAskedIn p t q → Q (ill_typed q)) where
  -- what is bound is of its site's sort
  abbrev Typed : Env → Type 0
  Typed env = IsTypedEnv p w R sound below gives_typed t args args_typed b B env

  -- where it ends unanswered, this holds of the end
  abbrev Ends : Going → Type 0
  Ends g = (m : ℕ) (trace : List Event) (e : Ended) → g m trace (ended e) → Q e

  -- a pure call
  pure_ends : (c : Bool) (u : ℕ) (vs : Values) (e : Ended) → p.has_rules u ≡ c → WritesCall p t u
      → (p.has_rules u ≡ true → R u) → AreValuesOf p.values vs (p.terms.inputs u) → ConstructsIf p w below c u vs (ended e) → Q e
  pure_ends true u vs e is called runs typed run = ends u vs [] e (ruled_call p t u called is) (runs is) typed run
  pure_ends false u vs e is called runs typed run =
      subst Q (sym ((judged_ended _ _ (asks_value u vs) e run.judged).1)) (wrong (asks_value u vs) called)

  -- an impure one
  impure_ends : (c : Bool) (u : ℕ) (vs : Values) (effects : List Event) (e : Ended) → p.has_rules u ≡ c → WritesCall p t u
      → (p.has_rules u ≡ true → R u) → AreValuesOf p.values vs (p.terms.inputs u) → EffectsIf p below c u vs effects (ended e) → Q e
  impure_ends true u vs effects e is called runs typed run = ends u vs effects e (ruled_call p t u called is) (runs is) typed run
  impure_ends false u vs effects e is called runs typed run =
      subst Q (sym ((judged_ended _ _ (asks_value u vs) e run.judged).1)) (wrong (asks_value u vs) called)

  -- an extractor's call
  extract_ends : (u : ℕ) (v : Value) (e : Ended) → WorldExtracts p w u v (ended e) → Q e
  extract_ends u v e run = subst Q (sym ((judged_ended _ _ (asks_outputs u v) e run.judged).1)) (wrong (asks_outputs u v) tt)

  -- a call of a site of a rule is one of the term
  row_call : (k u i : ℕ) (js : List ℕ) → IsRules p R t b B k → slice_get b.sites k ≡ Some (constructor_row u js i) → WritesCall p t u
  row_call k u i js (n, m, h) at = record {
    place = B.place n;
    rule = B.rule n;
    at = B.listed n m;
    called = subst (IsOfThese (IsCalledInRule p.terms (B.rule n))) (B.sited k (constructor_row u js i) at) (h (B.site k) (whole (B.site k)));
  }

  -- a site that is bound
  row_ends : (k : ℕ) (row : Row) (env : Env) (effects : List Event) (e : Ended) → IsCalled p R t b B k → slice_get b.sites k ≡ Some row → Typed env
      → RowRuns p w below b.sites args env row effects (ended e) → Q e
  row_ends k row env effects e (inr calm) at typed run = absurd (no_call_no_end p w below b.sites args env row effects e (calm row at) run)
  row_ends k (extractor_row u j) env effects e (inl its) at typed (v, g, r, run, m, is) =
      extract_ends u v e (subst (WorldExtracts p w u v) (ended_outputs (p.terms.infallible u) g e is) run)
  row_ends k (constructor_row u js zero) env effects e (inl its) at typed (vs, g, r, run, m, is) =
      pure_ends (p.has_rules u) u vs e refl (row_call k u zero js its at) (B.called k u zero js at)
      (call_typed p w R sound below gives_typed t args args_typed b B env k u zero js vs typed at r)
      (subst (ConstructsIf p w below (p.has_rules u) u vs) (ended_answer (p.terms.partial u) g e is) run)
  row_ends k (constructor_row u js (suc i)) env effects e (inl its) at typed (vs, g, r, run, is) =
      impure_ends (p.has_rules u) u vs effects e refl (row_call k u (suc i) js its at) (B.called k u (suc i) js at)
      (call_typed p w R sound below gives_typed t args args_typed b B env k u (suc i) js vs typed at r)
      (subst (EffectsIf p below (p.has_rules u) u vs effects) (ended_answer (p.terms.partial u) g e is) run)
  row_ends k (bool_row x ty) env effects e (inl its) at typed (m, q) =
      absurd (comes_never_ends (made_of args (read b.sites args env) (bool_row x ty)) e q)
  row_ends k (int_row x ty) env effects e (inl its) at typed (m, q) =
      absurd (comes_never_ends (made_of args (read b.sites args env) (int_row x ty)) e q)
  row_ends k (prim_row x) env effects e (inl its) at typed (m, q) =
      absurd (comes_never_ends (made_of args (read b.sites args env) (prim_row x)) e q)
  row_ends k (argument_row i) env effects e (inl its) at typed (m, q) =
      absurd (comes_never_ends (made_of args (read b.sites args env) (argument_row i)) e q)
  row_ends k (iterator_row j) env effects e (inl its) at typed (m, q) =
      absurd (comes_never_ends (made_of args (read b.sites args env) (iterator_row j)) e q)
  row_ends k (make_variant_row ty v js) env effects e (inl its) at typed (m, q) =
      absurd (comes_never_ends (made_of args (read b.sites args env) (make_variant_row ty v js)) e q)
  row_ends k (match_variant_row j v i) env effects e (inl its) at typed (m, q) =
      absurd (comes_never_ends (made_of args (read b.sites args env) (match_variant_row j v i)) e q)
  row_ends k (make_struct_row ty js) env effects e (inl its) at typed (m, q) =
      absurd (comes_never_ends (made_of args (read b.sites args env) (make_struct_row ty js)) e q)
  row_ends k (extract_struct_row j i) env effects e (inl its) at typed (m, q) =
      absurd (comes_never_ends (made_of args (read b.sites args env) (extract_struct_row j i)) e q)
  row_ends k (make_some_row j) env effects e (inl its) at typed (m, q) =
      absurd (comes_never_ends (made_of args (read b.sites args env) (make_some_row j)) e q)
  row_ends k (match_some_row j) env effects e (inl its) at typed (m, q) =
      absurd (comes_never_ends (made_of args (read b.sites args env) (match_some_row j)) e q)
  row_ends k (match_tuple_row j i) env effects e (inl its) at typed (m, q) =
      absurd (comes_never_ends (made_of args (read b.sites args env) (match_tuple_row j i)) e q)

  -- sites that are bound
  binds_end : (binds : List ℕ) → AllAre (IsCalled p R t b B) binds → (env : Env) (next : Env → Going) → Typed env
      → ((env : Env) → Typed env → Ends (next env)) → Ends (BindsRun p w below b.sites args env binds next)
  binds_end [] calls env next typed f m trace e run = f env typed m trace e run
  binds_end (k ∷ ks) calls env next typed f m trace e (row, effects, rest, o, at, made, split, after) =
      go o made after (λ h here run. binds_end ks (λ j n. calls j (inr n)) (set env k (Some h)) next here f m rest e run)
    where
      go : (o : Outcome Held) → RowRuns p w below b.sites args env row effects o
          → Goes o (λ h. BindsRun p w below b.sites args (set env k (Some h)) ks next) m rest (ended e)
          → ((h : Held) → Typed (set env k (Some h)) → BindsRun p w below b.sites args (set env k (Some h)) ks next m rest (ended e) → Q e) → Q e
      go (given h) made after f = f h (set_typed p w R sound below gives_typed t args args_typed b B env k h typed
          (row_typed p w R sound below gives_typed t args args_typed b B env k row effects h typed at made)) after
      go missing made after f = absurd (let q : ended e ≡ missing = after.2 in cc)
      go (ended d) made after f =
          let q : ended e ≡ ended d = after.2 in
          let same : d ≡ e = cc in
          row_ends k row env effects e (calls k (inl refl)) at typed
          (subst (λ (x : Ended). RowRuns p w below b.sites args env row effects (ended x)) same made)

  -- sites that are compared
  equal_ends : (env : Env) (x y : ℕ) (same other : Going) → Ends same → Ends other → Ends (EqualRuns b.sites args env x y same other)
  equal_ends env x y same other f g m trace e (h, j, rx, ry, inl (is, run)) = f m trace e run
  equal_ends env x y same other f g m trace e (h, j, rx, ry, inr (is, run)) = g m trace e run

  -- steps of a tree
  abbrev Run : Env → Steps C → Going → Going
  Run env T later = StepsRun p w below b (p.terms.partial t) args env T later

  mutual
    -- steps of a tree
    steps_end : (T : Steps C) → BindsOnly (IsCalled p R t b B) T → (env : Env) (later : Going) → Typed env → Ends later → Ends (Run env T later)
    steps_end done calls env later typed f m trace e run = f m trace e run
    steps_end (loop binds x body next) calls env later typed f m trace e run = absurd run
    steps_end (give binds i next) calls env later typed f m trace e (k, n, run) =
        binds_end binds calls env (λ env. Returns b.sites (p.terms.partial t) args env (b.result i)) typed
        (λ env typed m trace e a. absurd (let q : ended e ≡ given (a.0) = a.4 in cc)) k trace e run
    steps_end («match» binds s arms next) calls env later typed f m trace e (k, n, run) =
        binds_end binds (calls.0) env (λ env. ArmsRun p w below b (p.terms.partial t) args env s arms (Run env next later)) typed
        (λ env typed. arms_end arms s (calls.1) env (Run env next later) typed (steps_end next (calls.2) env later typed f)) k trace e run
    steps_end (equal binds x y body next) calls env later typed f m trace e (k, n, run) =
        binds_end binds (calls.0) env (λ env. EqualRuns b.sites args env x y (Run env body (Run env next later)) (Run env next later)) typed
        (λ env typed. equal_ends env x y (Run env body (Run env next later)) (Run env next later)
        (steps_end body (calls.1) env (Run env next later) typed (steps_end next (calls.2) env later typed f))
        (steps_end next (calls.2) env later typed f)) k trace e run

    -- arms
    arms_end : (arms : Arms C) (s : ℕ) → ArmsBindOnly (IsCalled p R t b B) arms → (env : Env) (later : Going) → Typed env → Ends later
        → Ends (ArmsRun p w below b (p.terms.partial t) args env s arms later)
    arms_end no_arm s calls env later typed f m trace e run = f m trace e run
    arms_end (arm c fields body arms) s calls env later typed f m trace e (h, here, inl (meets, run)) =
        binds_end (opened fields) (calls.0) env (λ env. Run env body later) typed
        (λ env typed. steps_end body (calls.1) env later typed f) m trace e run
    arms_end (arm c fields body arms) s calls env later typed f m trace e (h, here, inr (left_out, run)) =
        arms_end arms s (calls.2) env later typed f m trace e run

  -- Where the run of the term's tree ends unanswered, so does a call that it makes, or it is stuck.
  pub tree_ends : Q (stuck t args) → (m : ℕ) (trace : List Event) (e : Ended)
      → StepsRun p w below b (p.terms.partial t) args nothing_bound b.tree (Unmatched p t args) m trace (ended e) → Q e
  tree_ends own = steps_end b.tree (tree_calls p R t b B) nothing_bound (Unmatched p t args)
      (nothing_typed p w R sound below gives_typed t args args_typed b B) (λ m trace e a. none_left (p.terms.partial t) e (a.2))
    where
      none_left : (partial : Bool) (e : Ended) → ended e ≡ unmatched partial t args → Q e
      none_left true e q = absurd cc
      none_left false e q = let same : stuck t args ≡ e = cc in subst Q same own
