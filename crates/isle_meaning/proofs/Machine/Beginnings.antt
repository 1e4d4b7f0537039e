-- A machine's run begins with its effects, and with none; one of a pure term begins with none.
use Rattle.std.proofs.Common.{◌≡◌, ◌⊎◌, inl, inr, ℕ, zero, suc, Bool, true, false, List, [], ◌∷◌, ◌++◌, map, Some, refl, sym, ◌∙◌, ap, subst, append-nil}
use Rattle.isle_trees.specs.Tree.{Steps, done, «match», equal, loop, give, Arms, no_arm, arm}
use Rattle.isle_trees.specs.Rules.{Elem, IsPartOf}
use Rattle.isle_trees.specs.Premises.{EffectsFirst}
use Rattle.isle_trees.proofs.Basics.{true_or}
use Rattle.isle_meaning.specs.Values.{Value, Values}
use Rattle.isle_meaning.specs.Words.{Step, set, steps_of}
use Rattle.isle_meaning.specs.Sites.{Site}
use Rattle.isle_meaning.specs.Demands.{vars_of}
use Rattle.isle_meaning.specs.Held.{Held}
use Rattle.isle_meaning.specs.Numbered.{Row, bool_row, int_row, prim_row, argument_row, extractor_row, constructor_row, iterator_row}
use Rattle.isle_meaning.specs.Numbered.{make_variant_row, match_variant_row, make_struct_row, extract_struct_row, make_some_row}
use Rattle.isle_meaning.specs.Numbered.{match_some_row, match_tuple_row}
use Rattle.isle_meaning.specs.Worlds.{CheckedProgram, Answers, Event}
use Rattle.isle_meaning.specs.Outcomes.{Outcome, given, missing, ended}
use Rattle.isle_meaning.specs.SoundPrograms.{IsSound}
use Rattle.isle_meaning.specs.Laws.Machine.{MachineRunsBeginSo, MachineMayStop, PureMachineRunsAreSilent}
use Rattle.isle_meaning.specs.Machine.Runs.{TermTree, Env, nothing_bound, Runs, Going, RowRuns, Goes, BindsRun, opened, Returns, EqualRuns}
use Rattle.isle_meaning.specs.Machine.Runs.{StepsRun, ArmsRun, Unmatched, MachineRun}
use Rattle.isle_meaning.specs.Machine.Beginnings.{Begun, Silent, RowBegins, BindsBegin, EqualBegins, StepsBegin, ArmsBegin, MachineBegins}
use Rattle.isle_meaning.specs.Machine.Trees.{is_effect, calls_of, IsTermTree, HasTermTrees}
use Rattle.isle_meaning.proofs.Calls.Beginnings.{impure_begins}
use Rattle.isle_meaning.proofs.Machine.Rows.{row_calm}
use Rattle.isle_meaning.proofs.Machine.Bound.{AllAre, BindsOnly, ArmsBindOnly, tree_binds}

-- what begins so where a run does
abbrev BeginsSo : Going → Begun → Type 0
BeginsSo g begun = (m : ℕ) (trace : List Event) (r : Outcome Value) → g m trace r → begun trace

module _ {C : Type 0} (p : CheckedProgram) (w : Answers) (runs : Runs) (below : ℕ → Values → Begun) (b : TermTree C) (partial : Bool) (args : Values)
    (begins : (u : ℕ) (vs : Values) (made : List Event) (q : Outcome Value) → runs u vs made q → below u vs made) where
  -- a site makes no effects, or is an impure call that begins with them
  row_begins : (env : Env) (row : Row) (effects : List Event) (o : Outcome Held) → RowRuns p w runs b.sites args env row effects o
      → (effects ≡ []) ⊎ RowBegins p below b.sites args env row effects
  row_begins env (extractor_row u j) effects o (v, g, e, run, m, q) = inl m
  row_begins env (constructor_row u js zero) effects o (vs, g, e, run, m, q) = inl m
  row_begins env (constructor_row u js (suc i)) effects o (vs, g, e, run, q) =
      inr (vs, e, impure_begins p w runs below begins (p.has_rules u) u vs effects g run)
  row_begins env (bool_row x ty) effects o (m, q) = inl m
  row_begins env (int_row x ty) effects o (m, q) = inl m
  row_begins env (prim_row x) effects o (m, q) = inl m
  row_begins env (argument_row i) effects o (m, q) = inl m
  row_begins env (iterator_row j) effects o (m, q) = inl m
  row_begins env (make_variant_row ty v js) effects o (m, q) = inl m
  row_begins env (match_variant_row j v i) effects o (m, q) = inl m
  row_begins env (make_struct_row ty js) effects o (m, q) = inl m
  row_begins env (extract_struct_row j i) effects o (m, q) = inl m
  row_begins env (make_some_row j) effects o (m, q) = inl m
  row_begins env (match_some_row j) effects o (m, q) = inl m
  row_begins env (match_tuple_row j i) effects o (m, q) = inl m

  -- sites that are bound
  binds_begin : (binds : List ℕ) (env : Env) (next : Env → Going) (begun : Env → Begun) → ((env : Env) → BeginsSo (next env) (begun env))
      → BeginsSo (BindsRun p w runs b.sites args env binds next) (BindsBegin p w runs below b.sites args env binds begun)
  binds_begin [] env next begun f m trace r run = f env m trace r run
  binds_begin (x ∷ xs) env next begun f m trace r (row, effects, rest, o, at, made, split, after) =
      go o made after (λ h q. binds_begin xs (set env x (Some h)) next begun f m rest r q)
    where
      stopped : (o : Outcome Held) → RowRuns p w runs b.sites args env row effects o → rest ≡ []
          → BindsBegin p w runs below b.sites args env (x ∷ xs) begun trace
      stopped o made none =
          let whole : trace ≡ effects = split ∙ ap (λ (l : List Event). effects ++ l) none ∙ append-nil effects in
          elim (row_begins env row effects o made) [
            | inl e ↦ inl (whole ∙ e)
            | inr k ↦ inr (row, at, inl (subst (RowBegins p below b.sites args env row) (sym whole) k))
          ]

      go : (o : Outcome Held) → RowRuns p w runs b.sites args env row effects o
          → Goes o (λ h. BindsRun p w runs b.sites args (set env x (Some h)) xs next) m rest r
          → ((h : Held) → BindsRun p w runs b.sites args (set env x (Some h)) xs next m rest r
          → BindsBegin p w runs below b.sites args (set env x (Some h)) xs begun rest)
          → BindsBegin p w runs below b.sites args env (x ∷ xs) begun trace
      go (given h) made after f = inr (row, at, inr (effects, rest, h, split, made, f h after))
      go missing made after f = stopped missing made (after.1)
      go (ended e) made after f = stopped (ended e) made (after.1)

  -- two sites that are compared
  equal_begins : (env : Env) (x y : ℕ) (same other : Going) (one two : Begun) → BeginsSo same one → BeginsSo other two
      → BeginsSo (EqualRuns b.sites args env x y same other) (EqualBegins b.sites args env x y one two)
  equal_begins env x y same other one two f g m trace r (h, j, rx, ry, inl (e, run)) = inr (h, j, rx, ry, inl (e, f m trace r run))
  equal_begins env x y same other one two f g m trace r (h, j, rx, ry, inr (e, run)) = inr (h, j, rx, ry, inr (e, g m trace r run))

  mutual
    -- steps of a tree
    steps_begin : (T : Steps C) (env : Env) (later : Going) (begun : Begun) → BeginsSo later begun
        → BeginsSo (StepsRun p w runs b partial args env T later) (StepsBegin p w runs below b args env T begun)
    steps_begin done env later begun f m trace r run = f m trace r run
    steps_begin (loop binds x body next) env later begun f m trace r run = absurd run
    steps_begin (give binds i next) env later begun f m trace r (k, e, run) =
        binds_begin binds env (λ env. Returns b.sites partial args env (b.result i)) (λ env. Silent) (λ env m trace r a. a.3) k trace r run
    steps_begin («match» binds s arms next) env later begun f m trace r (k, e, run) =
        binds_begin binds env (λ env. ArmsRun p w runs b partial args env s arms (StepsRun p w runs b partial args env next later))
        (λ env. ArmsBegin p w runs below b args env s arms (StepsBegin p w runs below b args env next begun))
        (λ env. arms_begin arms s env (StepsRun p w runs b partial args env next later) (StepsBegin p w runs below b args env next begun)
        (steps_begin next env later begun f)) k trace r run
    steps_begin (equal binds x y body next) env later begun f m trace r (k, e, run) =
        binds_begin binds env
        (λ env. EqualRuns b.sites args env x y (StepsRun p w runs b partial args env body (StepsRun p w runs b partial args env next later))
        (StepsRun p w runs b partial args env next later))
        (λ env. EqualBegins b.sites args env x y (StepsBegin p w runs below b args env body (StepsBegin p w runs below b args env next begun))
        (StepsBegin p w runs below b args env next begun))
        (λ env. equal_begins env x y (StepsRun p w runs b partial args env body (StepsRun p w runs b partial args env next later))
        (StepsRun p w runs b partial args env next later) (StepsBegin p w runs below b args env body
        (StepsBegin p w runs below b args env next begun))
        (StepsBegin p w runs below b args env next begun)
        (steps_begin body env (StepsRun p w runs b partial args env next later) (StepsBegin p w runs below b args env next begun)
        (steps_begin next env later begun f)) (steps_begin next env later begun f)) k trace r run

    -- arms
    arms_begin : (arms : Arms C) (s : ℕ) (env : Env) (later : Going) (begun : Begun) → BeginsSo later begun
        → BeginsSo (ArmsRun p w runs b partial args env s arms later) (ArmsBegin p w runs below b args env s arms begun)
    arms_begin no_arm s env later begun f m trace r run = f m trace r run
    arms_begin (arm c fields body arms) s env later begun f m trace r (h, here, inl (meets, run)) = inr (
      h,
      here,
      inl (
        meets,
        binds_begin (opened fields) env (λ env. StepsRun p w runs b partial args env body later)
            (λ env. StepsBegin p w runs below b args env body begun) (λ env. steps_begin body env later begun f) m trace r run,
      ),
    )
    arms_begin (arm c fields body arms) s env later begun f m trace r (h, here, inr (left_out, run)) =
        inr (h, here, inr (left_out, arms_begin arms s env later begun f m trace r run))

-- A machine's run begins with its effects.
pub machine_begins : {C : Type 0} → MachineRunsBeginSo C
machine_begins p w trees zero t args steps trace r run = run.1
machine_begins p w trees (suc n) t args steps trace r run =
    inr (steps_begin p w (λ u vs effects q. (reached : ℕ) × MachineRun p trees w n u vs reached effects q) (MachineBegins p trees w n) (trees t)
    (p.terms.partial t) args (λ u vs made q a. machine_begins p w trees n u vs (a.0) made q (a.1)) (trees t).tree nothing_bound
    (Unmatched p t args) Silent (λ m trace r a. a.1) steps trace r run)

-- It may stop before it has made any.
pub machine_stops : {C : Type 0} → MachineMayStop C
machine_stops p w trees zero t args = refl
machine_stops p w trees (suc n) t args = inl refl

-- ---- pure terms

-- no impure call is what makes no effects
row_silent : (p : CheckedProgram) (below : ℕ → Values → Begun) (sites : List Row) (args : Values) (env : Env) (row : Row) (made : List Event)
    → is_effect row ≡ false → RowBegins p below sites args env row made → ⊥
row_silent p below sites args env (constructor_row u js (suc i)) made n k = absurd cc
row_silent p below sites args env (constructor_row u js zero) made n k = k
row_silent p below sites args env (extractor_row u j) made n k = k
row_silent p below sites args env (bool_row x ty) made n k = k
row_silent p below sites args env (int_row x ty) made n k = k
row_silent p below sites args env (prim_row x) made n k = k
row_silent p below sites args env (argument_row i) made n k = k
row_silent p below sites args env (iterator_row j) made n k = k
row_silent p below sites args env (make_variant_row ty v js) made n k = k
row_silent p below sites args env (match_variant_row j v i) made n k = k
row_silent p below sites args env (make_struct_row ty js) made n k = k
row_silent p below sites args env (extract_struct_row j i) made n k = k
row_silent p below sites args env (make_some_row j) made n k = k
row_silent p below sites args env (match_some_row j) made n k = k
row_silent p below sites args env (match_tuple_row j i) made n k = k

-- nothing but nothing is made
abbrev IsSilent : Begun → Type 0
IsSilent begun = (made : List Event) → begun made → made ≡ []

module _ {C : Type 0} (p : CheckedProgram) (w : Answers) (R : ℕ → Type 0) (runs : Runs) (below : ℕ → Values → Begun) (t : ℕ) (args : Values)
    (b : TermTree C) (B : IsTermTree p R t b) where
  -- a site makes no effects
  abbrev IsCalm : ℕ → Type 0
  IsCalm k = B.set.effect k ≡ false

  -- sites that are bound without effects
  binds_silent : (binds : List ℕ) → AllAre IsCalm binds → (env : Env) (begun : Env → Begun) → ((env : Env) → IsSilent (begun env))
      → IsSilent (BindsBegin p w runs below b.sites args env binds begun)
  binds_silent [] calm env begun f made h = f env made h
  binds_silent (k ∷ ks) calm env begun f made (inl e) = e
  binds_silent (k ∷ ks) calm env begun f made (inr (row, at, inl h)) =
      absurd (row_silent p below b.sites args env row made (sym (B.effects k row at) ∙ calm k (inl refl)) h)
  binds_silent (k ∷ ks) calm env begun f made (inr (row, at, inr (effects, rest, h, split, run, more))) =
      split ∙ ap (λ (l : List Event). l ++ rest)
      (row_calm p w runs b.sites args env row effects (given h) (sym (B.effects k row at) ∙ calm k (inl refl)) run)
      ∙ binds_silent ks (λ j m. calm j (inr m)) (set env k (Some h)) begun f rest more

  -- so are sites that are compared
  equal_silent : (env : Env) (x y : ℕ) (one two : Begun) → IsSilent one → IsSilent two → IsSilent (EqualBegins b.sites args env x y one two)
  equal_silent env x y one two f g made (inl e) = e
  equal_silent env x y one two f g made (inr (h, j, rx, ry, inl (e, k))) = f made k
  equal_silent env x y one two f g made (inr (h, j, rx, ry, inr (e, k))) = g made k

  mutual
    -- steps that bind no impure call
    steps_silent : (T : Steps C) → BindsOnly IsCalm T → (env : Env) (begun : Begun) → IsSilent begun
        → IsSilent (StepsBegin p w runs below b args env T begun)
    steps_silent done calm env begun f made h = f made h
    steps_silent (loop binds x body next) calm env begun f made h = h
    steps_silent (give binds i next) calm env begun f made h = binds_silent binds calm env (λ env. Silent) (λ env made e. e) made h
    steps_silent («match» binds s arms next) calm env begun f made h =
        binds_silent binds (calm.0) env (λ env. ArmsBegin p w runs below b args env s arms (StepsBegin p w runs below b args env next begun))
        (λ env. arms_silent arms s (calm.1) env (StepsBegin p w runs below b args env next begun) (steps_silent next (calm.2) env begun f)) made h
    steps_silent (equal binds x y body next) calm env begun f made h =
        binds_silent binds (calm.0) env (λ env. EqualBegins b.sites args env x y
        (StepsBegin p w runs below b args env body (StepsBegin p w runs below b args env next begun))
        (StepsBegin p w runs below b args env next begun))
        (λ env. equal_silent env x y (StepsBegin p w runs below b args env body (StepsBegin p w runs below b args env next begun))
        (StepsBegin p w runs below b args env next begun)
        (steps_silent body (calm.1) env (StepsBegin p w runs below b args env next begun) (steps_silent next (calm.2) env begun f))
        (steps_silent next (calm.2) env begun f)) made h

    -- arms that do
    arms_silent : (arms : Arms C) (s : ℕ) → ArmsBindOnly IsCalm arms → (env : Env) (begun : Begun) → IsSilent begun
        → IsSilent (ArmsBegin p w runs below b args env s arms begun)
    arms_silent no_arm s calm env begun f made h = f made h
    arms_silent (arm c fields body arms) s calm env begun f made (inl e) = e
    arms_silent (arm c fields body arms) s calm env begun f made (inr (h, here, inl (meets, k))) =
        binds_silent (opened fields) (calm.0) env (λ env. StepsBegin p w runs below b args env body begun)
        (λ env. steps_silent body (calm.1) env begun f) made k
    arms_silent (arm c fields body arms) s calm env begun f made (inr (h, here, inr (left_out, k))) = arms_silent arms s (calm.2) env begun f made k

-- a list that is mapped to none is none
none_mapped : (site : ℕ → Site) (ks : List ℕ) → map site ks ≡ [] → ks ≡ []
none_mapped site [] e = refl
none_mapped site (k ∷ ks) e = absurd cc

-- A pure term's tree binds no impure call.
pub pure_tree_calm : {C : Type 0} (p : CheckedProgram) (R : ℕ → Type 0) → IsSound p R → (t : ℕ) → R t → p.terms.pure t ≡ true → (b : TermTree C)
    (B : IsTermTree p R t b) → BindsOnly (λ k. B.set.effect k ≡ false) b.tree
pure_tree_calm p R sound t runs pure b B = tree_binds p R t b B (λ k. B.set.effect k ≡ false) (λ i k m a. B.tree.single.pure i k a)
    (λ i k m part. elim (true_or (B.set.effect k)) [
      | inr e ↦ e
      | inl e ↦ absurd (first i (no_calls i m) k (subst (λ (l : List ℕ). IsPartOf B.set (l ++ B.set.result i ∷ []) k) (no_calls i m) part) e)
    ]) (λ k m e. B.tree.made.field_pure k m e)
  where
    no_steps : (i : ℕ) → Elem i B.left → steps_of p.terms (B.rule i).right ≡ []
    no_steps i m =
        let at = B.listed i m in
        (sound.rules (B.place i) (B.rule i) (at.listed) (subst R (sym (at.of_term)) runs)).pure_right (ap p.terms.pure (at.of_term) ∙ pure)

    -- so no impure calls of its right side
    no_calls : (i : ℕ) → Elem i B.left → B.set.calls i ≡ []
    no_calls i m = none_mapped B.site (B.set.calls i)
        (B.calls i m ∙ ap (λ (steps : List Step). calls_of p.terms (vars_of p.terms (B.rule i)) steps) (no_steps i m))

    -- nor any in its result
    first : (i : ℕ) → B.set.calls i ≡ [] → EffectsFirst B.set (B.set.result i) [] []
    first i e = subst (λ (l : List ℕ). EffectsFirst B.set (B.set.result i) [] l) e (B.tree.single.first i)

-- One of a pure term begins with none.
pub pure_run_silent : {C : Type 0} (p : CheckedProgram) (w : Answers) (R : ℕ → Type 0) (trees : ℕ → TermTree C) → IsSound p R → HasTermTrees p R trees
    → (n t : ℕ) (args : Values) (made : List Event) → R t → p.terms.pure t ≡ true → MachineBegins p trees w n t args made → made ≡ []
pure_run_silent p w R trees sound H zero t args made may pure h = h
pure_run_silent p w R trees sound H (suc n) t args made may pure (inl e) = e
pure_run_silent p w R trees sound H (suc n) t args made may pure (inr h) =
    let B = H.of_term t may in
    steps_silent p w R (λ u vs effects q. (reached : ℕ) × MachineRun p trees w n u vs reached effects q)
    (MachineBegins p trees w n) t args (trees t) B (trees t).tree (pure_tree_calm p R sound t may pure (trees t) B) nothing_bound
    Silent (λ made e. e) made h

pub pure_machine_runs_are_silent : {C : Type 0} → PureMachineRunsAreSilent C
pure_machine_runs_are_silent p w runs trees sound H n t args made may pure h =
    pure_run_silent p w (λ u. runs u ≡ true) trees sound H n t args made may pure h
