-- Two runs of one call at one depth are one, or their effects first differ in the world's answer to the same call.
use Rattle.std.proofs.Common.{◌≡◌, ◌⊎◌, inl, inr, ℕ, zero, suc, Bool, true, false, not, List, [], ◌∷◌, ◌++◌, Option, Some, None, refl, sym, ◌∙◌, ap, subst}
use Rattle.isle_trees.specs.Got.{Got, unknown, fails, gives}
use Rattle.isle_trees.specs.Tree.{Steps, done, «match», equal, loop, give, Arms, no_arm, arm}
use Rattle.isle_rules.specs.Values.{ValueTree, ValueTrees}
use Rattle.isle_meaning.specs.Asking.{Asked, asks_value, asks_outputs}
use Rattle.isle_meaning.specs.Held.{Held, held_value, outputs_of}
use Rattle.isle_meaning.specs.Held.{Meets}
use Rattle.isle_meaning.specs.Laws.Calls.{FirstDiffer}
use Rattle.isle_meaning.specs.Laws.Machine.{MachineRunsAreOne}
use Rattle.isle_meaning.specs.Machine.Runs.{TermTree, Env, Runs, Going, values_at, made_of, read, Comes, holding, option_if, RowRuns, Goes}
use Rattle.isle_meaning.specs.Machine.Runs.{BindsRun, opened, result_held, Returns, StepsRun, ArmsRun, EqualRuns, Unmatched, MachineRun}
use Rattle.isle_meaning.specs.Numbered.{Row, bool_row, int_row, prim_row, argument_row, extractor_row, constructor_row, iterator_row}
use Rattle.isle_meaning.specs.Numbered.{make_variant_row, match_variant_row, make_struct_row, extract_struct_row, make_some_row}
use Rattle.isle_meaning.specs.Numbered.{match_some_row, match_tuple_row}
use Rattle.isle_meaning.specs.Outcomes.{Outcome, given, missing, ended, Judged, WorldConstructs, WorldExtracts, WorldEffects, ConstructsIf}
use Rattle.isle_meaning.specs.Outcomes.{EffectsIf}
use Rattle.isle_meaning.specs.SoundPrograms.{HasSoundData}
use Rattle.isle_meaning.specs.Values.{Value, Values}
use Rattle.isle_meaning.specs.Words.{set}
use Rattle.isle_meaning.specs.Worlds.{CheckedProgram, Answers, AllowsValue, AllowsOutputs, answer_value, answer_values, Event}
use Rattle.isle_meaning.proofs.Calls.Answered.{constructs_one, extracts_one, effects_one}
use Rattle.isle_meaning.proofs.Chains.Stable.{none_first, front_alike, rest_alike, first_differ}

-- at most one thing comes of it, where effects agree
abbrev One : Going → Type 0
One g = (m n : ℕ) (trace other : List Event) (r q : Outcome Value) → g m trace r → g n other q → (FirstDiffer trace other → ⊥)
    → (m ≡ n) × (trace ≡ other) × (r ≡ q)

-- so of the runs below
abbrev OneBelow : Runs → Type 0
OneBelow below = (u : ℕ) (vs : Values) (effects other : List Event) (r q : Outcome Value) → below u vs effects r → below u vs other q
    → (FirstDiffer effects other → ⊥) → (effects ≡ other) × (r ≡ q)

-- what is made is one thing
comes_one : (g : Got Held) (r s : Outcome Held) → Comes g r → Comes g s → r ≡ s
comes_one unknown r s h k = absurd h
comes_one fails r s h k = h ∙ sym k
comes_one (gives x) r s h k = h ∙ sym k

-- what is read is one thing
given_same : {A : Type 0} (g : Got A) (x y : A) → g ≡ gives x → g ≡ gives y → x ≡ y
given_same g x y e f = let q : gives x ≡ gives y = sym e ∙ f in cc

module _ (p : CheckedProgram) (w : Answers) (data_sound : HasSoundData p) where
  module _ {C : Type 0} (below : Runs) (one_below : OneBelow below) (b : TermTree C) (partial : Bool) (args : Values) where
    -- a pure call has one answer
    pure_one : (c : Bool) (u : ℕ) (vs : Values) (r s : Outcome Value) → ConstructsIf p w below c u vs r → ConstructsIf p w below c u vs s → r ≡ s
    pure_one true u vs r s h k = (one_below u vs [] [] r s h k (none_first [])).1
    pure_one false u vs r s h k = constructs_one p w data_sound u vs r s h k

    -- an impure one has, where its effects agree
    impure_one : (c : Bool) (u : ℕ) (vs : Values) (effects other : List Event) (r s : Outcome Value) → EffectsIf p below c u vs effects r
        → EffectsIf p below c u vs other s → (FirstDiffer effects other → ⊥) → (effects ≡ other) × (r ≡ s)
    impure_one true u vs effects other r s h k e = one_below u vs effects other r s h k e
    impure_one false u vs effects other r s h k e = effects_one p w data_sound u vs effects other r s h k e

    -- a site that calls nothing
    plain_one : (env : Env) (row : Row) (effects other : List Event) (o q : Outcome Held) → (effects ≡ [])
        × Comes (made_of args (read b.sites args env) row) o
        → (other ≡ []) × Comes (made_of args (read b.sites args env) row) q → (effects ≡ other) × (o ≡ q)
    plain_one env row effects other o q (m, h) (n, k) = (m ∙ sym n, comes_one (made_of args (read b.sites args env) row) o q h k)

    -- a site
    row_one : (env : Env) (row : Row) (effects other : List Event) (o q : Outcome Held) → RowRuns p w below b.sites args env row effects o
        → RowRuns p w below b.sites args env row other q → (FirstDiffer effects other → ⊥) → (effects ≡ other) × (o ≡ q)
    row_one env (extractor_row u j) effects other o q (v, g, e, run, m, is) (v', g', e', run', m', is') f =
        let held_same = given_same (read b.sites args env j) (held_value v) (held_value v') e e' in
        let same : v' ≡ v = cc in
        let outputs = extracts_one p w data_sound u v g g' run (subst (λ (z : Value). WorldExtracts p w u z g') same run') in
        (m ∙ sym m', is ∙ ap (λ (z : Outcome Values). option_if (not (p.terms.infallible u)) (holding outputs_of z)) outputs ∙ sym is')
    row_one env (constructor_row u js zero) effects other o q (vs, g, e, run, m, is) (vs', g', e', run', m', is') f =
        let same : vs' ≡ vs = sym (given_same (values_at (read b.sites args env) js) vs vs' e e') in
        let answer = pure_one (p.has_rules u) u vs g g' run (subst (λ (z : Values). ConstructsIf p w below (p.has_rules u) u z g') same run') in
        (m ∙ sym m', is ∙ ap (λ (z : Outcome Value). option_if (p.terms.partial u) (holding held_value z)) answer ∙ sym is')
    row_one env (constructor_row u js (suc i)) effects other o q (vs, g, e, run, is) (vs', g', e', run', is') f =
        let same : vs' ≡ vs = sym (given_same (values_at (read b.sites args env) js) vs vs' e e') in
        let both = impure_one (p.has_rules u) u vs effects other g g' run
        (subst (λ (z : Values). EffectsIf p below (p.has_rules u) u z other g') same run') f in
        (both.0, is ∙ ap (λ (z : Outcome Value). option_if (p.terms.partial u) (holding held_value z)) (both.1) ∙ sym is')
    row_one env (bool_row a ty) effects other o q h k f = plain_one env (bool_row a ty) effects other o q h k
    row_one env (int_row a ty) effects other o q h k f = plain_one env (int_row a ty) effects other o q h k
    row_one env (prim_row a) effects other o q h k f = plain_one env (prim_row a) effects other o q h k
    row_one env (argument_row i) effects other o q h k f = plain_one env (argument_row i) effects other o q h k
    row_one env (iterator_row j) effects other o q h k f = plain_one env (iterator_row j) effects other o q h k
    row_one env (make_variant_row ty v js) effects other o q h k f = plain_one env (make_variant_row ty v js) effects other o q h k
    row_one env (match_variant_row j v i) effects other o q h k f = plain_one env (match_variant_row j v i) effects other o q h k
    row_one env (make_struct_row ty js) effects other o q h k f = plain_one env (make_struct_row ty js) effects other o q h k
    row_one env (extract_struct_row j i) effects other o q h k f = plain_one env (extract_struct_row j i) effects other o q h k
    row_one env (make_some_row j) effects other o q h k f = plain_one env (make_some_row j) effects other o q h k
    row_one env (match_some_row j) effects other o q h k f = plain_one env (match_some_row j) effects other o q h k
    row_one env (match_tuple_row j i) effects other o q h k f = plain_one env (match_tuple_row j i) effects other o q h k

    -- sites in order
    binds_one : (binds : List ℕ) (env : Env) (next : Env → Going) → ((env : Env) → One (next env))
        → One (BindsRun p w below b.sites args env binds next)
    binds_one [] env next f m n trace other r q h k e = f env m n trace other r q h k e
    binds_one (z ∷ zs) env next f m n trace other r q (row, effects, rest, o, at, run, split, after)
        (row', effects', rest', o', at', run', split', after') e =
        let rows : row' ≡ row = (let i : Some row' ≡ Some row = sym at' ∙ at in cc) in
        let whole : FirstDiffer (effects ++ rest) (effects' ++ rest') → ⊥ = λ d. e (subst (λ (l : List Event). FirstDiffer l other) (sym split)
        (subst (λ (l : List Event). FirstDiffer (effects ++ rest) l) (sym split') d)) in
        let both = row_one env row effects effects' o o' run (subst (λ (i : Row). RowRuns p w below b.sites args env i effects' o') rows run')
        (front_alike effects effects' rest rest' whole) in
        let later : FirstDiffer rest rest' → ⊥ =
        rest_alike effects' rest rest' (subst (λ (l : List Event). FirstDiffer (l ++ rest) (effects' ++ rest') → ⊥) (both.0) whole) in
        let (steps, rests, outcomes) = go o after
        (subst (λ (i : Outcome Held). Goes i (λ h. BindsRun p w below b.sites args (set env z (Some h)) zs next) n rest' q)
        (sym (both.1)) after')
        (λ h u v. binds_one zs (set env z (Some h)) next f m n rest rest' r q u v later) in
        (steps, split ∙ ap (λ (l : List Event). l ++ rest) (both.0) ∙ ap (λ (l : List Event). effects' ++ l) rests ∙ sym split', outcomes)
      where
        go : (o : Outcome Held) → Goes o (λ h. BindsRun p w below b.sites args (set env z (Some h)) zs next) m rest r
            → Goes o (λ h. BindsRun p w below b.sites args (set env z (Some h)) zs next) n rest' q
            → ((h : Held) → BindsRun p w below b.sites args (set env z (Some h)) zs next m rest r
            → BindsRun p w below b.sites args (set env z (Some h)) zs next n rest' q
            → (m ≡ n) × (rest ≡ rest') × (r ≡ q)) → (m ≡ n) × (rest ≡ rest') × (r ≡ q)
        go (given h) u v f = f h u v
        go missing u v f = (u.0 ∙ sym (v.0), u.1 ∙ sym (v.1), u.2 ∙ sym (v.2))
        go (ended i) u v f = (u.0 ∙ sym (v.0), u.1 ∙ sym (v.1), u.2 ∙ sym (v.2))

    -- sites that are compared
    equal_one : (env : Env) (s u : ℕ) (same other : Going) → One same → One other → One (EqualRuns b.sites args env s u same other)
    equal_one env s u same other f g m n trace trace' r q (h, j, rs, ru, t) (h', j', rs', ru', t') e =
        go t t' (given_same (read b.sites args env s) h h' rs rs') (given_same (read b.sites args env u) j j' ru ru')
      where
        go : ((h ≡ j) × same m trace r) ⊎ ((h ≡ j → ⊥) × other m trace r) → ((h' ≡ j') × same n trace' q) ⊎ ((h' ≡ j' → ⊥) × other n trace' q)
            → h ≡ h' → j ≡ j'
            → (m ≡ n) × (trace ≡ trace') × (r ≡ q)
        go (inl a) (inl c) eh ej = f m n trace trace' r q (a.1) (c.1) e
        go (inl a) (inr c) eh ej = absurd (c.0 (sym eh ∙ a.0 ∙ ej))
        go (inr a) (inl c) eh ej = absurd (a.0 (eh ∙ c.0 ∙ sym ej))
        go (inr a) (inr c) eh ej = g m n trace trace' r q (a.1) (c.1) e

    -- a site that is tested
    test_one : (env : Env) (s : ℕ) (c : C) (pass other : Going) → One pass → One other
        → One (λ m trace r. (h : Held) × (read b.sites args env s ≡ gives h)
        × ((Meets (b.test c) h × pass m trace r) ⊎ ((Meets (b.test c) h → ⊥) × other m trace r)))
    test_one env s c pass other f g m n trace trace' r q (h, rs, t) (h', rs', t') e =
        go t (subst (λ (i : Held). (Meets (b.test c) i × pass n trace' q) ⊎ ((Meets (b.test c) i → ⊥) × other n trace' q))
        (sym (given_same (read b.sites args env s) h h' rs rs')) t')
      where
        go : (Meets (b.test c) h × pass m trace r) ⊎ ((Meets (b.test c) h → ⊥) × other m trace r)
            → (Meets (b.test c) h × pass n trace' q) ⊎ ((Meets (b.test c) h → ⊥) × other n trace' q)
            → (m ≡ n) × (trace ≡ trace') × (r ≡ q)
        go (inl a) (inl d) = f m n trace trace' r q (a.1) (d.1) e
        go (inl a) (inr d) = absurd (d.0 (a.0))
        go (inr a) (inl d) = absurd (a.0 (d.0))
        go (inr a) (inr d) = g m n trace trace' r q (a.1) (d.1) e

    -- a return
    return_one : (env : Env) (i : ℕ) → One (Returns b.sites partial args env (b.result i))
    return_one env i m n trace other r q (v, e, z, t, is) (v', e', z', t', is') f = (
      z ∙ sym z',
      t ∙ sym t',
      is ∙ ap (λ (k : Value). given k)
          (result_same partial v v' (given_same (read b.sites args env (b.result i)) _ _ e e')) ∙ sym is',
    )
      where
        result_same : (partial : Bool) (v v' : Value) → result_held partial v ≡ result_held partial v' → v ≡ v'
        result_same true v v' e = cc
        result_same false v v' e = cc

    -- a step
    counted_one : (g : Going) → One g → One (λ steps trace r. (k : ℕ) × (steps ≡ suc k) × g k trace r)
    counted_one g f m n trace other r q (k, c, run) (k', c', run') e =
        let (steps, traces, outcomes) = f k k' trace other r q run run' e in (c ∙ ap suc steps ∙ sym c', traces, outcomes)

    mutual
      -- steps
      steps_one : (T : Steps C) (env : Env) (later : Going) → One later → One (StepsRun p w below b partial args env T later)
      steps_one done env later f = f
      steps_one (loop binds k body next) env later f = λ m n trace other r q h j e. absurd h
      steps_one (give binds i next) env later f = counted_one _
          (binds_one binds env (λ env. Returns b.sites partial args env (b.result i)) (λ env. return_one env i))
      steps_one («match» binds s arms next) env later f =
          counted_one _ (binds_one binds env (λ env. ArmsRun p w below b partial args env s arms (StepsRun p w below b partial args env next later))
          (λ env. arms_one arms s env (StepsRun p w below b partial args env next later) (steps_one next env later f)))
      steps_one (equal binds s u body next) env later f =
          counted_one _ (binds_one binds env
          (λ env. EqualRuns b.sites args env s u (StepsRun p w below b partial args env body (StepsRun p w below b partial args env next later))
          (StepsRun p w below b partial args env next later))
          (λ env. equal_one env s u (StepsRun p w below b partial args env body (StepsRun p w below b partial args env next later))
          (StepsRun p w below b partial args env next later)
          (steps_one body env (StepsRun p w below b partial args env next later) (steps_one next env later f)) (steps_one next env later f)))

      -- arms
      arms_one : (arms : Arms C) (s : ℕ) (env : Env) (later : Going) → One later → One (ArmsRun p w below b partial args env s arms later)
      arms_one no_arm s env later f = f
      arms_one (arm c fields body arms) s env later f =
          test_one env s c (BindsRun p w below b.sites args env (opened fields) (λ env. StepsRun p w below b partial args env body later))
          (ArmsRun p w below b partial args env s arms later)
          (binds_one (opened fields) env (λ env. StepsRun p w below b partial args env body later) (λ env. steps_one body env later f))
          (arms_one arms s env later f)

-- two runs of one call at one depth are one, where their effects don't first differ in an answer
pub machine_runs_one : {C : Type 0} → (p : CheckedProgram) (w : Answers) (trees : ℕ → TermTree C) → HasSoundData p → (depth t : ℕ) (args : Values)
    (m n : ℕ) (one other : List Event) (r q : Outcome Value) → MachineRun p trees w depth t args m one r → MachineRun p trees w depth t args n other q
    → (FirstDiffer one other → ⊥) → (m ≡ n) × (one ≡ other) × (r ≡ q)
machine_runs_one p w trees data_sound zero t args m n trace other r q h k e = (h.0 ∙ sym (k.0), h.1 ∙ sym (k.1), h.2 ∙ sym (k.2))
machine_runs_one p w trees data_sound (suc d) t args m n trace other r q h k e =
    steps_one p w data_sound (λ u vs effects q. (reached : ℕ) × MachineRun p trees w d u vs reached effects q)
    (λ u vs effects other r q h k e. let (steps, traces, outcomes) = machine_runs_one p w trees data_sound d u vs
    (h.0) (k.0) effects other r q (h.1) (k.1) e in (traces, outcomes))
    (trees t) (p.terms.partial t) args (trees t).tree (λ k. None) (Unmatched p t args)
    (λ m n trace other r q h k e. (h.0 ∙ sym (k.0), h.1 ∙ sym (k.1), h.2 ∙ sym (k.2))) m n trace other r q h k e

-- Two runs of one call at one depth are one, or their effects first differ in the world's answer to the same call.
pub machine_runs_are_one : {C : Type 0} → MachineRunsAreOne C
machine_runs_are_one p w trees data_sound depth t args m n one other r q h k = elim (first_differ one other) [
  | inl d ↦ inr d
  | inr same ↦ inl (machine_runs_one p w trees data_sound depth t args m n one other r q h k same)
]
