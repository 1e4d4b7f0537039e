-- A machine's answered run is the call's meaning, by induction on the depth.
use Rattle.std.proofs.Common.{◌≡◌, inl, inr, ℕ, ℤ, zero, suc, ◌≤ℤ◌, Bool, true, false, List, [], ◌∷◌, ◌++◌, length, Option, Some, None, slice_get, refl, sym, ◌∙◌, ap, subst}
use Rattle.isle_trees.proofs.Basics.{clash}
use Rattle.isle_trees.proofs.Whole.{whole_right}
use Rattle.isle_trees.specs.Choice.{IsRight}
use Rattle.isle_trees.specs.Got.{Got, unknown, fails, gives}
use Rattle.isle_trees.specs.Premises.{IsStrict}
use Rattle.isle_trees.specs.Rules.{Elem, Want, has, one_value, passes_got}
use Rattle.isle_trees.specs.Scopes.{nothing_known}
use Rattle.isle_trees.specs.Walk.{ends, walk}
use Rattle.isle_rules.specs.TypedRules.{TypedPatterns, no_typed, more_typed, TypedRule}
use Rattle.isle_meaning.specs.Answers.{Completion}
use Rattle.isle_meaning.specs.Calls.{Agrees, Makes, IsRuleAt, Told, CoversAll, Means}
use Rattle.isle_meaning.specs.Demands.{Constraint, Demand, constrained, equal, vars_of}
use Rattle.isle_meaning.specs.Derived.{Closed}
use Rattle.isle_meaning.specs.Facts.{TermFacts, patterns}
use Rattle.isle_meaning.specs.GroundValues.{IsValueOf, AreValuesOf}
use Rattle.isle_meaning.specs.Held.{Held, value}
use Rattle.isle_meaning.specs.Holds.{Holds}
use Rattle.isle_meaning.specs.Laws.Machine.{MachineRunsAreMeant}
use Rattle.isle_meaning.specs.Laws.Matching.{IsRuleOfTypes, Settles}
use Rattle.isle_meaning.specs.Demands.{DemandOf}
use Rattle.isle_meaning.specs.Machine.Runs.{TermTree, Env, Runs, nothing_bound, known, read, RowRuns, Goes, BindsRun, result_held, Returns}
use Rattle.isle_meaning.specs.Machine.Runs.{StepsRun, Unmatched, MachineRun}
use Rattle.isle_meaning.specs.Machine.Trees.{IsHeldOf, IsTermTree, HasTermTrees, option_sort_if}
use Rattle.isle_meaning.specs.Matching.{Matches}
use Rattle.isle_meaning.specs.Outcomes.{Outcome, given, missing, ended, unmatched, IsMeant}
use Rattle.isle_meaning.specs.RightSides.{RightOf}
use Rattle.isle_meaning.specs.Scopes.{scope_of}
use Rattle.isle_meaning.specs.Sites.{Site}
use Rattle.isle_meaning.specs.Sorts.{Sort, plain_sort}
use Rattle.isle_meaning.specs.SoundPrograms.{IsSoundRule, IsSound}
use Rattle.isle_meaning.specs.Inside.TypedWords.{GivesTyped}
use Rattle.isle_meaning.specs.Typing.{AllTyped}
use Rattle.isle_meaning.specs.Values.{Value, Values}
use Rattle.isle_meaning.specs.Words.{word_of, steps_of, set}
use Rattle.isle_meaning.specs.Worlds.{CheckedProgram, Answers, Event}
use Rattle.isle_meaning.proofs.Calls.Rights.{IsAnswer, answer_map}
use Rattle.isle_meaning.proofs.Calls.Saying.{OutcomeMeans, GivesMeant}
use Rattle.isle_meaning.proofs.Calls.WordTyping.{calls_types, expr_typed}
use Rattle.isle_meaning.proofs.Chains.Growing.{typed_count}
use Rattle.isle_meaning.specs.AboutSites.Agreeing.{AgreeIfKnown}
use Rattle.isle_meaning.proofs.Sites.Agreeing.{strict}
use Rattle.isle_meaning.proofs.Machine.Reading.{row_or}
use Rattle.isle_meaning.proofs.Machine.Returning.{right_walk}
use Rattle.isle_meaning.proofs.Machine.RowSites.{part_site}
use Rattle.isle_meaning.proofs.Machine.Rows.{IsTypedEnv, nothing_typed, read_typed, row_typed, set_typed}
use Rattle.isle_meaning.proofs.Machine.Walked.{Walk, SetMatches, IsMet, in_end, in_front}
use Rattle.isle_meaning.proofs.Machine.Walking.{IsGood, V, AtReturn, WalkEnd, steps_walk}
use Rattle.isle_meaning.proofs.Matching.Later.{later}
use Rattle.isle_meaning.proofs.Matching.Scoping.{word_reads}
use Rattle.isle_meaning.proofs.Matching.Whole.{both_forward, matches_by_closed, unreachable_is_dead}

-- patterns that are typed are as many as the types
pattern_count : (facts : TermFacts) (G : ℕ → ℕ) (ps : TypedPatterns) (us : List ℕ) → AllTyped facts G ps us → patterns ps ≡ length us
pattern_count facts G no_typed [] h = refl
pattern_count facts G no_typed (u ∷ us) h = absurd h
pattern_count facts G (more_typed q qs) [] h = absurd h
pattern_count facts G (more_typed q qs) (u ∷ us) h = ap suc (pattern_count facts G qs us (h.1))

-- a result of its sort is a value of the type
result_value : (p : CheckedProgram) (partial : Bool) (u : ℕ) (v : Value) → IsHeldOf p (option_sort_if partial (plain_sort u)) (result_held partial v)
    → IsValueOf p.values v u
result_value p true u v h = h
result_value p false u v h = h

-- one tree, under one completion that agrees and covers
module _ {C : Type 0} (p : CheckedProgram) (w : Answers) (R : ℕ → Type 0) (sound : IsSound p R) (below : Runs) (gives_typed : GivesTyped p R below)
    (t : ℕ) (runs : R t) (args : Values) (args_typed : AreValuesOf p.values args (p.terms.inputs t)) (b : TermTree C) (B : IsTermTree p R t b)
    (means : ℕ → Values → List Event → Option Value → Type 0) (meant : GivesMeant p R below means) where
  abbrev pub Good : Completion → Type 0
  Good c = IsGood p w R sound below gives_typed t args args_typed b B means meant c

  -- what sites hold
  abbrev pub VC : Completion → ℕ → Got Held
  VC c = V p w R sound below gives_typed t args args_typed b B means meant c

  -- The term's rules are sound.
  pub rule_sound : (j : ℕ) (other : TypedRule) → IsRuleAt p t j other → IsSoundRule p R other
  rule_sound j other at = sound.rules j other (at.listed) (subst R (sym (at.of_term)) runs)

  -- their arguments are of their types
  rule_args : (j : ℕ) (other : TypedRule) → IsRuleAt p t j other → AreValuesOf p.values args (p.terms.inputs other.root)
  rule_args j other at = subst (λ (u : ℕ). AreValuesOf p.values args (p.terms.inputs u)) (sym (at.of_term)) args_typed

  -- they are rules of their types
  rule_types : (j : ℕ) (other : TypedRule) → IsRuleAt p t j other → IsRuleOfTypes p.terms (p.terms.inputs other.root) other
  rule_types j other at =
      let its = rule_sound j other at in
      record { well = its.well; result_type = p.terms.type_of other.root; var_types = its.var_types; typed = its.typed }

  -- a completion that agrees and covers settles each
  settles : (c : Completion) → Good c → (j : ℕ) (other : TypedRule) → IsRuleAt p t j other → Settles p.terms c args other
  settles c good j other at =
      let its = rule_sound j other at in
      record {
        allowed = good.agrees.allowed;
        takes = typed_count p args (p.terms.inputs other.root) (rule_args j other at)
            ∙ sym (pattern_count p.terms its.var_types other.args (p.terms.inputs other.root) (its.typed.args));
        covers = good.covers j other at;
      }

  -- what has a value is made of what has
  set_strict : (c : Completion) → IsStrict B.set (VC c)
  set_strict c s (h, e) q m = elim (row_or (slice_get b.sites s)) [
    | inl n ↦ absurd (subst (λ (l : List ℕ). Elem q l) (B.beyond s n) m)
    | inr (row, at) ↦
        strict p.terms c args [] (B.site s) (B.site q) (part_site p R t b B s q row at m) (h, e)
  ]

  -- a rule of the set matches where the typed rule does
  pub to_matches : (c : Completion) → Good c → (i : ℕ) → Elem i B.left → SetMatches B.set (VC c) i → Matches p.terms c args (B.rule i)
  to_matches c good i m h =
      (matches_by_closed p.terms (p.terms.inputs (B.rule i).root) c args (B.rule i) (rule_types _ _ (B.listed i m))
      (settles c good _ _ (B.listed i m))).1
      (λ d closed. demand d closed)
    where
      passed : (s : ℕ) (k : C) (g : Got Held) → value p.terms c args [] (B.site s) ≡ g → passes_got B.set k g ≡ true
          → Holds (value p.terms c args []) (constrained (B.site s) (b.test k))
      passed s k unknown e q = absurd cc
      passed s k fails e q = absurd cc
      passed s k (gives x) e q = (x, e, (B.tests k x).0 q)

      -- what is demanded holds
      demand : (d : Demand) → Closed (DemandOf p.terms (B.rule i)) d → Holds (value p.terms c args []) d
      demand (constrained u k) derived =
          let (s, l, is, at, same) = B.all_wants i u k m derived in
          subst (λ (j : Constraint). Holds (value p.terms c args []) (constrained u j)) same
          (subst (λ (x : Site). Holds (value p.terms c args []) (constrained x (b.test l))) is
          (passed s l (value p.terms c args [] (B.site s)) refl (h.wants s (has l) at)))
      demand (equal u v) closed =
          let (x, y, is, other, joined) = B.all_joins i u v m closed in
          let apart : x ≡ y → ⊥ = λ q. closed.1 (sym is ∙ ap B.site q ∙ other) in
          let both = h.equals x y joined apart in
          let (g, e) = both.0 in
          (g, ap (value p.terms c args []) (sym is) ∙ e, ap (value p.terms c args []) (sym other) ∙ sym (both.1) ∙ e)

  -- and the other way
  from_matches : (c : Completion) → Good c → (i : ℕ) → Elem i B.left → Matches p.terms c args (B.rule i) → SetMatches B.set (VC c) i
  from_matches c good i m h =
      let closed = (matches_by_closed p.terms (p.terms.inputs (B.rule i).root) c args (B.rule i) (rule_types _ _ (B.listed i m))
      (settles c good _ _ (B.listed i m))).0 h in
      record {
        wants = λ s x e. want s x e closed;
        equals = λ x y j n. (let (g, e, f) = closed (equal (B.site x) (B.site y)) (B.joins i x y m j n) in
            ((g, e), (e ∙ sym f)));
      }
    where
      want : (s : ℕ) (x : Want C) → B.set.at i s ≡ Some x → ((d : Demand) → Closed (DemandOf p.terms (B.rule i)) d
          → Holds (value p.terms c args []) d)
          → IsMet B.set x (VC c s)
      want s (has k) e closed =
          let (g, q, meets) = closed (constrained (B.site s) (b.test k)) (B.wants i s k m e) in
          rw q ((B.tests k g).1 meets)
      want s one_value e closed = absurd (B.tree.no_multi i s m e)

  -- any rule of the term that matches is one of the set
  pub each_matches : (c : Completion) → Good c → (j : ℕ) (other : TypedRule) → IsRuleAt p t j other → Matches p.terms c args other
      → (i : ℕ) × Elem i B.left × (B.rule i ≡ other) × SetMatches B.set (VC c) i
  each_matches c good j other at h =
      let (i, m, e) = B.all j other at
      (λ dead. unreachable_is_dead p.terms (p.terms.inputs other.root) c args other (rule_types j other at) dead h) in
      (i, m, e, from_matches c good i m (subst (λ (r : TypedRule). Matches p.terms c args r) (sym e) h))

  -- The walk is right.
  pub right : (c : Completion) → Good c → IsRight B.set (VC c) B.left (walk B.set (VC c) b.tree)
  right c good = whole_right B.set B.left b.tree (VC c) B.tree (B.respects c args (good.agrees.allowed) (good.agrees.typed) args_typed)
      (B.asked c args (good.agrees.allowed) (good.agrees.typed) args_typed (good.covers)) (set_strict c)

  -- the rule chosen is the greatest of those that match
  pub chosen_greatest : (c : Completion) → Good c → (i : ℕ) → Elem i B.left
      → ((j : ℕ) → Elem j B.left → SetMatches B.set (VC c) j → B.set.prio j ≤ℤ B.set.prio i)
      → (j : ℕ) (other : TypedRule) → IsRuleAt p t j other → Matches p.terms c args other → other.priority ≤ℤ (B.rule i).priority
  chosen_greatest c good i m top j other at h =
      let (k, n, is, chosen) = each_matches c good j other at h in
      subst (λ (x : TypedRule). x.priority ≤ℤ (B.rule i).priority) is
      (subst (λ (z : ℤ). z ≤ℤ (B.rule i).priority) (B.priority k n) (subst (λ (z : ℤ). B.set.prio k ≤ℤ z) (B.priority i m) (top k n chosen)))

  -- what a return comes to is told
  return_told : (c : Completion) → Good c → (f : Completion → Walk) → ((c : Completion) → f c ≡ walk B.set (VC c) b.tree)
      → (trace : List Event) (r : Outcome Value) → AtReturn p w R sound below gives_typed t args args_typed b B means meant f trace r
      → IsAnswer (λ x. Told p means c t args trace x) r
  return_told c good f is_walk trace r a =
      let i = a.chosen in
      let (o, e, chosen_is) = a.walked c good in
      let found = subst (IsRight B.set (VC c) B.left) (sym (is_walk c) ∙ chosen_is) (right c good) in
      let m : Elem i B.left = found.0 in
      let rule = B.rule i in
      let at = B.listed i m in
      let its = rule_sound (B.place i) rule at in
      let matches = to_matches c good i m (found.1) in
      let variables = matches.0 in
      let forward = both_forward p.terms c args rule its.well variables (matches.1) in
      let typed = expr_typed p R (scope_of rule) its.var_types rule.right (p.terms.type_of rule.root) (its.well.right)
      (its.typed.right) (its.right) in
      let answer = right_walk p w R sound below gives_typed t args args_typed b B means meant c (good.agrees) i
      (scope_of rule) its.var_types (calls_types p rule.right)
      variables (vars_of p.terms rule) (forward.1) (word_of p.terms rule.right) (B.set.result i) (B.returned i m)
      (B.whole i (B.set.result i) m (in_end (B.set.calls i) (B.set.result i)))
      (B.result i m) (word_reads p.terms (scope_of rule) rule.right (its.well.right)) (steps_of p.terms rule.right) 0
      (B.set.calls i) [] [] a.steps trace r (B.calls i m)
      (λ k n. B.whole i k m (in_front (B.set.calls i) (B.set.result i) k n)) (typed.1) refl (B.tree.single.first i)
      (record {
        sc = a.sc;
        after = a.after;
        env = a.env;
        binds = a.binds;
        scope = record { closed = a.path.closed; calm = λ x em ef. clash (B.set.effect x) ef (a.path.calm x em); kept = λ x n. absurd n };
        order = a.order;
        typed = a.path.typed;
        kept = λ more k. kept_later more k (a.env k) refl;
        run = a.run;
      }) in
      answer_map (RightOf p.terms c (Makes p means) variables rule trace) (λ x. Told p means c t args trace x) r (λ x h. inl (record {
        place = B.place i;
        chosen = rule;
        at = at;
        variables = variables;
        matches = matches.1;
        greatest = chosen_greatest c good i m (found.2);
        right = h;
      })) answer
    where
      kept_later : (more : List (Option Value)) (k : ℕ) (x : Option Held) → a.env k ≡ x
          → AgreeIfKnown (known x) (value p.terms c args ([] ++ more) (B.site k))
      kept_later more k None e = λ n q. absurd (n refl)
      kept_later more k (Some h) e = λ n q.
          let is = a.path.kept c good k h e in
          later p.terms c args [] more (B.site k) (λ u. let z : unknown ≡ gives h = sym u ∙ is in cc) ∙ is

  -- what a return gives is of the term's type
  return_typed : (binds : List ℕ) (env : Env) (i : ℕ) (steps : ℕ) (trace : List Event) (v : Value) → Elem i B.left
      → IsTypedEnv p w R sound below gives_typed t args args_typed b B env
      → BindsRun p w below b.sites args env binds (λ env. Returns b.sites (p.terms.partial t) args env (b.result i)) steps trace (given v)
      → IsValueOf p.values v (p.terms.type_of t)
  return_typed [] env i steps trace v m typed (u, e, z, nothing, is) =
      let q : given v ≡ given u = is in
      let same : u ≡ v = cc in
      let s = B.gives_type i m in
      let read_z : read b.sites args env (B.set.result i) ≡ gives (result_held (p.terms.partial t) u) =
      ap (read b.sites args env) (sym (B.returned i m)) ∙ e in
      let here = read_typed p w R sound below gives_typed t args args_typed b B env (B.set.result i)
      (result_held (p.terms.partial t) u) typed read_z in
      subst (λ (x : Value). IsValueOf p.values x (p.terms.type_of t)) same
      (result_value p (p.terms.partial t) (p.terms.type_of t) u (subst (λ (k : Sort). IsHeldOf p k (result_held (p.terms.partial t) u)) s here))
  return_typed (k ∷ ks) env i steps trace v m typed (row, effects, rest, o, at, made, split, after) =
      go o made after (λ h ty run. return_typed ks (set env k (Some h)) i steps rest v m ty run)
    where
      go : (o : Outcome Held) → RowRuns p w below b.sites args env row effects o
          → Goes o (λ h. BindsRun p w below b.sites args (set env k (Some h)) ks (λ env. Returns b.sites (p.terms.partial t) args env (b.result i)))
          steps rest (given v)
          → ((h : Held) → IsTypedEnv p w R sound below gives_typed t args args_typed b B (set env k (Some h))
          → BindsRun p w below b.sites args (set env k (Some h)) ks (λ env. Returns b.sites (p.terms.partial t) args env (b.result i))
          steps rest (given v)
          → IsValueOf p.values v (p.terms.type_of t)) → IsValueOf p.values v (p.terms.type_of t)
      go (given h) made run f = f h (set_typed p w R sound below gives_typed t args args_typed b B env k h typed
          (row_typed p w R sound below gives_typed t args args_typed b B env k row effects h typed at made)) run
      go missing made run f = absurd (let q : given v ≡ missing = run.2 in cc)
      go (ended e) made run f = absurd (let q : given v ≡ ended e = run.2 in cc)

  -- the walk of the whole tree
  abbrev pub WholeEnd : List Event → Outcome Value → Type 0
  WholeEnd trace r = WalkEnd p w R sound below gives_typed t args args_typed b B means meant (λ c. walk B.set (VC c) b.tree)
      (Unmatched p t args) trace r

  -- The run of the tree.
  pub whole_walk : (steps : ℕ) (trace : List Event) (r : Outcome Value)
      → StepsRun p w below b (p.terms.partial t) args nothing_bound b.tree (Unmatched p t args) steps trace r → WholeEnd trace r
  whole_walk steps trace r run =
      steps_walk p w R sound below gives_typed t args args_typed b B means meant b.tree B.left nothing_known nothing_bound
      (Unmatched p t args) steps trace r
      B.tree.builds (record {
        typed = nothing_typed p w R sound below gives_typed t args args_typed b B;
        kept = λ c g k h e. absurd (let q : None ≡ Some h = e in cc);
        calm = λ x e. absurd (let q : false ≡ true = e in cc);
        closed = λ x q e m. absurd (let z : false ≡ true = e in cc);
        less = λ i m. m;
      }) run

  -- no rule matches where the walk ends
  pub ends_told : (c : Completion) → Good c → walk B.set (VC c) b.tree ≡ ends → (j : ℕ) (other : TypedRule)
      → IsRuleAt p t j other → Matches p.terms c args other → ⊥
  ends_told c good e j other at h =
      let none = subst (IsRight B.set (VC c) B.left) e (right c good) in
      let (i, m, is, chosen) = each_matches c good j other at h in none i m chosen

  -- what it comes to is told
  whole_told : (c : Completion) → Good c → (trace : List Event) (r : Outcome Value) → WholeEnd trace r
      → IsAnswer (λ x. Told p means c t args trace x) r
  whole_told c good trace r (inl (m, (z, nothing, is), e)) = subst (IsAnswer (λ x. Told p means c t args trace x))
      (sym is) (go (p.terms.partial t) refl)
    where
      go : (partial : Bool) → p.terms.partial t ≡ partial → IsAnswer (λ x. Told p means c t args trace x) (unmatched partial t args)
      go true q = inr (record {
        none = λ j other at h. ends_told c good (e c good) j other at h;
        partial =
            q;
        failure = record { nothing = nothing; none = refl };
      })
      go false q = tt
  whole_told c good trace r (inr (inl a)) = return_told c good (λ c. walk B.set (VC c) b.tree) (λ c. refl) trace r a
  whole_told c good trace r (inr (inr (inl (is, nothing, e)))) =
      absurd (subst (IsRight B.set (VC c) B.left) (e c good) (right c good))
  whole_told c good trace r (inr (inr (inr a))) = subst (IsAnswer (λ x. Told p means c t args trace x)) (sym a.is) tt

  -- what it gives is of the type
  whole_typed : (trace : List Event) (v : Value) → WholeEnd trace (given v) → IsValueOf p.values v (p.terms.type_of t)
  whole_typed trace v (inl (m, (z, nothing, is), e)) = absurd (go (p.terms.partial t) is)
    where
      go : (partial : Bool) → given v ≡ unmatched partial t args → ⊥
      go true q = cc
      go false q = cc
  whole_typed trace v (inr (inl a)) = return_typed a.binds a.env a.chosen a.steps trace v (a.path.less a.chosen a.there) a.path.typed a.run
  whole_typed trace v (inr (inr (inl (is, nothing, e)))) = absurd (let q : given v ≡ missing = is in cc)
  whole_typed trace v (inr (inr (inr a))) = absurd (let q : given v ≡ ended a.end = a.is in cc)

-- what is told under each completion, of a term with rules, is meant
told_is_meant : (p : CheckedProgram) (w : Answers) (n t : ℕ) (args : Values) (trace : List Event) (r : Outcome Value) → p.has_rules t ≡ true
    → ((v : Value) → r ≡ given v → IsValueOf p.values v (p.terms.type_of t))
    → ((c : Completion) → Agrees p w (Means p w n) c → CoversAll p c t args → IsAnswer (λ x. Told p (Means p w n) c t args trace x) r)
    → IsMeant p w (suc n) t args trace r
told_is_meant p w n t args trace (given v) ruled typed h = ((ruled, h), typed v refl)
told_is_meant p w n t args trace missing ruled typed h = (ruled, h)
told_is_meant p w n t args trace (ended e) ruled typed h = tt

-- What is meant is what an outcome below means.
pub meant_outcome : (p : CheckedProgram) (w : Answers) (n t : ℕ) (vs : Values) (effects : List Event) (r : Outcome Value)
    → IsMeant p w n t vs effects r → OutcomeMeans (Means p w n) t vs effects r
meant_outcome p w n t vs effects (given v) h = h.0
meant_outcome p w n t vs effects missing h = h
meant_outcome p w n t vs effects (ended e) h = tt

module _ {C : Type 0} (p : CheckedProgram) (w : Answers) (R : ℕ → Type 0) (sound : IsSound p R) (trees : ℕ → TermTree C)
    (H : HasTermTrees p R trees) where
  -- a run of one of these terms, on arguments of its types, is meant
  pub machine_run_meant : (n t : ℕ) (args : Values) (steps : ℕ) (trace : List Event) (r : Outcome Value) → R t
      → AreValuesOf p.values args (p.terms.inputs t) → MachineRun p trees w n t args steps trace r → IsMeant p w n t args trace r
  machine_run_meant zero t args steps trace r runs typed run = subst (IsMeant p w 0 t args trace) (sym (run.2)) tt
  machine_run_meant (suc n) t args steps trace r runs typed run =
      let below : Runs = λ u vs effects q. (reached : ℕ) × MachineRun p trees w n u vs reached effects q in
      let meant : GivesMeant p R below (Means p w n) = λ u vs effects q ru args_typed its.
      meant_outcome p w n u vs effects q (machine_run_meant n u vs (its.0) effects q ru args_typed (its.1)) in
      let gives_typed : GivesTyped p R below = λ u vs effects v ru args_typed its.
      (machine_run_meant n u vs (its.0) effects (given v) ru args_typed (its.1)).1 in
      let whole = whole_walk p w R sound below gives_typed t runs args typed (trees t) (H.of_term t runs) (Means p w n) meant steps trace r run in
      told_is_meant p w n t args trace r (sound.ruled t runs)
      (λ v e. whole_typed p w R sound below gives_typed t runs args typed (trees t) (H.of_term t runs) (Means p w n) meant trace v
      (subst (λ (q : Outcome Value). WholeEnd p w R sound below gives_typed t runs args typed (trees t) (H.of_term t runs)
      (Means p w n) meant trace q) e whole))
      (λ c agrees covers. whole_told p w R sound below gives_typed t runs args typed (trees t) (H.of_term t runs) (Means p w n) meant c
      (record { agrees = agrees; covers = covers }) trace r whole)

-- Where a machine's run answers, that is the call's meaning.
pub machine_runs_are_meant : {C : Type 0} → MachineRunsAreMeant C
machine_runs_are_meant p w runs trees sound H n t args steps trace r h typed run =
    machine_run_meant p w (λ u. runs u ≡ true) sound trees H n t args steps trace r h typed run
