-- A machine's run takes the way that the tree's walk takes under each completion that agrees and covers.
use Rattle.std.proofs.Common.{◌≡◌, ◌≢◌, ◌⊎◌, inl, inr, ℕ, Bool, true, false, List, [], ◌∷◌, Option, Some, None, slice_get, refl, sym, ◌∙◌, ap, subst}
use Rattle.std.proofs.Math.Decide.{ℕ_discrete}
use Rattle.std.specs.Prelude.{if◌then◌else◌}
use Rattle.isle_trees.proofs.Basics.{true_or, or_holds, or_right, from_filter, counted_left, others_left, source_made}
use Rattle.isle_trees.proofs.Leaf.{in_all}
use Rattle.isle_trees.proofs.Path.{step_there, some_counted, asks, emitted_or, still_emitted}
use Rattle.isle_trees.specs.Builds.{IsBest, Binds, BindsEach, wanting, not_wanting, Builds, BuildsArms}
use Rattle.isle_trees.specs.Choice.{IsAskedBy}
use Rattle.isle_trees.specs.Got.{Got, unknown, fails, gives}
use Rattle.isle_trees.specs.Rules.{rights, Elem, has, Source, passes_got, alike_got}
use Rattle.isle_trees.specs.Scopes.{Scope, join, inside, is_source, Test, on_match, on_equal, sites_of, counted, others}
use Rattle.isle_trees.specs.Tree.{Steps, done, «match», equal, loop, give, Arms, no_arm, arm}
use Rattle.isle_trees.specs.Answers.{HasValue}
use Rattle.isle_trees.specs.Walk.{Bound, goes, breaks, chooses, ends, stops, bound_then, bound, bind, events, and_then}
use Rattle.isle_trees.specs.Walk.{after_bound, walk, walk_arms}
use Rattle.isle_meaning.specs.Answers.{Completion}
use Rattle.isle_meaning.specs.Asking.{Ended}
use Rattle.isle_meaning.specs.Calls.{Says, Agrees, CoversAll}
use Rattle.isle_meaning.specs.GroundValues.{AreValuesOf}
use Rattle.isle_meaning.specs.Held.{Held, value}
use Rattle.isle_meaning.specs.Machine.Runs.{TermTree, Env, Runs, Going, known, read, RowRuns, Goes, BindsRun, opened}
use Rattle.isle_meaning.specs.Machine.Runs.{Returns, EqualRuns, StepsRun, ArmsRun}
use Rattle.isle_meaning.specs.Machine.Trees.{is_effect, is_call, IsTermTree, held_at}
use Rattle.isle_meaning.specs.Numbered.{Row}
use Rattle.isle_meaning.specs.Outcomes.{Outcome, given, missing, ended}
use Rattle.isle_meaning.specs.SoundPrograms.{IsSound}
use Rattle.isle_meaning.specs.Inside.TypedWords.{GivesTyped}
use Rattle.isle_meaning.specs.Values.{Value, Values}
use Rattle.isle_meaning.specs.Words.{set}
use Rattle.isle_meaning.specs.Worlds.{CheckedProgram, Answers, Event}
use Rattle.isle_meaning.proofs.Calls.Saying.{SaysOutcome, GivesMeant}
use Rattle.isle_meaning.specs.AboutSites.Agreeing.{AgreeIfKnown}
use Rattle.isle_meaning.proofs.Machine.Reading.{no_effects, IsKept, read_same}
use Rattle.isle_meaning.proofs.Machine.RowSites.{no_call_no_effect}
use Rattle.isle_meaning.proofs.Machine.RowEnds.{no_call_no_end}
use Rattle.isle_meaning.proofs.Machine.Walked.{Walk, opened_in, order_parts}
use Rattle.isle_meaning.proofs.Machine.Rows.{IsTypedEnv, row_typed, set_typed, row_says, row_calm}
use Rattle.isle_meaning.proofs.Matching.Basics.{set_at, set_other}

module _ {C : Type 0} (p : CheckedProgram) (w : Answers) (R : ℕ → Type 0) (sound : IsSound p R) (below : Runs) (gives_typed : GivesTyped p R below)
    (t : ℕ) (args : Values) (args_typed : AreValuesOf p.values args (p.terms.inputs t)) (b : TermTree C) (B : IsTermTree p R t b)
    (means : ℕ → Values → List Event → Option Value → Type 0) (meant : GivesMeant p R below means) where
  -- completions that agree and cover
  pub record IsGood (c : Completion) : Type 0 where
    pub agrees : Agrees p w means c
    pub covers : CoversAll p c t args

  -- what sites hold
  abbrev pub V : Completion → ℕ → Got Held
  V c = held_at p.terms B.site c args []

  -- what is bound is what each completion says
  abbrev pub Keeps : Env → Type 0
  Keeps env = (c : Completion) → IsGood c → (k : ℕ) (h : Held) → env k ≡ Some h → value p.terms c args [] (B.site k) ≡ gives h

  -- What is bound is what one of them says.
  pub to_kept : (env : Env) (c : Completion) → Keeps env → IsGood c → IsKept p.terms c args [] B.site b.sites B.sited env
  to_kept env c kept g k = go (env k) refl
    where
      go : (o : Option Held) → env k ≡ o → AgreeIfKnown (known o) (value p.terms c args [] (B.site k))
      go None e = λ n m. absurd (n refl)
      go (Some h) e = λ n m. kept c g k h e

  -- what is bound is of its site's sort
  abbrev pub Typed : Env → Type 0
  Typed env = IsTypedEnv p w R sound below gives_typed t args args_typed b B env

  -- What is asked is known.
  pub asked_known : (c : Completion) (k : ℕ) → IsGood c → IsAskedBy B.set B.left k → value p.terms c args [] (B.site k) ≢ unknown
  asked_known c k g (i, m, a) =
      B.asked c args (g.agrees.allowed) (g.agrees.typed) args_typed (g.covers) i k a

  -- a call that is asked ends the run
  pub record AskedEnd (trace : List Event) (r : Outcome Value) : Type 0 where
    pub number : ℕ
    pub row : Row
    pub env : Env
    pub end : Ended
    pub there : slice_get b.sites number ≡ Some row
    pub asked : IsAskedBy B.set B.left number
    pub typed : Typed env
    pub kept : Keeps env
    pub run : RowRuns p w below b.sites args env row [] (ended end)
    pub nothing : trace ≡ []
    pub is : r ≡ ended end

  -- so is a further site
  keeps_set : (env : Env) (k : ℕ) (h : Held) → Keeps env → ((c : Completion) → IsGood c → value p.terms c args [] (B.site k) ≡ gives h)
      → Keeps (set env k (Some h))
  keeps_set env k h kept says c good j g e = elim (ℕ_discrete j k) [
    | yes q ↦
        let o : Some h ≡ Some g = sym (ap (set env k (Some h)) q ∙ set_at env k (Some h)) ∙ e in
        let r : h ≡ g = cc in ap (λ (z : ℕ). value p.terms c args [] (B.site z)) q ∙ says c good ∙ ap (λ (z : Held). gives z) r
    | no n ↦ kept c good j g (sym (set_other env k (Some h) j n) ∙ e)
  ]

  -- binding what is asked: all of it, or up to a site that fails, or to a call that ends the run
  abbrev pub BindsEnd : List ℕ → (Env → Going) → ℕ → List Event → Outcome Value → Type 0
  BindsEnd binds next steps trace r =
      ((env : Env) × Typed env × Keeps env × ((c : Completion) → IsGood c → bind (V c) binds ≡ goes) × next env steps trace r)
      ⊎ (((r ≡ missing) × (trace ≡ []) × ((c : Completion) → IsGood c → bind (V c) binds ≡ breaks)) ⊎ AskedEnd trace r)

  -- What is asked is bound.
  pub binds_walk : (binds : List ℕ) (env : Env) (next : Env → Going) (steps : ℕ) (trace : List Event) (r : Outcome Value)
      → ((x : ℕ) → Elem x binds → IsAskedBy B.set B.left x) → Typed env → Keeps env → BindsRun p w below b.sites args env binds next steps trace r
      → BindsEnd binds next steps trace r
  binds_walk [] env next steps trace r asked typed kept run = inl (env, typed, kept, (λ c g. refl), run)
  binds_walk (k ∷ ks) env next steps trace r asked typed kept (row, effects, rest, o, at, made, split, after) =
      let ask = asked k (inl refl) in
      let calm : is_effect row ≡ false = sym (B.effects k row at) ∙ B.tree.single.pure (ask.0) k (ask.2) in
      let none = row_calm p w below b.sites args env row effects o calm made in
      let same = no_effects effects rest trace none split in
      let says = λ (c : Completion) (g : IsGood c). row_says p w R sound below gives_typed t args args_typed b B means meant c
      (g.agrees) [] env k row effects o
      typed (to_kept env c kept g) at calm made in
      go o made says same none (λ env' ty ke run. binds_walk ks env' next steps rest r (λ x m. asked x (inr m)) ty ke run) after
    where
      go : (o : Outcome Held) → RowRuns p w below b.sites args env row effects o
          → ((c : Completion) (g : IsGood c) → SaysOutcome (value p.terms c args [] (B.site k)) o) → rest ≡ trace → effects ≡ []
          → ((env' : Env) → Typed env' → Keeps env' → BindsRun p w below b.sites args env' ks next steps rest r → BindsEnd ks next steps rest r)
          → Goes o (λ h. BindsRun p w below b.sites args (set env k (Some h)) ks next) steps rest r → BindsEnd (k ∷ ks) next steps trace r
      go (given h) made says same none walks after =
          let valued : (c : Completion) → IsGood c → V c k ≡ gives h =
          λ c g. (says c g (asked_known c k g (asked k (inl refl)))) in
          let bound_is : (c : Completion) (g : IsGood c) → bind (V c) (k ∷ ks) ≡ bind (V c) ks =
          λ c g. ap (λ (x : Got Held). bound_then (bound k x) (bind (V c) ks)) (valued c g) in
          let here = row_typed p w R sound below gives_typed t args args_typed b B env k row effects h typed at made in
          let rec = walks (set env k (Some h))
          (set_typed p w R sound below gives_typed t args args_typed b B env k h typed here)
          (keeps_set env k h kept (λ c g. says c g (asked_known c k g (asked k (inl refl))))) after in
          subst (λ (l : List Event). BindsEnd (k ∷ ks) next steps l r) same (elim rec [
            | inl a ↦ (let (env', ty, ke, all, run) = a in inl (env', ty, ke, (λ c g. bound_is c g ∙ all c g), run))
            | inr o ↦ elim o [
              | inl a ↦ (let (is, nothing, all) = a in inr (inl (is, nothing, λ c g. bound_is c g ∙ all c g)))
              | inr a ↦ inr (inr a)
            ]
          ])
      go missing made says same none walks (z, nothing, is) = inr (inl (
        is,
        sym same ∙ nothing,
        λ c g.
            ap (λ (x : Got Held). bound_then (bound k x) (bind (V c) ks)) ((says c g (asked_known c k g (asked k (inl refl))))),
      ))
      go (ended e) made says same none walks (z, nothing, is) = inr (inr (record {
        number = k;
        row = row;
        env = env;
        end = e;
        there = at;
        asked = asked k (inl refl);
        typed = typed;
        kept = kept;
        run = subst (λ (l : List Event). RowRuns p w below b.sites args env row l (ended e)) none made;
        nothing = sym same ∙ nothing;
        is = is;
      }))

  -- binding what a passed test opens: all of it, or no completion agrees and covers
  abbrev pub OpensEnd : (Env → Going) → ℕ → List Event → Outcome Value → Type 0
  OpensEnd next steps trace r = ((env : Env) × Typed env × Keeps env × next env steps trace r) ⊎
      ((r ≡ missing) × (trace ≡ []) × ((c : Completion) → IsGood c → ⊥))

  -- what is opened is bound
  opens_walk : (fields : List ℕ) (env : Env) (next : Env → Going) (steps : ℕ) (trace : List Event) (r : Outcome Value)
      → ((x : ℕ) → Elem x fields → ((m : Source C) × (B.set.made x ≡ Some m)) × ((c : Completion) → IsGood c → HasValue (V c x)))
      → Typed env → Keeps env → BindsRun p w below b.sites args env fields next steps trace r → OpensEnd next steps trace r
  opens_walk [] env next steps trace r field typed kept run = inl (env, typed, kept, run)
  opens_walk (k ∷ ks) env next steps trace r field typed kept (row, effects, rest, o, at, made, split, after) =
      let one = field k (inl refl) in
      let no_call = B.opens k row (one.0.0) at (one.0.1) in
      let calm : is_effect row ≡ false = no_call_no_effect row no_call in
      let none = row_calm p w below b.sites args env row effects o calm made in
      let same = no_effects effects rest trace none split in
      let says = λ (c : Completion) (g : IsGood c). row_says p w R sound below gives_typed t args args_typed b B means meant c
      (g.agrees) [] env k row effects o
      typed (to_kept env c kept g) at calm made in
      go o made says same no_call (one.1) (λ env' ty ke run. opens_walk ks env' next steps rest r (λ x m. field x (inr m)) ty ke run) after
    where
      go : (o : Outcome Held) → RowRuns p w below b.sites args env row effects o
          → ((c : Completion) (g : IsGood c) → SaysOutcome (value p.terms c args [] (B.site k)) o) → rest ≡ trace → is_call row ≡ false
          → ((c : Completion) → IsGood c → HasValue (V c k))
          → ((env' : Env) → Typed env' → Keeps env' → BindsRun p w below b.sites args env' ks next steps rest r → OpensEnd next steps rest r)
          → Goes o (λ h. BindsRun p w below b.sites args (set env k (Some h)) ks next) steps rest r → OpensEnd next steps trace r
      go (given h) made says same no_call valued walks after =
          let here = row_typed p w R sound below gives_typed t args args_typed b B env k row effects h typed at made in
          subst (λ (l : List Event). OpensEnd next steps l r) same (walks (set env k (Some h))
          (set_typed p w R sound below gives_typed t args args_typed b B env k h typed here)
          (keeps_set env k h kept (λ c g. let (x, v) = valued c g in says c g ((λ e. let q : gives x ≡ unknown = sym v ∙ e in cc)))) after)
      go missing made says same no_call valued walks (z, nothing, is) = inr (
        is,
        sym same ∙ nothing,
        λ c g.
            let (x, v) = valued c g in
            let k : value p.terms c args [] (B.site k) ≢ unknown = (λ e. let q : gives x ≡ unknown = sym v ∙ e in cc) in
            let f : fails ≡ gives x = sym ((says c g k)) ∙ v in cc,
      )
      go (ended e) made says same no_call valued walks after = absurd (no_call_no_end p w below b.sites args env row effects e no_call made)

  -- where a run has come: what it has bound, and what the tree knows there
  pub record OnPath (env : Env) (sc : Scope C) (rest : List ℕ) : Type 0 where
    pub typed : Typed env
    pub kept : Keeps env
    pub calm : (x : ℕ) → sc.emitted x ≡ true → B.set.effect x ≡ false
    pub closed : (x q : ℕ) → sc.emitted x ≡ true → Elem q (B.set.parts x) → sc.emitted q ≡ true
    pub less : (i : ℕ) → Elem i rest → Elem i B.left

  -- a rule's return is reached, under each completion
  pub record AtReturn (f : Completion → Walk) (trace : List Event) (r : Outcome Value) : Type 0 where
    pub chosen : ℕ
    pub env : Env
    pub sc : Scope C
    pub after : Scope C
    pub rest : List ℕ
    pub binds : List ℕ
    pub steps : ℕ
    pub path : OnPath env sc rest
    pub there : Elem chosen rest
    pub order : BindsEach B.set sc (rights B.set chosen) binds after
    pub run : BindsRun p w below b.sites args env binds (λ env. Returns b.sites (p.terms.partial t) args env (b.result chosen)) steps trace r
    pub walked : (c : Completion) → IsGood c → (o : Bound) × (e : List ℕ) × (f c ≡ chooses chosen o e)

  -- A run of steps goes past them, comes to a return, fails where no completion agrees and covers, or ends at a call that is asked.
  abbrev pub WalkEnd : (Completion → Walk) → Going → List Event → Outcome Value → Type 0
  WalkEnd f later trace r =
      ((m : ℕ) × later m trace r × ((c : Completion) → IsGood c → f c ≡ ends))
      ⊎ (AtReturn f trace r ⊎ (((r ≡ missing) × (trace ≡ []) × ((c : Completion) → IsGood c → f c ≡ stops)) ⊎ AskedEnd trace r))

  -- a return under another walk that chooses so
  return_way : (f g : Completion → Walk) (trace : List Event) (r : Outcome Value)
      → ((c : Completion) → IsGood c → (i : ℕ) (o : Bound) (e : List ℕ) → f c ≡ chooses i o e → g c ≡ chooses i o e)
      → AtReturn f trace r → AtReturn g trace r
  return_way f g trace r same a = record {
    chosen = a.chosen;
    env = a.env;
    sc = a.sc;
    after = a.after;
    rest = a.rest;
    binds = a.binds;
    steps = a.steps;
    path = a.path;
    there = a.there;
    order = a.order;
    run = a.run;
    walked = λ c good. let (o, e, q) = a.walked c good in (o, e, same c good a.chosen o e q);
  }

  -- a run under another walk that ends so
  same_way : (f g : Completion → Walk) (later : Going) (trace : List Event) (r : Outcome Value) → ((c : Completion) → IsGood c → g c ≡ f c)
      → WalkEnd f later trace r → WalkEnd g later trace r
  same_way f g later trace r same (inl (m, run, e)) = inl (m, run, λ c good. same c good ∙ e c good)
  same_way f g later trace r same (inr (inl a)) = inr (inl (return_way f g trace r (λ c good i o e q. same c good ∙ q) a))
  same_way f g later trace r same (inr (inr (inl (is, n, e)))) = inr (inr (inl (is, n, λ c good. same c good ∙ e c good)))
  same_way f g later trace r same (inr (inr (inr a))) = inr (inr (inr a))

  -- one part, and then another
  then_way : (f g : Completion → Walk) (between later : Going) (trace : List Event) (r : Outcome Value) → WalkEnd f between trace r
      → ((m : ℕ) → between m trace r → WalkEnd g later trace r) → WalkEnd (λ c. and_then (f c) (g c)) later trace r
  then_way f g between later trace r (inl (m, run, e)) k =
      same_way g (λ c. and_then (f c) (g c)) later trace r (λ c good. ap (λ (o : Walk). and_then o (g c)) (e c good)) (k m run)
  then_way f g between later trace r (inr (inl a)) k =
      inr (inl (return_way f (λ c. and_then (f c) (g c)) trace r (λ c good i o e q. ap (λ (x : Walk). and_then x (g c)) q) a))
  then_way f g between later trace r (inr (inr (inl (is, n, e)))) k =
      inr (inr (inl (is, n, λ c good. ap (λ (o : Walk). and_then o (g c)) (e c good))))
  then_way f g between later trace r (inr (inr (inr a))) k = inr (inr (inr a))

  -- what a step binds is asked by a rule left
  step_asked : (rest : List ℕ) (sc after : Scope C) (u : Test) (binds : List ℕ) → ((i : ℕ) → Elem i rest → Elem i B.left)
      → IsBest B.set rest sc u → Binds B.set sc (sites_of u) binds after → (x : ℕ) → Elem x binds → IsAskedBy B.set B.left x
  step_asked rest sc after u binds less best bs x m =
      let (i, l, a) = (step_there B.set rest sc sc after u binds B.tree.made.both best bs x (in_all B.set sc after (sites_of u) binds bs x m)).1 in
      (i, less i l, a)

  -- and so is what it tests
  test_asked : (rest : List ℕ) (sc : Scope C) (u : Test) → ((i : ℕ) → Elem i rest → Elem i B.left) → IsBest B.set rest sc u
      → (x : ℕ) → Elem x (sites_of u) → IsAskedBy B.set B.left x
  test_asked rest sc u less best x m =
      let (i, l, h) = some_counted B.set rest sc u best in (i, less i l, asks B.set i u B.tree.made.both h x m)

  -- what is read of a site that is asked is so under each completion
  read_seen : (env : Env) (k : ℕ) (h : Held) (c : Completion) → Keeps env → IsGood c → IsAskedBy B.set B.left k → read b.sites args env k ≡ gives h
      → V c k ≡ gives h
  read_seen env k h c kept g asked e =
      (read_same p.terms c args [] B.site b.sites B.sited env k (to_kept env c kept g) (λ u. let q : unknown ≡ gives h = sym u ∙ e in cc)
      (asked_known c k g asked) ∙ e)

  -- after binding
  path_bound : (env env' : Env) (sc after : Scope C) (rest binds : List ℕ) (u : Test) → OnPath env sc rest → IsBest B.set rest sc u
      → Binds B.set sc (sites_of u) binds after → Typed env' → Keeps env' → OnPath env' after rest
  path_bound env env' sc after rest binds u o best bs typed kept = record {
    typed = typed;
    kept = kept;
    calm = λ x e. elim (emitted_or sc bs.all x (subst (λ (z : Scope C). z.emitted x ≡ true) bs.ending e)) [
      | inl m ↦ (let q = (step_there B.set rest sc sc after u binds B.tree.made.both best bs x m).1 in B.tree.single.pure (q.0) x (q.2))
      | inr g ↦ o.calm x g
    ];
    closed = λ x q e m. subst (λ (z : Scope C). z.emitted q ≡ true) (sym bs.ending)
        (elim (emitted_or sc bs.all x (subst (λ (z : Scope C). z.emitted x ≡ true) bs.ending e)) [
          | inl n ↦ order_parts B.set sc bs.all x q bs.order n m
          | inr g ↦ still_emitted sc bs.all q (o.closed x q g m)
        ]);
    less = o.less;
  }

  -- for fewer rules
  path_fewer : (env : Env) (sc : Scope C) (rest fewer : List ℕ) → OnPath env sc rest → ((i : ℕ) → Elem i fewer → Elem i rest) → OnPath env sc fewer
  path_fewer env sc rest fewer o f =
      record { typed = o.typed; kept = o.kept; calm = o.calm; closed = o.closed; less = λ i m. o.less i (f i m) }

  -- past a test
  path_inside : (env env' : Env) (sc : Scope C) (rest fewer : List ℕ) (s : ℕ) (d : C) → OnPath env sc rest
      → ((i : ℕ) → Elem i fewer → Elem i rest) → sc.emitted s ≡ true → Typed env' → Keeps env' → OnPath env' (inside B.set sc s (has d)) fewer
  path_inside env env' sc rest fewer s d o f there typed kept = record {
    typed = typed;
    kept = kept;
    calm = λ x e. elim (or_holds (is_source B.set.tests s (has d) (B.set.made x)) (sc.emitted x) e) [
      | inl m ↦ B.tree.made.field_pure x _ (source_made B.set s (has d) _ B.tree.made m)
      | inr m ↦ o.calm x m
    ];
    closed = λ x q e m. or_right (is_source B.set.tests s (has d) (B.set.made q)) (sc.emitted q)
        (elim (or_holds (is_source B.set.tests s (has d) (B.set.made x)) (sc.emitted x) e) [
          | inl g ↦ (let n : Elem q (s ∷ []) = subst (λ (l : List ℕ). Elem q l)
              (B.tree.made.source x _ (source_made B.set s (has d) _ B.tree.made g)) m in
              elim n [ inl k ↦ ap sc.emitted k ∙ there | inr z ↦ absurd z ])
          | inr g ↦ o.closed x q g m
        ]);
    less = λ i m. o.less i (f i m);
  }

  -- past an equality
  path_join : (env : Env) (sc : Scope C) (rest : List ℕ) (x y : ℕ) → OnPath env sc rest → OnPath env (join sc x y) rest
  path_join env sc rest x y o = record { typed = o.typed; kept = o.kept; calm = o.calm; closed = o.closed; less = o.less }

  -- after binding, where all was bound
  bound_way : (binds : List ℕ) (f : Completion → Walk) (later : Going) (next : Env → Going) (steps : ℕ) (trace : List Event) (r : Outcome Value)
      → BindsEnd binds next steps trace r
      → ((env : Env) → Typed env → Keeps env → next env steps trace r → WalkEnd f later trace r)
      → WalkEnd (λ c. after_bound (bind (V c) binds) (f c)) later trace r
  bound_way binds f later next steps trace r (inl (env, typed, kept, all, run)) k =
      same_way f (λ c. after_bound (bind (V c) binds) (f c)) later trace r (λ c g. ap (λ (o : Bound). after_bound o (f c)) (all c g))
      (k env typed kept run)
  bound_way binds f later next steps trace r (inr (inl (is, n, all))) k =
      inr (inr (inl (is, n, λ c g. ap (λ (o : Bound). after_bound o (f c)) (all c g))))
  bound_way binds f later next steps trace r (inr (inr a)) k = inr (inr (inr a))

  -- the run of steps
  abbrev pub Steps_run : Env → Steps C → Going → Going
  Steps_run env T later = StepsRun p w below b (p.terms.partial t) args env T later

  -- a test that is passed
  if_true : {A : Type 0} (c : Bool) (x y : A) → c ≡ true → (if c then x else y) ≡ x
  if_true c x y e = rw e refl

  -- one that fails
  if_false : {A : Type 0} (c : Bool) (x y : A) → c ≡ false → (if c then x else y) ≡ y
  if_false c x y e = rw e refl

  -- sites that are compared
  equal_walk : (body : Steps C) (env : Env) (later : Going) (steps : ℕ) (trace : List Event)
      (r : Outcome Value) (x y : ℕ) (h g : Held) → (Steps_run env body later steps trace r → WalkEnd (λ c. walk B.set (V c) body) later trace r)
      → ((c : Completion) → IsGood c → V c x ≡ gives h) → ((c : Completion) → IsGood c → V c y ≡ gives g)
      → ((h ≡ g) × Steps_run env body later steps trace r) ⊎ ((h ≡ g → ⊥) × later steps trace r)
      → WalkEnd (λ c. if alike_got B.set (V c x) (V c y) then walk B.set (V c) body else ends) later trace r
  equal_walk body env later steps trace r x y h g walks sx sy (inl (e, run)) =
      same_way (λ c. walk B.set (V c) body) (λ c. if alike_got B.set (V c x) (V c y) then walk B.set (V c) body else ends) later trace r
      (λ c good. if_true (alike_got B.set (V c x) (V c y)) _ _ (rw (sx c good, sy c good, sym e) (B.tree.made.exact.alike_self h)))
      (walks run)
  equal_walk body env later steps trace r x y h g walks sx sy (inr (n, run)) =
      inl (
        steps,
        run,
        λ c good. if_false (alike_got B.set (V c x) (V c y)) _ _ (rw (sx c good, sy c good) (elim (true_or (B.set.tests.alike h g)) [
          | inl e ↦ absurd (n (B.tree.made.exact.alike h g e))
          | inr e ↦ e
        ])),
      )

  mutual
    -- The run of steps takes the way of their walk.
    pub steps_walk : (T : Steps C) (rest : List ℕ) (sc : Scope C) (env : Env) (later : Going) (steps : ℕ) (trace : List Event)
        (r : Outcome Value) → Builds B.set rest sc T → OnPath env sc rest → Steps_run env T later steps trace r
        → WalkEnd (λ c. walk B.set (V c) T) later trace r
    steps_walk done rest sc env later steps trace r bu o run = inl (steps, run, λ c g. refl)
    steps_walk (loop binds x body next) rest sc env later steps trace r bu o run = absurd run
    steps_walk (give binds i next) rest sc env later steps trace r bu o (m, count, run) = inr (inl (record {
      chosen = i;
      env = env;
      sc = sc;
      after = bu.1.1.0;
      rest = rest;
      binds = binds;
      steps = m;
      path = o;
      there = bu.1.0.0;
      order = bu.1.1.1;
      run = run;
      walked = λ c g. (bind (V c) binds, events B.set (V c) binds, refl);
    }))
    steps_walk («match» binds s arms next) rest sc env later steps trace r (best, (after, bs, inner, outer)) o (m, count, run) =
        bound_way binds (λ c. and_then (walk_arms B.set (V c) s arms) (walk B.set (V c) next)) later
        (λ env. ArmsRun p w below b (p.terms.partial t) args env s arms (Steps_run env next later)) m trace r
        (binds_walk binds env _ m trace r (step_asked rest sc after (on_match s) binds o.less best bs) o.typed o.kept run)
        (λ env' typed kept run'.
        let path = path_bound env env' sc after rest binds (on_match s) o best bs typed kept in
        then_way (λ c. walk_arms B.set (V c) s arms) (λ c. walk B.set (V c) next) (Steps_run env' next later) later trace r
        (arms_walk arms (counted B.set (on_match s) rest) after s env' (Steps_run env' next later) m trace r inner
        (path_fewer env' after rest _ path (counted_left B.set (on_match s) rest)) (bs.bound s (inl refl))
        (test_asked rest sc (on_match s) o.less best s (inl refl)) run')
        (λ n run''. steps_walk next (others B.set (on_match s) rest) after env' later n trace r outer
        (path_fewer env' after rest _ path (others_left B.set (on_match s) rest)) run''))
    steps_walk (equal binds x y body next) rest sc env later steps trace r (best, (after, bs, inner, outer)) o (m, count, run) =
        bound_way binds (λ c. and_then (if alike_got B.set (V c x) (V c y) then walk B.set (V c) body else ends) (walk B.set (V c) next)) later
        (λ env. EqualRuns b.sites args env x y (Steps_run env body (Steps_run env next later)) (Steps_run env next later)) m trace r
        (binds_walk binds env _ m trace r (step_asked rest sc after (on_equal x y) binds o.less best bs) o.typed o.kept run)
        (λ env' typed kept (h, g, read_x, read_y, tested).
        let path = path_bound env env' sc after rest binds (on_equal x y) o best bs typed kept in
        let sx = λ (c : Completion) (good : IsGood c). read_seen env' x h c kept good
        (test_asked rest sc (on_equal x y) o.less best x (inl refl)) read_x in
        let sy = λ (c : Completion) (good : IsGood c). read_seen env' y g c kept good
        (test_asked rest sc (on_equal x y) o.less best y (inr (inl refl))) read_y in
        then_way (λ c. if alike_got B.set (V c x) (V c y) then walk B.set (V c) body else ends) (λ c. walk B.set (V c) next)
        (Steps_run env' next later) later trace r
        (equal_walk body env' (Steps_run env' next later) m trace r x y h g
        (λ run'. steps_walk body (counted B.set (on_equal x y) rest) (join after x y) env' (Steps_run env' next later) m trace r inner
        (path_join env' after _ x y (path_fewer env' after rest _ path (counted_left B.set (on_equal x y) rest))) run') sx sy tested)
        (λ n run''. steps_walk next (others B.set (on_equal x y) rest) after env' later n trace r outer
        (path_fewer env' after rest _ path (others_left B.set (on_equal x y) rest)) run''))

    -- that of arms, too
    arms_walk : (arms : Arms C) (rest : List ℕ) (sc : Scope C) (s : ℕ) (env : Env) (later : Going) (steps : ℕ) (trace : List Event)
        (r : Outcome Value) → BuildsArms B.set rest sc s arms → OnPath env sc rest → sc.emitted s ≡ true → IsAskedBy B.set B.left s
        → ArmsRun p w below b (p.terms.partial t) args env s arms later steps trace r
        → WalkEnd (λ c. walk_arms B.set (V c) s arms) later trace r
    arms_walk no_arm rest sc s env later steps trace r bu o there asked run = inl (steps, run, λ c g. refl)
    arms_walk (arm d fields body arms) rest sc s env later steps trace r bu o there asked (h, here, inl (meets, run)) =
        let sees = λ (c : Completion) (good : IsGood c). read_seen env s h c o.kept good asked here in
        let passes = λ (c : Completion) (good : IsGood c). (let q : passes_got B.set d (V c s) ≡ true =
        rw (sees c good) ((B.tests d h).1 meets) in q) in
        let made = λ (x : ℕ) (m : Elem x (opened fields)). B.fields.fields_made s x d
        (subst (λ (l : List (Option ℕ)). Elem (Some x) l) (bu.1) (opened_in fields x m)) in
        same_way (λ c. walk B.set (V c) body) (λ c. walk_arms B.set (V c) s (arm d fields body arms)) later trace r
        (λ c good. if_true (passes_got B.set d (V c s)) _ _ (passes c good))
        (elim (opens_walk (opened fields) env (λ env. Steps_run env body later) steps trace r
        (λ x m. (
          (record { site = s; want = has d }, made x m),
          λ c good.
              (B.respects c args (good.agrees.allowed) (good.agrees.typed) args_typed).field x (record { site = s; want = has d })
              (made x m) (passes c good),
        ))
        o.typed o.kept run) [
          | inl a ↦ (let (env', typed, kept, go) = a in
              steps_walk body (wanting B.set s d rest) (inside B.set sc s (has d)) env' later steps trace r (bu.2)
              (path_inside env env' sc rest _ s d o (λ i m. (from_filter _ rest i m).0) there typed kept) go)
          | inr a ↦ (let (is, n, never) = a in inr (inr (inl (is, n, λ c good. absurd (never c good)))))
        ])
    arms_walk (arm d fields body arms) rest sc s env later steps trace r bu o there asked (h, here, inr (left_out, run)) =
        let sees = λ (c : Completion) (good : IsGood c). read_seen env s h c o.kept good asked here in
        same_way (λ c. walk_arms B.set (V c) s arms) (λ c. walk_arms B.set (V c) s (arm d fields body arms)) later trace r
        (λ c good. if_false (passes_got B.set d (V c s)) _ _ (rw (sees c good) (elim (true_or (B.set.tests.passes d h)) [
          | inl e ↦ absurd (left_out ((B.tests d h).0 e))
          | inr e ↦ e
        ])))
        (arms_walk arms (not_wanting B.set s d rest) sc s env later steps trace r (bu.3)
        (path_fewer env sc rest _ o (λ i m. (from_filter _ rest i m).0)) there asked run)
