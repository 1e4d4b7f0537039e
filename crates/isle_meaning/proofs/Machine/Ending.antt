-- Where a return's run ends unanswered, it is at a call that its rule's right side asks.
use Rattle.std.proofs.Common.{◌≡◌, ◌⊎◌, inl, inr, ℕ, zero, suc, ◌<◌, ◌==◌, Bool, true, false, List, [], ◌∷◌, ◌++◌, map, length, Option, Some, None, slice_get, refl, sym, ◌∙◌, ap, subst, append_assoc, append-nil, eqb-true, arith}
use Rattle.std.specs.Prelude.{if◌then◌else◌}
use Rattle.isle_trees.proofs.Asking.{each_part, elem_append, own_is}
use Rattle.isle_trees.proofs.Basics.{true_or, or_holds, clash}
use Rattle.isle_trees.proofs.Leaf.{in_all, order_new, parts_up}
use Rattle.isle_trees.proofs.Path.{emitted_or}
use Rattle.isle_trees.specs.Builds.{BindsEach, own}
use Rattle.isle_trees.specs.Got.{Got, unknown, fails, gives}
use Rattle.isle_trees.specs.Premises.{EffectsFirst}
use Rattle.isle_trees.specs.Rules.{Elem, IsPartOf, itself, of_part}
use Rattle.isle_trees.specs.Scopes.{Scope, emit}
use Rattle.isle_meaning.specs.Answers.{Completion, answered}
use Rattle.isle_meaning.specs.Asking.{Asked, asks_value, asks_outputs, Ended, MayBeCallOn, RightAsks}
use Rattle.isle_meaning.specs.Calls.{Says, Agrees, Makes}
use Rattle.isle_meaning.specs.Demands.{some_of}
use Rattle.isle_meaning.specs.Facts.{TermFacts}
use Rattle.isle_meaning.specs.GroundValues.{AreValuesOf}
use Rattle.isle_meaning.specs.Held.{Held, held_value, held_none, held_some, content_of, constructed, construct_held, several_of, value, values}
use Rattle.isle_meaning.specs.Machine.Runs.{TermTree, Env, Runs, Going, known, values_at, read, holding, option_if, RowRuns, Goes, BindsRun}
use Rattle.isle_meaning.specs.Machine.Runs.{Returns}
use Rattle.isle_meaning.specs.Machine.Trees.{sites_at, site_of_row, is_effect, IsTermTree, with_content, calls_of}
use Rattle.isle_meaning.specs.Numbered.{Row, bool_row, int_row, prim_row, argument_row, extractor_row, constructor_row, iterator_row}
use Rattle.isle_meaning.specs.Numbered.{make_variant_row, match_variant_row, make_struct_row, extract_struct_row, make_some_row}
use Rattle.isle_meaning.specs.Numbered.{match_some_row, match_tuple_row}
use Rattle.isle_meaning.specs.Outcomes.{Outcome, given, missing, ended, ImpureRuns}
use Rattle.isle_meaning.specs.Sites.{Site, constructor_call, make_some, match_some, site_of, sites_of}
use Rattle.isle_meaning.specs.SoundPrograms.{IsSound}
use Rattle.isle_meaning.specs.Subtrees.{IsSubtree, IsSubtreeOfOne}
use Rattle.isle_meaning.specs.Inside.TypedWords.{AreTypedSteps, GivesTyped}
use Rattle.isle_meaning.specs.Values.{Value, Values, ask}
use Rattle.isle_meaning.specs.Words.{Word, Words, Step, set}
use Rattle.isle_meaning.specs.Worlds.{CheckedProgram, Answers, Event, got}
use Rattle.isle_meaning.proofs.Calls.Outcomes.{one_longer}
use Rattle.isle_meaning.proofs.Calls.Rights.{impure_answers}
use Rattle.isle_meaning.proofs.Calls.Saying.{GivesMeant}
use Rattle.isle_meaning.specs.AboutSites.Agreeing.{AgreeIfKnown}
use Rattle.isle_meaning.proofs.Machine.Reading.{no_effects, set_stays, IsKept}
use Rattle.isle_meaning.proofs.Machine.Walked.{part_before, in_end}
use Rattle.isle_meaning.proofs.Machine.RowSites.{Stands, deep_site, call_row, content_row}
use Rattle.isle_meaning.proofs.Machine.Returning.{got_gives, answer_at, call_there, call_same, binds_append, OnScope}
use Rattle.isle_meaning.proofs.Machine.Returning.{scope_step, same_set}
use Rattle.isle_meaning.proofs.Machine.Rows.{IsTypedEnv, row_typed, set_typed, row_says, row_calm, call_typed, values_kept}
use Rattle.isle_meaning.proofs.Machine.RowEnds.{no_call_no_end}
use Rattle.isle_meaning.proofs.Matching.Basics.{set_at}
use Rattle.isle_meaning.proofs.Matching.Later.{all_later}

-- where a call of a right side stands: a pure one anywhere, an impure one with its number
abbrev pub IsPlaced : ℕ → Site → Type 0
IsPlaced k (constructor_call t ss i) = (i ≡ 0) ⊎ (i ≡ k)
IsPlaced k s = Unit {0}

-- What makes no effects stands anywhere.
pub calm_placed : (site : ℕ → Site) (row : Row) (k : ℕ) → is_effect row ≡ false → IsPlaced k (site_of_row site row)
calm_placed site (constructor_row u js zero) k e = inl refl
calm_placed site (constructor_row u js (suc i)) k e = absurd cc
calm_placed site (bool_row x ty) k e = tt
calm_placed site (int_row x ty) k e = tt
calm_placed site (prim_row x) k e = tt
calm_placed site (argument_row i) k e = tt
calm_placed site (extractor_row u j) k e = tt
calm_placed site (iterator_row j) k e = tt
calm_placed site (make_variant_row ty v js) k e = tt
calm_placed site (match_variant_row j v i) k e = tt
calm_placed site (make_struct_row ty js) k e = tt
calm_placed site (extract_struct_row j i) k e = tt
calm_placed site (make_some_row j) k e = tt
calm_placed site (match_some_row j) k e = tt
calm_placed site (match_tuple_row j i) k e = tt

-- what is made is no call
no_made : (facts : TermFacts) (c : Completion) (args : Values) (done : List (Option Value)) (k : ℕ) (s : Site) (q : Asked)
    → MayBeCallOn facts c args done k (make_some s) q → ⊥
no_made facts c args done k s (asks_value u vs) h = h
no_made facts c args done k s (asks_outputs u v) h = h

module _ {C : Type 0} (p : CheckedProgram) (w : Answers) (R : ℕ → Type 0) (sound : IsSound p R) (below : Runs) (gives_typed : GivesTyped p R below)
    (t : ℕ) (args : Values) (args_typed : AreValuesOf p.values args (p.terms.inputs t)) (b : TermTree C) (B : IsTermTree p R t b)
    (means : ℕ → Values → List Event → Option Value → Type 0) (meant : GivesMeant p R below means)
    (Good : Completion → Type 0) (agrees : (c : Completion) → Good c → Agrees p w means c) where
  abbrev pub TypedEnv : Env → Type 0
  TypedEnv env = IsTypedEnv p w R sound below gives_typed t args args_typed b B env

  -- a number stands for something
  abbrev pub There : ℕ → Type 0
  There k = Stands p R t b B k

  -- what the path has bound
  abbrev pub Scoped : Scope C → List ℕ → Type 0
  Scoped sc seen = OnScope p w R sound below gives_typed t args args_typed b B sc seen

  -- what is bound is what each completion says
  abbrev pub KeptAll : Env → List (Option Value) → Type 0
  KeptAll env before = (c : Completion) → Good c → (more : List (Option Value)) → IsKept p.terms c args (before ++ more) B.site b.sites B.sited env

  -- what is bound is what each completion says now
  pub kept_here : (env : Env) (before : List (Option Value)) → KeptAll env before → (c : Completion) → Good c
      → IsKept p.terms c args before B.site b.sites B.sited env
  kept_here env before k c g = subst (λ (l : List (Option Value)). IsKept p.terms c args l B.site b.sites B.sited env) (append-nil before) (k c g [])

  -- so is what is bound further
  kept_set : (env : Env) (k : ℕ) (h : Held) (before : List (Option Value)) → KeptAll env before
      → ((c : Completion) → Good c → (more : List (Option Value)) → AgreeIfKnown (gives h) (value p.terms c args (before ++ more) (B.site k)))
      → KeptAll (set env k (Some h)) before
  kept_set env k h before kept here c g more =
      same_set p w R sound below gives_typed t args args_typed b B means meant c (agrees c g) env k h (before ++ more) (kept c g more) (here c g more)

  -- the run ends at a site among these
  record EndsAmong (xs : List ℕ) (before : List (Option Value)) (trace : List Event) (e : Ended) : Type 0 where
    pub number : ℕ
    pub row : Row
    pub env : Env
    pub among : Elem number xs
    pub there : slice_get b.sites number ≡ Some row
    pub calm : is_effect row ≡ false
    pub typed : TypedEnv env
    pub kept : KeptAll env before
    pub run : RowRuns p w below b.sites args env row [] (ended e)
    pub nothing : trace ≡ []

  -- all are bound, and what was stays so, or the run ends among them
  abbrev PureEnd : List ℕ → Env → List (Option Value) → (Env → Going) → ℕ → List Event → Ended → Type 0
  PureEnd xs old before next steps trace e =
      ((env : Env) × TypedEnv env × KeptAll env before × ((x : ℕ) → Elem x xs → (h : Held) × (env x ≡ Some h))
      × ((x : ℕ) (h : Held) → old x ≡ Some h → (f : Held) × (env x ≡ Some f)) × next env steps trace (ended e))
      ⊎ EndsAmong xs before trace e

  -- sites without effects, of a run that ends
  pure_ends : (xs : List ℕ) (env : Env) (before : List (Option Value)) (next : Env → Going) (steps : ℕ) (trace : List Event) (e : Ended)
      → ((x : ℕ) → Elem x xs → B.set.effect x ≡ false) → TypedEnv env → KeptAll env before
      → BindsRun p w below b.sites args env xs next steps trace (ended e)
      → PureEnd xs env before next steps trace e
  pure_ends [] env before next steps trace e pure typed kept run = inl (env, typed, kept, (λ x m. absurd m), (λ x h q. (h, q)), run)
  pure_ends (k ∷ ks) env before next steps trace e pure typed kept (row, effects, rest, o, at, made, split, after) =
      let calm : is_effect row ≡ false = sym (B.effects k row at) ∙ pure k (inl refl) in
      let none = row_calm p w below b.sites args env row effects o calm made in
      let same = no_effects effects rest trace none split in
      go o made calm none same (λ h ty ke run. pure_ends ks (set env k (Some h)) before next steps rest e (λ x m. pure x (inr m)) ty ke run)
      (λ h made c g more n m. row_says p w R sound below gives_typed t args args_typed b B means meant c (agrees c g)
      (before ++ more) env k row effects (given h) typed
      (kept c g more) at calm made m) after
    where
      go : (o : Outcome Held) → RowRuns p w below b.sites args env row effects o → is_effect row ≡ false → effects ≡ [] → rest ≡ trace
          → ((h : Held) → TypedEnv (set env k (Some h)) → KeptAll (set env k (Some h)) before
          → BindsRun p w below b.sites args (set env k (Some h)) ks next steps rest (ended e)
          → PureEnd ks (set env k (Some h)) before next steps rest e)
          → ((h : Held) → RowRuns p w below b.sites args env row effects (given h) → (c : Completion) → Good c → (more : List (Option Value))
          → AgreeIfKnown (gives h) (value p.terms c args (before ++ more) (B.site k)))
          → Goes o (λ h. BindsRun p w below b.sites args (set env k (Some h)) ks next) steps rest (ended e)
          → PureEnd (k ∷ ks) env before next steps trace e
      go (given h) made calm none same walks says after =
          let here = row_typed p w R sound below gives_typed t args args_typed b B env k row effects h typed at made in
          subst (λ (l : List Event). PureEnd (k ∷ ks) env before next steps l e) same
          (elim (walks h (set_typed p w R sound below gives_typed t args args_typed b B env k h typed here)
          (kept_set env k h before kept (says h made)) after) [
            | inl a ↦ (let (env', ty, ke, bound, stays, run) = a in inl (
              env',
              ty,
              ke,
              (λ x m. elim m [
                | inl q ↦ subst (λ (z : ℕ). (h : Held) × (env' z ≡ Some h)) (sym q) (stays k h (set_at env k (Some h)))
                | inr n ↦ bound x n
              ]),
              (λ x g q. let (f, q') = set_stays env k h x g q in stays x f q'),
              run,
            ))
            | inr a ↦ inr (record {
              number = a.number;
              row = a.row;
              env = a.env;
              among = inr a.among;
              there =
                  a.there;
              calm = a.calm;
              typed = a.typed;
              kept = a.kept;
              run = a.run;
              nothing = a.nothing;
            })
          ])
      go missing made calm none same walks says (z, nothing, is) = absurd (let q : ended e ≡ missing = is in cc)
      go (ended f) made calm none same walks says (z, nothing, is) =
          let q : ended e ≡ ended f = is in
          let r : f ≡ e = cc in
          inr (record {
            number = k;
            row = row;
            env = env;
            among = inl refl;
            there = at;
            calm = calm;
            typed = typed;
            kept = kept;
            run = subst (λ (x : Ended). RowRuns p w below b.sites args env row [] (ended x)) r
                (subst (λ (l : List Event). RowRuns p w below b.sites args env row l (ended f)) none made);
            nothing = sym same ∙ nothing;
          })

  -- the rule that returns
  module _ (i : ℕ) (S : ℕ → Type 0) (G D : ℕ → ℕ) (vars : ℕ → Site) (word : Word) (z : ℕ) (z_stands : There z)
      (z_is : B.site z ≡ some_of (p.terms.partial t) (site_of p.terms vars word)) where
    -- the calls that words of the right side need
    abbrev pub Needed : Words → Site → Type 0
    Needed ws u = IsSubtreeOfOne u (sites_of p.terms vars ws)

    pub record Onward (us seen : List ℕ) (before : List (Option Value)) (steps : ℕ) (trace : List Event) (e : Ended) : Type 0 where
      pub sc : Scope C
      pub after : Scope C
      pub env : Env
      pub binds : List ℕ
      pub scope : Scoped sc seen
      pub order : BindsEach B.set sc (us ++ z ∷ []) binds after
      pub typed : TypedEnv env
      pub kept : KeptAll env before
      pub run : BindsRun p w below b.sites args env binds (λ env. Returns b.sites (p.terms.partial t) args env (b.result i)) steps trace (ended e)

    -- the run ends at a site that the right side asks
    pub record CallEnd (ss : List Step) (before : List (Option Value)) (trace : List Event) (e : Ended) : Type 0 where
      pub number : ℕ
      pub row : Row
      pub env : Env
      pub sofar : List (Option Value)
      pub pre : List Event
      pub post : List Event
      pub split : trace ≡ pre ++ post
      pub there : slice_get b.sites number ≡ Some row
      pub typed : TypedEnv env
      pub kept : KeptAll env sofar
      pub run : RowRuns p w below b.sites args env row post (ended e)
      pub asks : (c : Completion) → Good c → (q : Asked)
          → ((k : ℕ) → IsPlaced k (B.site number) → MayBeCallOn p.terms c args sofar k (B.site number) q)
          → RightAsks p.terms Needed c (Makes p means) args vars before ss word pre (B.site number) q

    -- a call was made, and the run goes on
    record Went (s : Step) (u : ℕ) (us seen : List ℕ) (before : List (Option Value)) (steps : ℕ) (trace : List Event) (e : Ended) : Type 0 where
      pub answer : Option Value
      pub vs : Values
      pub effects : List Event
      pub rest : List Event
      pub split : trace ≡ effects ++ rest
      pub onward : Onward us (u ∷ seen) (before ++ answer ∷ []) steps rest e
      pub fresh : (m : ℕ) → Elem u (B.set.parts m) → (m ≡ u → ⊥) → onward.sc.emitted m ≡ false
      pub says : (c : Completion) → Good c → Says (values p.terms c args before (sites_of p.terms vars s.args)) (gives vs)
      pub holds : (c : Completion) → Good c → values p.terms c args before (sites_of p.terms vars s.args) ≡ gives vs
          → value p.terms c args (before ++ answer ∷ []) (B.site u) ≡ constructed (p.terms.partial s.term) (got answer)
      pub made : ((answer ≡ None) × (p.terms.partial s.term ≡ true)) ⊎ ((v : Value) × (answer ≡ Some v) × Makes p means s.term vs effects (Some v))

    -- a call that is made, of a run that ends
    call_went : (s : Step) (u : ℕ) (us seen js : List ℕ) (mid after : Scope C) (binds : List ℕ) (env : Env) (before : List (Option Value))
        (steps : ℕ) (trace effects rest : List Event) (e : Ended) (o : Outcome Held) (vs : Values) (g : Outcome Value) (ss : List Step)
        → slice_get b.sites u ≡ Some (constructor_row s.term js (suc s.place)) → s.place ≡ length before
        → B.site u ≡ constructor_call s.term (sites_of p.terms vars s.args) (suc s.place) → sites_at B.site js ≡ sites_of p.terms vars s.args
        → Scoped (emit mid u) (u ∷ seen) → BindsEach B.set (emit mid u) (us ++ z ∷ []) binds after
        → ((m : ℕ) → Elem u (B.set.parts m) → (m ≡ u → ⊥) → (emit mid u).emitted m ≡ false)
        → TypedEnv env → KeptAll env before → values_at (read b.sites args env) js ≡ gives vs → ImpureRuns p below s.term vs effects g
        → o ≡ option_if (p.terms.partial s.term) (holding held_value g) → trace ≡ effects ++ rest
        → RowRuns p w below b.sites args env (constructor_row s.term js (suc s.place)) effects o
        → Goes o (λ h. BindsRun p w below b.sites args (set env u (Some h)) binds (λ env. Returns b.sites (p.terms.partial t) args env (b.result i)))
        steps rest (ended e)
        → Went s u us seen before steps trace e ⊎ CallEnd (s ∷ ss) before trace e
    call_went s u us seen js mid after binds env before steps trace effects rest e missing vs g ss at place
        site_u sites_js scope order fresh typed kept read_vs imp out_is split made goes =
        absurd (let q : ended e ≡ missing = goes.2 in cc)
    call_went s u us seen js mid after binds env before steps trace effects rest e (ended f) vs g ss at place
        site_u sites_js scope order fresh typed kept read_vs imp out_is split made goes =
        let q : ended e ≡ ended f = goes.2 in
        let r : f ≡ e = cc in
        inr (record {
          number = u;
          row = constructor_row s.term js (suc s.place);
          env = env;
          sofar = before;
          pre = [];
          post = effects;
          split = split ∙ ap (λ (l : List Event). effects ++ l) (goes.1) ∙ append-nil effects;
          there = at;
          typed = typed;
          kept = kept;
          run = subst (λ (x : Ended). RowRuns p w below b.sites args env (constructor_row s.term js (suc s.place)) effects (ended x)) r made;
          asks = λ c g q maybe. inl (refl, inl site_u, maybe (suc s.place) (subst (IsPlaced (suc s.place)) (sym site_u) (inr refl)));
        })
    call_went s u us seen js mid after binds env before steps trace effects rest e (given h) vs g ss at place
        site_u sites_js scope order fresh typed kept read_vs imp out_is split made goes =
        inl (go (p.terms.partial s.term) refl g imp out_is)
      where
        single : p.terms.multi s.term ≡ false
        single = B.single u (constructor_row s.term js (suc s.place)) at

        -- the arguments are of their types
        args_are : AreValuesOf p.values vs (p.terms.inputs s.term)
        args_are = call_typed p w R sound below gives_typed t args args_typed b B env u s.term (suc s.place) js vs typed at read_vs

        -- an answer, among the answers so far
        answered_got : (x : Option Value) → answered (Some x) ≡ got x
        answered_got None = refl
        answered_got (Some v) = refl

        -- what the call holds once it is answered
        held_there : (partial : Bool) → p.terms.partial s.term ≡ partial → (x : Option Value) (c : Completion)
            (more : List (Option Value)) (us : Values)
            → construct_held p.terms c ((before ++ x ∷ []) ++ more) s.term (suc s.place) us ≡ constructed partial (got x)
        held_there partial e x c more us =
            ap (λ (m : Bool). if m then several_of (c.constructs s.term us) else constructed (p.terms.partial s.term)
            (answered (slice_get ((before ++ x ∷ []) ++ more) s.place))) single
            ∙ ap (λ (q : Bool). constructed q (answered (slice_get ((before ++ x ∷ []) ++ more) s.place))) e
            ∙ ap (λ (j : ℕ). constructed partial (answered (slice_get ((before ++ x ∷ []) ++ more) j))) place
            ∙ ap (λ (g : Option (Option Value)). constructed partial (answered g)) (answer_at before more x)
            ∙ ap (constructed partial) (answered_got x)

        -- what its site does
        value_there : (partial : Bool) → p.terms.partial s.term ≡ partial → (x : Option Value) (c : Completion) (more : List (Option Value))
            → value p.terms c args ((before ++ x ∷ []) ++ more) (B.site u)
            ≡ ask (λ us. constructed partial (got x)) (values p.terms c args ((before ++ x ∷ []) ++ more) (sites_at B.site js))
        value_there partial e x c more =
            ap (value p.terms c args ((before ++ x ∷ []) ++ more)) (B.sited u (constructor_row s.term js (suc s.place)) at)
            ∙ call_there (values p.terms c args ((before ++ x ∷ []) ++ more) (sites_at B.site js)) _ (constructed partial (got x))
            (held_there partial e x c more)

        -- its arguments are what each completion says
        says_at : (c : Completion) (good : Good c) (l : List (Option Value)) → IsKept p.terms c args l B.site b.sites B.sited env
            → Says (values p.terms c args l (sites_at B.site js)) (gives vs)
        says_at c good l k n =
            values_kept p w R sound below gives_typed t args args_typed b B means meant c (agrees c good) l env js k
            (λ u. let q : unknown ≡ gives vs = sym u ∙ read_vs in cc) n ∙ read_vs

        -- it was answered, and the run goes on
        went : (partial : Bool) → p.terms.partial s.term ≡ partial → (x : Option Value) → constructed partial (got x) ≡ gives h
            → ((x ≡ None) × (partial ≡ true)) ⊎ ((v : Value) × (x ≡ Some v) × Makes p means s.term vs effects (Some v))
            → Went s u us seen before steps trace e
        went partial pe x holds m = record {
          answer = x;
          vs = vs;
          effects = effects;
          rest = rest;
          split = split;
          onward = record {
            sc = emit mid u;
            after = after;
            env = set env u (Some h);
            binds = binds;
            scope = scope;
            order = order;
            typed = set_typed p w R sound below gives_typed t args args_typed b B env u h typed
                (row_typed p w R sound below gives_typed t args args_typed b B env u (constructor_row s.term js (suc s.place))
                effects h typed at made);
            kept = λ c good more.
                let q : before ++ (x ∷ more) ≡ (before ++ x ∷ []) ++ more = sym (append_assoc before (x ∷ []) more) in
                let old = subst (λ (l : List (Option Value)). IsKept p.terms c args l B.site b.sites B.sited env) q (kept c good (x ∷ more)) in
                let there = value_there partial pe x c more ∙ ap
                (λ (k : Got Held). ask (λ us. k) (values p.terms c args ((before ++ x ∷ []) ++ more) (sites_at B.site js))) holds in
                same_set p w R sound below gives_typed t args args_typed b B means meant c (agrees c good) env u h ((before ++ x ∷ []) ++ more) old
                (subst (λ (k : Got Held). AgreeIfKnown (gives h) k) (sym there)
                (call_same (values p.terms c args ((before ++ x ∷ []) ++ more) (sites_at B.site js)) vs h
                (says_at c good ((before ++ x ∷ []) ++ more) old)));
            run = goes;
          };
          fresh = fresh;
          says = λ c good. subst (λ (k : Got Values). Says k (gives vs)) (ap (values p.terms c args before) sites_js)
              (says_at c good before (kept_here env before kept c good));
          holds = λ c good known.
              let known_js : values p.terms c args before (sites_at B.site js) ≡ gives vs = ap (values p.terms c args before) sites_js ∙ known in
              let later : values p.terms c args (before ++ x ∷ []) (sites_at B.site js) ≡ gives vs =
              all_later p.terms c args before (x ∷ []) (sites_at B.site js) (λ e. let q : unknown ≡ gives vs = sym e ∙ known_js in cc) ∙ known_js in
              ap (λ (l : List (Option Value)). value p.terms c args l (B.site u)) (sym (append-nil (before ++ x ∷ [])))
              ∙ value_there partial pe x c []
              ∙ ap (ask (λ us. constructed partial (got x)))
              (ap (λ (l : List (Option Value)). values p.terms c args l (sites_at B.site js)) (append-nil (before ++ x ∷ [])) ∙ later)
              ∙ ap (λ (q : Bool). constructed q (got x)) (sym pe);
          made = elim m [ inl a ↦ inl (a.0, pe ∙ a.1) | inr a ↦ inr a ];
        }

        go : (partial : Bool) → p.terms.partial s.term ≡ partial → (g : Outcome Value) → ImpureRuns p below s.term vs effects g
            → given h ≡ option_if partial (holding held_value g) → Went s u us seen before steps trace e
        go true pe (given v) imp is = went true pe (Some v) (let q : held_some (held_value v) ≡ h = cc in ap (λ (k : Held). gives k) q)
            (inr (
              v,
              refl,
              impure_answers p w R sound.data_sound below gives_typed means meant (p.has_rules s.term) s.term vs effects
                  (given v) refl (B.called u s.term (suc s.place) js at) args_are imp,
            ))
        go true pe missing imp is = went true pe None (let q : held_none ≡ h = cc in ap (λ (k : Held). gives k) q) (inl (refl, refl))
        go true pe (ended f) imp is = absurd cc
        go false pe (given v) imp is = went false pe (Some v) (let q : held_value v ≡ h = cc in ap (λ (k : Held). gives k) q)
            (inr (
              v,
              refl,
              impure_answers p w R sound.data_sound below gives_typed means meant (p.has_rules s.term) s.term vs effects
                  (given v) refl (B.called u s.term (suc s.place) js at) args_are imp,
            ))
        go false pe missing imp is = absurd cc
        go false pe (ended f) imp is = absurd cc

    -- a call, with what it is made of
    call_end : (s : Step) (u : ℕ) (us seen : List ℕ) (before : List (Option Value)) (steps : ℕ) (trace : List Event)
        (e : Ended) (ss : List Step) → There u
        → B.site u ≡ constructor_call s.term (sites_of p.terms vars s.args) (suc s.place) → s.place ≡ length before
        → EffectsFirst B.set z seen (u ∷ us) → Onward (u ∷ us) seen before steps trace e
        → Went s u us seen before steps trace e ⊎ CallEnd (s ∷ ss) before trace e
    call_end s u us seen before steps trace e ss (row, at0) site_u place (first, once, more) on =
        let (js, row_is, sites_js) = call_row B.site row s.term (suc s.place) (sites_of p.terms vars s.args) (sym (B.sited u row at0) ∙ site_u) in
        let at : slice_get b.sites u ≡ Some (constructor_row s.term js (suc s.place)) = at0 ∙ ap (λ (x : Row). Some x) row_is in
        let effect_u : B.set.effect u ≡ true = B.effects u (constructor_row s.term js (suc s.place)) at in
        let stands_u : B.set.stands u ≡ true = B.tree.made.call_stands u effect_u in
        elim on.order [
          | inl em ↦ absurd (once effect_u (on.scope.calm u (em.0) effect_u))
          | inr others ↦
              let (fresh_u, (front, rest_binds, mid, bs, order, split_binds)) = others in
              let stepped = scope_step p w R sound below gives_typed t args args_typed b B on.sc mid u seen front on.scope bs first in
              let own_u : own B.set u ≡ u ∷ [] = rw stands_u refl in
              let split_u : on.binds ≡ front ++ (u ∷ rest_binds) = split_binds ∙ ap (λ (l : List ℕ). front ++ (l ++ rest_binds)) own_u in
              let run = subst (λ (l : List ℕ). BindsRun p w below b.sites args on.env l
              (λ env. Returns b.sites (p.terms.partial t) args env (b.result i)) steps trace (ended e)) split_u on.run in
              let fresh : (m : ℕ) → Elem u (B.set.parts m) → (m ≡ u → ⊥) → (emit mid u).emitted m ≡ false = λ m inside n.
              elim (true_or ((emit mid u).emitted m)) [
                | inr f ↦ f
                | inl e ↦ absurd (elim (or_holds (m == u) (mid.emitted m) e) [
                  | inl y ↦ n (eqb-true m u y)
                  | inr y ↦ elim (emitted_or on.sc bs.all m (subst (λ (x : Scope C). x.emitted m ≡ true) bs.ending y)) [
                    | inl q ↦
                        let low : m < u = part_before B.set (B.set.parts u) u m B.tree.made (λ x k. B.tree.made.lower u x k) (bs.only m q) in
                        let up : u < m = B.tree.made.lower m u inside in omega arith
                    | inr g ↦ clash (on.sc.emitted u) (on.scope.closed m u g inside) fresh_u
                  ]
                ])
              ] in
              elim (pure_ends front on.env before (λ env. BindsRun p w below b.sites args env (u ∷ rest_binds)
              (λ env. Returns b.sites (p.terms.partial t) args env (b.result i))) steps trace e
              (stepped.1) on.typed on.kept
              (binds_append p w R sound below gives_typed t args args_typed b B front (u ∷ rest_binds) on.env
              (λ env. Returns b.sites (p.terms.partial t) args env (b.result i)) steps trace (ended e) run)) [
                | inr a ↦ inr (record {
                  number = a.number;
                  row = a.row;
                  env = a.env;
                  sofar = before;
                  pre = [];
                  post = [];
                  split = a.nothing;
                  there = a.there;
                  typed = a.typed;
                  kept = a.kept;
                  run = a.run;
                  asks = λ c g q maybe. inl (
                    refl,
                    subst (IsSubtree (B.site a.number)) site_u ((deep_site p R t b B u a.number (row, at0)
                        (parts_up B.set u a.number (bs.only a.number (in_all B.set on.sc mid (B.set.parts u) front bs a.number a.among)))).1),
                    maybe (suc s.place) (subst (IsPlaced (suc s.place)) (sym (B.sited a.number a.row a.there))
                        (calm_placed B.site a.row (suc s.place) a.calm)),
                  );
                })
                | inl early ↦
                    let (env1, typed1, kept1, bound1, stays1, (row1, effects, rest, o, at1, made1, split1, goes1)) = early in
                    let same_row : row1 ≡ constructor_row s.term js (suc s.place) =
                    (let q : Some row1 ≡ Some (constructor_row s.term js (suc s.place)) = sym at1 ∙ at in cc) in
                    let made = subst (λ (x : Row). RowRuns p w below b.sites args env1 x effects o) same_row made1 in
                    let (vs, g, read_vs, imp, out_is) = made in
                    call_went s u us seen js mid on.after rest_binds env1 before steps trace effects rest e o vs g ss at place site_u sites_js
                    (stepped.0) order fresh typed1 kept1
                    read_vs imp out_is split1 made goes1
              ]
        ]

    -- what is made of what is bound is bound
    emitted_deep : (sc : Scope C) (seen sites : List ℕ) (k : ℕ) → Scoped sc seen → ((s : ℕ) → Elem s sites → sc.emitted s ≡ true)
        → IsPartOf B.set sites k
        → sc.emitted k ≡ true
    emitted_deep sc seen sites _ o f (itself k m) = f k m
    emitted_deep sc seen sites _ o f (of_part s q h m) = o.closed s q (emitted_deep sc seen sites s o f h) m

    -- a call's content is bound
    content_end : (u m : ℕ) (us seen : List ℕ) (before : List (Option Value)) (steps : ℕ) (trace : List Event) (e : Ended) → There u → There m
        → B.site m ≡ match_some (B.site u) → EffectsFirst B.set z (u ∷ seen) (m ∷ us) → (on : Onward (m ∷ us) (u ∷ seen) before steps trace e)
        → ((m : ℕ) → Elem u (B.set.parts m) → (m ≡ u → ⊥) → on.sc.emitted m ≡ false) → (m ≡ u → ⊥)
        → Onward us (m ∷ (u ∷ seen)) before steps trace e × ((c : Completion) → Good c → value p.terms c args before (B.site m) ≡ fails → ⊥)
    content_end u m us seen before steps trace e (row_u, at_u) (row, at0) site_m (first, once, more) on fresh apart =
        let (j, row_is, site_j) = content_row B.site row (B.site u) (sym (B.sited m row at0) ∙ site_m) in
        let at : slice_get b.sites m ≡ Some (match_some_row j) = at0 ∙ ap (λ (x : Row). Some x) row_is in
        let (row_j, at_j) = B.stand m j (match_some_row j) at (inl refl) in
        let j_is : j ≡ u = B.once j u row_j row_u at_j at_u site_j in
        let parts_m : B.set.parts m ≡ j ∷ [] = B.parts m (match_some_row j) at in
        let inside : Elem u (B.set.parts m) = subst (λ (ps : List ℕ). Elem u ps) (sym parts_m) (inl (sym j_is)) in
        let fresh_m = fresh m inside apart in
        let effect_m : B.set.effect m ≡ false = B.effects m (match_some_row j) at in
        let stands_m : B.set.stands m ≡ true = B.bound m (match_some_row j) at in
        elim on.order [
          | inl em ↦ clash (on.sc.emitted m) (em.0) fresh_m
          | inr others ↦
              let (n, (front, rest_binds, mid, bs, order, split_binds)) = others in
              let stepped = scope_step p w R sound below gives_typed t args args_typed b B on.sc mid m (u ∷ seen) front on.scope bs first in
              let own_m : own B.set m ≡ m ∷ [] = rw stands_m refl in
              let split_m : on.binds ≡ (front ++ m ∷ []) ++ rest_binds =
              split_binds ∙ ap (λ (ks : List ℕ). front ++ (ks ++ rest_binds)) own_m ∙ sym (append_assoc front (m ∷ []) rest_binds) in
              let run = subst (λ (ks : List ℕ). BindsRun p w below b.sites args on.env ks
              (λ env. Returns b.sites (p.terms.partial t) args env (b.result i)) steps trace (ended e)) split_m on.run in
              let pure : (k : ℕ) → Elem k (front ++ m ∷ []) → B.set.effect k ≡ false = λ k q. elim (elem_append k front (m ∷ []) q) [
                | inl f ↦ stepped.1 k f
                | inr f ↦ elim f [ inl o ↦ ap B.set.effect o ∙ effect_m | inr x ↦ absurd x ]
              ] in
              elim (pure_ends (front ++ m ∷ []) on.env before
              (λ env. BindsRun p w below b.sites args env rest_binds (λ env. Returns b.sites (p.terms.partial t) args env (b.result i)))
              steps trace e
              pure on.typed on.kept
              (binds_append p w R sound below gives_typed t args args_typed b B (front ++ m ∷ []) rest_binds on.env
              (λ env. Returns b.sites (p.terms.partial t) args env (b.result i)) steps trace (ended e) run)) [
                | inr a ↦ absurd (elim (elem_append a.number front (m ∷ []) a.among) [
                  | inl f ↦
                      let part = bs.only a.number (in_all B.set on.sc mid (B.set.parts m) front bs a.number f) in
                      let there : (s : ℕ) → Elem s (B.set.parts m) → on.sc.emitted s ≡ true =
                      λ s q. elim (subst (λ (ps : List ℕ). Elem s ps) parts_m q) [
                        | inl o ↦ ap on.sc.emitted (o ∙ j_is) ∙ on.scope.kept u (inl refl)
                        | inr x ↦ absurd x
                      ] in
                      clash (on.sc.emitted a.number) (emitted_deep on.sc (u ∷ seen) (B.set.parts m) a.number on.scope there part)
                      (order_new B.set on.sc bs.all a.number bs.order (in_all B.set on.sc mid (B.set.parts m) front bs a.number f))
                  | inr f ↦ elim f [
                    | inl o ↦
                        let same : a.row ≡ match_some_row j =
                        (let q : Some a.row ≡ Some (match_some_row j) = sym a.there ∙ ap (slice_get b.sites) o ∙ at in cc) in
                        no_call_no_end p w below b.sites args a.env (match_some_row j) [] e refl
                        (subst (λ (x : Row). RowRuns p w below b.sites args a.env x [] (ended e)) same a.run)
                    | inr x ↦ absurd x
                  ]
                ])
                | inl early ↦
                    let (env3, typed3, kept3, bound3, stays3, run3) = early in
                    let (h, is) = bound3 m (in_end front m) in (
                      record {
                        sc = emit mid m;
                        after = on.after;
                        env = env3;
                        binds = rest_binds;
                        scope = stepped.0;
                        order = order;
                        typed = typed3;
                        kept = kept3;
                        run = run3;
                      },
                      λ c good f.
                          let q : known (env3 m) ≡ gives h = ap (λ (o : Option Held). known o) is in
                          let same = kept_here env3 before kept3 c good m (λ e. let o : unknown ≡ gives h = sym e ∙ q in cc)
                          (λ e. let o : unknown ≡ fails = sym e ∙ f in cc) in
                          let o : fails ≡ gives h = sym f ∙ same ∙ q in cc,
                    )
              ]
        ]

    -- the result
    result_end : (seen : List ℕ) (before : List (Option Value)) (steps : ℕ) (trace : List Event) (e : Ended) → EffectsFirst B.set z seen []
        → Onward [] seen before steps trace e → CallEnd [] before trace e
    result_end seen before steps trace e first on =
        let part : (k : ℕ) → Elem k on.binds → IsPartOf B.set (z ∷ []) k = λ k m. each_part (z ∷ []) B.set on.sc on.binds on.after on.order k m in
        let pure : (k : ℕ) → Elem k on.binds → B.set.effect k ≡ false = λ k m. elim (true_or (B.set.effect k)) [
          | inr q ↦ q
          | inl q ↦ clash (on.sc.emitted k) (on.scope.kept k (first k (part k m) q)) (new_binds on.sc on.binds on.after on.order k m)
        ] in
        elim (pure_ends on.binds on.env before (λ env. Returns b.sites (p.terms.partial t) args env (b.result i))
        steps trace e pure on.typed on.kept on.run) [
          | inl early ↦ (let (env1, typed1, kept1, bound1, stays1, (v, r, z0, nothing, is)) = early in absurd (let q : ended e ≡ given v = is in cc))
          | inr a ↦ record {
            number = a.number;
            row = a.row;
            env = a.env;
            sofar = before;
            pre = [];
            post = [];
            split = a.nothing;
            there = a.there;
            typed = a.typed;
            kept = a.kept;
            run = a.run;
            asks = λ c g q maybe.
                let may = maybe 0 (subst (IsPlaced 0) (sym (B.sited a.number a.row a.there)) (calm_placed B.site a.row 0 a.calm)) in
                let inside = subst (IsSubtree (B.site a.number)) z_is ((deep_site p R t b B z a.number z_stands (part a.number a.among)).1) in
                (refl, inl (in_result (p.terms.partial t) (B.site a.number) q (site_of p.terms vars word) c before inside may), may);
          }
        ]
      where
        in_result : (partial : Bool) (u : Site) (q : Asked) (s : Site) (c : Completion) (done : List (Option Value)) → IsSubtree u (some_of partial s)
            → MayBeCallOn p.terms c args done 0 u q → IsSubtree u s
        in_result false u q s c done h may = h
        in_result true u q s c done (inl e) may =
            absurd (no_made p.terms c args done 0 s q (subst (λ (x : Site). MayBeCallOn p.terms c args done 0 x q) e may))
        in_result true u q s c done (inr h) may = h

        -- what is bound was not before
        new_binds : (sc : Scope C) (binds : List ℕ) (after : Scope C) → BindsEach B.set sc (z ∷ []) binds after → (k : ℕ) → Elem k binds
            → sc.emitted k ≡ false
        new_binds sc binds after (inl (em, (none, same))) k m = absurd (subst (λ (l : List ℕ). Elem k l) none m)
        new_binds sc binds after (inr (n, (front, rest, mid, bs, (none, same), split))) k m =
            elim (elem_append k front (own B.set z ++ rest) (subst (λ (l : List ℕ). Elem k l) split m)) [
              | inl f ↦ order_new B.set sc bs.all k bs.order (in_all B.set sc mid (B.set.parts z) front bs k f)
              | inr f ↦ elim (elem_append k (own B.set z) rest f) [
                | inl o ↦ ap sc.emitted (own_is B.set z k o) ∙ n
                | inr q ↦ absurd (subst (λ (l : List ℕ). Elem k l) none q)
              ]
            ]

    -- after a call that was made
    later_end : (s : Step) (u : ℕ) (us seen : List ℕ) (before : List (Option Value)) (steps : ℕ) (trace : List Event) (e : Ended) (ss : List Step)
        → (went : Went s u us seen before steps trace e)
        → ((c : Completion) → Good c → went.answer ≡ None → p.terms.partial s.term ≡ true
        → values p.terms c args before (sites_of p.terms vars s.args) ≡ gives went.vs → ⊥)
        → CallEnd ss (before ++ went.answer ∷ []) went.rest e → CallEnd (s ∷ ss) before trace e
    later_end s u us seen before steps trace e ss went never a = record {
      number = a.number;
      row = a.row;
      env = a.env;
      sofar = a.sofar;
      pre = went.effects ++ a.pre;
      post = a.post;
      split = went.split ∙ ap (λ (l : List Event). went.effects ++ l) a.split ∙ sym (append_assoc went.effects a.pre a.post);
      there = a.there;
      typed = a.typed;
      kept = a.kept;
      run = a.run;
      asks = λ c good q maybe. inr (got_gives (values p.terms c args before (sites_of p.terms vars s.args)) went.vs ⊥
          (λ vs. (effects : List Event) × (rest : List Event)
          × (v : Value) × (went.effects ++ a.pre ≡ effects ++ rest) × Makes p means s.term vs effects (Some v)
          × RightAsks p.terms Needed c (Makes p means) args vars (before ++ Some v ∷ []) ss word rest (B.site a.number) q)
          (went.says c good) (λ known.
          elim went.made [
            | inl none ↦ absurd (never c good (none.0) (none.1) known)
            | inr some ↦
                let (v, is, made) = some in (
                  went.effects,
                  a.pre,
                  v,
                  refl,
                  made,
                  subst (λ (x : Option Value). RightAsks p.terms Needed c (Makes p means) args vars (before ++ x ∷ []) ss word a.pre
                      (B.site a.number) q) is (a.asks c good q maybe),
                )
          ]));
    }

    -- the right side: its impure calls, then its result
    pub right_ends : (ss : List Step) (n : ℕ) (us seen : List ℕ) (before : List (Option Value)) (steps : ℕ) (trace : List Event) (e : Ended)
        → map B.site us ≡ calls_of p.terms vars ss → ((k : ℕ) → Elem k us → There k) → AreTypedSteps p R S G D n ss → n ≡ length before
        → EffectsFirst B.set z seen us → Onward us seen before steps trace e → CallEnd ss before trace e
    right_ends [] n [] seen before steps trace e is stand typed place first on = result_end seen before steps trace e first on
    right_ends [] n (u ∷ us) seen before steps trace e is stand typed place first on = absurd (let q : B.site u ∷ map B.site us ≡ [] = is in cc)
    right_ends (s ∷ ss) n us seen before steps trace e is stand typed place first on =
        go (p.terms.partial s.term) refl us is stand first on
        (λ us' seen' x rest h st f o. right_ends ss (suc n) us' seen' (before ++ x ∷ []) steps rest e h st (typed.2)
        (ap suc place ∙ sym (one_longer before x)) f o)
      where
        go : (partial : Bool) → p.terms.partial s.term ≡ partial → (us : List ℕ)
            → map B.site us ≡ with_content (p.terms.partial s.term) (constructor_call s.term (sites_of p.terms vars s.args) (suc s.place))
            ++ calls_of p.terms vars ss
            → ((k : ℕ) → Elem k us → There k) → EffectsFirst B.set z seen us → Onward us seen before steps trace e
            → ((us' seen' : List ℕ) (x : Option Value) (rest : List Event) → map B.site us' ≡ calls_of p.terms vars ss
            → ((k : ℕ) → Elem k us' → There k)
            → EffectsFirst B.set z seen' us' → Onward us' seen' (before ++ x ∷ []) steps rest e → CallEnd ss (before ++ x ∷ []) rest e)
            → CallEnd (s ∷ ss) before trace e
        go false pe us e0 stand first on rec = plain us
            (e0 ∙ ap (λ (q : Bool). with_content q (constructor_call s.term (sites_of p.terms vars s.args) (suc s.place)) ++ calls_of p.terms vars ss)
            pe) stand first on
          where
            plain : (us : List ℕ) → map B.site us ≡ constructor_call s.term (sites_of p.terms vars s.args) (suc s.place) ∷ calls_of p.terms vars ss
                → ((k : ℕ) → Elem k us → There k) → EffectsFirst B.set z seen us → Onward us seen before steps trace e
                → CallEnd (s ∷ ss) before trace e
            plain [] q stand first on = absurd cc
            plain (u ∷ us) q stand first on =
                let rest_is : map B.site us ≡ calls_of p.terms vars ss = cc in
                elim (call_end s u us seen before steps trace e ss (stand u (inl refl)) (cc) (typed.1 ∙ place) first on) [
                  | inr a ↦ a
                  | inl went ↦ later_end s u us seen before steps trace e ss went (λ c g n pt known. (let o : false ≡ true = sym pe ∙ pt in cc))
                      (rec us (u ∷ seen) went.answer went.rest rest_is (λ k m. stand k (inr m)) (first.2) went.onward)
                ]
        go true pe us e0 stand first on rec = opened us
            (e0 ∙ ap (λ (q : Bool). with_content q (constructor_call s.term (sites_of p.terms vars s.args) (suc s.place)) ++ calls_of p.terms vars ss)
            pe) stand first on
          where
            opened : (us : List ℕ) → map B.site us ≡ constructor_call s.term (sites_of p.terms vars s.args) (suc s.place)
                ∷ match_some (constructor_call s.term (sites_of p.terms vars s.args) (suc s.place)) ∷ calls_of p.terms vars ss
                → ((k : ℕ) → Elem k us → There k) → EffectsFirst B.set z seen us → Onward us seen before steps trace e
                → CallEnd (s ∷ ss) before trace e
            opened [] q stand first on = absurd cc
            opened (u ∷ []) q stand first on = absurd cc
            opened (u ∷ (m ∷ us)) q stand first on =
                let site_u : B.site u ≡ constructor_call s.term (sites_of p.terms vars s.args) (suc s.place) = cc in
                let site_m : B.site m ≡ match_some (B.site u) = cc in
                let rest_is : map B.site us ≡ calls_of p.terms vars ss = cc in
                let apart : m ≡ u → ⊥ = λ q. (let o : match_some (B.site u) ≡ constructor_call s.term (sites_of p.terms vars s.args) (suc s.place) =
                sym site_m ∙ ap B.site q ∙ site_u in cc) in
                elim (call_end s u (m ∷ us) seen before steps trace e ss (stand u (inl refl)) site_u (typed.1 ∙ place) first on) [
                  | inr a ↦ a
                  | inl went ↦
                      let content = content_end u m us seen (before ++ went.answer ∷ []) steps went.rest e
                      (stand u (inl refl)) (stand m (inr (inl refl))) site_m (first.2)
                      went.onward went.fresh apart in
                      later_end s u (m ∷ us) seen before steps trace e ss went
                      (λ c g n pt known. content.1 c g (ap (value p.terms c args (before ++ went.answer ∷ [])) site_m ∙ ap
                      (ask content_of) (went.holds c g known)
                      ∙ none_fails (p.terms.partial s.term) went.answer pt n))
                      (rec us (m ∷ (u ∷ seen)) went.answer went.rest rest_is (λ k n. stand k (inr (inr n))) (first.2.2) (content.0))
                ]
              where
                none_fails : (partial : Bool) (x : Option Value) → partial ≡ true → x ≡ None → ask content_of (constructed partial (got x)) ≡ fails
                none_fails true None pt n = refl
                none_fails true (Some v) pt n = absurd cc
                none_fails false x pt n = absurd cc
