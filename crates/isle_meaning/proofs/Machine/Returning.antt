-- What a return binds is what its rule's right side does, under each completion that agrees.
use Rattle.std.proofs.Common.{◌≡◌, ◌⊎◌, inl, inr, ℕ, suc, ◌<◌, ◌==◌, Bool, true, false, List, [], ◌∷◌, ◌++◌, map, length, Option, Some, None, slice_get, refl, sym, ◌∙◌, ap, subst, append_assoc, append-nil, eqb-true, arith}
use Rattle.std.proofs.lemmas.Bool.{eqb-false}
use Rattle.std.proofs.Math.Decide.{ℕ_discrete}
use Rattle.std.specs.Prelude.{if◌then◌else◌}
use Rattle.isle_trees.proofs.Asking.{each_part, elem_append, own_is}
use Rattle.isle_trees.proofs.Basics.{true_or, or_holds, or_right, clash}
use Rattle.isle_trees.proofs.Leaf.{in_all, order_new, parts_up}
use Rattle.isle_trees.proofs.Path.{emitted_or, still_emitted}
use Rattle.isle_trees.specs.Builds.{Binds, BindsEach, own}
use Rattle.isle_trees.specs.Got.{Got, unknown, fails, gives}
use Rattle.isle_trees.specs.Premises.{EffectsFirst}
use Rattle.isle_trees.specs.Rules.{Elem, IsPartOf, itself, of_part}
use Rattle.isle_trees.specs.Scopes.{Scope, emit, emit_all}
use Rattle.isle_meaning.specs.Answers.{Completion, answered}
use Rattle.isle_meaning.specs.Asking.{Ended}
use Rattle.isle_meaning.specs.Calls.{Says, Agrees, Makes}
use Rattle.isle_meaning.specs.Demands.{some_of}
use Rattle.isle_meaning.specs.GroundValues.{AreValuesOf}
use Rattle.isle_meaning.specs.Held.{Held, held_value, held_none, held_some, held, content_of, constructed, construct_held, several_of, value}
use Rattle.isle_meaning.specs.Held.{values}
use Rattle.isle_meaning.specs.Machine.Runs.{TermTree, Env, Runs, Going, known, values_at, read, holding, option_if, RowRuns, Goes, BindsRun}
use Rattle.isle_meaning.specs.Machine.Runs.{result_held, Returns}
use Rattle.isle_meaning.specs.Machine.Trees.{sites_at, parts_of_row, is_effect, IsTermTree, with_content, calls_of}
use Rattle.isle_meaning.specs.Matching.{word_value, word_values}
use Rattle.isle_meaning.specs.Numbered.{Row, constructor_row}
use Rattle.isle_meaning.specs.Numbered.{match_some_row}
use Rattle.isle_meaning.specs.Outcomes.{Outcome, given, missing, ended, ImpureRuns}
use Rattle.isle_meaning.specs.RightSides.{IsFailure, IsValue, on_got, on_answer, Right}
use Rattle.isle_meaning.specs.Scopes.{Reads, ReadAll}
use Rattle.isle_meaning.specs.Sites.{Site, constructor_call, match_some, site_of, sites_of}
use Rattle.isle_meaning.specs.SoundPrograms.{IsSound}
use Rattle.isle_meaning.specs.Inside.TypedWords.{AreTypedSteps, GivesTyped}
use Rattle.isle_meaning.specs.Values.{Value, Values, ask}
use Rattle.isle_meaning.specs.Words.{Word, Words, Step, set}
use Rattle.isle_meaning.specs.Worlds.{CheckedProgram, Answers, Event, got}
use Rattle.isle_meaning.proofs.Calls.Outcomes.{one_longer}
use Rattle.isle_meaning.proofs.Calls.Rights.{IsAnswer, answer_map, impure_answers}
use Rattle.isle_meaning.proofs.Calls.Saying.{SaysOutcome, GivesMeant}
use Rattle.isle_meaning.specs.AboutSites.Agreeing.{AgreeIfKnown}
use Rattle.isle_trees.specs.Answers.{HasValue}
use Rattle.isle_meaning.proofs.Sites.Agreeing.{strict, values_have}
use Rattle.isle_meaning.proofs.Machine.Walked.{order_parts, part_before, in_end}
use Rattle.isle_meaning.proofs.Chains.One.{typed_read_all}
use Rattle.isle_meaning.proofs.Machine.RowSites.{in_sites, Stands, part_site, call_row, content_row}
use Rattle.isle_meaning.proofs.Machine.Reading.{no_effects, set_stays, IsKept, read_same}
use Rattle.isle_meaning.proofs.Machine.Rows.{IsTypedEnv, row_typed, set_typed, row_says, row_calm, call_typed, values_kept}
use Rattle.isle_meaning.proofs.Matching.Basics.{set_at, set_other}
use Rattle.isle_meaning.proofs.Matching.Later.{later, all_later}
use Rattle.isle_meaning.proofs.Matching.Written.{word_site, words_sites}

-- what is got, where something is said of it
pub got_gives : {A : Type 0} (g : Got A) (v : A) (F : Type 0) (P : A → Type 0) → Says g (gives v) → (g ≡ gives v → P v) → on_got g F P
got_gives unknown v F P s h = tt
got_gives fails v F P s h = absurd (let q : fails ≡ gives v = s (λ e. cc) in cc)
got_gives (gives u) v F P s h = let q : gives u ≡ gives v = s (λ e. cc) in let r : v ≡ u = cc in subst P r (h q)

-- what isn't got, where nothing can be
got_fails : {A : Type 0} (g : Got A) (F : Type 0) (P : A → Type 0) → ((u : A) → g ≡ gives u → ⊥) → F → on_got g F P
got_fails unknown F P n h = tt
got_fails fails F P n h = h
got_fails (gives u) F P n h = absurd (n u refl)

-- the answer at the end of the answers so far
pub answer_at : (before more : List (Option Value)) (x : Option Value) → slice_get ((before ++ x ∷ []) ++ more) (length before) ≡ Some x
answer_at [] more x = refl
answer_at (y ∷ before) more x = answer_at before more x

-- what a result's site holds
abbrev result_got : Bool → Got Value → Got Held
result_got true g = ask (λ h. gives (held_some h)) (held g)
result_got false g = held g

-- what a result holds is what is given
given_result : (partial : Bool) (g : Got Value) (v : Value) → AgreeIfKnown (gives (result_held partial v)) (result_got partial g) → Says g (gives v)
given_result true unknown v s n = absurd (n refl)
given_result true fails v s n = absurd (let q : fails ≡ gives (held_some (held_value v)) = s (λ e. cc) (λ e. cc) in cc)
given_result true (gives u) v s n = let q : gives (held_some (held_value u)) ≡ gives (held_some (held_value v)) = s (λ e. cc) (λ e. cc) in cc
given_result false unknown v s n = absurd (n refl)
given_result false fails v s n = absurd (let q : fails ≡ gives (held_value v) = s (λ e. cc) (λ e. cc) in cc)
given_result false (gives u) v s n = let q : gives (held_value u) ≡ gives (held_value v) = s (λ e. cc) (λ e. cc) in cc

-- a result that is given has a value
result_given : (partial : Bool) (g : Got Value) (u : Value) → g ≡ gives u → HasValue (result_got partial g)
result_given true g u e = (held_some (held_value u), rw e refl)
result_given false g u e = (held_value u, rw e refl)

-- an answer that follows where arguments are got
answer_got : (gs : Got Values) (vs : Values) (F : Option Value → Type 0) (P : Values → Option Value → Type 0) (r : Outcome Value) → Says gs (gives vs)
    → (gs ≡ gives vs → IsAnswer (P vs) r) → IsAnswer (λ y. on_got gs (F y) (λ us. P us y)) r
answer_got gs vs F P (given v) s h = got_gives gs vs (F (Some v)) (λ us. P us (Some v)) s h
answer_got gs vs F P missing s h = got_gives gs vs (F None) (λ us. P us None) s h
answer_got gs vs F P (ended e) s h = tt

-- an end answers nothing
answer_ended : (P : Option Value → Type 0) (r : Outcome Value) (e : Ended) → r ≡ ended e → IsAnswer P r
answer_ended P r e is = subst (IsAnswer P) (sym is) tt

-- a failure answers none
answer_missing : (P : Option Value → Type 0) (r : Outcome Value) → r ≡ missing → P None → IsAnswer P r
answer_missing P r is h = subst (IsAnswer P) (sym is) h

-- a call's site, where its arguments have values
pub call_there : (gs : Got Values) (f : Values → Got Held) (g : Got Held) → ((vs : Values) → f vs ≡ g) → ask f gs ≡ ask (λ vs. g) gs
call_there unknown f g e = refl
call_there fails f g e = refl
call_there (gives vs) f g e = e vs

-- A call's site holds its answer.
pub call_same : (gs : Got Values) (vs : Values) (h : Held) → Says gs (gives vs) → AgreeIfKnown (gives h) (ask (λ us. gives h) gs)
call_same unknown vs h s n m = absurd (m refl)
call_same fails vs h s n m = absurd (let q : fails ≡ gives vs = s (λ e. cc) in cc)
call_same (gives us) vs h s n m = refl

module _ {C : Type 0} (p : CheckedProgram) (w : Answers) (R : ℕ → Type 0) (sound : IsSound p R) (below : Runs) (gives_typed : GivesTyped p R below)
    (t : ℕ) (args : Values) (args_typed : AreValuesOf p.values args (p.terms.inputs t)) (b : TermTree C) (B : IsTermTree p R t b) where
  abbrev pub Typed : Env → Type 0
  Typed env = IsTypedEnv p w R sound below gives_typed t args args_typed b B env

  -- the run of further sites
  pub binds_append : (xs ys : List ℕ) (env : Env) (next : Env → Going) (steps : ℕ) (trace : List Event) (r : Outcome Value)
      → BindsRun p w below b.sites args env (xs ++ ys) next steps trace r
      → BindsRun p w below b.sites args env xs (λ env. BindsRun p w below b.sites args env ys next) steps trace r
  binds_append [] ys env next steps trace r run = run
  binds_append (x ∷ xs) ys env next steps trace r (row, effects, rest, o, at, made, split, after) =
      (row, effects, rest, o, at, made, split, go o (λ h run. binds_append xs ys (set env x (Some h)) next steps rest r run) after)
    where
      go : (o : Outcome Held)
          → ((h : Held) → BindsRun p w below b.sites args (set env x (Some h)) (xs ++ ys) next steps rest r
          → BindsRun p w below b.sites args (set env x (Some h)) xs (λ env. BindsRun p w below b.sites args env ys next) steps rest r)
          → Goes o (λ h. BindsRun p w below b.sites args (set env x (Some h)) (xs ++ ys) next) steps rest r
          → Goes o (λ h. BindsRun p w below b.sites args (set env x (Some h)) xs (λ env. BindsRun p w below b.sites args env ys next)) steps rest r
      go (given h) f run = f h run
      go missing f run = run
      go (ended e) f run = run

  -- what the path has bound: parts too, and of impure calls those that were seen
  pub record OnScope (sc : Scope C) (seen : List ℕ) : Type 0 where
    pub closed : (x q : ℕ) → sc.emitted x ≡ true → Elem q (B.set.parts x) → sc.emitted q ≡ true
    pub calm : (x : ℕ) → sc.emitted x ≡ true → B.set.effect x ≡ true → Elem x seen
    pub kept : (x : ℕ) → Elem x seen → sc.emitted x ≡ true

  -- what is bound is bound
  emitted_self : (sc : Scope C) (u : ℕ) → (emit sc u).emitted u ≡ true
  emitted_self sc u = rw (eqb_self u) refl
    where
      eqb_self : (n : ℕ) → (n == n) ≡ true
      eqb_self n = elim (true_or (n == n)) [ inl e ↦ e | inr e ↦ absurd (eqb-false n n e refl) ]

  -- a further site is bound, after its parts
  pub scope_step : (sc mid : Scope C) (u : ℕ) (seen front : List ℕ) → OnScope sc seen → Binds B.set sc (B.set.parts u) front mid
      → ((x : ℕ) → IsPartOf B.set (B.set.parts u) x → B.set.effect x ≡ true → Elem x seen)
      → OnScope (emit mid u) (u ∷ seen) × ((x : ℕ) → Elem x front → B.set.effect x ≡ false)
  scope_step sc mid u seen front o bs first =
      let fresh : (x : ℕ) → Elem x bs.all → B.set.effect x ≡ false = λ x m. elim (true_or (B.set.effect x)) [
        | inl e ↦ clash (sc.emitted x) (o.kept x (first x (bs.only x m) e)) (order_new B.set sc bs.all x bs.order m)
        | inr e ↦ e
      ] in
      let at_mid : (x : ℕ) → mid.emitted x ≡ true → Elem x bs.all ⊎ (sc.emitted x ≡ true) =
      λ x e. emitted_or sc bs.all x (subst (λ (z : Scope C). z.emitted x ≡ true) bs.ending e) in
      let to_mid : (x : ℕ) → (emit_all sc bs.all).emitted x ≡ true → mid.emitted x ≡ true =
      λ x e. subst (λ (z : Scope C). z.emitted x ≡ true) (sym bs.ending) e in
      let still : (x : ℕ) → mid.emitted x ≡ true → (emit mid u).emitted x ≡ true = λ x e. or_right (x == u) (mid.emitted x) e in (
        record {
          closed = λ x q e m. elim (or_holds (x == u) (mid.emitted x) e) [
            | inl y ↦ still q (bs.bound q (subst (λ (z : ℕ). Elem q (B.set.parts z)) (eqb-true x u y) m))
            | inr y ↦ elim (at_mid x y) [
              | inl n ↦ still q (to_mid q (order_parts B.set sc bs.all x q bs.order n m))
              | inr g ↦ still q (to_mid q (still_emitted sc bs.all q (o.closed x q g m)))
            ]
          ];
          calm = λ x e f. elim (or_holds (x == u) (mid.emitted x) e) [
            | inl y ↦ inl (eqb-true x u y)
            | inr y ↦ elim (at_mid x y) [
              | inl n ↦ clash (B.set.effect x) f (fresh x n)
              | inr g ↦ inr (o.calm x g f)
            ]
          ];
          kept = λ x m. elim m [
            | inl e ↦ subst (λ (z : ℕ). (emit mid u).emitted z ≡ true) (sym e) (emitted_self mid u)
            | inr n ↦ still x (to_mid x (still_emitted sc bs.all x (o.kept x n)))
          ];
        },
        λ x m. fresh x (in_all B.set sc mid (B.set.parts u) front bs x m),
      )

  -- what a part of a site that has a value is, has one
  module _ (c : Completion) (before : List (Option Value)) where
    -- it stands for something, and has a value
    abbrev Valued : ℕ → Type 0
    Valued k = Stands p R t b B k × HasValue (value p.terms c args before (B.site k))

    -- so has a part
    part_valued : (k q : ℕ) → Valued k → Elem q (B.set.parts k) → Valued q
    part_valued k q ((row, at), v) m =
        let n : Elem q (parts_of_row row) = subst (λ (l : List ℕ). Elem q l) (B.parts k row at) m in (
          B.stand k q row at n,
          strict p.terms c args before (B.site k) (B.site q) (part_site p R t b B k q row at m) v,
        )

    -- at any depth
    deep_valued : (sites : List ℕ) (x : ℕ) → ((s : ℕ) → Elem s sites → Valued s) → IsPartOf B.set sites x → Valued x
    deep_valued sites _ f (itself x m) = f x m
    deep_valued sites _ f (of_part s q h m) = part_valued s q (deep_valued sites s f h) m

    -- so nothing that it is made of fails
    part_never_fails : (sites : List ℕ) (x : ℕ) → ((s : ℕ) → Elem s sites → Valued s) → IsPartOf B.set sites x
        → Says (value p.terms c args before (B.site x)) fails → ⊥
    part_never_fails sites x f h s =
        let (y, e) = (deep_valued sites x f h).1 in
        let q : gives y ≡ fails = sym e ∙ s (λ u. let z : unknown ≡ gives y = sym u ∙ e in cc) in cc

  module _ (means : ℕ → Values → List Event → Option Value → Type 0) (meant : GivesMeant p R below means)
      (c : Completion) (agrees : Agrees p w means c) where
    -- what is bound is what the completion says, whatever later impure calls are answered
    abbrev pub Kept : Env → List (Option Value) → Type 0
    Kept env before = (more : List (Option Value)) → IsKept p.terms c args (before ++ more) B.site b.sites B.sited env

    -- it is what the completion says now
    kept_now : (env : Env) (before : List (Option Value)) → Kept env before → IsKept p.terms c args before B.site b.sites B.sited env
    kept_now env before k = subst (λ (l : List (Option Value)). IsKept p.terms c args l B.site b.sites B.sited env) (append-nil before) (k [])

    -- A further site that is what the completion says keeps it.
    pub same_set : (env : Env) (k : ℕ) (h : Held) (l : List (Option Value)) → IsKept p.terms c args l B.site b.sites B.sited env
        → AgreeIfKnown (gives h) (value p.terms c args l (B.site k)) → IsKept p.terms c args l B.site b.sites B.sited (set env k (Some h))
    same_set env k h l kept here j = elim (ℕ_discrete j k) [
      | yes q ↦
          let e : known (set env k (Some h) j) ≡ gives h = ap (λ (o : Option Held). known o) (ap (set env k (Some h)) q ∙ set_at env k (Some h)) in
          subst (λ (x : Got Held). AgreeIfKnown x (value p.terms c args l (B.site j))) (sym e)
          (subst (λ (z : ℕ). AgreeIfKnown (gives h) (value p.terms c args l (B.site z))) (sym q) here)
      | no n ↦
          let e : known (set env k (Some h) j) ≡ known (env j) = ap (λ (o : Option Held). known o) (set_other env k (Some h) j n) in
          subst (λ (x : Got Held). AgreeIfKnown x (value p.terms c args l (B.site j))) (sym e) (kept j)
    ]

    -- sites that make no effects are bound: all of them, or up to one that fails, or to an end
    abbrev PureEnd : List ℕ → Env → List (Option Value) → (Env → Going) → ℕ → List Event → Outcome Value → Type 0
    PureEnd xs old before next steps trace r =
        ((env : Env) × Typed env × Kept env before × ((x : ℕ) → Elem x xs → (h : Held) × (env x ≡ Some h))
        × ((x : ℕ) (h : Held) → old x ≡ Some h → (g : Held) × (env x ≡ Some g)) × next env steps trace r)
        ⊎ (((r ≡ missing) × (trace ≡ []) × ((x : ℕ) × Elem x xs × Says (value p.terms c args before (B.site x)) fails)) ⊎
        ((e : Ended) × (r ≡ ended e)))

    -- sites without effects
    pure_walk : (xs : List ℕ) (env : Env) (before : List (Option Value)) (next : Env → Going) (steps : ℕ) (trace : List Event) (r : Outcome Value)
        → ((x : ℕ) → Elem x xs → B.set.effect x ≡ false) → Typed env → Kept env before → BindsRun p w below b.sites args env xs next steps trace r
        → PureEnd xs env before next steps trace r
    pure_walk [] env before next steps trace r pure typed kept run = inl (env, typed, kept, (λ x m. absurd m), (λ x h e. (h, e)), run)
    pure_walk (k ∷ ks) env before next steps trace r pure typed kept (row, effects, rest, o, at, made, split, after) =
        let calm : is_effect row ≡ false = sym (B.effects k row at) ∙ pure k (inl refl) in
        let none = row_calm p w below b.sites args env row effects o calm made in
        let same = no_effects effects rest trace none split in
        let says = λ (l : List (Option Value)) (kl : IsKept p.terms c args l B.site b.sites B.sited env).
        row_says p w R sound below gives_typed t args args_typed b B means meant c agrees l env k row effects o typed kl at calm made in
        go o made says same (λ env' ty ke run. pure_walk ks env' before next steps rest r (λ x m. pure x (inr m)) ty ke run) after
      where
        go : (o : Outcome Held) → RowRuns p w below b.sites args env row effects o
            → ((l : List (Option Value)) → IsKept p.terms c args l B.site b.sites B.sited env → SaysOutcome (value p.terms c args l (B.site k)) o)
            → rest ≡ trace
            → ((env' : Env) → Typed env' → Kept env' before → BindsRun p w below b.sites args env' ks next steps rest r
            → PureEnd ks env' before next steps rest r)
            → Goes o (λ h. BindsRun p w below b.sites args (set env k (Some h)) ks next) steps rest r → PureEnd (k ∷ ks) env before next steps trace r
        go (given h) made says same walks after =
            let here = row_typed p w R sound below gives_typed t args args_typed b B env k row effects h typed at made in
            let rec = walks (set env k (Some h)) (set_typed p w R sound below gives_typed t args args_typed b B env k h typed here)
            (λ more. same_set env k h (before ++ more) (kept more) (λ n m. says (before ++ more) (kept more) m)) after in
            subst (λ (l : List Event). PureEnd (k ∷ ks) env before next steps l r) same (elim rec [
              | inl a ↦ (let (env', ty, ke, bound, stays, run) = a in inl (
                env',
                ty,
                ke,
                (λ x m. elim m [
                  | inl e ↦ subst (λ (z : ℕ). (h : Held) × (env' z ≡ Some h)) (sym e) (stays k h (set_at env k (Some h)))
                  | inr n ↦ bound x n
                ]),
                (λ x g e. let (f, q) = set_stays env k h x g e in stays x f q),
                run,
              ))
              | inr a ↦ elim a [
                | inl m ↦ (let (is, n, (x, here, f)) = m in inr (inl (is, n, (x, inr here, f))))
                | inr e ↦ inr (inr e)
              ]
            ])
        go missing made says same walks (z, nothing, is) = inr (inl (is, sym same ∙ nothing, (k, inl refl, says before (kept_now env before kept))))
        go (ended e) made says same walks (z, nothing, is) = inr (inr (e, is))

    -- the rule that returns: what its variables stand for, and its result
    module _ (i : ℕ) (S : ℕ → Type 0) (G D : ℕ → ℕ) (a : ℕ → Value) (vars : ℕ → Site)
        (agree : (k : ℕ) → S k → value p.terms c args [] (vars k) ≡ gives (held_value (a k))) (word : Word) (z : ℕ) (returned : b.result i ≡ z)
        (z_stands : Stands p R t b B z) (z_is : B.site z ≡ some_of (p.terms.partial t) (site_of p.terms vars word))
        (reads : Reads p.terms word S) where
      agree_at : (before : List (Option Value)) (k : ℕ) → S k → value p.terms c args before (vars k) ≡ gives (held_value (a k))
      agree_at before k s =
          later p.terms c args [] before (vars k) (λ e. let q : unknown ≡ gives (held_value (a k)) = sym e ∙ agree k s in cc) ∙ agree k s

      -- words give what their sites hold
      words_at : (before : List (Option Value)) (ws : Words) → ReadAll p.terms ws S
          → values p.terms c args before (sites_of p.terms vars ws) ≡ word_values c a before ws
      words_at before ws r = words_sites p.terms c args before a vars S (agree_at before) ws r

      -- what is still to be bound, and the run of it
      pub record Onward (us seen : List ℕ) (before : List (Option Value)) (steps : ℕ) (trace : List Event) (r : Outcome Value) : Type 0 where
        pub sc : Scope C
        pub after : Scope C
        pub env : Env
        pub binds : List ℕ
        pub scope : OnScope sc seen
        pub order : BindsEach B.set sc (us ++ z ∷ []) binds after
        pub typed : Typed env
        pub kept : Kept env before
        pub run : BindsRun p w below b.sites args env binds (λ env. Returns b.sites (p.terms.partial t) args env (b.result i)) steps trace r

      -- after a call that is answered so
      record AfterCall (u : ℕ) (us seen : List ℕ) (before : List (Option Value)) (partial : Bool) (x : Option Value) (steps : ℕ) (trace : List Event)
          (r : Outcome Value) : Type 0 where
        pub onward : Onward us (u ∷ seen) (before ++ x ∷ []) steps trace r
        pub fresh : (m : ℕ) → Elem u (B.set.parts m) → (m ≡ u → ⊥) → onward.sc.emitted m ≡ false
        pub holds : value p.terms c args (before ++ x ∷ []) (B.site u) ≡ constructed partial (got x)

      -- what an answered call tells
      abbrev CallTold : Step → (Option Value → List Event → Option Value → Type 0) → List Event → Values → Option Value → Type 0
      CallTold s Q trace vs y = (effects : List Event) × (rest : List Event) × (x : Option Value) × (trace ≡ effects ++ rest)
          × Makes p means s.term vs effects x × on_answer x (IsFailure rest y) (Q x rest y)

      -- the call is made
      call_made : (s : Step) (u : ℕ) (us seen js : List ℕ) (sc mid after : Scope C) (binds : List ℕ) (env : Env) (before : List (Option Value))
          (steps : ℕ) (trace effects rest : List Event) (r o : Outcome Value) (vs : Values) (out : Outcome Held)
          (Q : Option Value → List Event → Option Value → Type 0) (partial : Bool) → p.terms.partial s.term ≡ partial
          → slice_get b.sites u ≡ Some (constructor_row s.term js (suc s.place)) → s.place ≡ length before
          → OnScope (emit mid u) (u ∷ seen) → BindsEach B.set (emit mid u) (us ++ z ∷ []) binds after
          → ((m : ℕ) → Elem u (B.set.parts m) → (m ≡ u → ⊥) → (emit mid u).emitted m ≡ false)
          → Typed env → Kept env before → values_at (read b.sites args env) js ≡ gives vs
          → values p.terms c args before (sites_at B.site js) ≡ gives vs
          → ImpureRuns p below s.term vs effects o → out ≡ option_if partial (holding held_value o) → trace ≡ effects ++ rest
          → RowRuns p w below b.sites args env (constructor_row s.term js (suc s.place)) effects out
          → Goes out (λ h. BindsRun p w below b.sites args (set env u (Some h)) binds
          (λ env. Returns b.sites (p.terms.partial t) args env (b.result i))) steps rest r
          → ((v : Value) → AfterCall u us seen before partial (Some v) steps rest r → IsAnswer (Q (Some v) rest) r)
          → (partial ≡ true → AfterCall u us seen before true None steps rest r → IsAnswer (IsFailure rest) r)
          → IsAnswer (CallTold s Q trace vs) r
      call_made s u us seen js sc mid after binds env before steps trace effects rest r o vs out Q partial
          is_partial at place scope order fresh typed kept
          read_vs known_vs imp out_is split made goes some none =
          go partial is_partial o imp out_is some none
        where
          single : p.terms.multi s.term ≡ false
          single = B.single u (constructor_row s.term js (suc s.place)) at

          -- the call's site
          site_is : B.site u ≡ constructor_call s.term (sites_at B.site js) (suc s.place)
          site_is = B.sited u (constructor_row s.term js (suc s.place)) at

          -- its arguments are of their types
          args_are : AreValuesOf p.values vs (p.terms.inputs s.term)
          args_are = call_typed p w R sound below gives_typed t args args_typed b B env u s.term (suc s.place) js vs typed at read_vs

          -- it makes its effects
          makes : (o : Outcome Value) → ImpureRuns p below s.term vs effects o → IsAnswer (Makes p means s.term vs effects) o
          makes o imp = impure_answers p w R sound.data_sound below gives_typed means meant (p.has_rules s.term) s.term vs effects o refl
              (B.called u s.term (suc s.place) js at) args_are imp

          -- what it holds
          out_made : (q : Outcome Held) → out ≡ q → RowRuns p w below b.sites args env (constructor_row s.term js (suc s.place)) effects q
          out_made q e = subst (RowRuns p w below b.sites args env (constructor_row s.term js (suc s.place)) effects) e made

          -- what goes on
          out_goes : (q : Outcome Held) → out ≡ q
              → Goes q (λ h. BindsRun p w below b.sites args (set env u (Some h)) binds
              (λ env. Returns b.sites (p.terms.partial t) args env (b.result i))) steps rest r
          out_goes q e = subst (λ (o : Outcome Held). Goes o
              (λ h. BindsRun p w below b.sites args (set env u (Some h)) binds (λ env. Returns b.sites (p.terms.partial t) args env (b.result i)))
              steps rest r) e goes

          -- the call holds its answer
          held_there : (partial : Bool) → p.terms.partial s.term ≡ partial → (x : Option Value) (more : List (Option Value)) (us : Values)
              → construct_held p.terms c ((before ++ x ∷ []) ++ more) s.term (suc s.place) us ≡ constructed partial (got x)
          held_there partial e x more us =
              ap (λ (m : Bool). if m then several_of (c.constructs s.term us) else constructed (p.terms.partial s.term)
              (answered (slice_get ((before ++ x ∷ []) ++ more) s.place))) single
              ∙ ap (λ (q : Bool). constructed q (answered (slice_get ((before ++ x ∷ []) ++ more) s.place))) e
              ∙ ap (λ (j : ℕ). constructed partial (answered (slice_get ((before ++ x ∷ []) ++ more) j))) place
              ∙ ap (λ (g : Option (Option Value)). constructed partial (answered g)) (answer_at before more x)
              ∙ ap (constructed partial) (answered_got x)
            where
              answered_got : (x : Option Value) → answered (Some x) ≡ got x
              answered_got None = refl
              answered_got (Some v) = refl

          -- what its site does
          value_there : (partial : Bool) → p.terms.partial s.term ≡ partial → (x : Option Value) (more : List (Option Value))
              → value p.terms c args ((before ++ x ∷ []) ++ more) (B.site u)
              ≡ ask (λ us. constructed partial (got x)) (values p.terms c args ((before ++ x ∷ []) ++ more) (sites_at B.site js))
          value_there partial e x more =
              ap (value p.terms c args ((before ++ x ∷ []) ++ more)) site_is
              ∙ call_there (values p.terms c args ((before ++ x ∷ []) ++ more) (sites_at B.site js)) _ (constructed partial (got x))
              (held_there partial e x more)

          -- its arguments stay known
          values_later : (further : List (Option Value)) → values p.terms c args (before ++ further) (sites_at B.site js) ≡ gives vs
          values_later further =
              all_later p.terms c args before further (sites_at B.site js) (λ e. let q : unknown ≡ gives vs = sym e ∙ known_vs in cc) ∙ known_vs

          -- it was answered, and the run goes on
          after_call : (partial : Bool) → p.terms.partial s.term ≡ partial → (x : Option Value) (h : Held) → constructed partial (got x) ≡ gives h
              → RowRuns p w below b.sites args env (constructor_row s.term js (suc s.place)) effects (given h)
              → BindsRun p w below b.sites args (set env u (Some h)) binds (λ env. Returns b.sites (p.terms.partial t) args env (b.result i))
              steps rest r
              → AfterCall u us seen before partial x steps rest r
          after_call partial e x h holds made run = record {
            onward = record {
              sc = emit mid u;
              after = after;
              env = set env u (Some h);
              binds = binds;
              scope = scope;
              order = order;
              typed = set_typed p w R sound below gives_typed t args args_typed b B env u h typed
                  (row_typed p w R sound below gives_typed t args args_typed b B env u (constructor_row s.term js (suc s.place))
                  effects h typed at made);
              kept = λ more.
                  let q : before ++ (x ∷ more) ≡ (before ++ x ∷ []) ++ more = sym (append_assoc before (x ∷ []) more) in
                  let old = subst (λ (l : List (Option Value)). IsKept p.terms c args l B.site b.sites B.sited env) q (kept (x ∷ more)) in
                  same_set env u h ((before ++ x ∷ []) ++ more) old
                  (λ n m. value_there partial e x more ∙ ap (ask (λ us. constructed partial (got x)))
                  (ap (λ (l : List (Option Value)). values p.terms c args l (sites_at B.site js)) (sym q) ∙ values_later (x ∷ more)) ∙ holds);
              run = run;
            };
            fresh = fresh;
            holds = ap (λ (l : List (Option Value)). value p.terms c args l (B.site u)) (sym (append-nil (before ++ x ∷ [])))
                ∙ value_there partial e x []
                ∙ ap (ask (λ us. constructed partial (got x)))
                (ap (λ (l : List (Option Value)). values p.terms c args l (sites_at B.site js)) (append-nil (before ++ x ∷ []))
                ∙ values_later (x ∷ []));
          }

          go : (partial : Bool) → p.terms.partial s.term ≡ partial → (o : Outcome Value) → ImpureRuns p below s.term vs effects o
              → out ≡ option_if partial (holding held_value o)
              → ((v : Value) → AfterCall u us seen before partial (Some v) steps rest r → IsAnswer (Q (Some v) rest) r)
              → (partial ≡ true → AfterCall u us seen before true None steps rest r → IsAnswer (IsFailure rest) r)
              → IsAnswer (CallTold s Q trace vs) r
          go true e (given v) imp is some none =
              answer_map (Q (Some v) rest) (CallTold s Q trace vs) r (λ y k. (effects, rest, Some v, split, makes (given v) imp, k))
              (some v (after_call true e (Some v) (held_some (held_value v)) refl (out_made _ is) (out_goes _ is)))
          go true e missing imp is some none =
              answer_map (IsFailure rest) (CallTold s Q trace vs) r (λ y k. (effects, rest, None, split, makes missing imp, k))
              (none refl (after_call true e None held_none refl (out_made _ is) (out_goes _ is)))
          go true e (ended q) imp is some none = answer_ended (CallTold s Q trace vs) r q ((out_goes (ended q) is).2)
          go false e (given v) imp is some none =
              answer_map (Q (Some v) rest) (CallTold s Q trace vs) r (λ y k. (effects, rest, Some v, split, makes (given v) imp, k))
              (some v (after_call false e (Some v) (held_value v) refl (out_made _ is) (out_goes _ is)))
          go false e missing imp is some none =
              let over = out_goes missing is in
              answer_missing (CallTold s Q trace vs) r (over.2) (
                effects,
                rest,
                None,
                split,
                makes missing imp,
                record { nothing = over.1; none = refl },
              )
          go false e (ended q) imp is some none = answer_ended (CallTold s Q trace vs) r q ((out_goes (ended q) is).2)

      -- the next call: its parts are bound, and it is made
      call_walk : (s : Step) (u : ℕ) (us seen : List ℕ) (before : List (Option Value)) (steps : ℕ) (trace : List Event) (r : Outcome Value)
          (Q : Option Value → List Event → Option Value → Type 0) → Stands p R t b B u
          → B.site u ≡ constructor_call s.term (sites_of p.terms vars s.args) (suc s.place) → ReadAll p.terms s.args S → s.place ≡ length before
          → EffectsFirst B.set z seen (u ∷ us) → Onward (u ∷ us) seen before steps trace r
          → ((v : Value) (rest : List Event) → AfterCall u us seen before (p.terms.partial s.term) (Some v) steps rest r
          → IsAnswer (Q (Some v) rest) r)
          → ((rest : List Event) → p.terms.partial s.term ≡ true → AfterCall u us seen before true None steps rest r → IsAnswer (IsFailure rest) r)
          → IsAnswer (λ y. on_got (word_values c a before s.args) (IsFailure trace y) (λ vs. CallTold s Q trace vs y)) r
      call_walk s u us seen before steps trace r Q (row, at0) site_u reads_args place (first, once, more) on some none =
          let (js, row_is, sites_js) = call_row B.site row s.term (suc s.place) (sites_of p.terms vars s.args) (sym (B.sited u row at0) ∙ site_u) in
          let at : slice_get b.sites u ≡ Some (constructor_row s.term js (suc s.place)) = at0 ∙ ap (λ (x : Row). Some x) row_is in
          let effect_u : B.set.effect u ≡ true = B.effects u (constructor_row s.term js (suc s.place)) at in
          let stands_u : B.set.stands u ≡ true = B.tree.made.call_stands u effect_u in
          let parts_u : B.set.parts u ≡ js = B.parts u (constructor_row s.term js (suc s.place)) at in
          let known_args : values p.terms c args before (sites_at B.site js) ≡ word_values c a before s.args =
          ap (values p.terms c args before) sites_js ∙ words_at before s.args reads_args in
          elim on.order [
            | inl em ↦ absurd (once effect_u (on.scope.calm u (em.0) effect_u))
            | inr others ↦
                let (fresh_u, (front, rest_binds, mid, bs, order, split_binds)) = others in
                let stepped = scope_step on.sc mid u seen front on.scope bs first in
                let own_u : own B.set u ≡ u ∷ [] = rw stands_u refl in
                let split_u : on.binds ≡ front ++ (u ∷ rest_binds) = split_binds ∙ ap (λ (l : List ℕ). front ++ (l ++ rest_binds)) own_u in
                let run = subst (λ (l : List ℕ). BindsRun p w below b.sites args on.env l
                (λ env. Returns b.sites (p.terms.partial t) args env (b.result i)) steps trace r) split_u on.run in
                let fresh : (m : ℕ) → Elem u (B.set.parts m) → (m ≡ u → ⊥) → (emit mid u).emitted m ≡ false = λ m inside n.
                elim (true_or ((emit mid u).emitted m)) [
                  | inr f ↦ f
                  | inl e ↦ absurd (elim (or_holds (m == u) (mid.emitted m) e) [
                    | inl y ↦ n (eqb-true m u y)
                    | inr y ↦ elim (emitted_or on.sc bs.all m (subst (λ (x : Scope C). x.emitted m ≡ true) bs.ending y)) [
                      | inl q ↦
                          let low : m < u = part_before B.set (B.set.parts u) u m B.tree.made (λ x k. B.tree.made.lower u x k) (bs.only m q) in
                          let up : u < m = B.tree.made.lower m u inside in omega arith
                      | inr g ↦ clash (on.sc.emitted u) (on.scope.closed m u g inside) fresh_u
                    ]
                  ])
                ] in
                elim (pure_walk front on.env before _ steps trace r (stepped.1) on.typed on.kept
                (binds_append front (u ∷ rest_binds) on.env (λ env. Returns b.sites (p.terms.partial t) args env (b.result i)) steps trace r run)) [
                  | inr late ↦ elim late [
                    | inr e ↦ answer_ended (λ y. on_got (word_values c a before s.args) (IsFailure trace y) (λ vs. CallTold s Q trace vs y))
                        r (e.0) (e.1)
                    | inl m ↦
                        let (is, nothing, (x, inside, failed)) = m in
                        answer_missing (λ y. on_got (word_values c a before s.args) (IsFailure trace y) (λ vs. CallTold s Q trace vs y)) r is
                        (got_fails (word_values c a before s.args) (IsFailure trace None) (λ vs. CallTold s Q trace vs None) (λ vs e.
                        part_never_fails c before (B.set.parts u) x (parts_there u row js before vs at parts_u (known_args ∙ e))
                        (bs.only x (in_all B.set on.sc mid (B.set.parts u) front bs x inside)) failed)
                        (record { nothing = nothing; none = refl }))
                  ]
                  | inl early ↦
                      let (env1, typed1, kept1, bound1, stays1, run1) = early in
                      let (row1, effects, rest, o, at1, made1, split1, goes1) = run1 in
                      let same_row : row1 ≡ constructor_row s.term js (suc s.place) =
                      (let q : Some row1 ≡ Some (constructor_row s.term js (suc s.place)) = sym at1 ∙ at in cc) in
                      let made = subst (λ (x : Row). RowRuns p w below b.sites args env1 x effects o) same_row made1 in
                      let (vs, g, read_vs, imp, out_is) = made in
                      let says : Says (word_values c a before s.args) (gives vs) = λ n.
                      sym known_args ∙ values_kept p w R sound below gives_typed t args args_typed b B means meant c agrees before env1 js
                      (kept_now env1 before kept1)
                      (λ e. let q : unknown ≡ gives vs = sym e ∙ read_vs in cc) (λ e. n (sym known_args ∙ e)) ∙ read_vs in
                      answer_got (word_values c a before s.args) vs (IsFailure trace) (λ us. CallTold s Q trace us) r says (λ known.
                      call_made s u us seen js on.sc mid on.after rest_binds env1 before steps trace effects rest r g vs o Q
                      (p.terms.partial s.term) refl at place
                      (stepped.0) order fresh typed1 kept1 read_vs (known_args ∙ known) imp out_is split1 made goes1 (λ v. some v rest) (none rest))
                ]
          ]
        where
          parts_there : (u : ℕ) (row : Row) (js : List ℕ) (before : List (Option Value)) (vs : Values)
              → slice_get b.sites u ≡ Some (constructor_row s.term js (suc s.place))
              → B.set.parts u ≡ js → values p.terms c args before (sites_at B.site js) ≡ gives vs → (q : ℕ)
              → Elem q (B.set.parts u) → Valued c before q
          parts_there u row js before vs at parts_u e q m =
              let n : Elem q js = subst (λ (l : List ℕ). Elem q l) parts_u m in (
                B.stand u q (constructor_row s.term js (suc s.place)) at n,
                values_have p.terms c args before
                    (sites_at B.site js) (vs, e) (B.site q) (in_sites B.site js q n),
              )

      -- a call's content is bound
      content_walk : (u m : ℕ) (us seen : List ℕ) (before : List (Option Value)) (x : Option Value) (steps : ℕ)
          (trace : List Event) (r : Outcome Value)
          → Stands p R t b B u → Stands p R t b B m → B.site m ≡ match_some (B.site u) → (m ≡ u → ⊥) → EffectsFirst B.set z (u ∷ seen) (m ∷ us)
          → AfterCall u (m ∷ us) seen before true x steps trace r
          → (Onward us (m ∷ (u ∷ seen)) (before ++ x ∷ []) steps trace r × (value p.terms c args (before ++ x ∷ []) (B.site m) ≡ fails → ⊥))
          ⊎ (((r ≡ missing) × (trace ≡ []) × (HasValue (value p.terms c args (before ++ x ∷ []) (B.site m)) → ⊥)) ⊎ ((e : Ended) × (r ≡ ended e)))
      content_walk u m us seen before x steps trace r (row_u, at_u) (row, at0) site_m apart (first, once, more) told =
          let l : List (Option Value) = before ++ x ∷ [] in
          let on = told.onward in
          let (j, row_is, site_j) = content_row B.site row (B.site u) (sym (B.sited m row at0) ∙ site_m) in
          let at : slice_get b.sites m ≡ Some (match_some_row j) = at0 ∙ ap (λ (x : Row). Some x) row_is in
          let (row_j, at_j) = B.stand m j (match_some_row j) at (inl refl) in
          let j_is : j ≡ u = B.once j u row_j row_u at_j at_u site_j in
          let parts_m : B.set.parts m ≡ j ∷ [] = B.parts m (match_some_row j) at in
          let inside : Elem u (B.set.parts m) = subst (λ (ps : List ℕ). Elem u ps) (sym parts_m) (inl (sym j_is)) in
          let fresh_m = told.fresh m inside apart in
          let effect_m : B.set.effect m ≡ false = B.effects m (match_some_row j) at in
          let stands_m : B.set.stands m ≡ true = B.bound m (match_some_row j) at in
          elim on.order [
            | inl em ↦ clash (on.sc.emitted m) (em.0) fresh_m
            | inr others ↦
                let (n, (front, rest_binds, mid, bs, order, split_binds)) = others in
                let stepped = scope_step on.sc mid m (u ∷ seen) front on.scope bs first in
                let own_m : own B.set m ≡ m ∷ [] = rw stands_m refl in
                let split_m : on.binds ≡ (front ++ m ∷ []) ++ rest_binds =
                split_binds ∙ ap (λ (ks : List ℕ). front ++ (ks ++ rest_binds)) own_m ∙ sym (append_assoc front (m ∷ []) rest_binds) in
                let run = subst (λ (ks : List ℕ). BindsRun p w below b.sites args on.env ks
                (λ env. Returns b.sites (p.terms.partial t) args env (b.result i)) steps trace r) split_m on.run in
                let pure : (k : ℕ) → Elem k (front ++ m ∷ []) → B.set.effect k ≡ false = λ k e. elim (elem_append k front (m ∷ []) e) [
                  | inl f ↦ stepped.1 k f
                  | inr f ↦ elim f [ inl q ↦ ap B.set.effect q ∙ effect_m | inr z ↦ absurd z ]
                ] in
                let part : (k : ℕ) → Elem k (front ++ m ∷ []) → IsPartOf B.set (m ∷ []) k = λ k e. elim (elem_append k front (m ∷ []) e) [
                  | inl f ↦ parts_up B.set m k (bs.only k (in_all B.set on.sc mid (B.set.parts m) front bs k f))
                  | inr f ↦ itself k f
                ] in
                elim (pure_walk (front ++ m ∷ []) on.env l _ steps trace r pure on.typed on.kept
                (binds_append (front ++ m ∷ []) rest_binds on.env (λ env. Returns b.sites (p.terms.partial t) args env (b.result i))
                steps trace r run)) [
                  | inr late ↦ elim late [
                    | inr e ↦ inr (inr e)
                    | inl gone ↦
                        let (is, nothing, (k, here, failed)) = gone in
                        inr (inl (is, nothing, λ v. part_never_fails c l (m ∷ []) k (content_there m row l at0 v) (part k here) failed))
                  ]
                  | inl early ↦
                      let (env3, typed3, kept3, bound3, stays3, run3) = early in
                      let (h, is) = bound3 m (in_end front m) in
                      inl (
                        record {
                          sc = emit mid m;
                          after = on.after;
                          env = env3;
                          binds = rest_binds;
                          scope = stepped.0;
                          order = order;
                          typed = typed3;
                          kept = kept3;
                          run = run3;
                        },
                        λ f.
                            let q : known (env3 m) ≡ gives h = ap (λ (o : Option Held). known o) is in
                            let same = kept_now env3 l kept3 m (λ e. let o : unknown ≡ gives h = sym e ∙ q in cc)
                            (λ e. let o : unknown ≡ fails = sym e ∙ f in cc) in
                            let o : fails ≡ gives h = sym f ∙ same ∙ q in cc,
                      )
                ]
          ]
        where
          content_there : (m : ℕ) (row : Row) (l : List (Option Value)) → slice_get b.sites m ≡ Some row
              → HasValue (value p.terms c args l (B.site m))
              → (q : ℕ) → Elem q (m ∷ []) → Valued c l q
          content_there m row l at v q (inl e) = subst (Valued c l) (sym e) ((row, at), v)
          content_there m row l at v q (inr z) = absurd z

      -- the result
      result_walk : (seen : List ℕ) (before : List (Option Value)) (steps : ℕ) (trace : List Event) (r : Outcome Value) → EffectsFirst B.set z seen []
          → Onward [] seen before steps trace r
          → IsAnswer (λ y. on_got (word_value c a before word) (IsFailure trace y) (λ v. IsValue v trace y)) r
      result_walk seen before steps trace r first on =
          let value_z : value p.terms c args before (B.site z) ≡ result_got (p.terms.partial t) (word_value c a before word) =
          ap (value p.terms c args before) z_is ∙ result_there (p.terms.partial t)
          ∙ ap (result_of_got (p.terms.partial t)) (word_site p.terms c args before a vars S (agree_at before) word reads) ∙ result_again
          (p.terms.partial t) (word_value c a before word) in
          let part : (k : ℕ) → Elem k on.binds → IsPartOf B.set (z ∷ []) k = λ k m. each_part (z ∷ []) B.set on.sc on.binds on.after on.order k m in
          let pure : (k : ℕ) → Elem k on.binds → B.set.effect k ≡ false = λ k m. elim (true_or (B.set.effect k)) [
            | inr e ↦ e
            | inl e ↦ clash (on.sc.emitted k) (on.scope.kept k (first k (part k m) e)) (new_binds on.sc on.binds on.after on.order k m)
          ] in
          elim (pure_walk on.binds on.env before _ steps trace r pure on.typed on.kept on.run) [
            | inl early ↦
                let (env1, typed1, kept1, bound1, stays1, (v, e, z0, nothing, is)) = early in
                let read_z : read b.sites args env1 z ≡ gives (result_held (p.terms.partial t) v) = ap (read b.sites args env1) (sym returned) ∙ e in
                let says : Says (word_value c a before word) (gives v) = given_result (p.terms.partial t) (word_value c a before word) v (λ n m.
                sym value_z ∙ read_same p.terms c args before B.site b.sites B.sited env1 z (kept_now env1 before kept1)
                (λ u. let q : unknown ≡ gives (result_held (p.terms.partial t) v) = sym u ∙ read_z in cc) (λ u. m (sym value_z ∙ u)) ∙ read_z) in
                subst (IsAnswer (λ y. on_got (word_value c a before word) (IsFailure trace y) (λ v. IsValue v trace y))) (sym is)
                (got_gives (word_value c a before word) v (IsFailure trace (Some v)) (λ u. IsValue u trace (Some v)) says
                (λ q. record { nothing = nothing; same = refl }))
            | inr late ↦ elim late [
              | inr e ↦ answer_ended (λ y. on_got (word_value c a before word) (IsFailure trace y) (λ v. IsValue v trace y)) r (e.0) (e.1)
              | inl gone ↦
                  let (is, nothing, (k, here, failed)) = gone in
                  answer_missing (λ y. on_got (word_value c a before word) (IsFailure trace y) (λ v. IsValue v trace y)) r is
                  (got_fails (word_value c a before word) (IsFailure trace None) (λ v. IsValue v trace None) (λ u q.
                  part_never_fails c before (z ∷ []) k
                  (result_valued before (let (h, o) = result_given (p.terms.partial t) (word_value c a before word) u q in (h, value_z ∙ o)))
                  (part k here) failed) (record { nothing = nothing; none = refl }))
            ]
          ]
        where
          result_of_got : Bool → Got Held → Got Held
          result_of_got true g = ask (λ h. gives (held_some h)) g
          result_of_got false g = g

          -- a result's site
          result_there : (partial : Bool) → value p.terms c args before (some_of partial (site_of p.terms vars word)) ≡ result_of_got partial
              (value p.terms c args before (site_of p.terms vars word))
          result_there true = refl
          result_there false = refl

          -- what it holds
          result_again : (partial : Bool) (g : Got Value) → result_of_got partial (held g) ≡ result_got partial g
          result_again true g = refl
          result_again false g = refl

          -- it has a value
          result_valued : (l : List (Option Value)) → HasValue (value p.terms c args l (B.site z)) → (q : ℕ) → Elem q (z ∷ []) → Valued c l q
          result_valued l v q (inl e) = subst (Valued c l) (sym e) (z_stands, v)
          result_valued l v q (inr x) = absurd x

          -- what is bound was not before
          new_binds : (sc : Scope C) (binds : List ℕ) (after : Scope C) → BindsEach B.set sc (z ∷ []) binds after → (k : ℕ) → Elem k binds
              → sc.emitted k ≡ false
          new_binds sc binds after (inl (em, (none, same))) k m = absurd (subst (λ (l : List ℕ). Elem k l) none m)
          new_binds sc binds after (inr (n, (front, rest, mid, bs, (none, same), split))) k m =
              elim (elem_append k front (own B.set z ++ rest) (subst (λ (l : List ℕ). Elem k l) split m)) [
                | inl f ↦ order_new B.set sc bs.all k bs.order (in_all B.set sc mid (B.set.parts z) front bs k f)
                | inr f ↦ elim (elem_append k (own B.set z) rest f) [
                  | inl o ↦ ap sc.emitted (own_is B.set z k o) ∙ n
                  | inr q ↦ absurd (subst (λ (l : List ℕ). Elem k l) none q)
                ]
              ]

      -- the right side: its impure calls, then its result
      pub right_walk : (ss : List Step) (n : ℕ) (us seen : List ℕ) (before : List (Option Value)) (steps : ℕ) (trace : List Event) (r : Outcome Value)
          → map B.site us ≡ calls_of p.terms vars ss → ((k : ℕ) → Elem k us → Stands p R t b B k) → AreTypedSteps p R S G D n ss → n ≡ length before
          → EffectsFirst B.set z seen us → Onward us seen before steps trace r
          → IsAnswer (Right c (Makes p means) a before ss word trace) r
      right_walk [] n [] seen before steps trace r e stand typed place first on = result_walk seen before steps trace r first on
      right_walk [] n (u ∷ us) seen before steps trace r e stand typed place first on = absurd (let q : B.site u ∷ map B.site us ≡ [] = e in cc)
      right_walk (s ∷ ss) n us seen before steps trace r e stand typed place first on =
          go (p.terms.partial s.term) refl us e stand first on
          (λ us' seen' x rest h st f o. right_walk ss (suc n) us' seen' (before ++ x ∷ []) steps rest r h st (typed.2)
          (ap suc place ∙ sym (one_longer before x)) f o)
        where
          Q : Option Value → List Event → Option Value → Type 0
          Q x rest y = Right c (Makes p means) a (before ++ x ∷ []) ss word rest y

          go : (partial : Bool) → p.terms.partial s.term ≡ partial → (us : List ℕ)
              → map B.site us ≡ with_content (p.terms.partial s.term) (constructor_call s.term (sites_of p.terms vars s.args) (suc s.place))
              ++ calls_of p.terms vars ss
              → ((k : ℕ) → Elem k us → Stands p R t b B k) → EffectsFirst B.set z seen us → Onward us seen before steps trace r
              → ((us' seen' : List ℕ) (x : Option Value) (rest : List Event) → map B.site us' ≡ calls_of p.terms vars ss
              → ((k : ℕ) → Elem k us' → Stands p R t b B k)
              → EffectsFirst B.set z seen' us' → Onward us' seen' (before ++ x ∷ []) steps rest r
              → IsAnswer (Right c (Makes p means) a (before ++ x ∷ []) ss word rest) r)
              → IsAnswer (Right c (Makes p means) a before (s ∷ ss) word trace) r
          go false pe us e0 stand first on rec = plain us
              (e0 ∙ ap (λ (q : Bool). with_content q (constructor_call s.term (sites_of p.terms vars s.args) (suc s.place))
              ++ calls_of p.terms vars ss) pe) stand first on
            where
              plain : (us : List ℕ) → map B.site us ≡ constructor_call s.term (sites_of p.terms vars s.args) (suc s.place) ∷ calls_of p.terms vars ss
                  → ((k : ℕ) → Elem k us → Stands p R t b B k) → EffectsFirst B.set z seen us → Onward us seen before steps trace r
                  → IsAnswer (Right c (Makes p means) a before (s ∷ ss) word trace) r
              plain [] e stand first on = absurd cc
              plain (u ∷ us) e stand first on =
                  call_walk s u us seen before steps trace r Q (stand u (inl refl)) (cc) (typed_read_all p R S G D s.args _ (typed.0.3))
                  (typed.1 ∙ place) first on
                  (λ v rest told. rec us (u ∷ seen) (Some v) rest (cc) (λ k m. stand k (inr m)) (first.2) (told.onward))
                  (λ rest q told. absurd (let o : false ≡ true = sym pe ∙ q in cc))
          go true pe us e0 stand first on rec = opened us
              (e0 ∙ ap (λ (q : Bool). with_content q (constructor_call s.term (sites_of p.terms vars s.args) (suc s.place))
              ++ calls_of p.terms vars ss) pe) stand first on
            where
              opened : (us : List ℕ) → map B.site us ≡ constructor_call s.term (sites_of p.terms vars s.args) (suc s.place)
                  ∷ match_some (constructor_call s.term (sites_of p.terms vars s.args) (suc s.place)) ∷ calls_of p.terms vars ss
                  → ((k : ℕ) → Elem k us → Stands p R t b B k) → EffectsFirst B.set z seen us → Onward us seen before steps trace r
                  → IsAnswer (Right c (Makes p means) a before (s ∷ ss) word trace) r
              opened [] e stand first on = absurd cc
              opened (u ∷ []) e stand first on = absurd cc
              opened (u ∷ (m ∷ us)) e stand first on =
                  let site_u : B.site u ≡ constructor_call s.term (sites_of p.terms vars s.args) (suc s.place) = cc in
                  let site_m : B.site m ≡ match_some (B.site u) = cc in
                  let rest_is : map B.site us ≡ calls_of p.terms vars ss = cc in
                  let apart : m ≡ u → ⊥ = λ q. (let o : match_some (B.site u) ≡ constructor_call s.term (sites_of p.terms vars s.args) (suc s.place) =
                  sym site_m ∙ ap B.site q ∙ site_u in cc) in
                  call_walk s u (m ∷ us) seen before steps trace r Q (stand u (inl refl)) site_u (typed_read_all p R S G D s.args _ (typed.0.3))
                  (typed.1 ∙ place) first on
                  (λ v rest told.
                  let told' = subst (λ (q : Bool). AfterCall u (m ∷ us) seen before q (Some v) steps rest r) pe told in
                  let content : value p.terms c args (before ++ Some v ∷ []) (B.site m) ≡ gives (held_value v) =
                  ap (value p.terms c args (before ++ Some v ∷ [])) site_m ∙ ap (ask content_of) (told'.holds) in
                  elim (content_walk u m us seen before (Some v) steps rest r (stand u (inl refl)) (stand m (inr (inl refl))) site_m apart
                  (first.2) told') [
                    | inl o ↦ rec us (m ∷ (u ∷ seen)) (Some v) rest rest_is (λ k n. stand k (inr (inr n))) (first.2.2) (o.0)
                    | inr o ↦ elim o [
                      | inl gone ↦ absurd (gone.2 (held_value v, content))
                      | inr q ↦ answer_ended (Q (Some v) rest) r (q.0) (q.1)
                    ]
                  ])
                  (λ rest q told.
                  let content : value p.terms c args (before ++ None ∷ []) (B.site m) ≡ fails =
                  ap (value p.terms c args (before ++ None ∷ [])) site_m ∙ ap (ask content_of) (told.holds) in
                  elim (content_walk u m us seen before None steps rest r (stand u (inl refl)) (stand m (inr (inl refl))) site_m apart (first.2)
                  told) [
                    | inl o ↦ absurd (o.1 content)
                    | inr o ↦ elim o [
                      | inl gone ↦ answer_missing (IsFailure rest) r (gone.0) (record { nothing = gone.1; none = refl })
                      | inr q ↦ answer_ended (IsFailure rest) r (q.0) (q.1)
                    ]
                  ])
