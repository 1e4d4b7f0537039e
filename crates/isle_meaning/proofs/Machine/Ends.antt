-- Where a machine's run ends unanswered, a chain of asking ends so.
use Rattle.std.proofs.Common.{◌≡◌, ◌≢◌, inl, inr, ℕ, zero, suc, Bool, true, false, List, [], ◌++◌, Option, Some, None, slice_get, refl, sym, ◌∙◌, ap, subst, append-nil}
use Rattle.isle_trees.proofs.Basics.{clash}
use Rattle.isle_trees.specs.Choice.{IsRight}
use Rattle.isle_trees.specs.Got.{Got, unknown, gives}
use Rattle.isle_trees.specs.Rules.{Elem, by_part}
use Rattle.isle_trees.specs.Walk.{walk}
use Rattle.isle_meaning.specs.Answers.{Completion}
use Rattle.isle_meaning.specs.Asking.{Asked, asks_value, asks_outputs, Ended, stuck, spent, IsCallOn, MayBeCallOn}
use Rattle.isle_meaning.specs.Asking.{no_link, EndsAt}
use Rattle.isle_meaning.specs.Calls.{Means}
use Rattle.isle_meaning.specs.Demands.{vars_of}
use Rattle.isle_meaning.specs.Facts.{TermFacts}
use Rattle.isle_meaning.specs.GroundValues.{AreValuesOf}
use Rattle.isle_meaning.specs.Held.{Held, plain, value, values}
use Rattle.isle_meaning.specs.Laws.Machine.{MachineEndsAreAsked}
use Rattle.isle_meaning.specs.Machine.Runs.{TermTree, Env, Runs, known, values_at, made_of, read, Comes, RowRuns}
use Rattle.isle_meaning.specs.Machine.Runs.{MachineRun}
use Rattle.isle_meaning.specs.Machine.Trees.{sites_at, site_of_row, parts_of_row, is_effect, IsTermTree, HasTermTrees}
use Rattle.isle_meaning.specs.Numbered.{Row, bool_row, int_row, prim_row, argument_row, extractor_row, constructor_row, iterator_row}
use Rattle.isle_meaning.specs.Numbered.{make_variant_row, match_variant_row, make_struct_row, extract_struct_row, make_some_row}
use Rattle.isle_meaning.specs.Numbered.{match_some_row, match_tuple_row}
use Rattle.isle_meaning.specs.Outcomes.{given, missing, ended, WorldExtracts, ConstructsIf, EffectsIf, unmatched}
use Rattle.isle_meaning.specs.Scopes.{scope_of}
use Rattle.isle_meaning.specs.Sites.{Site}
use Rattle.isle_meaning.specs.SoundPrograms.{IsSound}
use Rattle.isle_meaning.specs.Inside.TypedWords.{GivesTyped}
use Rattle.isle_meaning.specs.Values.{Value, Values}
use Rattle.isle_meaning.specs.Words.{word_of, steps_of}
use Rattle.isle_meaning.specs.Worlds.{CheckedProgram, Answers, Event}
use Rattle.isle_meaning.proofs.Calls.Saying.{GivesMeant}
use Rattle.isle_meaning.proofs.Calls.WordTyping.{calls_types, expr_typed}
use Rattle.isle_meaning.proofs.Chains.Prefixed.{choose_ends, finish_ends}
use Rattle.isle_meaning.specs.AboutSites.Agreeing.{AgreeIfKnown}
use Rattle.isle_meaning.specs.AboutSites.RuleCalls.{IsCall}
use Rattle.isle_meaning.specs.Machine.Asking.{machine_links}
use Rattle.isle_meaning.proofs.Sites.Agreeing.{same_plain, plain_known, values_known}
use Rattle.isle_meaning.proofs.Matching.Basics.{plain_gives}
use Rattle.isle_meaning.proofs.Chains.WordEnds.{judged_ended}
use Rattle.isle_meaning.proofs.Machine.Walked.{in_end, in_front}
use Rattle.isle_meaning.proofs.Machine.RowEnds.{ended_outputs, ended_answer, comes_never_ends}
use Rattle.isle_meaning.proofs.Machine.RowSites.{in_numbers}
use Rattle.isle_meaning.proofs.Machine.Demanded.{asked_call}
use Rattle.isle_meaning.proofs.Machine.Ending.{IsPlaced, calm_placed, right_ends}
use Rattle.isle_meaning.proofs.Machine.Meant.{Good, VC, rule_sound, to_matches, right, chosen_greatest, whole_walk}
use Rattle.isle_meaning.proofs.Machine.Meant.{ends_told, WholeEnd, meant_outcome, machine_run_meant}
use Rattle.isle_meaning.proofs.Machine.Reading.{IsKept, read_same, values_there, values_same}
use Rattle.isle_meaning.proofs.Machine.Rows.{IsTypedEnv, call_typed}
use Rattle.isle_meaning.proofs.Machine.Walking.{to_kept, asked_known, AskedEnd, AtReturn}
use Rattle.isle_meaning.proofs.Matching.Later.{later}

-- where its parts are known, a call is on these arguments
to_call_on : (facts : TermFacts) (c : Completion) (args : Values) (place : ℕ) (site : ℕ → Site) (row : Row) (q : Asked) → is_effect row ≡ false
    → ((j : ℕ) → Elem j (parts_of_row row) → value facts c args [] (site j) ≢ unknown)
    → MayBeCallOn facts c args [] place (site_of_row site row) q → IsCallOn facts c args (site_of_row site row) q
to_call_on facts c args place site (extractor_row t j) (asks_outputs u v) n known (e, h) =
    (e, plain_gives (value facts c args [] (site j)) v (h (plain_known (value facts c args [] (site j)) (known j (inl refl)))))
to_call_on facts c args place site (extractor_row t j) (asks_value u vs) n known h = absurd h
to_call_on facts c args place site (constructor_row t js zero) (asks_value u vs) n known (o, e, h) = (
  e,
  h (values_known facts c args [] (sites_at site js) (λ s m. let (j, k, q) = in_numbers site js s m in
      λ o. known j k (ap (value facts c args []) (sym q) ∙ o))),
)
to_call_on facts c args place site (constructor_row t js zero) (asks_outputs u v) n known h = absurd h
to_call_on facts c args place site (constructor_row t js (suc i)) q n known h = absurd (let o : true ≡ false = n in cc)
to_call_on facts c args place site (bool_row x ty) q n known h = absurd h
to_call_on facts c args place site (int_row x ty) q n known h = absurd h
to_call_on facts c args place site (prim_row x) q n known h = absurd h
to_call_on facts c args place site (argument_row i) q n known h = absurd h
to_call_on facts c args place site (iterator_row j) q n known h = absurd h
to_call_on facts c args place site (make_variant_row ty k js) q n known h = absurd h
to_call_on facts c args place site (match_variant_row j k i) q n known h = absurd h
to_call_on facts c args place site (make_struct_row ty js) q n known h = absurd h
to_call_on facts c args place site (extract_struct_row j i) q n known h = absurd h
to_call_on facts c args place site (make_some_row j) q n known h = absurd h
to_call_on facts c args place site (match_some_row j) q n known h = absurd h
to_call_on facts c args place site (match_tuple_row j i) q n known h = absurd h

module _ {C : Type 0} (p : CheckedProgram) (w : Answers) (R : ℕ → Type 0) (sound : IsSound p R) (n : ℕ) (below : Runs)
    (gives_typed : GivesTyped p R below)
    (t : ℕ) (runs : R t) (args : Values) (args_typed : AreValuesOf p.values args (p.terms.inputs t)) (b : TermTree C) (B : IsTermTree p R t b)
    (meant : GivesMeant p R below (Means p w n))
    (ends_below : (u : ℕ) (vs : Values) (effects : List Event) (e : Ended) → R u → AreValuesOf p.values vs (p.terms.inputs u)
    → below u vs effects (ended e)
    → EndsAt p w (machine_links p w) n (asks_value u vs) effects e) where
  extract_end : (u : ℕ) (v : Value) (e : Ended) → WorldExtracts p w u v (ended e) → EndsAt p w (machine_links p w) n (asks_outputs u v) [] e
  extract_end u v e run =
      let (wrong, is) = judged_ended _ _ (asks_outputs u v) e run.judged in
      subst (EndsAt p w (machine_links p w) n (asks_outputs u v) []) (sym is)
      (record { left = n; chain = no_link; tree = run.arg; typed = run.typed; stands = run.stands; wrong = wrong })

  -- a pure call of a constructor
  construct_end : (c : Bool) (u : ℕ) (vs : Values) (e : Ended) → p.has_rules u ≡ c → (p.has_rules u ≡ true → R u) → p.terms.pure u ≡ true
      → AreValuesOf p.values vs (p.terms.inputs u) → ConstructsIf p w below c u vs (ended e) → EndsAt p w (machine_links p w) n (asks_value u vs) [] e
  construct_end true u vs e is ruled pure typed run = ends_below u vs [] e (ruled is) typed run
  construct_end false u vs e is ruled pure typed run =
      let (wrong, q) = judged_ended _ _ (asks_value u vs) e run.judged in
      subst (EndsAt p w (machine_links p w) n (asks_value u vs) []) (sym q)
      (inl (record { left = n; chain = no_link; outside = is; pure = pure; trees = run.args; typed = run.typed; stand = run.stand; wrong = wrong }))

  -- an impure one
  effect_end : (c : Bool) (u : ℕ) (vs : Values) (effects : List Event) (e : Ended) → p.has_rules u ≡ c → (p.has_rules u ≡ true → R u)
      → p.terms.pure u ≡ false
      → AreValuesOf p.values vs (p.terms.inputs u) → EffectsIf p below c u vs effects (ended e)
      → EndsAt p w (machine_links p w) n (asks_value u vs) effects e
  effect_end true u vs effects e is ruled impure typed run = ends_below u vs effects e (ruled is) typed run
  effect_end false u vs effects e is ruled impure typed run =
      let (wrong, q) = judged_ended _ _ (asks_value u vs) e run.judged in
      subst (EndsAt p w (machine_links p w) n (asks_value u vs) effects) (sym q) (inr (record {
        left = n;
        before = [];
        chain = no_link;
        outside = is;
        impure = impure;
        trees = run.args;
        answer = run.answer;
        typed = run.typed;
        stand = run.stand;
        last = run.alone;
        wrong = wrong;
      }))

  -- completions that agree and cover
  abbrev GoodHere : Completion → Type 0
  GoodHere c = Good p w R sound below gives_typed t runs args args_typed b B (Means p w n) meant c

  -- a site whose run ends is a call, and where that ends
  record EndedCall (k : ℕ) (sofar : List (Option Value)) (effects : List Event) (e : Ended) : Type 0 where
    pub asked : Asked
    pub ends : EndsAt p w (machine_links p w) n asked effects e
    pub call : (c : Completion) → GoodHere c → (place : ℕ) → IsPlaced place (B.site k) → MayBeCallOn p.terms c args sofar place (B.site k) asked
    pub is_call : IsCall (B.site k)

  -- what is made ends nothing
  never_ends : (k : ℕ) (sofar : List (Option Value)) (env : Env) (row : Row) (effects : List Event) (e : Ended)
      → Comes (made_of args (read b.sites args env) row) (ended e) → EndedCall k sofar effects e
  never_ends k sofar env row effects e q = absurd (comes_never_ends (made_of args (read b.sites args env) row) e q)

  -- a site whose run ends
  ended_call : (k : ℕ) (row : Row) (env : Env) (sofar : List (Option Value)) (effects : List Event) (e : Ended) → slice_get b.sites k ≡ Some row
      → IsTypedEnv p w R sound below gives_typed t args args_typed b B env
      → ((c : Completion) → GoodHere c → IsKept p.terms c args sofar B.site b.sites B.sited env)
      → RowRuns p w below b.sites args env row effects (ended e) → EndedCall k sofar effects e
  ended_call k (extractor_row u j) env sofar effects e at typed kept (v, g, r, run, nothing, out) = record {
    asked = asks_outputs u v;
    ends = subst (λ (l : List Event). EndsAt p w (machine_links p w) n (asks_outputs u v) l e) (sym nothing)
        (extract_end u v e (subst (WorldExtracts p w u v) (ended_outputs (p.terms.infallible u) g e out) run));
    call = λ c good place is. subst (λ (s : Site). MayBeCallOn p.terms c args sofar place s (asks_outputs u v))
        (sym (B.sited k (extractor_row u j) at)) (
          refl,
          λ m. same_plain _ _ (read_same p.terms c args sofar B.site b.sites B.sited env j (kept c good))
              (λ o. let q : unknown ≡ gives v = sym o ∙ ap plain r in cc) m ∙ ap plain r,
        );
    is_call = subst IsCall (sym (B.sited k (extractor_row u j) at)) tt;
  }
  ended_call k (constructor_row u js zero) env sofar effects e at typed kept (vs, g, r, run, nothing, out) = record {
    asked = asks_value u vs;
    ends = subst (λ (l : List Event). EndsAt p w (machine_links p w) n (asks_value u vs) l e) (sym nothing)
        (construct_end (p.has_rules u) u vs e refl (B.called k u zero js at) (B.pure k u js at)
        (call_typed p w R sound below gives_typed t args args_typed b B env k u zero js vs typed at r)
        (subst (ConstructsIf p w below (p.has_rules u) u vs) (ended_answer (p.terms.partial u) g e out) run));
    call = λ c good place is. subst (λ (s : Site). MayBeCallOn p.terms c args sofar place s (asks_value u vs))
        (sym (B.sited k (constructor_row u js zero) at))
        (inl refl, refl, args_known c good js env vs kept r);
    is_call = subst IsCall (sym (B.sited k (constructor_row u js zero) at)) tt;
  }
    where
      args_known : (c : Completion) → GoodHere c → (js : List ℕ) (env : Env) (vs : Values)
          → ((c : Completion) → GoodHere c → IsKept p.terms c args sofar B.site b.sites B.sited env)
          → values_at (read b.sites args env) js ≡ gives vs → values p.terms c args sofar (sites_at B.site js) ≢ unknown
          → values p.terms c args sofar (sites_at B.site js) ≡ gives vs
      args_known c good js env vs kept r m =
          subst (λ (x : Got Values). AgreeIfKnown (values_at (read b.sites args env) js) x) (sym (values_there p.terms c args sofar B.site js))
          (values_same (read b.sites args env) (λ j. value p.terms c args sofar (B.site j)) js
          (λ j. read_same p.terms c args sofar B.site b.sites B.sited env j (kept c good)))
          (λ o. let q : unknown ≡ gives vs = sym o ∙ r in cc) m ∙ r
  ended_call k (constructor_row u js (suc i)) env sofar effects e at typed kept (vs, g, r, run, out) = record {
    asked = asks_value u vs;
    ends = effect_end (p.has_rules u) u vs effects e refl (B.called k u (suc i) js at) (B.impure k u i js at)
        (call_typed p w R sound below gives_typed t args args_typed b B env k u (suc i) js vs typed at r)
        (subst (EffectsIf p below (p.has_rules u) u vs effects) (ended_answer (p.terms.partial u) g e out) run);
    call = λ c good place is. subst (λ (s : Site). MayBeCallOn p.terms c args sofar place s (asks_value u vs))
        (sym (B.sited k (constructor_row u js (suc i)) at))
        (subst (IsPlaced place) (B.sited k (constructor_row u js (suc i)) at) is, refl, args_known c good js env vs kept r);
    is_call = subst IsCall (sym (B.sited k (constructor_row u js (suc i)) at)) tt;
  }
    where
      args_known : (c : Completion) → GoodHere c → (js : List ℕ) (env : Env) (vs : Values)
          → ((c : Completion) → GoodHere c → IsKept p.terms c args sofar B.site b.sites B.sited env)
          → values_at (read b.sites args env) js ≡ gives vs → values p.terms c args sofar (sites_at B.site js) ≢ unknown
          → values p.terms c args sofar (sites_at B.site js) ≡ gives vs
      args_known c good js env vs kept r m =
          subst (λ (x : Got Values). AgreeIfKnown (values_at (read b.sites args env) js) x) (sym (values_there p.terms c args sofar B.site js))
          (values_same (read b.sites args env) (λ j. value p.terms c args sofar (B.site j)) js
          (λ j. read_same p.terms c args sofar B.site b.sites B.sited env j (kept c good)))
          (λ o. let q : unknown ≡ gives vs = sym o ∙ r in cc) m ∙ r
  ended_call k (bool_row x ty) env sofar effects e at typed kept (m, q) = never_ends k sofar env (bool_row x ty) effects e q
  ended_call k (int_row x ty) env sofar effects e at typed kept (m, q) = never_ends k sofar env (int_row x ty) effects e q
  ended_call k (prim_row x) env sofar effects e at typed kept (m, q) = never_ends k sofar env (prim_row x) effects e q
  ended_call k (argument_row i) env sofar effects e at typed kept (m, q) = never_ends k sofar env (argument_row i) effects e q
  ended_call k (iterator_row j) env sofar effects e at typed kept (m, q) = never_ends k sofar env (iterator_row j) effects e q
  ended_call k (make_variant_row ty v js) env sofar effects e at typed kept (m, q) = never_ends k sofar env (make_variant_row ty v js) effects e q
  ended_call k (match_variant_row j v i) env sofar effects e at typed kept (m, q) = never_ends k sofar env (match_variant_row j v i) effects e q
  ended_call k (make_struct_row ty js) env sofar effects e at typed kept (m, q) = never_ends k sofar env (make_struct_row ty js) effects e q
  ended_call k (extract_struct_row j i) env sofar effects e at typed kept (m, q) = never_ends k sofar env (extract_struct_row j i) effects e q
  ended_call k (make_some_row j) env sofar effects e at typed kept (m, q) = never_ends k sofar env (make_some_row j) effects e q
  ended_call k (match_some_row j) env sofar effects e at typed kept (m, q) = never_ends k sofar env (match_some_row j) effects e q
  ended_call k (match_tuple_row j i) env sofar effects e at typed kept (m, q) = never_ends k sofar env (match_tuple_row j i) effects e q

  -- before a rule is chosen
  test_end : (trace : List Event) (e : Ended) → AskedEnd p w R sound below gives_typed t args args_typed b B (Means p w n) meant trace (ended e)
      → EndsAt p w (machine_links p w) (suc n) (asks_value t args) trace e
  test_end trace e a =
      let (i, m, asked) = a.asked in
      let same : a.end ≡ e = (let q : ended e ≡ ended a.end = a.is in cc) in
      let kept : (c : Completion) → GoodHere c → IsKept p.terms c args [] B.site b.sites B.sited a.env =
      λ c good. to_kept p w R sound below gives_typed t args args_typed b B (Means p w n) meant a.env c a.kept good in
      let call = ended_call a.number a.row a.env [] [] e a.there a.typed kept
      (subst (λ (x : Ended). RowRuns p w below b.sites args a.env a.row [] (ended x)) same a.run) in
      let (s, demanded, within) = asked_call p R t b B i a.number m asked call.is_call in
      let calm : is_effect a.row ≡ false = sym (B.effects a.number a.row a.there) ∙ B.tree.single.pure i a.number asked in
      subst (λ (l : List Event). EndsAt p w (machine_links p w) (suc n) (asks_value t args) l e) (sym a.nothing)
      (choose_ends p w (machine_links p w) n t args call.asked [] e (sound.ruled t runs) (record {
        place = B.place i;
        rule = B.rule i;
        at = B.listed i m;
        site = s;
        demanded = demanded;
        call = B.site a.number;
        within = within;
        fixed = λ c agrees covers.
            let good : GoodHere c = record { agrees = agrees; covers = covers } in
            let at_row = B.sited a.number a.row a.there in
            subst (λ (x : Site). IsCallOn p.terms c args x call.asked) (sym at_row)
            (to_call_on p.terms c args 0 B.site a.row call.asked calm
            (λ j inside. asked_known p w R sound below gives_typed t args args_typed b B (Means p w n) meant c j good
            (i, m, by_part a.number j asked (subst (λ (l : List ℕ). Elem j l) (sym (B.parts a.number a.row a.there)) inside)))
            (subst (λ (x : Site). MayBeCallOn p.terms c args [] 0 x call.asked) at_row
            (call.call c good 0 (subst (IsPlaced 0) (sym at_row) (calm_placed B.site a.row 0 calm)))));
      }) call.ends)

  -- after it is chosen
  return_end : (trace : List Event) (e : Ended)
      → AtReturn p w R sound below gives_typed t args args_typed b B (Means p w n) meant
      (λ c. walk B.set (VC p w R sound below gives_typed t runs args args_typed b B (Means p w n) meant c) b.tree) trace (ended e)
      → EndsAt p w (machine_links p w) (suc n) (asks_value t args) trace e
  return_end trace e a =
      let i = a.chosen in
      let m : Elem i B.left = a.path.less i a.there in
      let rule = B.rule i in
      let at = B.listed i m in
      let its = rule_sound p w R sound below gives_typed t runs args args_typed b B (Means p w n) meant (B.place i) rule at in
      let typed = expr_typed p R (scope_of rule) its.var_types rule.right (p.terms.type_of rule.root) (its.well.right)
      (its.typed.right) (its.right) in
      let z = B.set.result i in
      let found = right_ends p w R sound below gives_typed t args args_typed b B (Means p w n) meant GoodHere
      (λ c g. g.agrees) i (scope_of rule) its.var_types
      (calls_types p rule.right) (vars_of p.terms rule) (word_of p.terms rule.right) z (B.whole i z m (in_end (B.set.calls i) z))
      (B.result i m) (steps_of p.terms rule.right) 0 (B.set.calls i) [] [] a.steps trace e
      (B.calls i m) (λ k q. B.whole i k m (in_front (B.set.calls i) z k q)) (typed.1) refl (B.tree.single.first i)
      (record {
        sc = a.sc;
        after = a.after;
        env = a.env;
        binds = a.binds;
        scope = record { closed = a.path.closed; calm = λ x em ef. clash (B.set.effect x) ef (a.path.calm x em); kept = λ x q. absurd q };
        order = a.order;
        typed = a.path.typed;
        kept = λ c good more k. kept_later c good more k (a.env k) refl;
        run = a.run;
      }) in
      let call = ended_call found.number found.row found.env found.sofar found.post e found.there found.typed
      (λ c good. subst (λ (l : List (Option Value)). IsKept p.terms c args l B.site b.sites B.sited found.env)
      (append-nil found.sofar) (found.kept c good [])) found.run in
      subst (λ (l : List Event). EndsAt p w (machine_links p w) (suc n) (asks_value t args) l e) (sym found.split)
      (finish_ends p w (machine_links p w) n t args call.asked found.pre found.post e (sound.ruled t runs) (record {
        place = B.place i;
        rule = rule;
        at = at;
        call = B.site found.number;
        fixed = λ c agrees covers.
            let good : GoodHere c = record { agrees = agrees; covers = covers } in
            let (o, events, is) = a.walked c good in
            let sure = subst (IsRight B.set (VC p w R sound below gives_typed t runs args args_typed b B (Means p w n) meant c) B.left) is
            (right p w R sound below gives_typed t runs args args_typed b B (Means p w n) meant c good) in
            record {
              matches = to_matches p w R sound below gives_typed t runs args args_typed b B (Means p w n) meant c good i m (sure.1);
              greatest = chosen_greatest p w R sound below gives_typed t runs args args_typed b B (Means p w n) meant c good i m (sure.2);
              asks = found.asks c good call.asked (call.call c good);
            };
      }) call.ends)
    where
      kept_later : (c : Completion) → GoodHere c → (more : List (Option Value)) (k : ℕ) (x : Option Held) → a.env k ≡ x
          → AgreeIfKnown (known x) (value p.terms c args ([] ++ more) (B.site k))
      kept_later c good more k None e = λ n q. absurd (n refl)
      kept_later c good more k (Some h) e = λ n q.
          let is = a.path.kept c good k h e in
          later p.terms c args [] more (B.site k) (λ u. let z : unknown ≡ gives h = sym u ∙ is in cc) ∙ is

  -- a run of a term that ends
  whole_end : (trace : List Event) (e : Ended) → WholeEnd p w R sound below gives_typed t runs args args_typed b B (Means p w n) meant trace (ended e)
      → EndsAt p w (machine_links p w) (suc n) (asks_value t args) trace e
  whole_end trace e (inl (m, (z, nothing, is), no_return)) = go (p.terms.partial t) refl is
    where
      go : (partial : Bool) → p.terms.partial t ≡ partial → ended e ≡ unmatched partial t args
          → EndsAt p w (machine_links p w) (suc n) (asks_value t args) trace e
      go true q is = absurd cc
      go false q is =
          let same : stuck t args ≡ e = cc in
          subst (EndsAt p w (machine_links p w) (suc n) (asks_value t args) trace) same
          (subst (λ (l : List Event). EndsAt p w (machine_links p w) (suc n) (asks_value t args) l (stuck t args)) (sym nothing) (record {
            left = n;
            chain = no_link;
            has_rules = sound.ruled t runs;
            infallible = q;
            none = λ c agrees covers.
                let good : GoodHere c = record { agrees = agrees; covers = covers } in
                ends_told p w R sound below gives_typed t runs args args_typed b B (Means p w n) meant c good (no_return c good);
          }))
  whole_end trace e (inr (inl a)) = return_end trace e a
  whole_end trace e (inr (inr (inl (is, nothing, stops)))) = absurd (let q : ended e ≡ missing = is in cc)
  whole_end trace e (inr (inr (inr a))) = test_end trace e a

module _ {C : Type 0} (p : CheckedProgram) (w : Answers) (R : ℕ → Type 0) (sound : IsSound p R) (trees : ℕ → TermTree C)
    (H : HasTermTrees p R trees) where
  -- Where a run of one of these terms ends, a chain of asking ends so.
  pub machine_run_ends : (n t : ℕ) (args : Values) (steps : ℕ) (trace : List Event) (e : Ended) → R t
      → AreValuesOf p.values args (p.terms.inputs t) → MachineRun p trees w n t args steps trace (ended e)
      → EndsAt p w (machine_links p w) n (asks_value t args) trace e
  machine_run_ends zero t args steps trace e runs typed (z, nothing, is) =
      let same : spent ≡ e = (let q : ended e ≡ ended spent = is in cc) in
      subst (EndsAt p w (machine_links p w) 0 (asks_value t args) trace) same
      (subst (λ (l : List Event). EndsAt p w (machine_links p w) 0 (asks_value t args) l spent) (sym nothing)
      (record { last = t; args = args; chain = no_link; has_rules = sound.ruled t runs }))
  machine_run_ends (suc n) t args steps trace e runs typed run =
      let below : Runs = λ u vs effects q. (reached : ℕ) × MachineRun p trees w n u vs reached effects q in
      let meant : GivesMeant p R below (Means p w n) = λ u vs effects q ru args_typed its.
      meant_outcome p w n u vs effects q (machine_run_meant p w R sound trees H n u vs (its.0) effects q ru args_typed (its.1)) in
      let gives_typed : GivesTyped p R below = λ u vs effects v ru args_typed its.
      (machine_run_meant p w R sound trees H n u vs (its.0) effects (given v) ru args_typed (its.1)).1 in
      whole_end p w R sound n below gives_typed t runs args typed (trees t) (H.of_term t runs) meant
      (λ u vs effects e ru args_typed its. machine_run_ends n u vs (its.0) effects e ru args_typed (its.1)) trace e
      (whole_walk p w R sound below gives_typed t runs args typed (trees t) (H.of_term t runs) (Means p w n) meant steps trace (ended e) run)

-- Where a machine's run ends unanswered, a chain of asking ends so.
pub machine_ends_are_asked : {C : Type 0} → MachineEndsAreAsked C
machine_ends_are_asked p w runs trees sound H n t args steps trace e h typed run =
    machine_run_ends p w (λ u. runs u ≡ true) sound trees H n t args steps trace e h typed run
