-- No run is stuck at a covered term, and no call that no rule matches is answered.
use Rattle.std.proofs.Common.{◌≡◌, ◌⊎◌, inl, inr, ℕ, zero, suc, true, false, List, [], ◌∷◌, ◌++◌, Option, Some, None}
use Rattle.std.proofs.Common.{Contains, refl, sym, ◌∙◌, subst, arith}
use Rattle.std.proofs.lemmas.List.Elements.{Contains-append_right}
use Rattle.isle_meaning.specs.Answers.{Completion}
use Rattle.isle_meaning.specs.Asking.{Asked, Ended, stuck, spent, ill_typed, asks_value, asks_outputs, Links, EndsAt, EndsStuck, plain_links}
use Rattle.isle_meaning.specs.Asking.{IsIllTypedAt}
use Rattle.isle_meaning.specs.Calls.{Agrees, CoversAll, Told, Means}
use Rattle.isle_meaning.specs.Machine.Asking.{machine_links}
use Rattle.isle_meaning.specs.Outcomes.{Outcome, given, missing, ended, outcome_of, IsMeant}
use Rattle.isle_meaning.specs.Reaching.{Reaches}
use Rattle.isle_meaning.specs.Values.{Value, Values}
use Rattle.isle_meaning.specs.Worlds.{CheckedProgram, Answers, Event}
use Rattle.isle_meaning.proofs.Calls.Meant.{plain_run_meant}
use Rattle.isle_meaning.proofs.Chains.Ends.{runs_end}
use Rattle.isle_meaning.proofs.Machine.Ends.{machine_run_ends}
use Rattle.isle_meaning.proofs.Machine.Meant.{machine_run_meant}
use Rattle.isle_program.specs.declared.program.Program.{Program}
use Rattle.isle_program.specs.Meanings.{checked, may_run}
use Rattle.isle_program.specs.Programs.{types_of, terms_of}
use Rattle.isle_program.proofs.SoundPrograms.Known.{sound_of}
use Rattle.isle_coverage.specs.Covered.{MayAnswer, IsCovered, IsMissed}
use Rattle.isle_calls.specs.TreeCalls.{term_trees}
use Rattle.isle_calls.proofs.TreeRoad.Grown.{compiled_grown}
use Rattle.isle_run.specs.Laws.Coverage.{WorldRuns, runs_by_trees, runs_by_rules, IsInhabitedProgram, IsRunnableCall, CoveredTermsAreNotStuck}
use Rattle.isle_coverage.specs.Stuck.{MayCome, AreNeverStuck}
use Rattle.isle_run.specs.Laws.Coverage.{CoveredCallsAreNeverStuck, AnswersAsAllowed, CoveredCallsAreAnswered, IsNoAnswer}
use Rattle.isle_run.specs.Laws.Coverage.{MissedCallsAreNotAnswered}
use Rattle.isle_run.specs.Laws.Sound.{RunsIn}
use Rattle.isle_run.proofs.Blocks.Agreeing.{acyclic_calls_are_not_spent}
use Rattle.isle_run.proofs.Chains.Acyclic.{reaches_in, acyclic_programs_are_not_spent}
use Rattle.isle_run.proofs.Chains.Compiled.{premises_can_be_met}
use Rattle.isle_run.proofs.Covering.TreeEnds.{IsAskedIn}
use Rattle.isle_run.proofs.Covering.Ends.{IsReached, EndsWithin, machine_ends, plain_ends}

-- how runs of a kind end: a chain of asking ends so, and at a call to which the term may come
record EndsWell (program : Program) (runs : WorldRuns) (links : Answers → Links) : Type 0 where
  meant : (w : Answers) (n t : ℕ) (args : Values) (steps : ℕ) (trace : List Event) (r : Outcome Value) → IsRunnableCall program t args
      → runs w n t args steps trace r → IsMeant (checked program) w n t args trace r
  asked : (w : Answers) (n t : ℕ) (args : Values) (steps : ℕ) (trace : List Event) (e : Ended) → IsRunnableCall program t args
      → runs w n t args steps trace (ended e) → EndsAt (checked program) w (links w) n (asks_value t args) trace e
  within : (w : Answers) (n t : ℕ) (args : Values) (steps : ℕ) (trace : List Event) (e : Ended) → IsRunnableCall program t args
      → runs w n t args steps trace (ended e) → EndsWithin (checked program) (RunsIn program) t e

-- runs by trees do
by_trees : (program : Program) → IsInhabitedProgram program → EndsWell program (runs_by_trees program) (machine_links (checked program))
by_trees program its = record {
  meant = λ w n t args steps trace r call run. machine_run_meant (checked program) w (may_run program) (sound_of program).sound
      (term_trees program) (compiled_grown program its.compiled).trees n t args steps trace r call.runs call.typed run;
  asked = λ w n t args steps trace e call run. machine_run_ends (checked program) w (may_run program) (sound_of program).sound
      (term_trees program) (compiled_grown program its.compiled).trees n t args steps trace e call.runs call.typed run;
  within = λ w n t args steps trace e call run. machine_ends (checked program) w (may_run program) (sound_of program).sound
      (term_trees program) (compiled_grown program its.compiled).trees n t args steps trace e call.runs call.typed run;
}

-- so do those by rules
by_rules : (program : Program) → EndsWell program (runs_by_rules program) (plain_links (checked program))
by_rules program = record {
  meant = λ w n t args steps trace r call run. plain_run_meant (checked program) w (may_run program) (sound_of program).sound
      n t args steps trace r call.runs call.typed run;
  asked = λ w n t args steps trace e call run. runs_end (checked program) w (may_run program) (sound_of program).sound
      (plain_run_meant (checked program) w (may_run program) (sound_of program).sound) n t args steps trace e call.runs call.typed run;
  within = λ w n t args steps trace e call run. plain_ends (checked program) w (may_run program) (sound_of program).sound
      n t args steps trace e call.runs call.typed run;
}

-- a completion that agrees may answer
may_answer : (p : CheckedProgram) (w : Answers) (n t : ℕ) (args : Values) (c : Completion) → Agrees p w (Means p w n) c → CoversAll p c t args
    → MayAnswer p c t args
may_answer p w n t args c agrees covers = record { allowed = agrees.allowed; typed = agrees.typed; covers = covers }

-- a list has its last
has_last : {X : Type 0} (xs : List X) (x : X) → Contains (xs ++ x ∷ []) x
has_last xs x = Contains-append_right xs (x ∷ []) x (0, omega arith, refl)

module _ (program : Program) (its : IsInhabitedProgram program) where
  -- a call can't but have a completion that may answer it
  met : (w : Answers) (n t : ℕ) (args : Values) → RunsIn program t
      → ((c : Completion) → Agrees (checked program) w (Means (checked program) w n) c → CoversAll (checked program) c t args → ⊥) → ⊥
  met w n t args runs k =
      premises_can_be_met its.compiled.files program its.compiled.is its.inhabited w n t args runs (λ (c, agrees, covers). k c agrees covers)

  module _ (runs : WorldRuns) (links : Answers → Links) (E : EndsWell program runs links) where
    -- no run is stuck at a covered term
    covered_not_stuck : (t : ℕ) → IsCovered (checked program) t → (w : Answers) (n u : ℕ) (args : Values) (steps : ℕ) (trace : List Event)
        (vs : Values) → IsRunnableCall program u args → runs w n u args steps trace (ended (stuck t vs)) → ⊥
    covered_not_stuck t covered w n u args steps trace vs call run =
        let end : EndsStuck (checked program) w (links w) n (asks_value u args) trace t vs =
        E.asked w n u args steps trace (stuck t vs) call run in
        let here : IsReached (checked program) (RunsIn program) u t vs = E.within w n u args steps trace (stuck t vs) call run in
        met w end.left t vs here.runs (λ c agrees covers.
        let some = covered c vs (may_answer (checked program) w end.left t vs c agrees covers) here.typed in
        end.none c agrees covers some.place some.rule some.at some.matches)

    -- no run of a call whose terms are never stuck is stuck
    never_stuck : (t : ℕ) → AreNeverStuck program t → (w : Answers) (n : ℕ) (args : Values) (steps : ℕ) (trace : List Event) (u : ℕ)
        (vs : Values) → IsRunnableCall program t args → runs w n t args steps trace (ended (stuck u vs)) → ⊥
    never_stuck t each w n args steps trace u vs call run =
        let end : EndsStuck (checked program) w (links w) n (asks_value t args) trace u vs =
        E.asked w n t args steps trace (stuck u vs) call run in
        let here : IsReached (checked program) (RunsIn program) t u vs = E.within w n t args steps trace (stuck u vs) call run in
        elim (each u (comes here.reached) end.has_rules) [
          | inl partial ↦ (let q : true ≡ false = sym partial ∙ end.infallible in cc)
          | inr covered ↦ covered_not_stuck u covered w n t args steps trace vs call run
        ]
      where
        comes : (u ≡ t) ⊎ Reaches (checked program) t u → MayCome program t u
        comes (inl is) = inl is
        comes (inr more) = inr (reaches_in (types_of program) (terms_of program) t u more)

    -- no answer of the world that is allowed ends a run
    never_ill_typed : (w : Answers) (n t : ℕ) (args : Values) (trace : List Event) (q : Asked) → AnswersAsAllowed (checked program) w trace
        → IsIllTypedAt (checked program) w (links w) n (asks_value t args) trace q → (from : ℕ) × IsAskedIn (checked program) from q → ⊥
    never_ill_typed w n t args trace (asks_value u vs) allowed (inl end) (from, calls) =
        end.wrong (allowed.constructs from u end.trees calls end.outside end.pure end.typed)
    never_ill_typed w n t args trace (asks_value u vs) allowed (inr end) asked =
        end.wrong (allowed.effects (record { term = u; args = end.trees; answer = end.answer })
        (subst (λ (l : List Event). Contains l (record { term = u; args = end.trees; answer = end.answer })) (sym end.last)
        (has_last end.before _)))
    never_ill_typed w n t args trace (asks_outputs u v) allowed end asked = end.wrong (allowed.extracts u end.tree end.typed)

    -- a run that isn't spent is answered
    answered : (t : ℕ) → AreNeverStuck program t → (w : Answers) (n : ℕ) (args : Values) (steps : ℕ) (trace : List Event) (r : Outcome Value)
        → IsRunnableCall program t args → AnswersAsAllowed (checked program) w trace → (runs w n t args steps trace (ended spent) → ⊥)
        → runs w n t args steps trace r → (answer : Option Value) × (r ≡ outcome_of answer)
    answered t each w n args steps trace (given v) call allowed depth run = (Some v, refl)
    answered t each w n args steps trace missing call allowed depth run = (None, refl)
    answered t each w n args steps trace (ended (stuck u vs)) call allowed depth run =
        absurd (never_stuck t each w n args steps trace u vs call run)
    answered t each w n args steps trace (ended spent) call allowed depth run = absurd (depth run)
    answered t each w n args steps trace (ended (ill_typed q)) call allowed depth run =
        absurd (never_ill_typed w n t args trace q allowed (E.asked w n t args steps trace (ill_typed q) call run)
        (E.within w n t args steps trace (ill_typed q) call run))

  -- a call that no rule matches means no value, and nothing of a term that may not fail
  none_meant : (w : Answers) (n t : ℕ) (args : Values) (trace : List Event) (answer : Option Value) → RunsIn program t
      → IsMissed (checked program) t args → Means (checked program) w n t args trace answer
      → ((answer ≡ None) → (checked program).terms.partial t ≡ true → ⊥) → ⊥
  none_meant w zero t args trace answer runs missed means k = means
  none_meant w (suc n) t args trace answer runs missed means k =
      met w n t args runs (λ c agrees covers. told c (may_answer (checked program) w n t args c agrees covers) (means.1 c agrees covers))
    where
      told : (c : Completion) → MayAnswer (checked program) c t args → Told (checked program) (Means (checked program) w n) c t args trace answer → ⊥
      told c may (inl h) =
          missed c may (record { place = h.place; rule = h.chosen; at = h.at; matches = (h.variables, h.matches) })
      told c may (inr h) = k h.failure.none h.partial

  -- its outcome is no answer
  no_answer : (w : Answers) (n t : ℕ) (args : Values) (trace : List Event) (r : Outcome Value) → RunsIn program t
      → IsMissed (checked program) t args → IsMeant (checked program) w n t args trace r → IsNoAnswer ((checked program).terms.partial t) r
  no_answer w n t args trace (given v) runs missed h =
      absurd (none_meant w n t args trace (Some v) runs missed (h.0) (λ q. let o : Some v ≡ None = q in absurd cc))
  no_answer w n t args trace missing runs missed h = record {
    no_value = λ v q. let o : missing ≡ given v = q in cc;
    ends = λ sure. absurd (none_meant w n t args trace None runs missed h (λ q partial. let o : true ≡ false = sym partial ∙ sure in cc));
  }
  no_answer w n t args trace (ended e) runs missed h = record {
    no_value = λ v q. let o : ended e ≡ given v = q in cc;
    ends = λ sure. (e, refl);
  }

pub covered_terms_are_not_stuck_by_trees : CoveredTermsAreNotStuck runs_by_trees
covered_terms_are_not_stuck_by_trees program its t covered w n u args steps trace vs call run =
    covered_not_stuck program its (runs_by_trees program) (machine_links (checked program)) (by_trees program its) t covered w n u args steps
    trace vs call run

pub covered_terms_are_not_stuck_by_rules : CoveredTermsAreNotStuck runs_by_rules
covered_terms_are_not_stuck_by_rules program its t covered w n u args steps trace vs call run =
    covered_not_stuck program its (runs_by_rules program) (plain_links (checked program)) (by_rules program) t covered w n u args steps
    trace vs call run

pub covered_calls_are_never_stuck_by_trees : CoveredCallsAreNeverStuck runs_by_trees
covered_calls_are_never_stuck_by_trees program its t each w n args steps trace u vs call run =
    never_stuck program its (runs_by_trees program) (machine_links (checked program)) (by_trees program its) t each w n args steps trace u vs
    call run

pub covered_calls_are_never_stuck_by_rules : CoveredCallsAreNeverStuck runs_by_rules
covered_calls_are_never_stuck_by_rules program its t each w n args steps trace u vs call run =
    never_stuck program its (runs_by_rules program) (plain_links (checked program)) (by_rules program) t each w n args steps trace u vs call run

pub covered_calls_are_answered_by_trees : CoveredCallsAreAnswered runs_by_trees
covered_calls_are_answered_by_trees program its acyclic roots are t each w n args steps trace r enough call allowed run =
    answered program its (runs_by_trees program) (machine_links (checked program)) (by_trees program its) t each w n args steps trace r call
    allowed (λ deep. acyclic_calls_are_not_spent program its.compiled acyclic roots are w n t args steps trace enough call.runs deep) run

pub covered_calls_are_answered_by_rules : CoveredCallsAreAnswered runs_by_rules
covered_calls_are_answered_by_rules program its acyclic roots are t each w n args steps trace r enough call allowed run =
    answered program its (runs_by_rules program) (plain_links (checked program)) (by_rules program) t each w n args steps trace r call
    allowed (λ deep. acyclic_programs_are_not_spent program acyclic roots are w n t args steps trace enough call.runs.rules deep) run

pub missed_calls_are_not_answered_by_trees : MissedCallsAreNotAnswered runs_by_trees
missed_calls_are_not_answered_by_trees program its t args call missed w n steps trace r run =
    no_answer program its w n t args trace r call.runs missed ((by_trees program its).meant w n t args steps trace r call run)

pub missed_calls_are_not_answered_by_rules : MissedCallsAreNotAnswered runs_by_rules
missed_calls_are_not_answered_by_rules program its t args call missed w n steps trace r run =
    no_answer program its w n t args trace r call.runs missed ((by_rules program).meant w n t args steps trace r call run)
