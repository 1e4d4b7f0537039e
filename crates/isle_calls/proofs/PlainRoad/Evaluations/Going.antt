-- How an evaluation goes on once the call that it waits for is answered.
use Rattle.std.proofs.Common.{◌≡◌, inl, inr, ◌<◌, ℕ, zero, suc, true, false, List, [], ◌∷◌, ◌++◌, length, Option, Some}
use Rattle.std.proofs.Common.{slice_get, refl, sym, ◌∙◌, ap, subst}
use Rattle.std.specs.Prelude.{All}
use Rattle.std.proofs.lemmas.Option.{slice_get_cases}
use Rattle.std.proofs.lemmas.List.Elements.{All-nil, All-cons, All-pop}
use Rattle.isle_containers.proofs.Lists.{slice_get-kept, slice_get-last}
use Rattle.isle_types.specs.declared.ids.TermId.{TermId}
use Rattle.isle_meaning.specs.Values.{Value, Values, more_values}
use Rattle.isle_meaning.specs.Words.{Word, var_word, bool_word, int_word, prim_word, variant_word, struct_word, call_word, Words}
use Rattle.isle_meaning.specs.Words.{no_words, more_words}
use Rattle.isle_meaning.specs.Worlds.{CheckedProgram, Answers, Event}
use Rattle.isle_calls.specs.declared.plain.evaluation.Evaluation.{Evaluation}
use Rattle.isle_calls.specs.declared.store.Stored.{Stored}
use Rattle.isle_program.specs.declared.laid.Part.{Part}
use Rattle.isle_program.specs.Meanings.{checked}
use Rattle.isle_program.specs.Programs.{types_of}
use Rattle.isle_program.specs.Plain.LaidOut.Words.{IsLaid}
use Rattle.isle_meaning.specs.Outcomes.{Outcome, given, missing, ended, After, ConstructsIf}
use Rattle.isle_meaning.specs.PlainRuns.{WordRuns, WordsRun}
use Rattle.isle_calls.specs.Stores.Values.{Stands, Extends}
use Rattle.isle_calls.specs.Inside.Plain.Underway.{Surroundings, Stops, runs_below, ComesTo, IsPart, IsRight}
use Rattle.isle_calls.specs.Inside.Plain.Underway.{LeadsToWhole, IsUnderway, IsCallOn, WaitsFor, IsAnswered, IsTop}
use Rattle.isle_calls.proofs.Stores.Values.{stand_longer}
use Rattle.isle_calls.proofs.PlainRoad.Evaluations.Turns.{known_same, answered_underway, known_now}

-- what comes after may be replaced by what follows from it
after_mapped : {A B : Type 0} (g : Outcome A) (next other : A → Outcome B → Type 0) (r : Outcome B)
    → ((x : A) → next x r → other x r) → After g next r → After g other r
after_mapped (given x) next other r f h = f x h
after_mapped missing next other r f h = h
after_mapped (ended e) next other r f h = h

module _ (p : CheckedProgram) (w : Answers) (below : ℕ → Values → List Event → Outcome Value → Type 0) (a : ℕ → Value)
    (done later : List (Option Value)) where
  mutual
    -- with more answers behind, a word comes to what it came to
    pub runs_longer : (x : Word) (r : Outcome Value) → WordRuns p w below a done x r → WordRuns p w below a (done ++ later) x r
    runs_longer (var_word k) r run = run
    runs_longer (bool_word ty b) r run = run
    runs_longer (int_word ty n) r run = run
    runs_longer (prim_word n) r run = run
    runs_longer (variant_word ty k ws) r (g, run, after) = (g, all_run_longer ws g run, after)
    runs_longer (struct_word ty ws) r (g, run, after) = (g, all_run_longer ws g run, after)
    runs_longer (call_word t ws zero) r (g, run, after) = (g, all_run_longer ws g run, after)
    runs_longer (call_word t ws (suc i)) r (g, run, after) = (
      g,
      all_run_longer ws g run,
      after_mapped g (λ vs q. (v : Value) × (slice_get done i ≡ Some (Some v)) × (q ≡ given v))
          (λ vs q. (v : Value) × (slice_get (done ++ later) i ≡ Some (Some v)) × (q ≡ given v)) r
          (λ vs h. (h.0, slice_get-kept done later i (Some (h.0)) (h.1), h.2)) after,
    )

    -- so do words
    pub all_run_longer : (xs : Words) (r : Outcome Values) → WordsRun p w below a done xs r → WordsRun p w below a (done ++ later) xs r
    all_run_longer no_words r run = run
    all_run_longer (more_words x xs) r (g, run, after) = (
      g,
      runs_longer x g run,
      after_mapped g
          (λ v q. (h : Outcome Values) × WordsRun p w below a done xs h × After h (λ vs z. z ≡ given (more_values v vs)) q)
          (λ v q. (h : Outcome Values) × WordsRun p w below a (done ++ later) xs h × After h (λ vs z. z ≡ given (more_values v vs)) q) r
          (λ v its. (its.0, all_run_longer xs (its.0) (its.1), its.2)) after,
    )

-- the surroundings once one more impure call is answered
abbrev pub answered_with : Surroundings → Value → Surroundings
answered_with s v = record {
  program = s.program;
  answers = s.answers;
  depth = s.depth;
  variables = s.variables;
  done = s.done ++ Some v ∷ [];
  types = s.types;
  answer_types = s.answer_types;
  parts = s.parts;
}

-- a list has a place for what it has there
within_part : (parts : List Part) (n : ℕ) (part : Part) → slice_get parts n ≡ Some part → n < length parts
within_part parts n part is = elim ((slice_get_cases parts n).1) [
  | inl (other, within, at, get) ↦ within
  | inr (past, none) ↦ absurd cc
]

-- what is laid at a number is a part
pub laid_within : (names : List (List ℕ)) (parts : List Part) (x : Word) (n : ℕ) → IsLaid names parts x n → n < length parts
laid_within names parts (var_word k) n (var, is, of) = within_part parts n _ is
laid_within names parts (bool_word ty b) n is = within_part parts n _ is
laid_within names parts (int_word ty i) n is = within_part parts n _ is
laid_within names parts (prim_word name) n (symbol, is, of) = within_part parts n _ is
laid_within names parts (variant_word ty k ws) n (of, variant, ns, is, p, q, laid) = within_part parts n _ is
laid_within names parts (struct_word ty ws) n (of, ns, is, p, laid) = within_part parts n _ is
laid_within names parts (call_word t ws zero) n (term, ns, is, p, laid) = within_part parts n _ is
laid_within names parts (call_word t ws (suc i)) n (term, ns, is, p, laid) = within_part parts n _ is

module _ (s : Surroundings) (stored : List Stored) where
  -- nothing is to be evaluated
  pub resting : (whole : Word) (e : Evaluation) → IsRight s stored e → length e.known.items ≡ length s.parts → e.missed ≡ false
      → e.todo.items ≡ [] → IsUnderway s stored whole e
  resting whole e right sized unmissed empty = record {
    right = right;
    leads = subst (All (LeadsToWhole s whole)) (sym empty) (All-nil (LeadsToWhole s whole));
    sized = sized;
    missed = λ h. absurd cc;
  }

  -- the part that is the whole is asked for
  pub asked : (whole : Word) (u part : ℕ) (old new : Evaluation) → IsPart s whole u part → IsRight s stored old
      → length old.known.items ≡ length s.parts → old.missed ≡ false → old.todo.items ≡ [] → new.todo.items ≡ old.todo.items ++ part ∷ []
      → new.known ≡ old.known → new.missed ≡ old.missed → IsUnderway s stored whole new
  asked whole u part old new its right sized unmissed empty joined known missed = record {
    right = λ k n is. right k n (sym (known_same old new known k) ∙ is);
    leads = subst (All (LeadsToWhole s whole)) (sym (joined ∙ ap (λ (l : List ℕ). l ++ part ∷ []) empty))
        (All-cons (LeadsToWhole s whole) part [] (whole, u, its, λ r stops h. h) (All-nil (LeadsToWhole s whole)));
    sized = ap (λ v. length v.items) known ∙ sized;
    missed = λ h. absurd cc;
  }

module _ {s : Surroundings} {stored : List Stored} {e : Evaluation} {term : TermId} {numbers : List ℕ} {args : Values}
    (waits : WaitsFor s stored e term numbers args) where
  -- the call that it waits for is on top
  pub waits_top : IsTop e waits.part
  waits_top = record { before = waits.before; joined = waits.top }

  -- and is a part
  pub waits_within : waits.part < length s.parts
  waits_within = laid_within (types_of s.program).names s.parts (call_word term.0 waits.words waits.place) waits.part (waits.call.0)

  -- so it has a number, or none
  pub waits_known : {whole : Word} → IsUnderway s stored whole e → waits.part < length e.known.items
  waits_known h = subst (λ l. waits.part < l) (sym h.sized) waits_within

  -- a pure call of a term with rules comes to what its run comes to
  pure_comes : (x : Word) (r : Outcome Value) → (checked s.program).has_rules term.0 ≡ true → IsCallOn s x term zero args
      → runs_below (checked s.program) s.answers s.depth term.0 args [] r → ComesTo s x r
  pure_comes x r ruled (xs, same, ran) run = subst (λ y. ComesTo s y r) (sym same) (
    given args,
    ran,
    subst (λ b. ConstructsIf (checked s.program) s.answers (runs_below (checked s.program) s.answers s.depth) b term.0 args r)
        (sym ruled) run,
  )

  -- a pure call of a term with rules is answered a value
  pub answered_pure : (whole : Word) (v : Value) (n : ℕ) (new : Evaluation) → IsUnderway s stored whole e → waits.place ≡ zero
      → runs_below (checked s.program) s.answers s.depth term.0 args [] (given v)
      → Stands stored v n → IsAnswered e n new → IsUnderway s stored whole new
  answered_pure whole v n new h pure run stands answered =
      answered_underway e new n waits.part waits_top answered (waits_known h) s stored whole
      (λ x u part. (
        v,
        stands,
        pure_comes x (given v) (waits.ruled pure) (subst (λ j. IsCallOn s x term j args) pure (waits.same x u part)) run,
      )) h

  -- a pure call of a term with rules comes to no value: the whole doesn't either
  pub stopped_pure : (whole : Word) (r : Outcome Value) → IsUnderway s stored whole e → waits.place ≡ zero → Stops r
      → runs_below (checked s.program) s.answers s.depth term.0 args [] r → ComesTo s whole r
  stopped_pure whole r h pure stops run =
      let last = (All-pop (LeadsToWhole s whole) e.todo.items waits.before (Some waits.part) waits.top h.leads).1 in
      let (x, u, part, leads) = last in
      leads r stops (pure_comes x r (waits.ruled pure) (subst (λ j. IsCallOn s x term j args) pure (waits.same x u part)) run)

  -- the impure call that is asked for is answered a value: what is known is right once that is one of the answers
  pub answered_impure : (v : Value) (n : ℕ) (new : Evaluation) → IsRight s stored e → length e.known.items ≡ length s.parts
      → waits.place ≡ suc (length s.done) → Stands stored v n → IsAnswered e n new → IsRight (answered_with s v) stored new
  answered_impure v n new right sized impure stands answered k m is x u part =
      elim (known_now e new n waits.part waits_top answered (subst (λ l. waits.part < l) (sym sized) waits_within) k m is) [
        | inl (at, number) ↦ (
            let (xs, same, ran) = waits.same x u (subst (IsPart s x u) at part) in
            let word : x ≡ call_word term.0 xs (suc (length s.done)) = same ∙ ap (call_word term.0 xs) impure in (
              v,
              subst (Stands stored v) (sym number) stands,
              subst (λ y. ComesTo (answered_with s v) y (given v)) (sym word) (
                given args,
                all_run_longer (checked s.program) s.answers (runs_below (checked s.program) s.answers s.depth) s.variables s.done
                    (Some v ∷ []) xs (given args) ran,
                (v, slice_get-last s.done (Some v), refl),
              ),
            ))
        | inr before ↦ (
            let (y, its, run) = right k m before x u part in (
              y,
              its,
              runs_longer (checked s.program) s.answers (runs_below (checked s.program) s.answers s.depth) s.variables s.done
                  (Some v ∷ []) x (given y) run,
            ))
      ]

-- it waits for the same in a larger store
pub waits_longer : {s : Surroundings} {old new : List Stored} {e : Evaluation} {term : TermId} {numbers : List ℕ} {args : Values}
    → Extends old new → WaitsFor s old e term numbers args → WaitsFor s new e term numbers args
waits_longer {numbers = numbers} {args = args} extends h = record {
  before = h.before;
  part = h.part;
  top = h.top;
  unknown = h.unknown;
  words = h.words;
  place = h.place;
  type = h.type;
  call = h.call;
  ran = h.ran;
  stand = stand_longer extends args numbers h.stand;
  typed = h.typed;
  ruled = h.ruled;
  same = h.same;
}
