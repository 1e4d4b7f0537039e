-- Where a word's run ends, the end is that of a call that the word makes.
use Rattle.std.proofs.Common.{◌≡◌, ◌⊎◌, inl, inr, ℕ, zero, suc, List, [], ◌∷◌, Bool, true, false, Option, Some, None, slice_get}
use Rattle.std.proofs.Common.{refl, sym, ◌∙◌, ap, subst}
use Rattle.isle_meaning.specs.Facts.{TermFacts}
use Rattle.isle_meaning.specs.Got.{Got, unknown, gives}
use Rattle.isle_meaning.specs.Values.{Value, Values, more_values}
use Rattle.isle_meaning.specs.GroundValues.{AreValuesOf}
use Rattle.isle_meaning.specs.Words.{Word, var_word, bool_word, int_word, prim_word, variant_word, struct_word, call_word, Words}
use Rattle.isle_meaning.specs.Words.{no_words, more_words}
use Rattle.isle_meaning.specs.Answers.{Completion}
use Rattle.isle_meaning.specs.Matching.{word_values}
use Rattle.isle_meaning.specs.Sites.{Site, constructor_call, answer_site, site_of, sites_of}
use Rattle.isle_meaning.specs.Subtrees.{IsSubtree, IsSubtreeOfOne}
use Rattle.isle_meaning.specs.Held.{value, values, IsAnswered, AreAnswered}
use Rattle.isle_meaning.specs.Worlds.{CheckedProgram, Answers, Event}
use Rattle.isle_meaning.specs.Calls.{Says, Agrees, Means}
use Rattle.isle_meaning.specs.Asking.{Asked, asks_value, IsCallOn, MayBeCallOn, IsCallOfWord, IsCallOfWords, plain_links, no_link, Ended, ill_typed, EndsAt}
use Rattle.isle_meaning.proofs.Matching.Children.{Agree}
use Rattle.isle_meaning.proofs.Matching.Known.{known_all}
use Rattle.isle_meaning.proofs.Matching.Written.{words_sites}
use Rattle.isle_meaning.specs.Outcomes.{Outcome, given, missing, ended, After, Judged, ConstructsIf}
use Rattle.isle_meaning.specs.PlainRuns.{WordRuns, WordsRun}
use Rattle.isle_meaning.specs.SoundPrograms.{HasSoundData}
use Rattle.isle_meaning.specs.Inside.TypedWords.{IsTypedWord, AreTypedWords, AreTypedVariables, AreTypedAnswers, GivesTyped}
use Rattle.isle_meaning.proofs.Calls.Giving.{words_give_typed_all}
use Rattle.isle_meaning.proofs.Calls.Saying.{GivesMeant, words_say}
use Rattle.isle_meaning.proofs.Chains.One.{typed_read_all}
use Rattle.isle_meaning.proofs.Chains.PureCalls.{CallsPure, CallPure}
use Rattle.isle_meaning.proofs.Chains.Subtrees.{in_answer}

-- where what comes after ends, there was an end, or what comes after ends
pub after_ended : {A B : Type 0} (g : Outcome A) (next : A → Outcome B → Type 0) (e : Ended) → After g next (ended e)
    → (g ≡ ended e) ⊎ ((x : A) × (g ≡ given x) × next x (ended e))
after_ended (given x) next e h = inr (x, refl, h)
after_ended missing next e h = absurd cc
after_ended (ended d) next e h = let q : e ≡ d = cc in inl (ap (λ (z : Ended). ended z) (sym q))

-- an answer that ends a call isn't allowed
pub judged_ended : {A : Type 0} (allowed : Type 0) (answer : Option A) (q : Asked) (e : Ended) → Judged allowed answer q (ended e)
    → (allowed → ⊥) × (e ≡ ill_typed q)
judged_ended allowed None q e (inl h) = absurd (let o : ended e ≡ missing = h.1 in cc)
judged_ended allowed (Some x) q e (inl h) = absurd (let o : ended e ≡ given x = h.1 in cc)
judged_ended allowed answer q e (inr h) = let o : ended e ≡ ended (ill_typed q) = h.1 in (h.0, cc)

-- where a plain run ends, a chain of asking ends so
abbrev pub Ends : CheckedProgram → Answers → ℕ → Asked → List Event → Ended → Type 0
Ends p w n from trace e = EndsAt p w (plain_links p w) n from trace e

-- where calls of these terms on arguments of their types end unanswered, chains of asking end so
abbrev pub EndsBelow : CheckedProgram → Answers → ℕ → (ℕ → Type 0) → (ℕ → Values → List Event → Outcome Value → Type 0) → Type 0
EndsBelow p w n R below = (t : ℕ) (vs : Values) (effects : List Event) (e : Ended) → R t → AreValuesOf p.values vs (p.terms.inputs t)
    → below t vs effects (ended e) → Ends p w n (asks_value t vs) effects e

-- what is said of what is known
pub is_given : {A : Type 0} (g : Got A) (x : A) → Says g (gives x) → (g ≡ unknown → ⊥) → g ≡ gives x
is_given g x s n = s n

-- where an answer's site is answered, the call's is
pub answer_answered : (facts : TermFacts) (c : Completion) (args : Values) (done : List (Option Value)) (multi partial : Bool) (s : Site)
    → IsAnswered facts c args done (answer_site multi partial s) → IsAnswered facts c args done s
answer_answered facts c args done true partial s h = h
answer_answered facts c args done false true s h = h
answer_answered facts c args done false false s h = h

module _ (p : CheckedProgram) (w : Answers) (n : ℕ) (R : ℕ → Type 0) (data_sound : HasSoundData p)
    (below : ℕ → Values → List Event → Outcome Value → Type 0) (gives_typed : GivesTyped p R below)
    (meant : GivesMeant p R below (Means p w n)) (ends : EndsBelow p w n R below) where
  -- where a pure call ends unanswered, a chain of asking from it does
  pub construct_ends : (b : Bool) (t : ℕ) (vs : Values) (e : Ended) → p.has_rules t ≡ b → (p.has_rules t ≡ true → R t)
      → p.terms.pure t ≡ true → AreValuesOf p.values vs (p.terms.inputs t) → ConstructsIf p w below b t vs (ended e)
      → Ends p w n (asks_value t vs) [] e
  construct_ends true t vs e q ruled pure typed run = ends t vs [] e (ruled q) typed run
  construct_ends false t vs e q ruled pure typed run =
      let j = judged_ended _ _ _ e (run.judged) in
      subst (λ (z : Ended). Ends p w n (asks_value t vs) [] z) (sym (j.1)) (inl (record {
        left = n;
        chain = no_link;
        outside = q;
        pure = pure;
        trees = run.args;
        typed = run.typed;
        stand = run.stand;
        wrong = j.0;
      }))

  module _ (S : ℕ → Type 0) (G D : ℕ → ℕ) (a : ℕ → Value) (done : List (Option Value)) (variables : AreTypedVariables p S G a)
      (answers : AreTypedAnswers p D done) where
    -- the call at which a word ends, by the sites of its variables
    pub record WordEnds (x : Word) (e : Ended) : Type 0 where
      pub asked : Asked
      pub ends_so : Ends p w n asked [] e
      pub call : (ℕ → Site) → Site
      pub within : (vars : ℕ → Site) → IsSubtree (call vars) (site_of p.terms vars x)
      pub written : (vars : ℕ → Site) → IsCallOfWord p.terms vars x (call vars)
      pub may : (c : Completion) → Agrees p w (Means p w n) c → (args : Values) (vars : ℕ → Site)
          → Agree (value p.terms c args done) a S vars → MayBeCallOn p.terms c args done 0 (call vars) asked
      pub on : (c : Completion) → Agrees p w (Means p w n) c → done ≡ [] → (args : Values) (vars : ℕ → Site)
          → Agree (value p.terms c args []) a S vars → IsAnswered p.terms c args [] (site_of p.terms vars x)
          → IsCallOn p.terms c args (call vars) asked

    -- the call at which words end
    pub record WordsEnd (xs : Words) (e : Ended) : Type 0 where
      pub asked : Asked
      pub ends_so : Ends p w n asked [] e
      pub call : (ℕ → Site) → Site
      pub within : (vars : ℕ → Site) → IsSubtreeOfOne (call vars) (sites_of p.terms vars xs)
      pub written : (vars : ℕ → Site) → IsCallOfWords p.terms vars xs (call vars)
      pub may : (c : Completion) → Agrees p w (Means p w n) c → (args : Values) (vars : ℕ → Site)
          → Agree (value p.terms c args done) a S vars → MayBeCallOn p.terms c args done 0 (call vars) asked
      pub on : (c : Completion) → Agrees p w (Means p w n) c → done ≡ [] → (args : Values) (vars : ℕ → Site)
          → Agree (value p.terms c args []) a S vars → AreAnswered p.terms c args [] (sites_of p.terms vars xs)
          → IsCallOn p.terms c args (call vars) asked

    -- what is said of the arguments' sites
    pub sites_say : (c : Completion) → Agrees p w (Means p w n) c → (args : Values) (vars : ℕ → Site)
        → Agree (value p.terms c args done) a S vars → (ws : Words) (us : List ℕ) (vs : Values) → AreTypedWords p R S G D ws us
        → WordsRun p w below a done ws (given vs) → Says (values p.terms c args done (sites_of p.terms vars ws)) (gives vs)
    sites_say c ag args vars agree ws us vs t run =
        let same : values p.terms c args done (sites_of p.terms vars ws) ≡ word_values c a done ws =
        words_sites p.terms c args done a vars S agree ws (typed_read_all p R S G D ws us t) in
        let says : Says (word_values c a done ws) (gives vs) =
        words_say p w (Means p w n) c ag R data_sound below gives_typed meant S G D a done variables answers ws us (given vs) t run in
        λ k. same ∙ says (λ e. k (same ∙ e))

    -- the values of the arguments' sites
    sites_give : (c : Completion) → Agrees p w (Means p w n) c → done ≡ [] → (args : Values) (vars : ℕ → Site)
        → Agree (value p.terms c args []) a S vars → (ws : Words) (us : List ℕ) (vs : Values) → AreTypedWords p R S G D ws us
        → WordsRun p w below a done ws (given vs) → AreAnswered p.terms c args [] (sites_of p.terms vars ws)
        → values p.terms c args [] (sites_of p.terms vars ws) ≡ gives vs
    sites_give c ag d args vars agree ws us vs t run answered =
        let same : values p.terms c args [] (sites_of p.terms vars ws) ≡ word_values c a [] ws =
        words_sites p.terms c args [] a vars S agree ws (typed_read_all p R S G D ws us t) in
        let says : Says (word_values c a done ws) (gives vs) =
        words_say p w (Means p w n) c ag R data_sound below gives_typed meant S G D a done variables answers ws us (given vs) t run in
        let its : Says (word_values c a [] ws) (gives vs) =
        subst (λ (l : List (Option Value)). Says (word_values c a l ws) (gives vs)) d says in
        same ∙ its (λ u. known_all p.terms c args [] (sites_of p.terms vars ws) answered (same ∙ u))

    mutual
      -- Where a word's run ends, the end is that of a call that the word makes.
      pub word_ends : (x : Word) (u : ℕ) (e : Ended) → IsTypedWord p R S G D x u → CallsPure p.terms x
          → WordRuns p w below a done x (ended e) → WordEnds x e
      word_ends (var_word k) u e t m run = absurd cc
      word_ends (bool_word ty b) u e t m run = absurd cc
      word_ends (int_word ty k) u e t m run = absurd cc
      word_ends (prim_word name) u e t m run = absurd cc
      word_ends (variant_word ty k ws) u e t m run = elim (after_ended _ _ e (run.2)) [
        | inr h ↦ absurd (let q = h.2 in cc)
        | inl q ↦ (let r = words_end ws (p.terms.variant_fields ty k) e (t.2) m (subst (WordsRun p w below a done ws) q (run.1)) in
            record {
              asked = r.asked;
              ends_so = r.ends_so;
              call = r.call;
              within = λ vars. inr (r.within vars);
              written =
                  r.written;
              may = r.may;
              on = r.on;
            })
      ]
      word_ends (struct_word ty ws) u e t m run = elim (after_ended _ _ e (run.2)) [
        | inr h ↦ absurd (let q = h.2 in cc)
        | inl q ↦ (let r = words_end ws (p.terms.struct_fields ty) e (t.2) m (subst (WordsRun p w below a done ws) q (run.1)) in
            record {
              asked = r.asked;
              ends_so = r.ends_so;
              call = r.call;
              within = λ vars. inr (r.within vars);
              written =
                  r.written;
              may = r.may;
              on = r.on;
            })
      ]
      word_ends (call_word t ws zero) u e typed m run = elim (after_ended _ _ e (run.2)) [
        | inl q ↦ (let r = words_end ws (p.terms.inputs t) e (typed.3) (m.1) (subst (WordsRun p w below a done ws) q (run.1)) in
            record {
              asked = r.asked;
              ends_so = r.ends_so;
              call = r.call;
              within = λ vars. in_answer (p.terms.multi t) (p.terms.partial t) (r.call vars)
                  (constructor_call t (sites_of p.terms vars ws) zero) (inr (r.within vars));
              written = λ vars. inr (r.written vars);
              may = r.may;
              on = λ c ag d args vars agree answered. r.on c ag d args vars agree
                  ((answer_answered p.terms c args [] (p.terms.multi t) (p.terms.partial t) _ answered).0);
            })
        | inr h ↦ (let runs : WordsRun p w below a done ws (given (h.0)) = subst (WordsRun p w below a done ws) (h.1) (run.1) in
            let args = words_give_typed_all p w R data_sound below gives_typed S G D a done variables answers ws (p.terms.inputs t) (h.0)
            (typed.3) runs in
            record {
              asked = asks_value t (h.0);
              ends_so = construct_ends (p.has_rules t) t (h.0) e refl (typed.1) (m.0) args (h.2);
              call = λ vars. constructor_call t (sites_of p.terms vars ws) zero;
              within = λ vars. in_answer (p.terms.multi t) (p.terms.partial t) (constructor_call t (sites_of p.terms vars ws) zero)
                  (constructor_call t (sites_of p.terms vars ws) zero) (inl refl);
              written = λ vars. inl refl;
              may = λ c ag args vars agree. (inl refl, refl, sites_say c ag args vars agree ws (p.terms.inputs t) (h.0) (typed.3) runs);
              on = λ c ag d args vars agree answered. (
                refl,
                sites_give c ag d args vars agree ws (p.terms.inputs t) (h.0) (typed.3) runs
                    ((answer_answered p.terms c args [] (p.terms.multi t) (p.terms.partial t) _ answered).0),
              );
            })
      ]
      word_ends (call_word t ws (suc i)) u e typed m run =
          elim (after_ended (run.0) (λ (vs : Values) (r : Outcome Value). (x : Value) × (slice_get done i ≡ Some (Some x))
          × (r ≡ given x)) e (run.2)) [
            | inr h ↦ absurd (let q = h.2.2 in cc)
            | inl q ↦ (let r = words_end ws (p.terms.inputs t) e (typed.4) m (subst (WordsRun p w below a done ws) q (run.1)) in
                record {
                  asked = r.asked;
                  ends_so = r.ends_so;
                  call = r.call;
                  within = λ vars. in_answer (p.terms.multi t) (p.terms.partial t) (r.call vars)
                      (constructor_call t (sites_of p.terms vars ws) (suc i)) (inr (r.within vars));
                  written = r.written;
                  may = r.may;
                  on = λ c ag d args vars agree answered. r.on c ag d args vars agree
                      ((answer_answered p.terms c args [] (p.terms.multi t) (p.terms.partial t) _ answered).0);
                })
          ]

      -- So is it of words.
      pub words_end : (xs : Words) (us : List ℕ) (e : Ended) → AreTypedWords p R S G D xs us → CallPure p.terms xs
          → WordsRun p w below a done xs (ended e) → WordsEnd xs e
      words_end no_words us e t m run = absurd cc
      words_end (more_words x xs) [] e t m run = absurd t
      words_end (more_words x xs) (u ∷ us) e t m run = elim (after_ended (run.0) (λ (v : Value) (r : Outcome Values). (h : Outcome Values)
          × WordsRun p w below a done xs h × After h (λ vs r. r ≡ given (more_values v vs)) r) e (run.2)) [
            | inl q ↦ (let r = word_ends x u e (t.0) (m.0) (subst (WordRuns p w below a done x) q (run.1)) in
                record {
                  asked = r.asked;
                  ends_so = r.ends_so;
                  call = r.call;
                  within = λ vars. inl (r.within vars);
                  written = λ vars. inl (r.written vars);
                  may = r.may;
                  on = λ c ag d args vars agree answered. r.on c ag d args vars agree (answered.0);
                })
            | inr h ↦ elim (after_ended (h.2.0) _ e (h.2.2)) [
              | inr k ↦ absurd (let q = k.2 in cc)
              | inl q ↦ (let r = words_end xs us e (t.1) (m.1) (subst (WordsRun p w below a done xs) q (h.2.1)) in
                  record {
                    asked = r.asked;
                    ends_so = r.ends_so;
                    call = r.call;
                    within = λ vars. inr (r.within vars);
                    written = λ vars. inr (r.written vars);
                    may = r.may;
                    on = λ c ag d args vars agree answered. r.on c ag d args vars agree (answered.1);
                  })
            ]
          ]
