-- What a plain run comes to is what each completion says that agrees.
use Rattle.std.proofs.Common.{◌≡◌, inl, inr, ℕ, zero, suc, List, [], ◌∷◌, Bool, true, false, Option, Some, None, slice_get, refl, sym, ◌∙◌, subst}
use Rattle.isle_meaning.specs.Got.{Got, unknown, fails, gives}
use Rattle.isle_meaning.specs.Values.{Value, Values, no_values, more_values, more, ask, made_variant, made_struct}
use Rattle.isle_meaning.specs.GroundValues.{AreValuesOf}
use Rattle.isle_meaning.specs.Words.{Word, var_word, bool_word, int_word, prim_word, variant_word, struct_word, call_word, Words}
use Rattle.isle_meaning.specs.Words.{no_words, more_words}
use Rattle.isle_meaning.specs.Answers.{Completion, answered}
use Rattle.isle_meaning.specs.Matching.{word_value, word_values}
use Rattle.isle_meaning.specs.Worlds.{CheckedProgram, Answers, answer_value, answer_values, Event, got}
use Rattle.isle_meaning.specs.Calls.{Says, Agrees}
use Rattle.isle_meaning.specs.Asking.{Asked}
use Rattle.isle_meaning.specs.Outcomes.{Outcome, given, missing, ended, After, outcome_of, Judged, WorldExtracts, ConstructsIf}
use Rattle.isle_meaning.specs.PlainRuns.{WordRuns, WordsRun}
use Rattle.isle_meaning.specs.SoundPrograms.{HasSoundData}
use Rattle.isle_meaning.specs.Inside.TypedWords.{IsTypedWord, AreTypedWords, AreTypedVariables, AreTypedAnswers, GivesTyped}
use Rattle.isle_meaning.proofs.Calls.Giving.{words_give_typed_all}

-- what is known is what an outcome says: its value, or a failure
abbrev pub SaysOutcome : {A : Type 0} → Got A → Outcome A → Type 0
SaysOutcome g (given x) = Says g (gives x)
SaysOutcome g missing = Says g fails
SaysOutcome g (ended e) = Unit {0}

-- what an outcome below means
abbrev pub OutcomeMeans : (ℕ → Values → List Event → Option Value → Type 0) → ℕ → Values → List Event → Outcome Value → Type 0
OutcomeMeans means t vs effects (given v) = means t vs effects (Some v)
OutcomeMeans means t vs effects missing = means t vs effects None
OutcomeMeans means t vs effects (ended e) = Unit {0}

-- outcomes of calls of these terms on arguments of their types are what the calls mean
abbrev pub GivesMeant : CheckedProgram → (ℕ → Type 0) → (ℕ → Values → List Event → Outcome Value → Type 0)
    → (ℕ → Values → List Event → Option Value → Type 0) → Type 0
GivesMeant p R below means = (t : ℕ) (vs : Values) (effects : List Event) (r : Outcome Value) → R t
    → AreValuesOf p.values vs (p.terms.inputs t) → below t vs effects r → OutcomeMeans means t vs effects r

-- what is said of what is known, is
pub said : {A : Type 0} (g h : Got A) (x : A) → g ≡ gives x → Says g h → h ≡ gives x
said g h x e s = sym (s (λ u. cc)) ∙ e

ask_says : {A B : Type 0} (f : A → Got B) (g : Got A) (x : A) (r : Got B) → Says g (gives x) → Says (f x) r → Says (ask f g) r
ask_says f unknown x r s k = λ n. absurd (n refl)
ask_says f fails x r s k = absurd (let q : fails ≡ gives x = s (λ e. cc) in cc)
ask_says f (gives y) x r s k = let q : gives y ≡ gives x = s (λ e. cc) in let o : x ≡ y = cc in subst (λ z. Says (f z) r) o k

ask_says_fails : {A B : Type 0} (f : A → Got B) (g : Got A) → Says g fails → Says (ask f g) fails
ask_says_fails f unknown s = λ n. absurd (n refl)
ask_says_fails f fails s = λ n. refl
ask_says_fails f (gives y) s = absurd (let q : gives y ≡ fails = s (λ e. cc) in cc)

more_says : (g : Got Value) (gs : Got Values) (v : Value) (vs : Values) → Says g (gives v) → Says gs (gives vs)
    → Says (more g gs) (gives (more_values v vs))
more_says unknown gs v vs s k = λ n. absurd (n refl)
more_says fails gs v vs s k = absurd (let q : fails ≡ gives v = s (λ e. cc) in cc)
more_says (gives x) unknown v vs s k = λ n. absurd (n refl)
more_says (gives x) fails v vs s k = absurd (let q : fails ≡ gives vs = k (λ e. cc) in cc)
more_says (gives x) (gives xs) v vs s k =
    let q : gives x ≡ gives v = s (λ e. cc) in let o : gives xs ≡ gives vs = k (λ e. cc) in λ n. cc

first_fails : (g : Got Value) (gs : Got Values) → Says g fails → Says (more g gs) fails
first_fails unknown gs s = λ n. absurd (n refl)
first_fails fails unknown s = λ n. absurd (n refl)
first_fails fails fails s = λ n. refl
first_fails fails (gives xs) s = λ n. refl
first_fails (gives x) gs s = absurd (let q : gives x ≡ fails = s (λ e. cc) in cc)

rest_fails : (g : Got Value) (gs : Got Values) (v : Value) → Says g (gives v) → Says gs fails → Says (more g gs) fails
rest_fails unknown gs v s k = λ n. absurd (n refl)
rest_fails fails gs v s k = absurd (let q : fails ≡ gives v = s (λ e. cc) in cc)
rest_fails (gives x) unknown v s k = λ n. absurd (n refl)
rest_fails (gives x) fails v s k = λ n. refl
rest_fails (gives x) (gives xs) v s k = absurd (let q : gives xs ≡ fails = k (λ e. cc) in cc)

-- what needs a value, and what comes after
pub after_says : {A B : Type 0} (f : A → Got B) (gs : Got A) (g : Outcome A) (next : A → Outcome B → Type 0) (r : Outcome B)
    → SaysOutcome gs g → After g next r → ((x : A) → g ≡ given x → next x r → SaysOutcome (f x) r) → SaysOutcome (ask f gs) r
after_says f gs (given x) next (given y) s h k = ask_says f gs x (gives y) s (k x refl h)
after_says f gs (given x) next missing s h k = ask_says f gs x fails s (k x refl h)
after_says f gs (given x) next (ended e) s h k = tt
after_says f gs missing next r s h k = subst (SaysOutcome (ask f gs)) (sym h) (ask_says_fails f gs s)
after_says f gs (ended e) next r s h k = subst (SaysOutcome (ask f gs)) (sym h) tt

rest_says : (g : Got Value) (gs : Got Values) (v : Value) (h : Outcome Values) (r : Outcome Values) → Says g (gives v) → SaysOutcome gs h
    → After h (λ vs r. r ≡ given (more_values v vs)) r → SaysOutcome (more g gs) r
rest_says g gs v (given vs) r s k e = subst (SaysOutcome (more g gs)) (sym e) (more_says g gs v vs s k)
rest_says g gs v missing r s k e = subst (SaysOutcome (more g gs)) (sym e) (rest_fails g gs v s k)
rest_says g gs v (ended q) r s k e = subst (SaysOutcome (more g gs)) (sym e) tt

-- a value before values
more_outcomes : (Runs : Outcome Values → Type 0) (g : Got Value) (gs : Got Values) (o : Outcome Value) (r : Outcome Values)
    → SaysOutcome g o → ((h : Outcome Values) → Runs h → SaysOutcome gs h)
    → After o (λ v r. (h : Outcome Values) × Runs h × After h (λ vs r. r ≡ given (more_values v vs)) r) r → SaysOutcome (more g gs) r
more_outcomes Runs g gs (given v) r s k (h, run, e) = rest_says g gs v h r s (k h run) e
more_outcomes Runs g gs missing r s k e = subst (SaysOutcome (more g gs)) (sym e) (first_fails g gs s)
more_outcomes Runs g gs (ended q) r s k e = subst (SaysOutcome (more g gs)) (sym e) tt

-- an allowed answer is what is said
outcome_says : {A : Type 0} (g : Got A) (answer : Option A) → Says g (got answer) → SaysOutcome g (outcome_of answer)
outcome_says g None s = s
outcome_says g (Some x) s = s

pub judged_says : {A : Type 0} (g : Got A) (allowed : Type 0) (answer : Option A) (q : Asked) (r : Outcome A)
    → (allowed → Says g (got answer)) → Judged allowed answer q r → SaysOutcome g r
judged_says g allowed answer q r s (inl h) = subst (SaysOutcome g) (sym (h.1)) (outcome_says g answer (s (h.0)))
judged_says g allowed answer q r s (inr h) = subst (SaysOutcome g) (sym (h.1)) tt

is_said : {A : Type 0} (x : A) (r : Outcome A) → r ≡ given x → SaysOutcome (gives x) r
is_said x r e = subst (SaysOutcome (gives x)) (sym e) (λ n. refl)

module _ (p : CheckedProgram) (w : Answers) (means : ℕ → Values → List Event → Option Value → Type 0) (c : Completion)
    (agrees : Agrees p w means c) where
  -- an extractor gives what the completion says
  pub extract_says : (t : ℕ) (v : Value) (r : Outcome Values) → WorldExtracts p w t v r → SaysOutcome (c.extract t v) r
  extract_says t v r run = judged_says (c.extract t v) _ _ _ r
      (λ h. subst (λ (x : Value). Says (c.extract t x) (got (answer_values p (w.extract t (run.arg))))) (run.stands) (agrees.outputs t
      (run.arg) (run.typed) h)) (run.judged)

  module _ (R : ℕ → Type 0) (data_sound : HasSoundData p) (below : ℕ → Values → List Event → Outcome Value → Type 0)
      (gives_typed : GivesTyped p R below) (meant : GivesMeant p R below means) where
    pub inside_says : (t : ℕ) (vs : Values) (r : Outcome Value) → p.has_rules t ≡ true → AreValuesOf p.values vs (p.terms.inputs t)
        → OutcomeMeans means t vs [] r → SaysOutcome (c.construct t vs) r
    inside_says t vs (given v) e h m = agrees.inside t vs (Some v) e h m
    inside_says t vs missing e h m = agrees.inside t vs None e h m
    inside_says t vs (ended q) e h m = tt

    pub construct_says : (b : Bool) (t : ℕ) (vs : Values) (r : Outcome Value) → p.has_rules t ≡ b → (p.has_rules t ≡ true → R t)
        → AreValuesOf p.values vs (p.terms.inputs t) → ConstructsIf p w below b t vs r → SaysOutcome (c.construct t vs) r
    construct_says true t vs r e ruled h run = inside_says t vs r e h (meant t vs [] r (ruled e) h run)
    construct_says false t vs r e ruled h run = judged_says (c.construct t vs) _ _ _ r
        (λ o. subst (λ (xs : Values). Says (c.construct t xs) (got (answer_value p (w.construct t (run.args))))) (run.stand)
        (agrees.outside t (run.args) e (run.typed) o)) (run.judged)

    module _ (S : ℕ → Type 0) (G D : ℕ → ℕ) (a : ℕ → Value) (done : List (Option Value)) (variables : AreTypedVariables p S G a)
        (answers : AreTypedAnswers p D done) where
      mutual
        -- a word comes to what the completion says
        pub word_says : (x : Word) (u : ℕ) (r : Outcome Value) → IsTypedWord p R S G D x u → WordRuns p w below a done x r
            → SaysOutcome (word_value c a done x) r
        word_says (var_word k) u r t e = is_said _ r e
        word_says (bool_word ty b) u r t e = is_said _ r e
        word_says (int_word ty n) u r t e = is_said _ r e
        word_says (prim_word n) u r t e = is_said _ r e
        word_says (variant_word ty k ws) u r t run =
            after_says (λ vs. gives (made_variant ty k vs)) (word_values c a done ws) (run.0) _ r
            (words_say ws (p.terms.variant_fields ty k) (run.0) (t.2) (run.1)) (run.2) (λ vs q e. is_said _ r e)
        word_says (struct_word ty ws) u r t run =
            after_says (λ vs. gives (made_struct ty vs)) (word_values c a done ws) (run.0) _ r
            (words_say ws (p.terms.struct_fields ty) (run.0) (t.2) (run.1)) (run.2) (λ vs q e. is_said _ r e)
        word_says (call_word t ws zero) u r typed run =
            after_says (c.construct t) (word_values c a done ws) (run.0) _ r (words_say ws (p.terms.inputs t) (run.0) (typed.3) (run.1))
            (run.2) (λ vs q called. construct_says (p.has_rules t) t vs r refl (typed.1)
            (words_give_typed_all p w R data_sound below gives_typed S G D a done variables answers ws (p.terms.inputs t) vs (typed.3)
            (subst (WordsRun p w below a done ws) q (run.1))) called)
        word_says (call_word t ws (suc i)) u r typed run =
            after_says (λ vs. answered (slice_get done i)) (word_values c a done ws) (run.0)
            (λ (vs : Values) (r : Outcome Value). (x : Value) × (slice_get done i ≡ Some (Some x)) × (r ≡ given x)) r
            (words_say ws (p.terms.inputs t) (run.0) (typed.4) (run.1)) (run.2)
            (λ vs q found. let (x, o, e) = found in
            subst (λ (z : Option (Option Value)). SaysOutcome (answered z) r) (sym o) (is_said x r e))

        -- words come to what the completion says
        pub words_say : (xs : Words) (us : List ℕ) (r : Outcome Values) → AreTypedWords p R S G D xs us → WordsRun p w below a done xs r
            → SaysOutcome (word_values c a done xs) r
        words_say no_words us r t e = is_said no_values r e
        words_say (more_words x xs) [] r t run = absurd t
        words_say (more_words x xs) (u ∷ us) r t run =
            more_outcomes (WordsRun p w below a done xs) (word_value c a done x) (word_values c a done xs) (run.0) r
            (word_says x u (run.0) (t.0) (run.1)) (λ h k. words_say xs us h (t.1) k) (run.2)
