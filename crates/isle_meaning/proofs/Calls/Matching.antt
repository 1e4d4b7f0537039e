-- A rule that is left matches under no completion that agrees; one that is passed matches under each that answers what it asks.
use Rattle.std.proofs.Common.{◌≡◌, ℕ, List, [], ◌∷◌, Option, refl, sym, ◌∙◌, ap, subst}
use Rattle.isle_rules.specs.TypedRules.{TypedIfLet, TypedRule}
use Rattle.isle_meaning.specs.Facts.{TermFacts}
use Rattle.isle_meaning.specs.Got.{Got, fails, gives}
use Rattle.isle_meaning.specs.Values.{Value, Values, more, made, built, ask}
use Rattle.isle_meaning.specs.Words.{Word, var_word, bool_word, int_word, prim_word, variant_word, struct_word, call_word, Words}
use Rattle.isle_meaning.specs.Words.{no_words, more_words, word_of}
use Rattle.isle_meaning.specs.Answers.{Completion, answer_of}
use Rattle.isle_meaning.specs.Matching.{word_value, word_values, IfLetsHold, MatchesWith, Matches}
use Rattle.isle_meaning.specs.Sites.{Site, argument}
use Rattle.isle_meaning.specs.Held.{held_value, held, value, IsAnswered}
use Rattle.isle_meaning.specs.Demands.{bound, iflet_site, nothing, args_bound}
use Rattle.isle_meaning.specs.Typing.{IfLetsTyped}
use Rattle.isle_meaning.specs.Scopes.{Reads, ReadAll, scope, scope_all, iflets_scope, IfLetsAreWellScoped, none, scope_of, OfIfLets, Covers}
use Rattle.isle_meaning.specs.GroundValues.{AreValuesOf}
use Rattle.isle_meaning.specs.Worlds.{CheckedProgram, Answers, Event}
use Rattle.isle_meaning.specs.Calls.{Says, Agrees}
use Rattle.isle_meaning.proofs.Matching.Scoping.{word_reads}
use Rattle.isle_meaning.proofs.Matching.Written.{word_site}
use Rattle.isle_meaning.proofs.Matching.Known.{known}
use Rattle.isle_meaning.proofs.Matching.Children.{IsAt, Agree, mono, lets_mono}
use Rattle.isle_meaning.proofs.Matching.Forward.{forward, forward_all}
use Rattle.isle_meaning.specs.Outcomes.{Outcome, given, missing, ended, After}
use Rattle.isle_meaning.specs.PlainRuns.{WordRuns, PatternRuns, PatternsRun, IfLetsRun, RuleRuns, no_variables}
use Rattle.isle_meaning.specs.SoundPrograms.{HasSoundData, AreSoundIfLets, IsSoundRule}
use Rattle.isle_meaning.specs.Inside.TypedWords.{AreTypedVariables, GivesTyped}
use Rattle.isle_meaning.proofs.Calls.Outcomes.{after_given}
use Rattle.isle_meaning.proofs.Calls.Giving.{words_give_typed, patterns_give_typed, patterns_give_typed_all}
use Rattle.isle_meaning.proofs.Calls.WordTyping.{calls_types, expr_typed}
use Rattle.isle_meaning.proofs.Calls.RuleGiving.{none_answered}
use Rattle.isle_meaning.proofs.Calls.Saying.{SaysOutcome, GivesMeant, said, word_says}
use Rattle.isle_meaning.proofs.Calls.Trying.{Has, OnlyFits, next_only, pattern_only, patterns_only}
use Rattle.isle_meaning.proofs.Calls.Fitting.{same_env, has_before, pattern_keeps, pattern_fits, patterns_fit}

-- what comes after a value that is known
given_only : (S : ℕ → Type 0) (a : ℕ → Value) (r : Outcome (ℕ → Value)) (is : Got Value) (g : Outcome Value)
    (next : Value → Outcome (ℕ → Value) → Type 0) (v : Value) → SaysOutcome is g → is ≡ gives v → After g next r
    → (g ≡ given v → next v r → OnlyFits S a r) → OnlyFits S a r
given_only S a r is (given x) next v s e run k =
    let q : gives x ≡ gives v = said is (gives x) v e s in let o : x ≡ v = cc in
    k (ap (λ (z : Value). given z) o) (subst (λ (z : Value). next z r) o run)
given_only S a r is missing next v s e run k = let q : fails ≡ gives v = said is fails v e s in absurd cc
given_only S a r is (ended z) next v s e run k = subst (OnlyFits S a) (sym run) tt

-- a word gives the same where its variables have the same values
module _ (facts : TermFacts) (c : Completion) (S : ℕ → Type 0) (env a : ℕ → Value) (done : List (Option Value)) (h : Has S env a) where
  mutual
    pub word_same : (x : Word) → Reads facts x S → word_value c a done x ≡ word_value c env done x
    word_same (var_word k) r = ap (λ (v : Value). gives v) (h k r)
    word_same (bool_word ty b) r = refl
    word_same (int_word ty n) r = refl
    word_same (prim_word n) r = refl
    word_same (variant_word ty k ws) r = ap (made ty k) (words_same ws r)
    word_same (struct_word ty ws) r = ap (built ty) (words_same ws r)
    word_same (call_word t ws i) r = ap (ask (answer_of c done t i)) (words_same ws (r.1))

    pub words_same : (xs : Words) → ReadAll facts xs S → word_values c a done xs ≡ word_values c env done xs
    words_same no_words r = refl
    words_same (more_words x xs) r =
        ap (λ (g : Got Value). more g (word_values c a done xs)) (word_same x (r.0)) ∙ ap (more (word_value c env done x))
        (words_same xs (r.1))

module _ (p : CheckedProgram) (w : Answers) (below : ℕ → Values → List Event → Outcome Value → Type 0) where
  -- if-lets keep the variables that are bound before
  pub lets_keep : (xs : List TypedIfLet) (S : ℕ → Type 0) (env b : ℕ → Value) → IfLetsAreWellScoped p.terms xs S
      → IfLetsRun p w below env xs (given b) → (k : ℕ) → S k → b k ≡ env k
  lets_keep [] S env b r run k i = same_env env b run k
  lets_keep (x ∷ xs) S env b r run k i =
      let (v, e, (o, pattern_runs, rest)) = after_given (run.0) (λ (v : Value) (r : Outcome (ℕ → Value)). (o : Outcome (ℕ → Value))
      × PatternRuns p w env x.pattern v o × After o (λ b r. IfLetsRun p w below b xs r) r) b (run.2) in
      let (d, q, others) = after_given o (λ (d : ℕ → Value) (r : Outcome (ℕ → Value)). IfLetsRun p w below d xs r) b rest in
      lets_keep xs (scope x.pattern S) d b (r.2) others k (mono p.terms x.pattern S k i)
      ∙ pattern_keeps p w x.pattern S env d v (r.1) (subst (PatternRuns p w env x.pattern v) q pattern_runs) k i

  module _ (R : ℕ → Type 0) (data_sound : HasSoundData p) (gives_typed : GivesTyped p R below)
      (means : ℕ → Values → List Event → Option Value → Type 0) (meant : GivesMeant p R below means) (c : Completion)
      (agrees : Agrees p w means c) where
    -- if-lets that are tried hold under the assignments alone that have the values found
    pub lets_only : (xs : List TypedIfLet) (S : ℕ → Type 0) (G : ℕ → ℕ) (env a : ℕ → Value) (r : Outcome (ℕ → Value))
        → IfLetsAreWellScoped p.terms xs S → IfLetsTyped p.terms G xs → AreSoundIfLets p R xs → AreTypedVariables p S G env
        → IfLetsRun p w below env xs r → Has S env a → IfLetsHold p.terms c a xs → OnlyFits (iflets_scope xs S) a r
    lets_only [] S G env a r well t s typed run h f = subst (OnlyFits S a) (sym run) h
    lets_only (x ∷ xs) S G env a r well t s typed run h f =
        let (v, q, fits) = f.0 in
        let (u, expr, pattern) = t.0 in
        let its = expr_typed p R S G x.value u (well.0) expr (s.0) in
        let same : word_value c env [] (word_of p.terms x.value) ≡ gives v =
        sym (word_same p.terms c S env a [] h (word_of p.terms x.value) (word_reads p.terms S x.value (well.0))) ∙ q in
        let says = word_says p w means c agrees R data_sound below gives_typed meant S G (calls_types p x.value) env [] typed
        (none_answered p _) (word_of p.terms x.value) u (run.0) (its.0) (run.1) in
        given_only (iflets_scope xs (scope x.pattern S)) a r (word_value c env [] (word_of p.terms x.value)) (run.0)
        (λ (v : Value) (r : Outcome (ℕ → Value)). (o : Outcome (ℕ → Value)) × PatternRuns p w env x.pattern v o
        × After o (λ b r. IfLetsRun p w below b xs r) r) v says same (run.2) (λ e more.
        let (o, pattern_runs, rest) = more in
        let valued = words_give_typed p w R data_sound below gives_typed S G (calls_types p x.value) env [] typed (none_answered p _)
        (word_of p.terms x.value) u v (its.0) (subst (WordRuns p w below env [] (word_of p.terms x.value)) e (run.1)) in
        next_only (scope x.pattern S) (iflets_scope xs (scope x.pattern S)) a o r (λ b r. IfLetsRun p w below b xs r)
        (pattern_only p w means c agrees x.pattern S env v o a (well.1) pattern_runs h fits) rest (λ b z has others.
        lets_only xs (scope x.pattern S) G b a r (well.2) (t.1) (s.1)
        (patterns_give_typed p w data_sound x.pattern S G env b v u pattern typed valued
        (subst (PatternRuns p w env x.pattern v) z pattern_runs)) others has (f.1)))

    -- if-lets that were passed hold
    pub lets_hold : (args : Values) (xs : List TypedIfLet) (S : ℕ → Type 0) (G : ℕ → ℕ) (env b a : ℕ → Value) (vars : ℕ → Site)
        → IfLetsAreWellScoped p.terms xs S → IfLetsTyped p.terms G xs → AreSoundIfLets p R xs → AreTypedVariables p S G env
        → IfLetsRun p w below env xs (given b) → Has (iflets_scope xs S) b a → Agree (value p.terms c args []) a S vars
        → OfIfLets p.terms (IsAnswered p.terms c args []) xs vars → IfLetsHold p.terms c a xs
    lets_hold args [] S G env b a vars well t s typed run h agree n = tt
    lets_hold args (x ∷ xs) S G env b a vars well t s typed run h agree n =
        let (v, e, (o, pattern_runs, rest)) = after_given (run.0) (λ (v : Value) (r : Outcome (ℕ → Value)). (o : Outcome (ℕ → Value))
        × PatternRuns p w env x.pattern v o × After o (λ b r. IfLetsRun p w below b xs r) r) b (run.2) in
        let (d, q, others) = after_given o (λ (d : ℕ → Value) (r : Outcome (ℕ → Value)). IfLetsRun p w below d xs r) b rest in
        let passed = subst (PatternRuns p w env x.pattern v) q pattern_runs in
        let (u, expr, pattern) = t.0 in
        let its = expr_typed p R S G x.value u (well.0) expr (s.0) in
        let word_runs = subst (WordRuns p w below env [] (word_of p.terms x.value)) e (run.1) in
        let valued = words_give_typed p w R data_sound below gives_typed S G (calls_types p x.value) env [] typed (none_answered p _)
        (word_of p.terms x.value) u v (its.0) word_runs in
        let mid : Has (scope x.pattern S) d a = has_before (scope x.pattern S) (iflets_scope xs (scope x.pattern S)) d b a
        (lets_mono p.terms xs (scope x.pattern S)) (lets_keep xs (scope x.pattern S) d b (well.2) others) h in
        let before : Has S env a = has_before S (scope x.pattern S) env d a (mono p.terms x.pattern S)
        (pattern_keeps p w x.pattern S env d v (well.1) passed) mid in
        let reads = word_reads p.terms S x.value (well.0) in
        let says : Says (word_value c env [] (word_of p.terms x.value)) (gives v) =
        word_says p w means c agrees R data_sound below gives_typed meant S G (calls_types p x.value) env [] typed (none_answered p _)
        (word_of p.terms x.value) u (given v) (its.0) word_runs in
        let same = word_same p.terms c S env a [] before (word_of p.terms x.value) reads in
        let at_site = word_site p.terms c args [] a vars S agree (word_of p.terms x.value) reads in
        let is : word_value c env [] (word_of p.terms x.value) ≡ gives v =
        says (λ z. known p.terms c args [] (iflet_site p.terms vars x) (n.0) (at_site ∙ ap held (same ∙ z))) in
        let here : value p.terms c args [] (iflet_site p.terms vars x) ≡ gives (held_value v) = at_site ∙ ap held (same ∙ is) in
        let fits = pattern_fits p w means c agrees args x.pattern S env d a v (iflet_site p.terms vars x) (well.1) passed mid here (n.1) in
        let next = forward p.terms c args a x.pattern S vars (iflet_site p.terms vars x) v (well.1) agree here fits in (
          (v, same ∙ is, fits),
          lets_hold args xs (scope x.pattern S) G d b a (bound p.terms x.pattern (iflet_site p.terms vars x) vars) (well.2) (t.1) (s.1)
              (patterns_give_typed p w data_sound x.pattern S G env d v u pattern typed valued passed) others h (next.1) (n.2),
        )

    pub args_typed : (rule : TypedRule) (args : Values) (b : ℕ → Value) (sound : IsSoundRule p R rule)
        → AreValuesOf p.values args (p.terms.inputs rule.root) → PatternsRun p w no_variables rule.args args (given b)
        → AreTypedVariables p (scope_all rule.args none) sound.var_types b
    args_typed rule args b sound h run =
        patterns_give_typed_all p w data_sound rule.args none sound.var_types no_variables b args (p.terms.inputs rule.root)
        (sound.typed.args) (λ k i. absurd i) h run

    -- a rule that is left doesn't match
    pub rule_left : (rule : TypedRule) (args : Values) → IsSoundRule p R rule → AreValuesOf p.values args (p.terms.inputs rule.root)
        → RuleRuns p w below args rule missing → Matches p.terms c args rule → ⊥
    rule_left rule args sound h run (a, (fits, hold)) =
        next_only (scope_all rule.args none) (scope_of rule) a (run.0) missing (λ b r. IfLetsRun p w below b rule.iflets r)
        (patterns_only p w means c agrees rule.args none no_variables args (run.0) a (sound.well.args) (run.1) (λ k i. absurd i) fits)
        (run.2) (λ b z has others. lets_only rule.iflets (scope_all rule.args none) sound.var_types b a missing (sound.well.iflets)
        (sound.typed.iflets) (sound.iflets)
        (args_typed rule args b sound h (subst (PatternsRun p w no_variables rule.args args) z (run.1))) others has hold)

    -- a rule that was passed matches
    pub rule_matches : (rule : TypedRule) (args : Values) (b : ℕ → Value) → IsSoundRule p R rule
        → AreValuesOf p.values args (p.terms.inputs rule.root) → RuleRuns p w below args rule (given b) → Covers p.terms c args rule
        → MatchesWith p.terms c args rule b
    rule_matches rule args b sound h run covers =
        let (d, q, others) = after_given (run.0) (λ (d : ℕ → Value) (r : Outcome (ℕ → Value)). IfLetsRun p w below d rule.iflets r) b
        (run.2) in
        let passed = subst (PatternsRun p w no_variables rule.args args) q (run.1) in
        let here : IsAt (value p.terms c args []) argument args = λ i x z. ap held z in
        let mid : Has (scope_all rule.args none) d b = has_before (scope_all rule.args none) (scope_of rule) d b b
        (lets_mono p.terms rule.iflets (scope_all rule.args none))
        (lets_keep rule.iflets (scope_all rule.args none) d b (sound.well.iflets) others) (λ k i. refl) in
        let fits = patterns_fit p w means c agrees args rule.args none no_variables d b args argument (sound.well.args) passed mid here
        (covers.0) in
        let next = forward_all p.terms c args b rule.args none nothing argument args (sound.well.args) (λ k i. absurd i) here fits in (
          fits,
          lets_hold args rule.iflets (scope_all rule.args none) sound.var_types d b b (args_bound p.terms rule) (sound.well.iflets)
              (sound.typed.iflets) (sound.iflets) (args_typed rule args d sound h passed) others (λ k i. refl) (next.1) (covers.1),
        )
