-- Where a plain run of a call ends unanswered: at a call of the term on arguments of its types, at an answer that isn't allowed, or as stuck.
use Rattle.std.proofs.Common.{◌≡◌, inl, inr, ℕ, zero, suc, List, [], ◌∷◌, ◌++◌, length, Bool, true, false, Option, Some, slice_get}
use Rattle.std.proofs.Common.{Contains, refl, sym, ◌∙◌, ap, subst}
use Rattle.std.proofs.lemmas.Option.{slice_get_within, get_or_from_slice_get}
use Rattle.isle_rules.specs.TypedRules.{TypedPattern, typed_bind, typed_var, typed_bool, typed_int, typed_prim, typed_term, typed_wildcard}
use Rattle.isle_rules.specs.TypedRules.{typed_and, TypedPatterns, no_typed, more_typed, TypedIfLet, TypedRule}
use Rattle.isle_meaning.specs.Asking.{Asked, Ended, stuck, ill_typed, asks_value, asks_outputs}
use Rattle.isle_meaning.specs.Calls.{IsRuleAt}
use Rattle.isle_meaning.specs.Facts.{TermShape, variant_shape, struct_shape, declared_shape}
use Rattle.isle_meaning.specs.GroundValues.{IsValueOf, AreValuesOf}
use Rattle.isle_meaning.specs.Inside.TypedWords.{IsTypedWord, AreTypedWords, AreTypedVariables, AreTypedAnswers, AreTypedSteps, GivesTyped}
use Rattle.isle_meaning.specs.Outcomes.{Outcome, given, missing, ended, After, WorldExtracts, ConstructsIf, EffectsIf, ImpureRuns, Then, unmatched}
use Rattle.isle_meaning.specs.PlainRuns.{WordRuns, WordsRun, Tests, OpenRuns, PatternRuns, PatternsRun, EachRuns, IfLetsRun, RuleRuns}
use Rattle.isle_meaning.specs.PlainRuns.{RightRuns, RulesRun, no_variables, AreTriedInOrder}
use Rattle.isle_meaning.specs.Reaching.{IsCalledInIfLets, IsCalledInRule}
use Rattle.isle_meaning.specs.Scopes.{scope, scope_all, IfLetsAreWellScoped, none, scope_of}
use Rattle.isle_meaning.specs.SoundPrograms.{HasSoundData, AreSoundIfLets, IsSoundRule, IsSound}
use Rattle.isle_meaning.specs.Typing.{IfLetsTyped}
use Rattle.isle_meaning.specs.Values.{Value, Values, no_values, more_values}
use Rattle.isle_meaning.specs.Words.{Word, var_word, bool_word, int_word, prim_word, variant_word, struct_word, call_word, Words}
use Rattle.isle_meaning.specs.Words.{no_words, more_words, Step, word_of, steps_of}
use Rattle.isle_meaning.specs.Worlds.{CheckedProgram, Answers, Event}
use Rattle.isle_meaning.proofs.Calls.Giving.{words_give_typed, words_give_typed_all, patterns_give_typed, patterns_give_typed_all}
use Rattle.isle_meaning.proofs.Calls.Outcomes.{one_longer}
use Rattle.isle_meaning.proofs.Calls.RuleGiving.{none_answered, answers_append, step_gives_typed, rule_gives_typed}
use Rattle.isle_meaning.proofs.Calls.Spending.{expr_called}
use Rattle.isle_meaning.proofs.Calls.WordTyping.{calls_types, expr_typed}
use Rattle.isle_meaning.proofs.Chains.Asks.{WordCalls, WordsCall, StepCalls, word_calls}
use Rattle.isle_meaning.proofs.Chains.Ends.{tried_ended, one_rule}
use Rattle.isle_meaning.proofs.Chains.RightEnds.{then_ended}
use Rattle.isle_meaning.proofs.Chains.Unique.{EachStep}
use Rattle.isle_meaning.proofs.Chains.WordEnds.{after_ended, judged_ended}
use Rattle.isle_run.proofs.Covering.TreeEnds.{IsAskedIn, ruled_call, EndsOfCalls}
use Rattle.isle_run.specs.Laws.Coverage.{WritesCall}

-- patterns end at answers that aren't allowed
module _ (p : CheckedProgram) (w : Answers) (Q : Ended → Type 0) (wrong_outputs : (t : ℕ) (v : Value) → Q (ill_typed (asks_outputs t v))) where
  -- a test ends nothing
  test_ends : (passes : Type 0) (a : ℕ → Value) (e : Ended) → Tests passes a (ended e) → Q e
  test_ends passes a e (inl h) = absurd (let q : ended e ≡ given a = h.1 in cc)
  test_ends passes a e (inr h) = absurd (let q : ended e ≡ missing = h.1 in cc)

  -- what is opened
  open_ends : (shape : TermShape) (ty t : ℕ) (v : Value) (next : Values → Outcome (ℕ → Value) → Type 0) (e : Ended)
      → ((vs : Values) → next vs (ended e) → Q e) → OpenRuns p w shape ty t v next (ended e) → Q e
  open_ends (variant_shape k) ty t v next e f (inl h) = f (h.0) (h.2)
  open_ends (variant_shape k) ty t v next e f (inr h) = absurd (let q : ended e ≡ missing = h.1 in cc)
  open_ends struct_shape ty t v next e f (inl h) = f (h.0) (h.2)
  open_ends struct_shape ty t v next e f (inr h) = absurd (let q : ended e ≡ missing = h.1 in cc)
  open_ends declared_shape ty t v next e f h = elim (after_ended (h.0) next e (h.2)) [
    | inl q ↦
        let run : WorldExtracts p w t v (ended e) = subst (WorldExtracts p w t v) q (h.1) in
        subst Q (sym ((judged_ended _ _ (asks_outputs t v) e run.judged).1)) (wrong_outputs t v)
    | inr k ↦ f (k.0) (k.2)
  ]

  mutual
    -- a pattern
    pattern_ends : (q : TypedPattern) (a : ℕ → Value) (v : Value) (e : Ended) → PatternRuns p w a q v (ended e) → Q e
    pattern_ends (typed_bind ty k q) a v e run = elim (after_ended (run.0) _ e (run.2)) [
      | inl o ↦ pattern_ends q a v e (subst (PatternRuns p w a q v) o (run.1))
      | inr h ↦ absurd (let o = h.2 in cc)
    ]
    pattern_ends (typed_var ty k) a v e run = test_ends _ a e run
    pattern_ends (typed_bool ty b) a v e run = test_ends _ a e run
    pattern_ends (typed_int ty m) a v e run = test_ends _ a e run
    pattern_ends (typed_prim ty m) a v e run = test_ends _ a e run
    pattern_ends (typed_term ty t qs) a v e run =
        open_ends (p.terms.shape t) ty t v (λ vs r. PatternsRun p w a qs vs r) e (λ vs h. patterns_end qs a vs e h) run
    pattern_ends (typed_wildcard ty) a v e run = absurd (let q : ended e ≡ given a = run in cc)
    pattern_ends (typed_and ty qs) a v e run = each_ends qs a v e run

    -- patterns, each at its place
    pub patterns_end : (qs : TypedPatterns) (a : ℕ → Value) (vs : Values) (e : Ended) → PatternsRun p w a qs vs (ended e) → Q e
    patterns_end no_typed a no_values e run = absurd (let q : ended e ≡ given a = run in cc)
    patterns_end no_typed a (more_values v vs) e run = absurd (let q : ended e ≡ missing = run in cc)
    patterns_end (more_typed q qs) a no_values e run = absurd (let o : ended e ≡ missing = run in cc)
    patterns_end (more_typed q qs) a (more_values v vs) e run = elim (after_ended (run.0) _ e (run.2)) [
      | inl o ↦ pattern_ends q a v e (subst (PatternRuns p w a q v) o (run.1))
      | inr h ↦ patterns_end qs (h.0) vs e (h.2)
    ]

    -- patterns, all on one value
    each_ends : (qs : TypedPatterns) (a : ℕ → Value) (v : Value) (e : Ended) → EachRuns p w a qs v (ended e) → Q e
    each_ends no_typed a v e run = absurd (let q : ended e ≡ given a = run in cc)
    each_ends (more_typed q qs) a v e run = elim (after_ended (run.0) _ e (run.2)) [
      | inl o ↦ pattern_ends q a v e (subst (PatternRuns p w a q v) o (run.1))
      | inr h ↦ each_ends qs (h.0) v e (h.2)
    ]

-- the calls of words and of steps are of these terms
module _ (p : CheckedProgram) (w : Answers) (R : ℕ → Type 0) (data_sound : HasSoundData p)
    (below : ℕ → Values → List Event → Outcome Value → Type 0) (gives_typed : GivesTyped p R below) (Q : Ended → Type 0)
    (wrong_outputs : (t : ℕ) (v : Value) → Q (ill_typed (asks_outputs t v))) (C : ℕ → Type 0)
    (wrong_value : (u : ℕ) (vs : Values) → C u → Q (ill_typed (asks_value u vs)))
    (ends : (u : ℕ) (vs : Values) (effects : List Event) (e : Ended) → C u
    → p.has_rules u ≡ true → R u → AreValuesOf p.values vs (p.terms.inputs u) → below u vs effects (ended e) → Q e) where
  -- a pure call
  pure_ends : (b : Bool) (u : ℕ) (vs : Values) (e : Ended) → p.has_rules u ≡ b → C u → (p.has_rules u ≡ true → R u)
      → AreValuesOf p.values vs (p.terms.inputs u) → ConstructsIf p w below b u vs (ended e) → Q e
  pure_ends true u vs e is called runs typed run = ends u vs [] e called is (runs is) typed run
  pure_ends false u vs e is called runs typed run =
      subst Q (sym ((judged_ended _ _ (asks_value u vs) e run.judged).1)) (wrong_value u vs called)

  -- an impure one
  impure_ends : (b : Bool) (u : ℕ) (vs : Values) (effects : List Event) (e : Ended) → p.has_rules u ≡ b → C u → (p.has_rules u ≡ true → R u)
      → AreValuesOf p.values vs (p.terms.inputs u) → EffectsIf p below b u vs effects (ended e) → Q e
  impure_ends true u vs effects e is called runs typed run = ends u vs effects e called is (runs is) typed run
  impure_ends false u vs effects e is called runs typed run =
      subst Q (sym ((judged_ended _ _ (asks_value u vs) e run.judged).1)) (wrong_value u vs called)

  module _ (S : ℕ → Type 0) (G D : ℕ → ℕ) (a : ℕ → Value) (done : List (Option Value)) (variables : AreTypedVariables p S G a)
      (answers : AreTypedAnswers p D done) where
    mutual
      -- a word
      word_ends : (x : Word) (u : ℕ) (e : Ended) → IsTypedWord p R S G D x u → WordCalls C x → WordRuns p w below a done x (ended e) → Q e
      word_ends (var_word k) u e t q run = absurd (let o : ended e ≡ given (a k) = run in cc)
      word_ends (bool_word ty b) u e t q run = absurd cc
      word_ends (int_word ty k) u e t q run = absurd cc
      word_ends (prim_word name) u e t q run = absurd cc
      word_ends (variant_word ty k ws) u e t q run = elim (after_ended _ _ e (run.2)) [
        | inl o ↦ words_end ws (p.terms.variant_fields ty k) e (t.2) q (subst (WordsRun p w below a done ws) o (run.1))
        | inr h ↦ absurd (let o = h.2 in cc)
      ]
      word_ends (struct_word ty ws) u e t q run = elim (after_ended _ _ e (run.2)) [
        | inl o ↦ words_end ws (p.terms.struct_fields ty) e (t.2) q (subst (WordsRun p w below a done ws) o (run.1))
        | inr h ↦ absurd (let o = h.2 in cc)
      ]
      word_ends (call_word t ws zero) u e typed q run = elim (after_ended _ _ e (run.2)) [
        | inl o ↦ words_end ws (p.terms.inputs t) e (typed.3) (q.1) (subst (WordsRun p w below a done ws) o (run.1))
        | inr h ↦ pure_ends (p.has_rules t) t (h.0) e refl (q.0) (typed.1)
            (words_give_typed_all p w R data_sound below gives_typed S G D a done variables answers ws (p.terms.inputs t) (h.0) (typed.3)
            (subst (WordsRun p w below a done ws) (h.1) (run.1))) (h.2)
      ]
      word_ends (call_word t ws (suc i)) u e typed q run =
          elim (after_ended (run.0) (λ (vs : Values) (r : Outcome Value). (x : Value) × (slice_get done i ≡ Some (Some x))
          × (r ≡ given x)) e (run.2)) [
            | inl o ↦ words_end ws (p.terms.inputs t) e (typed.4) (q.1) (subst (WordsRun p w below a done ws) o (run.1))
            | inr h ↦ absurd (let o = h.2.2 in cc)
          ]

      -- words
      words_end : (xs : Words) (us : List ℕ) (e : Ended) → AreTypedWords p R S G D xs us → WordsCall C xs
          → WordsRun p w below a done xs (ended e) → Q e
      words_end no_words us e t q run = absurd (let o : ended e ≡ given no_values = run in cc)
      words_end (more_words x xs) [] e t q run = absurd t
      words_end (more_words x xs) (u ∷ us) e t q run = elim (after_ended (run.0) (λ (v : Value) (r : Outcome Values). (h : Outcome Values)
          × WordsRun p w below a done xs h × After h (λ vs r. r ≡ given (more_values v vs)) r) e (run.2)) [
            | inl o ↦ word_ends x u e (t.0) (q.0) (subst (WordRuns p w below a done x) o (run.1))
            | inr h ↦ elim (after_ended (h.2.0) _ e (h.2.2)) [
              | inl o ↦ words_end xs us e (t.1) (q.1) (subst (WordsRun p w below a done xs) o (h.2.1))
              | inr k ↦ absurd (let o = k.2 in cc)
            ]
          ]

  -- if-lets
  iflets_end : (xs : List TypedIfLet) (S : ℕ → Type 0) (G : ℕ → ℕ) (a : ℕ → Value) (e : Ended) → IfLetsAreWellScoped p.terms xs S
      → IfLetsTyped p.terms G xs → AreSoundIfLets p R xs → AreTypedVariables p S G a → ((u : ℕ) → IsCalledInIfLets p.terms xs u → C u)
      → IfLetsRun p w below a xs (ended e) → Q e
  iflets_end [] S G a e well t s variables f run = absurd (let o : ended e ≡ given a = run in cc)
  iflets_end (x ∷ xs) S G a e well t s variables f run =
      let its = expr_typed p R S G x.value (t.0.0) (well.0) (t.0.1) (s.0) in
      elim (after_ended (run.0) (λ (v : Value) (r : Outcome (ℕ → Value)). (o : Outcome (ℕ → Value))
      × PatternRuns p w a x.pattern v o × After o (λ b r. IfLetsRun p w below b xs r) r) e (run.2)) [
        | inl o ↦ word_ends S G (calls_types p x.value) a [] variables (none_answered p _) (word_of p.terms x.value) (t.0.0) e (its.0)
            ((word_calls p.terms C x.value (expr_called p.terms C x.value (λ u h. f u (inl h)))).0)
            (subst (WordRuns p w below a [] (word_of p.terms x.value)) o (run.1))
        | inr h ↦
            let runs : WordRuns p w below a [] (word_of p.terms x.value) (given (h.0)) =
            subst (WordRuns p w below a [] (word_of p.terms x.value)) (h.1) (run.1) in
            elim (after_ended (h.2.0) _ e (h.2.2)) [
              | inl o ↦ pattern_ends p w Q wrong_outputs x.pattern a (h.0) e (subst (PatternRuns p w a x.pattern (h.0)) o (h.2.1))
              | inr k ↦
                  let passes : PatternRuns p w a x.pattern (h.0) (given (k.0)) = subst (PatternRuns p w a x.pattern (h.0)) (k.1) (h.2.1) in
                  let valued = words_give_typed p w R data_sound below gives_typed S G (calls_types p x.value) a [] variables
                  (none_answered p _) (word_of p.terms x.value) (t.0.0) (h.0) (its.0) runs in
                  iflets_end xs (scope x.pattern S) G (k.0) e (well.2) (t.1) (s.1)
                  (patterns_give_typed p w data_sound x.pattern S G a (k.0) (h.0) (t.0.0) (t.0.2) variables valued passes)
                  (λ u h. f u (inr h)) (k.2)
            ]
      ]

  -- a rule that is tried
  rule_ends : (rule : TypedRule) (args : Values) (e : Ended) → IsSoundRule p R rule → AreValuesOf p.values args (p.terms.inputs rule.root)
      → ((u : ℕ) → IsCalledInIfLets p.terms rule.iflets u → C u) → RuleRuns p w below args rule (ended e) → Q e
  rule_ends rule args e sound typed f run = elim (after_ended (run.0) _ e (run.2)) [
    | inl o ↦ patterns_end p w Q wrong_outputs rule.args no_variables args e (subst (PatternsRun p w no_variables rule.args args) o (run.1))
    | inr h ↦
        let passes : PatternsRun p w no_variables rule.args args (given (h.0)) =
        subst (PatternsRun p w no_variables rule.args args) (h.1) (run.1) in
        iflets_end rule.iflets (scope_all rule.args none) sound.var_types (h.0) e (sound.well.iflets) (sound.typed.iflets) (sound.iflets)
        (patterns_give_typed_all p w data_sound rule.args none sound.var_types no_variables (h.0) args (p.terms.inputs rule.root)
        (sound.typed.args) (λ k i. absurd i) typed passes) f (h.2)
  ]

  -- a right side
  module _ (S : ℕ → Type 0) (G D : ℕ → ℕ) (a : ℕ → Value) (variables : AreTypedVariables p S G a) (result : Word) (u : ℕ)
      (result_typed : IsTypedWord p R S G D result u) (result_calls : WordCalls C result) where
    right_ends : (steps : List Step) (m : ℕ) (done : List (Option Value)) (trace : List Event) (e : Ended) → m ≡ length done
        → AreTypedSteps p R S G D m steps → EachStep (StepCalls C) steps → AreTypedAnswers p D done
        → RightRuns p w below a done steps result trace (ended e) → Q e
    right_ends [] m done trace e l t k answers run =
        word_ends S G D a done variables answers result u e result_typed result_calls (run.1)
    right_ends (s ∷ steps) m done trace e l t k answers run =
        elim (then_ended (run.0) (λ (vs : Values) (trace : List Event) (r : Outcome Value). (effects : List Event) × (rest : List Event)
        × (b : Outcome Value) × (trace ≡ effects ++ rest) × ImpureRuns p below s.term vs effects b
        × Then b (λ x rest r. RightRuns p w below a (done ++ Some x ∷ []) steps result rest r) rest r) trace e (run.2)) [
          | inl o ↦ words_end S G D a done variables answers s.args (p.terms.inputs s.term) e (t.0.3) (k.0.1)
              (subst (WordsRun p w below a done s.args) (o.0) (run.1))
          | inr h ↦
              let runs : WordsRun p w below a done s.args (given (h.0)) = subst (WordsRun p w below a done s.args) (h.1) (run.1) in
              elim (then_ended (h.2.2) (λ (x : Value) (rest : List Event) (r : Outcome Value).
              RightRuns p w below a (done ++ Some x ∷ []) steps result rest r) (h.2.1) e (h.2.5)) [
                | inl o ↦ impure_ends (p.has_rules s.term) s.term (h.0) (h.2.0) e refl (k.0.0) (t.0.1)
                    (words_give_typed_all p w R data_sound below gives_typed S G D a done variables answers s.args (p.terms.inputs s.term)
                    (h.0) (t.0.3) runs) (subst (ImpureRuns p below s.term (h.0) (h.2.0)) (o.0) (h.2.4))
                | inr v ↦
                    let valued = step_gives_typed p w R data_sound below gives_typed S G D a variables s done (h.0) (h.2.0) (v.0) (t.0) answers runs
                    (subst (ImpureRuns p below s.term (h.0) (h.2.0)) (v.1) (h.2.4)) in
                    let here : s.place ≡ length done = t.1 ∙ l in
                    right_ends steps (suc m) (done ++ Some (v.0) ∷ []) (h.2.1) e (ap suc l ∙ sym (one_longer done (Some (v.0)))) (t.2) (k.1)
                    (answers_append p D done (v.0) answers (subst (λ (i : ℕ). IsValueOf p.values (v.0) (D i)) here valued)) (v.2)
              ]
        ]

module _ (p : CheckedProgram) (w : Answers) (R : ℕ → Type 0) (sound : IsSound p R) (below : ℕ → Values → List Event → Outcome Value → Type 0)
    (gives_typed : GivesTyped p R below) (t : ℕ) (args : Values) (runs : R t) (args_typed : AreValuesOf p.values args (p.terms.inputs t))
    (Q : Ended → Type 0) (ends : EndsOfCalls p R below t Q) (wrong : (q : Asked) → IsAskedIn p t q → Q (ill_typed q)) (own : Q (stuck t args)) where
  -- where no rule is left
  none_left : (partial : Bool) (e : Ended) → ended e ≡ unmatched partial t args → Q e
  none_left true e q = absurd cc
  none_left false e q = let same : stuck t args ≡ e = cc in subst Q same own

  -- Where the run of the term's rules ends unanswered, so does a call that one makes, or it is stuck.
  rules_end : (places : List ℕ) → ((i k : ℕ) → slice_get places k ≡ Some i → (rule : TypedRule) × IsRuleAt p t i rule) → (steps : ℕ)
      (trace : List Event) (e : Ended) → RulesRun p w below t args places steps trace (ended e) → Q e
  rules_end [] of steps trace e run = none_left (p.terms.partial t) e (run.2)
  rules_end (i ∷ is) of steps trace e run =
      let rule : TypedRule = run.0 in
      let its = of i 0 refl in
      let at : IsRuleAt p t i rule = subst (IsRuleAt p t i) (one_rule p i i (its.0) rule refl (its.1.listed) (run.1)) (its.1) in
      let rule_sound : IsSoundRule p R rule = sound.rules i rule (at.listed) (subst R (sym (at.of_term)) runs) in
      let rule_args : AreValuesOf p.values args (p.terms.inputs rule.root) =
      subst (λ (z : ℕ). AreValuesOf p.values args (p.terms.inputs z)) (sym (at.of_term)) args_typed in
      let call : (u : ℕ) → IsCalledInRule p.terms rule u → WritesCall p t u =
      λ u h. record { place = i; rule = rule; at = at; called = h } in
      let called : (u : ℕ) (vs : Values) (effects : List Event) (e : Ended) → IsCalledInRule p.terms rule u → p.has_rules u ≡ true → R u
      → AreValuesOf p.values vs (p.terms.inputs u) → below u vs effects (ended e) → Q e =
      λ u vs effects e h ruled may typed run. ends u vs effects e (ruled_call p t u (call u h) ruled) may typed run in
      let wrong_value : (u : ℕ) (vs : Values) → IsCalledInRule p.terms rule u → Q (ill_typed (asks_value u vs)) =
      λ u vs h. wrong (asks_value u vs) (call u h) in
      let wrong_outputs : (u : ℕ) (v : Value) → Q (ill_typed (asks_outputs u v)) = λ u v. wrong (asks_outputs u v) tt in
      elim (tried_ended (run.2) (λ a trace r. RightRuns p w below a [] (steps_of p.terms rule.right) (word_of p.terms rule.right) trace r)
      (RulesRun p w below t args is) steps trace e (run.4)) [
        | inl h ↦
            let typed = expr_typed p R (scope_of rule) rule_sound.var_types rule.right (p.terms.type_of rule.root) (rule_sound.well.right)
            (rule_sound.typed.right) (rule_sound.right) in
            let calls = word_calls p.terms (IsCalledInRule p.terms rule) rule.right
            (expr_called p.terms (IsCalledInRule p.terms rule) rule.right (λ u h. inr h)) in
            right_ends p w R (sound.data_sound) below gives_typed Q wrong_outputs (IsCalledInRule p.terms rule) wrong_value called (scope_of rule)
            rule_sound.var_types (calls_types p rule.right) (h.0)
            (rule_gives_typed p w R (sound.data_sound) below gives_typed rule args (h.0) rule_sound rule_args
            (subst (RuleRuns p w below args rule) (h.1) (run.3)))
            (word_of p.terms rule.right) (p.terms.type_of rule.root) (typed.0) (calls.0) (steps_of p.terms rule.right) 0 [] trace e refl
            (typed.1) (calls.1) (none_answered p _) (h.2)
        | inr h ↦ elim h [
          | inl m ↦ rules_end is (λ j k g. of j (suc k) g) (m.1.0) trace e (m.1.1)
          | inr q ↦ rule_ends p w R (sound.data_sound) below gives_typed Q wrong_outputs (IsCalledInRule p.terms rule) wrong_value called
              rule args e rule_sound rule_args (λ u h. inl h) (subst (RuleRuns p w below args rule) (q.0) (run.3))
        ]
      ]

  -- Where the run of all the term's rules does.
  pub ordered_end : (places : List ℕ) → AreTriedInOrder p t places → (steps : ℕ) (trace : List Event) (e : Ended)
      → RulesRun p w below t args places steps trace (ended e) → Q e
  ordered_end places order = rules_end places (λ i k e. (order.all i).0 (item_at places k i e))
    where
      item_at : (xs : List ℕ) (k x : ℕ) → slice_get xs k ≡ Some x → Contains xs x
      item_at xs k x e = (k, slice_get_within xs k x e, get_or_from_slice_get xs k x x e)
