-- What rules and right sides give is of their types.
use Rattle.std.proofs.Common.{◌≡◌, inl, inr, ℕ, suc, List, [], ◌∷◌, ◌++◌, length, Bool, true, false, Option, Some, refl, sym, ◌∙◌, ap, subst}
use Rattle.isle_rules.specs.TypedRules.{TypedIfLet, TypedRule}
use Rattle.isle_meaning.specs.Values.{Value, Values}
use Rattle.isle_meaning.specs.GroundValues.{IsValueOf, AreValuesOf}
use Rattle.isle_meaning.specs.Words.{Word, Step, word_of}
use Rattle.isle_meaning.specs.Typing.{IfLetsTyped}
use Rattle.isle_meaning.specs.Scopes.{scope, scope_all, iflets_scope, IfLetsAreWellScoped, none, scope_of}
use Rattle.isle_meaning.specs.Worlds.{CheckedProgram, Answers, Event}
use Rattle.isle_meaning.specs.Outcomes.{Outcome, given, After, Then, EffectsIf, ImpureRuns}
use Rattle.isle_meaning.specs.PlainRuns.{WordRuns, WordsRun, PatternRuns, PatternsRun, IfLetsRun, RuleRuns, RightRuns, no_variables}
use Rattle.isle_meaning.specs.SoundPrograms.{HasSoundData, AreSoundIfLets, IsSoundRule}
use Rattle.isle_meaning.specs.Inside.TypedWords.{IsTypedWord, AreTypedVariables, AreTypedAnswers, IsTypedStep, AreTypedSteps, GivesTyped}
use Rattle.isle_meaning.proofs.Calls.Outcomes.{after_given, then_given, at_end, one_longer}
use Rattle.isle_meaning.proofs.Calls.Giving.{judged_given, allowed_typed, words_give_typed, words_give_typed_all, patterns_give_typed}
use Rattle.isle_meaning.proofs.Calls.Giving.{patterns_give_typed_all}
use Rattle.isle_meaning.proofs.Calls.WordTyping.{calls_types, expr_typed}

-- no impure call was answered yet
pub none_answered : (p : CheckedProgram) (D : ℕ → ℕ) → AreTypedAnswers p D []
none_answered p D i v e = absurd cc

-- one more answer of the type at its place
pub answers_append : (p : CheckedProgram) (D : ℕ → ℕ) (done : List (Option Value)) (v : Value) → AreTypedAnswers p D done
    → IsValueOf p.values v (D (length done)) → AreTypedAnswers p D (done ++ Some v ∷ [])
answers_append p D done v h t i x e = elim (at_end done (Some v) i (Some x) e) [
  | inl q ↦ h i x q
  | inr q ↦ (let r : v ≡ x = (let o : Some v ≡ Some x = q.1 in cc) in
      subst (λ (z : Value). IsValueOf p.values z (D i)) r (subst (λ (j : ℕ). IsValueOf p.values v (D j)) (sym (q.0)) t))
]

module _ (p : CheckedProgram) (w : Answers) (R : ℕ → Type 0) (data_sound : HasSoundData p)
    (below : ℕ → Values → List Event → Outcome Value → Type 0) (gives_typed : GivesTyped p R below) where
  -- if-lets give their variables values of their types
  pub if_lets_give_typed : (xs : List TypedIfLet) (S : ℕ → Type 0) (G : ℕ → ℕ) (a b : ℕ → Value) → IfLetsAreWellScoped p.terms xs S
      → IfLetsTyped p.terms G xs → AreSoundIfLets p R xs → AreTypedVariables p S G a → IfLetsRun p w below a xs (given b)
      → AreTypedVariables p (iflets_scope xs S) G b
  if_lets_give_typed [] S G a b r t s h run = let q : a ≡ b = cc in subst (AreTypedVariables p S G) q h
  if_lets_give_typed (x ∷ xs) S G a b r t s h run =
      let (v, e, (o, pattern_runs, rest)) = after_given (run.0) (λ (v : Value) (r : Outcome (ℕ → Value)). (o : Outcome (ℕ → Value))
      × PatternRuns p w a x.pattern v o × After o (λ b r. IfLetsRun p w below b xs r) r) b (run.2) in
      let (c, q, others) = after_given o _ b rest in
      let (u, typed, fits) = t.0 in
      let its = expr_typed p R S G x.value u (r.0) typed (s.0) in
      let valued = words_give_typed p w R data_sound below gives_typed S G (calls_types p x.value) a [] h (none_answered p _)
      (word_of p.terms x.value) u v (its.0) (subst (WordRuns p w below a [] (word_of p.terms x.value)) e (run.1)) in
      let first = patterns_give_typed p w data_sound x.pattern S G a c v u fits h valued
      (subst (PatternRuns p w a x.pattern v) q pattern_runs) in
      if_lets_give_typed xs (scope x.pattern S) G c b (r.2) (t.1) (s.1) first others

  -- a rule that is tried on arguments of its term's types gives its variables values of their types
  pub rule_gives_typed : (rule : TypedRule) (args : Values) (a : ℕ → Value) (sound : IsSoundRule p R rule)
      → AreValuesOf p.values args (p.terms.inputs rule.root) → RuleRuns p w below args rule (given a)
      → AreTypedVariables p (scope_of rule) sound.var_types a
  rule_gives_typed rule args a sound h run =
      let (b, q, rest) = after_given _ _ a (run.2) in
      let first = patterns_give_typed_all p w data_sound rule.args none sound.var_types no_variables b args (p.terms.inputs rule.root)
      (sound.typed.args) (λ k i. absurd i) h (subst (PatternsRun p w no_variables rule.args args) q (run.1)) in
      if_lets_give_typed rule.iflets (scope_all rule.args none) sound.var_types b a (sound.well.iflets) (sound.typed.iflets) (sound.iflets)
      first rest

  impure_gives_typed : (b : Bool) (t : ℕ) (vs : Values) (effects : List Event) (v : Value) → p.has_rules t ≡ b
      → (p.has_rules t ≡ true → R t)
      → AreValuesOf p.values vs (p.terms.inputs t) → EffectsIf p below b t vs effects (given v) → IsValueOf p.values v (p.terms.type_of t)
  impure_gives_typed true t vs effects v e r h run = gives_typed t vs effects v (r e) h run
  impure_gives_typed false t vs effects v e r h run =
      let j = judged_given _ _ _ v (run.judged) in allowed_typed p w t (run.answer) v (j.0) (j.1)

  module _ (S : ℕ → Type 0) (G D : ℕ → ℕ) (a : ℕ → Value) (variables : AreTypedVariables p S G a) where
    -- what a typed call is answered is of its type
    pub step_gives_typed : (s : Step) (done : List (Option Value)) (vs : Values) (effects : List Event) (v : Value)
        → IsTypedStep p R S G D s → AreTypedAnswers p D done → WordsRun p w below a done s.args (given vs)
        → ImpureRuns p below s.term vs effects (given v) → IsValueOf p.values v (D s.place)
    step_gives_typed s done vs effects v t h run made =
        let args = words_give_typed_all p w R data_sound below gives_typed S G D a done variables h s.args (p.terms.inputs s.term) vs
        (t.3) run in
        subst (IsValueOf p.values v) (sym (t.0)) (impure_gives_typed (p.has_rules s.term) s.term vs effects v refl (t.1) args made)

    -- a right side gives a value of its type
    pub right_gives_typed : (steps : List Step) (n : ℕ) (done : List (Option Value)) (result : Word) (u : ℕ) (trace : List Event)
        (v : Value)
        → n ≡ length done → AreTypedSteps p R S G D n steps → AreTypedAnswers p D done → IsTypedWord p R S G D result u
        → RightRuns p w below a done steps result trace (given v) → IsValueOf p.values v u
    right_gives_typed [] n done result u trace v e t h f run =
        words_give_typed p w R data_sound below gives_typed S G D a done variables h result u v f (run.1)
    right_gives_typed (s ∷ steps) n done result u trace v e t h f run =
        let (vs, q, (effects, rest, b, split, made, more)) = then_given (run.0) (λ (vs : Values) (trace : List Event) (r : Outcome Value).
        (effects : List Event) × (rest : List Event) × (b : Outcome Value) × (trace ≡ effects ++ rest)
        × ImpureRuns p below s.term vs effects b
        × Then b (λ x rest r. RightRuns p w below a (done ++ Some x ∷ []) steps result rest r) rest r) trace v (run.2) in
        let (x, o, others) = then_given b (λ (x : Value) (rest : List Event) (r : Outcome Value).
        RightRuns p w below a (done ++ Some x ∷ []) steps result rest r) rest v more in
        let valued = step_gives_typed s done vs effects x (t.0) h (subst (WordsRun p w below a done s.args) q (run.1))
        (subst (ImpureRuns p below s.term vs effects) o made) in
        let here : s.place ≡ length done = t.1 ∙ e in
        right_gives_typed steps (suc n) (done ++ Some x ∷ []) result u rest v (ap suc e ∙ sym (one_longer done (Some x))) (t.2)
        (answers_append p D done x h (subst (λ (i : ℕ). IsValueOf p.values x (D i)) here valued)) f others
