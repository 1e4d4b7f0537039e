-- Where no term reaches itself, no plain run is spent at a depth of at least the number of terms with rules.
use Rattle.std.proofs.Common.{◌≡◌, ◌⊎◌, inl, inr, ◌≤◌, ℕ, zero, suc, Bool, true, false, List, [], ◌∷◌, ◌++◌, length, Option, Some, slice_get}
use Rattle.std.proofs.Common.{Contains, refl, sym, ◌∙◌, ap, subst, arith}
use Rattle.isle_rules.specs.TypedRules.{TypedPattern, typed_bind, typed_var, typed_bool, typed_int, typed_prim, typed_term, typed_wildcard}
use Rattle.isle_rules.specs.TypedRules.{typed_and, TypedPatterns, no_typed, more_typed, TypedExpr, built_var, built_bool, built_int}
use Rattle.isle_rules.specs.TypedRules.{built_prim, built_term, built_let, TypedExprs, no_built, more_built, TypedBindings, no_typed_bindings}
use Rattle.isle_rules.specs.TypedRules.{more_typed_bindings, TypedIfLet, TypedRule}
use Rattle.isle_meaning.specs.Facts.{TermShape, variant_shape, struct_shape, declared_shape, TermFacts}
use Rattle.isle_meaning.specs.Values.{Value, Values, no_values, more_values}
use Rattle.isle_meaning.specs.Words.{Word, var_word, bool_word, int_word, prim_word, variant_word, struct_word, call_word, Words}
use Rattle.isle_meaning.specs.Words.{no_words, more_words, Step, word_of, steps_of}
use Rattle.isle_meaning.specs.Worlds.{CheckedProgram, Answers, Event}
use Rattle.isle_meaning.specs.Calls.{IsRuleAt}
use Rattle.isle_meaning.specs.Asking.{spent}
use Rattle.isle_meaning.specs.Outcomes.{Outcome, given, ended, After, WorldExtracts, ConstructsIf, EffectsIf, ImpureRuns, Then, unmatched}
use Rattle.isle_meaning.specs.PlainRuns.{WordRuns, WordsRun, Tests, OpenRuns, PatternRuns, PatternsRun, EachRuns, IfLetsRun, RuleRuns}
use Rattle.isle_meaning.specs.PlainRuns.{RightRuns, RulesRun, PlainRun}
use Rattle.isle_meaning.specs.Reaching.{IsCalledIn, IsCalledInOne, IsCalledInBindings, IsCalledInIfLets, IsCalledInRule, Calls, Reaches}
use Rattle.isle_meaning.specs.Reaching.{at_once, onwards}
use Rattle.isle_meaning.specs.Laws.Calls.{CallOf, ExprCalls, ExprsCall, BindingsCall}
use Rattle.isle_meaning.specs.Laws.Plain.{NoCyclesNoneSpent}
use Rattle.isle_meaning.proofs.Chains.Asks.{WordCalls, WordsCall, StepCalls, word_calls}
use Rattle.isle_meaning.proofs.Chains.Ends.{tried_ended, one_rule}
use Rattle.isle_meaning.proofs.Chains.RightEnds.{then_ended}
use Rattle.isle_meaning.proofs.Chains.Unique.{EachStep}
use Rattle.isle_meaning.proofs.Chains.WordEnds.{after_ended, judged_ended}

-- a list has a number
abbrev pub Has : List ℕ → ℕ → Type 0
Has [] x = ⊥
Has (y ∷ ys) x = (x ≡ y) ⊎ Has ys x

-- what a list contains, it has
pub contained : (xs : List ℕ) (x : ℕ) → Contains xs x → Has xs x
contained [] x (k, within, is) = absurd (omega (arith, within))
contained (y ∷ ys) x (zero, within, is) = inl (sym is)
contained (y ∷ ys) x (suc k, within, is) = inr (contained ys x (k, omega (arith, within), is))

-- a list without one that it has is shorter, and has the others
pub taken : (xs : List ℕ) (x : ℕ) → Has xs x
    → (ys : List ℕ) × (length xs ≡ suc (length ys)) × ((v : ℕ) → Has xs v → (v ≡ x → ⊥) → Has ys v)
taken [] x h = absurd h
taken (y ∷ ys) x (inl e) = (ys, refl, λ v h n. elim h [ inl q ↦ absurd (n (q ∙ sym e)) | inr q ↦ q ])
taken (y ∷ ys) x (inr h) =
    let (zs, l, k) = taken ys x h in
    (y ∷ zs, ap suc l, λ v g n. elim g [ inl q ↦ inl q | inr q ↦ inr (k v q n) ])

module _ (facts : TermFacts) where
  -- a declared term is what is called
  is_call : (Q : ℕ → Type 0) (shape : TermShape) (t : ℕ) → (shape ≡ declared_shape → Q t) → CallOf Q shape t
  is_call Q (variant_shape k) t f = tt
  is_call Q struct_shape t f = tt
  is_call Q declared_shape t f = f refl

  mutual
    -- an expression calls what is called in it
    pub expr_called : (Q : ℕ → Type 0) (e : TypedExpr) → ((u : ℕ) → IsCalledIn facts e u → Q u) → ExprCalls facts Q e
    expr_called Q (built_var ty k) f = tt
    expr_called Q (built_bool ty b) f = tt
    expr_called Q (built_int ty n) f = tt
    expr_called Q (built_prim ty n) f = tt
    expr_called Q (built_term ty t es) f =
        (is_call Q (facts.shape t) t (λ e. f t (inl (e, refl))), exprs_called Q es (λ u h. f u (inr h)))
    expr_called Q (built_let ty bs body) f = (bindings_called Q bs (λ u h. f u (inl h)), expr_called Q body (λ u h. f u (inr h)))

    exprs_called : (Q : ℕ → Type 0) (es : TypedExprs) → ((u : ℕ) → IsCalledInOne facts es u → Q u) → ExprsCall facts Q es
    exprs_called Q no_built f = tt
    exprs_called Q (more_built e es) f = (expr_called Q e (λ u h. f u (inl h)), exprs_called Q es (λ u h. f u (inr h)))

    bindings_called : (Q : ℕ → Type 0) (bs : TypedBindings) → ((u : ℕ) → IsCalledInBindings facts bs u → Q u) → BindingsCall facts Q bs
    bindings_called Q no_typed_bindings f = tt
    bindings_called Q (more_typed_bindings k ty e bs) f = (expr_called Q e (λ u h. f u (inl h)), bindings_called Q bs (λ u h. f u (inr h)))

-- no patterns are spent
module _ (p : CheckedProgram) (w : Answers) where
  test_never : (passes : Type 0) (a : ℕ → Value) → Tests passes a (ended spent) → ⊥
  test_never passes a (inl h) = let e = h.1 in cc
  test_never passes a (inr h) = let e = h.1 in cc

  open_never : (shape : TermShape) (ty t : ℕ) (v : Value) (next : Values → Outcome (ℕ → Value) → Type 0)
      → ((vs : Values) → next vs (ended spent) → ⊥) → OpenRuns p w shape ty t v next (ended spent) → ⊥
  open_never (variant_shape k) ty t v next f (inl h) = f (h.0) (h.2)
  open_never (variant_shape k) ty t v next f (inr h) = let e = h.1 in cc
  open_never struct_shape ty t v next f (inl h) = f (h.0) (h.2)
  open_never struct_shape ty t v next f (inr h) = let e = h.1 in cc
  open_never declared_shape ty t v next f h = elim (after_ended (h.0) next spent (h.2)) [
    | inl q ↦
        let run : WorldExtracts p w t v (ended spent) = subst (WorldExtracts p w t v) q (h.1) in
        let e = (judged_ended _ _ _ spent (run.judged)).1 in cc
    | inr k ↦ f (k.0) (k.2)
  ]

  mutual
    pattern_never : (q : TypedPattern) (a : ℕ → Value) (v : Value) → PatternRuns p w a q v (ended spent) → ⊥
    pattern_never (typed_bind ty k q) a v run = elim (after_ended (run.0) _ spent (run.2)) [
      | inl o ↦ pattern_never q a v (subst (PatternRuns p w a q v) o (run.1))
      | inr h ↦ (let e = h.2 in cc)
    ]
    pattern_never (typed_var ty k) a v run = test_never _ a run
    pattern_never (typed_bool ty b) a v run = test_never _ a run
    pattern_never (typed_int ty m) a v run = test_never _ a run
    pattern_never (typed_prim ty m) a v run = test_never _ a run
    pattern_never (typed_term ty t qs) a v run =
        open_never (p.terms.shape t) ty t v (λ vs r. PatternsRun p w a qs vs r) (λ vs h. patterns_never qs a vs h) run
    pattern_never (typed_wildcard ty) a v run = cc
    pattern_never (typed_and ty qs) a v run = each_never qs a v run

    patterns_never : (qs : TypedPatterns) (a : ℕ → Value) (vs : Values) → PatternsRun p w a qs vs (ended spent) → ⊥
    patterns_never no_typed a no_values run = cc
    patterns_never no_typed a (more_values v vs) run = cc
    patterns_never (more_typed q qs) a no_values run = cc
    patterns_never (more_typed q qs) a (more_values v vs) run = elim (after_ended (run.0) _ spent (run.2)) [
      | inl o ↦ pattern_never q a v (subst (PatternRuns p w a q v) o (run.1))
      | inr h ↦ patterns_never qs (h.0) vs (h.2)
    ]

    each_never : (qs : TypedPatterns) (a : ℕ → Value) (v : Value) → EachRuns p w a qs v (ended spent) → ⊥
    each_never no_typed a v run = cc
    each_never (more_typed q qs) a v run = elim (after_ended (run.0) _ spent (run.2)) [
      | inl o ↦ pattern_never q a v (subst (PatternRuns p w a q v) o (run.1))
      | inr h ↦ each_never qs (h.0) v (h.2)
    ]

-- no rule is spent of whose calls none is
module _ (p : CheckedProgram) (w : Answers) (below : ℕ → Values → List Event → Outcome Value → Type 0) (Q : ℕ → Type 0)
    (never : (u : ℕ) (vs : Values) (effects : List Event) → Q u → p.has_rules u ≡ true → below u vs effects (ended spent) → ⊥) where
  pub pure_never : (b : Bool) (u : ℕ) (vs : Values) → p.has_rules u ≡ b → Q u → ConstructsIf p w below b u vs (ended spent) → ⊥
  pure_never true u vs e q run = never u vs [] q e run
  pure_never false u vs e q run = let o = (judged_ended _ _ _ spent (run.judged)).1 in cc

  pub impure_never : (b : Bool) (u : ℕ) (vs : Values) (effects : List Event) → p.has_rules u ≡ b → Q u
      → EffectsIf p below b u vs effects (ended spent) → ⊥
  impure_never true u vs effects e q run = never u vs effects q e run
  impure_never false u vs effects e q run = let o = (judged_ended _ _ _ spent (run.judged)).1 in cc

  module _ (a : ℕ → Value) (done : List (Option Value)) where
    mutual
      word_never : (x : Word) → WordCalls Q x → WordRuns p w below a done x (ended spent) → ⊥
      word_never (var_word k) q run = cc
      word_never (bool_word ty b) q run = cc
      word_never (int_word ty k) q run = cc
      word_never (prim_word name) q run = cc
      word_never (variant_word ty k ws) q run = elim (after_ended _ _ spent (run.2)) [
        | inl o ↦ words_never ws q (subst (WordsRun p w below a done ws) o (run.1))
        | inr h ↦ (let e = h.2 in cc)
      ]
      word_never (struct_word ty ws) q run = elim (after_ended _ _ spent (run.2)) [
        | inl o ↦ words_never ws q (subst (WordsRun p w below a done ws) o (run.1))
        | inr h ↦ (let e = h.2 in cc)
      ]
      word_never (call_word t ws zero) q run = elim (after_ended _ _ spent (run.2)) [
        | inl o ↦ words_never ws (q.1) (subst (WordsRun p w below a done ws) o (run.1))
        | inr h ↦ pure_never (p.has_rules t) t (h.0) refl (q.0) (h.2)
      ]
      word_never (call_word t ws (suc i)) q run =
          elim (after_ended (run.0) (λ (vs : Values) (r : Outcome Value). (x : Value) × (slice_get done i ≡ Some (Some x))
          × (r ≡ given x)) spent (run.2)) [
            | inl o ↦ words_never ws (q.1) (subst (WordsRun p w below a done ws) o (run.1))
            | inr h ↦ (let e = h.2.2 in cc)
          ]

      words_never : (xs : Words) → WordsCall Q xs → WordsRun p w below a done xs (ended spent) → ⊥
      words_never no_words q run = cc
      words_never (more_words x xs) q run = elim (after_ended (run.0) (λ (v : Value) (r : Outcome Values). (h : Outcome Values)
          × WordsRun p w below a done xs h × After h (λ vs r. r ≡ given (more_values v vs)) r) spent (run.2)) [
            | inl o ↦ word_never x (q.0) (subst (WordRuns p w below a done x) o (run.1))
            | inr h ↦ elim (after_ended (h.2.0) _ spent (h.2.2)) [
              | inl o ↦ words_never xs (q.1) (subst (WordsRun p w below a done xs) o (h.2.1))
              | inr k ↦ (let e = k.2 in cc)
            ]
          ]

  iflets_never : (xs : List TypedIfLet) (a : ℕ → Value) → ((u : ℕ) → IsCalledInIfLets p.terms xs u → Q u)
      → IfLetsRun p w below a xs (ended spent) → ⊥
  iflets_never [] a f run = cc
  iflets_never (x ∷ xs) a f run = elim (after_ended (run.0) (λ (v : Value) (r : Outcome (ℕ → Value)). (o : Outcome (ℕ → Value))
      × PatternRuns p w a x.pattern v o × After o (λ b r. IfLetsRun p w below b xs r) r) spent (run.2)) [
        | inl o ↦ word_never a [] (word_of p.terms x.value)
            ((word_calls p.terms Q x.value (expr_called p.terms Q x.value (λ u h. f u (inl h)))).0)
            (subst (WordRuns p w below a [] (word_of p.terms x.value)) o (run.1))
        | inr h ↦ elim (after_ended (h.2.0) _ spent (h.2.2)) [
          | inl o ↦ pattern_never p w x.pattern a (h.0) (subst (PatternRuns p w a x.pattern (h.0)) o (h.2.1))
          | inr k ↦ iflets_never xs (k.0) (λ u h. f u (inr h)) (k.2)
        ]
      ]

  rule_never : (rule : TypedRule) (args : Values) → ((u : ℕ) → IsCalledInIfLets p.terms rule.iflets u → Q u)
      → RuleRuns p w below args rule (ended spent) → ⊥
  rule_never rule args f run = elim (after_ended (run.0) _ spent (run.2)) [
    | inl o ↦ patterns_never p w rule.args _ args (subst (PatternsRun p w _ rule.args args) o (run.1))
    | inr h ↦ iflets_never rule.iflets (h.0) f (h.2)
  ]

  right_never : (a : ℕ → Value) (result : Word) → WordCalls Q result → (steps : List Step) → EachStep (StepCalls Q) steps
      → (done : List (Option Value)) (trace : List Event) → RightRuns p w below a done steps result trace (ended spent) → ⊥
  right_never a result q [] s done trace run = word_never a done result q (run.1)
  right_never a result q (s ∷ steps) k done trace run =
      elim (then_ended (run.0) (λ (vs : Values) (trace : List Event) (r : Outcome Value). (effects : List Event) × (rest : List Event)
      × (b : Outcome Value) × (trace ≡ effects ++ rest) × ImpureRuns p below s.term vs effects b
      × Then b (λ x rest r. RightRuns p w below a (done ++ Some x ∷ []) steps result rest r) rest r) trace spent (run.2)) [
        | inl o ↦ words_never a done s.args (k.0.1) (subst (WordsRun p w below a done s.args) (o.0) (run.1))
        | inr h ↦ elim (then_ended (h.2.2) (λ (x : Value) (rest : List Event) (r : Outcome Value).
            RightRuns p w below a (done ++ Some x ∷ []) steps result rest r) (h.2.1) spent (h.2.5)) [
              | inl o ↦ impure_never (p.has_rules s.term) s.term (h.0) (h.2.0) refl (k.0.0)
                  (subst (ImpureRuns p below s.term (h.0) (h.2.0)) (o.0) (h.2.4))
              | inr v ↦ right_never a result q steps (k.1) (done ++ Some (v.0) ∷ []) (h.2.1) (v.2)
            ]
      ]

module _ (p : CheckedProgram) (w : Answers) (below : ℕ → Values → List Event → Outcome Value → Type 0) (t : ℕ) (args : Values)
    (never : (u : ℕ) (vs : Values) (effects : List Event) → Calls p t u → below u vs effects (ended spent) → ⊥) where
  -- none is left to be tried
  unmatched_never : (b : Bool) → ended spent ≡ unmatched b t args → ⊥
  unmatched_never true e = cc
  unmatched_never false e = cc

  -- rules that are tried aren't spent
  rules_never : (places : List ℕ) → ((i : ℕ) → Has places i → (rule : TypedRule) × IsRuleAt p t i rule) → (steps : ℕ) (trace : List Event)
      → RulesRun p w below t args places steps trace (ended spent) → ⊥
  rules_never [] of steps trace run = unmatched_never (p.terms.partial t) (run.2)
  rules_never (i ∷ is) of steps trace run =
      let rule : TypedRule = run.0 in
      let its = of i (inl refl) in
      let at : IsRuleAt p t i rule = subst (IsRuleAt p t i) (one_rule p i i (its.0) rule refl (its.1.listed) (run.1)) (its.1) in
      let call : (u : ℕ) → p.has_rules u ≡ true → IsCalledInRule p.terms rule u → Calls p t u =
      λ u r h. record { place = i; rule = rule; at = at; called = h; has_rules = r } in
      let below_never : (u : ℕ) (vs : Values) (effects : List Event) → IsCalledInRule p.terms rule u → p.has_rules u ≡ true
      → below u vs effects (ended spent) → ⊥ = λ u vs effects h r run. never u vs effects (call u r h) run in
      let calls = word_calls p.terms (IsCalledInRule p.terms rule) rule.right
      (expr_called p.terms (IsCalledInRule p.terms rule) rule.right (λ u h. inr h)) in
      elim (tried_ended (run.2) (λ a trace r. RightRuns p w below a [] (steps_of p.terms rule.right) (word_of p.terms rule.right) trace r)
      (RulesRun p w below t args is) steps trace spent (run.4)) [
        | inl h ↦ right_never p w below (IsCalledInRule p.terms rule) below_never (h.0) (word_of p.terms rule.right) (calls.0)
            (steps_of p.terms rule.right) (calls.1) [] trace (h.2)
        | inr h ↦ elim h [
          | inl m ↦ rules_never is (λ j k. of j (inr k)) (m.1.0) trace (m.1.1)
          | inr q ↦ rule_never p w below (IsCalledInRule p.terms rule) below_never rule args (λ u h. inl h)
              (subst (RuleRuns p w below args rule) (q.0) (run.3))
        ]
      ]

module _ (p : CheckedProgram) (w : Answers) (acyclic : (t : ℕ) → Reaches p t t → ⊥) where
  -- a run at a depth of at least the number of terms that are reached
  spent_never : (n : ℕ) (terms : List ℕ) (t : ℕ) → length terms ≤ n → Has terms t → ((v : ℕ) → Reaches p t v → Has terms v)
      → (args : Values) (steps : ℕ) (trace : List Event) → PlainRun p w n t args steps trace (ended spent) → ⊥
  spent_never zero [] t l has reached args steps trace run = has
  spent_never zero (x ∷ xs) t l has reached args steps trace run = omega (arith, l)
  spent_never (suc n) terms t l has reached args steps trace (places, order, run) =
      let (others, shorter, kept) = taken terms t has in
      rules_never p w (λ u vs effects q. (tried : ℕ) × PlainRun p w n u vs tried effects q) t args
      (λ u vs effects calls run. spent_never n others u (omega (arith, l, shorter))
      (kept u (reached u (at_once calls)) (λ e. acyclic t (subst (Reaches p t) e (at_once calls))))
      (λ v h. kept v (reached v (onwards calls h)) (λ e. acyclic t (subst (Reaches p t) e (onwards calls h)))) vs (run.0) effects (run.1))
      places (λ i h. (order.all i).0 (has_contains places i h)) steps trace run
    where
      has_contains : (xs : List ℕ) (i : ℕ) → Has xs i → Contains xs i
      has_contains [] i h = absurd h
      has_contains (x ∷ xs) i (inl e) = (0, omega arith, sym e)
      has_contains (x ∷ xs) i (inr h) = let (k, within, is) = has_contains xs i h in (suc k, omega (arith, within), is)

-- Where no term reaches itself, no plain run is spent at a depth of at least the number of terms with rules.
pub no_cycles_none_spent : NoCyclesNoneSpent
no_cycles_none_spent p w acyclic terms all n t args steps trace l ruled run =
    spent_never p w acyclic n terms t l (contained terms t (all t ruled)) (λ v h. contained terms v (all v (reached_ruled t v h))) args steps
    trace run
  where
    reached_ruled : (t v : ℕ) → Reaches p t v → p.has_rules v ≡ true
    reached_ruled t v (at_once h) = h.has_rules
    reached_ruled t v (onwards h k) = reached_ruled _ v k
