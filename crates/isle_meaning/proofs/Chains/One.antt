-- One call has one meaning, where completions answer every pure call.
use Rattle.std.proofs.Common.{◌≡◌, inl, inr, ◌≤ℤ◌, ℕ, zero, suc, List, [], ◌∷◌, true, Option, refl, sym, ◌∙◌, subst, arith}
use Rattle.std.proofs.lemmas.Int.{ints}
use Rattle.isle_rules.specs.TypedRules.{TypedIfLet, TypedRule}
use Rattle.isle_meaning.specs.Got.{gives}
use Rattle.isle_meaning.specs.Values.{Value, Values}
use Rattle.isle_meaning.specs.Words.{Word, var_word, bool_word, int_word, prim_word, variant_word, struct_word, call_word, Words}
use Rattle.isle_meaning.specs.Words.{no_words, more_words, Step, word_of, steps_of}
use Rattle.isle_meaning.specs.Answers.{Completion}
use Rattle.isle_meaning.specs.Matching.{MatchesWith}
use Rattle.isle_meaning.specs.Held.{held_value, value}
use Rattle.isle_meaning.specs.Demands.{vars_of}
use Rattle.isle_meaning.specs.Scopes.{Reads, ReadAll, scope_of}
use Rattle.isle_meaning.specs.Worlds.{CheckedProgram, Answers, Event}
use Rattle.isle_meaning.specs.RightSides.{RightOf}
use Rattle.isle_meaning.specs.Calls.{Makes, IsRuleAt, Told, CoversAll, Means}
use Rattle.isle_meaning.proofs.Matching.Whole.{both_forward}
use Rattle.isle_meaning.specs.SoundPrograms.{AskNothingImpure, IsSound, IsSoundRule}
use Rattle.isle_meaning.specs.Inside.TypedWords.{IsTypedWord, AreTypedWords, AreTypedSteps}
use Rattle.isle_meaning.specs.Laws.Calls.{AreOne, HasNoTies, IsTotal, HasCompletions, OneMeaning}
use Rattle.isle_meaning.proofs.Calls.WordTyping.{calls_types, expr_typed}
use Rattle.isle_meaning.proofs.Chains.Asks.{HaveNoSteps}
use Rattle.isle_meaning.proofs.Chains.Causing.{steps_are_causal}
use Rattle.isle_meaning.proofs.Chains.Totals.{total_rule}
use Rattle.isle_meaning.proofs.Chains.Unique.{One, makes_one, EachStep, right_one, right_same}

module _ (p : CheckedProgram) (R S : ℕ → Type 0) (G D : ℕ → ℕ) where
  mutual
    -- a typed word reads variables of the scope alone
    pub typed_reads : (w : Word) (u : ℕ) → IsTypedWord p R S G D w u → Reads p.terms w S
    typed_reads (var_word k) u t = t.0
    typed_reads (bool_word ty b) u t = tt
    typed_reads (int_word ty n) u t = tt
    typed_reads (prim_word n) u t = tt
    typed_reads (variant_word ty k ws) u t = typed_read_all ws _ (t.2)
    typed_reads (struct_word ty ws) u t = typed_read_all ws _ (t.2)
    typed_reads (call_word t ws zero) u h = (h.2, typed_read_all ws _ (h.3))
    typed_reads (call_word t ws (suc i)) u h = (h.3, typed_read_all ws _ (h.4))

    -- so do typed words
    pub typed_read_all : (ws : Words) (us : List ℕ) → AreTypedWords p R S G D ws us → ReadAll p.terms ws S
    typed_read_all no_words us t = tt
    typed_read_all (more_words w ws) [] t = absurd t
    typed_read_all (more_words w ws) (u ∷ us) t = (typed_reads w u (t.0), typed_read_all ws us (t.1))

  -- so do typed calls
  pub steps_read : (n : ℕ) (steps : List Step) → AreTypedSteps p R S G D n steps → EachStep (λ s. ReadAll p.terms s.args S) steps
  steps_read n [] t = tt
  steps_read n (s ∷ steps) t = (typed_read_all s.args _ (t.0.3), steps_read (suc n) steps (t.2))

  -- and of the terms with rules they call only these
  pub steps_call : (n : ℕ) (steps : List Step) → AreTypedSteps p R S G D n steps
      → EachStep (λ s. p.has_rules s.term ≡ true → R s.term) steps
  steps_call n [] t = tt
  steps_call n (s ∷ steps) t = (t.0.1, steps_call (suc n) steps (t.2))

-- if-lets that ask nothing impure have no steps
pub no_steps : (p : CheckedProgram) (xs : List TypedIfLet) → AskNothingImpure p xs → HaveNoSteps p.terms xs
no_steps p [] h = tt
no_steps p (x ∷ xs) h = (h.0, no_steps p xs (h.1))

-- something weaker of each step
pub each_map : (P Q : Step → Type 0) (steps : List Step) → ((s : Step) → P s → Q s) → EachStep P steps → EachStep Q steps
each_map P Q [] f h = tt
each_map P Q (s ∷ steps) f h = (f s (h.0), each_map P Q steps f (h.1))

-- what two assignments under which a rule matches say of its variables is one
pub matches_are_one : (p : CheckedProgram) (R : ℕ → Type 0) (c : Completion) (args : Values) (rule : TypedRule) (a b : ℕ → Value)
    → IsSoundRule p R rule → MatchesWith p.terms c args rule a → MatchesWith p.terms c args rule b → (k : ℕ) → scope_of rule k → a k ≡ b k
matches_are_one p R c args rule a b sound m n k i =
    let one : value p.terms c args [] (vars_of p.terms rule k) ≡ gives (held_value (a k)) =
    (both_forward p.terms c args rule (sound.well) a m).1 k i in
    let other : value p.terms c args [] (vars_of p.terms rule k) ≡ gives (held_value (b k)) =
    (both_forward p.terms c args rule (sound.well) b n).1 k i in
    cc

module _ (p : CheckedProgram) (R : ℕ → Type 0) (sound : IsSound p R) (ties : HasNoTies p R) where
  -- two rules that are chosen are one
  chosen_one : (c : Completion) (t : ℕ) (args : Values) (i j : ℕ) (one other : TypedRule) (a b : ℕ → Value) → R t → IsRuleAt p t i one
      → IsRuleAt p t j other → MatchesWith p.terms c args one a → MatchesWith p.terms c args other b → other.priority ≤ℤ one.priority
      → one.priority ≤ℤ other.priority → one ≡ other
  chosen_one c t args i j one other a b r h k m n up down =
      ties c t args i j one other r h k (a, m) (b, n) (omega (arith, ints, up, down))

  -- one rule does one thing
  rule_one : (below : ℕ → Values → List Event → Option Value → Type 0) → One R below → (c : Completion) → IsTotal c → (args : Values)
      (rule : TypedRule) (a b : ℕ → Value) (one other : List Event) (x y : Option Value) → IsSoundRule p R rule
      → MatchesWith p.terms c args rule a → MatchesWith p.terms c args rule b → RightOf p.terms c (Makes p below) a rule one x
      → RightOf p.terms c (Makes p below) b rule other y → AreOne one x other y
  rule_one below ih c total args rule a b one other x y is m n h k =
      let causal = steps_are_causal p.terms rule.right in
      let typed = expr_typed p R (scope_of rule) (is.var_types) rule.right (p.terms.type_of rule.root) (is.well.right) (is.typed.right)
      (is.right) in
      let D : ℕ → ℕ = calls_types p rule.right in
      let reads : EachStep (λ s. ReadAll p.terms s.args (scope_of rule)) (steps_of p.terms rule.right) =
      steps_read p R (scope_of rule) (is.var_types) D 0 (steps_of p.terms rule.right) (typed.1) in
      let calls : EachStep (λ s. p.has_rules s.term ≡ true → R s.term) (steps_of p.terms rule.right) =
      steps_call p R (scope_of rule) (is.var_types) D 0 (steps_of p.terms rule.right) (typed.1) in
      let moved : RightOf p.terms c (Makes p below) a rule other y =
      right_same p.terms c b a (scope_of rule) (matches_are_one p R c args rule b a is n m) (Makes p below) []
      (steps_of p.terms rule.right) (word_of p.terms rule.right) other y reads
      (typed_reads p R (scope_of rule) (is.var_types) D (word_of p.terms rule.right) _ (typed.0)) k in
      right_one c total (Makes p below) a (word_of p.terms rule.right) [] [] refl (steps_of p.terms rule.right) (causal.0) (causal.1)
      (each_map _ _ (steps_of p.terms rule.right)
      (λ s r vs u v q z. makes_one p (sound.data_sound) R below ih (p.has_rules s.term) s.term vs u v q z refl r)
      calls) one other x y h moved

  -- what is told under one total completion is one
  told_one : (below : ℕ → Values → List Event → Option Value → Type 0) → One R below → (c : Completion) → IsTotal c
      → (t : ℕ) (args : Values) (one other : List Event) (x y : Option Value) → R t → Told p below c t args one x
      → Told p below c t args other y → AreOne one x other y
  told_one below ih c total t args one other x y r (inl h) (inl k) =
      let same : h.chosen ≡ k.chosen = chosen_one c t args (h.place) (k.place) (h.chosen) (k.chosen) (h.variables) (k.variables) r
      (h.at) (k.at) (h.matches) (k.matches) (h.greatest (k.place) (k.chosen) (k.at) (k.variables, k.matches))
      (k.greatest (h.place) (h.chosen) (h.at) (h.variables, h.matches)) in
      let is : IsSoundRule p R (h.chosen) = sound.rules (h.place) (h.chosen) (h.at.listed) (subst R (sym (h.at.of_term)) r) in
      rule_one below ih c total args (h.chosen) (h.variables) (k.variables) one other x y is (h.matches)
      (subst (λ (z : TypedRule). MatchesWith p.terms c args z (k.variables)) (sym same) (k.matches)) (h.right)
      (subst (λ (z : TypedRule). RightOf p.terms c (Makes p below) (k.variables) z other y) (sym same) (k.right))
  told_one below ih c total t args one other x y r (inl h) (inr k) = absurd (k.none (h.place) (h.chosen) (h.at) (h.variables, h.matches))
  told_one below ih c total t args one other x y r (inr h) (inl k) = absurd (h.none (k.place) (k.chosen) (k.at) (k.variables, k.matches))
  told_one below ih c total t args one other x y r (inr h) (inr k) =
      inl (h.failure.nothing ∙ sym (k.failure.nothing), h.failure.none ∙ sym (k.failure.none))

  -- a total completion covers the rules of a term that is run
  total_covers : (c : Completion) → IsTotal c → (t : ℕ) (args : Values) → R t → CoversAll p c t args
  total_covers c total t args r i rule at =
      total_rule p.terms c total args rule
      (no_steps p rule.iflets ((sound.rules i rule (at.listed) (subst R (sym (at.of_term)) r)).pure_iflets))

  -- Two meanings of one call are one, where at each depth a completion answers every pure call.
  pub meanings_are_one : (w : Answers) → HasCompletions p w → (n : ℕ) → One R (Means p w n)
  meanings_are_one w complete zero t args one other x y r h k = absurd h
  meanings_are_one w complete (suc n) t args one other x y r h k =
      let (c, agrees, total) = complete n in
      told_one (Means p w n) (meanings_are_one w complete n) c total t args one other x y r
      (h.1 c agrees (total_covers c total t args r)) (k.1 c agrees (total_covers c total t args r))

-- Two meanings of one call are one, where completions answer every pure call.
pub one_meaning : OneMeaning
one_meaning p w run sound ties complete n t args one other x y r h k =
    meanings_are_one p (λ u. run u ≡ true) sound ties w complete n t args one other x y r h k
