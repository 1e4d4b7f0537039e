-- What the world answers is one thing.
use Rattle.std.proofs.Common.{◌≡◌, ◌⊎◌, inl, inr, ℕ, List, [], ◌∷◌, Option, refl, sym, ◌∙◌, ap, subst}
use Rattle.isle_rules.specs.Values.{ValueTree, ValueTrees}
use Rattle.isle_meaning.specs.Asking.{Asked, asks_value, asks_outputs}
use Rattle.isle_meaning.specs.Laws.Calls.{FirstDiffer}
use Rattle.isle_meaning.specs.Outcomes.{Outcome, Judged, WorldConstructs, WorldExtracts, WorldEffects}
use Rattle.isle_meaning.specs.SoundPrograms.{HasSoundData}
use Rattle.isle_meaning.specs.Values.{Value, Values}
use Rattle.isle_meaning.specs.Worlds.{CheckedProgram, Answers, AllowsValue, AllowsOutputs, answer_value, answer_values, Event}
use Rattle.isle_meaning.proofs.Chains.Stable.{one_answer}
use Rattle.isle_meaning.proofs.Chains.Trees.{trees_are_one, all_trees_are_one}

-- one answer is judged one way
judged_one : {A : Type 0} (allowed : Type 0) (answer : Option A) (q : Asked) (r s : Outcome A) → Judged allowed answer q r
    → Judged allowed answer q s → r ≡ s
judged_one allowed answer q r s (inl h) (inl k) = h.1 ∙ sym (k.1)
judged_one allowed answer q r s (inl h) (inr k) = absurd (k.0 (h.0))
judged_one allowed answer q r s (inr h) (inl k) = absurd (h.0 (k.0))
judged_one allowed answer q r s (inr h) (inr k) = h.1 ∙ sym (k.1)

module _ (p : CheckedProgram) (w : Answers) (data_sound : HasSoundData p) where
  -- a pure constructor has one answer
  pub constructs_one : (u : ℕ) (vs : Values) (r s : Outcome Value) → WorldConstructs p w u vs r → WorldConstructs p w u vs s → r ≡ s
  constructs_one u vs r s h k =
      let same : h.args ≡ k.args = all_trees_are_one p data_sound (h.args) (k.args) (p.terms.inputs u) (h.typed)
      (k.typed) (h.stand ∙ sym (k.stand)) in
      judged_one (AllowsValue p u (w.construct u k.args)) (answer_value p (w.construct u k.args)) (asks_value u vs) r s
      (subst (λ (z : ValueTrees). Judged (AllowsValue p u (w.construct u z)) (answer_value p (w.construct u z)) (asks_value u vs) r) same h.judged)
      k.judged

  -- an extractor has one answer
  pub extracts_one : (u : ℕ) (v : Value) (r s : Outcome Values) → WorldExtracts p w u v r → WorldExtracts p w u v s → r ≡ s
  extracts_one u v r s h k =
      let same : h.arg ≡ k.arg = trees_are_one p data_sound (h.arg) (k.arg) (p.terms.type_of u) (h.typed) (k.typed) (h.stands ∙ sym (k.stands)) in
      judged_one (AllowsOutputs p u (w.extract u k.arg)) (answer_values p (w.extract u k.arg)) (asks_outputs u v) r s
      (subst (λ (z : ValueTree). Judged (AllowsOutputs p u (w.extract u z)) (answer_values p (w.extract u z)) (asks_outputs u v) r) same h.judged)
      k.judged

  -- an effect has one, where effects don't first differ in an answer
  pub effects_one : (u : ℕ) (vs : Values) (effects other : List Event) (r s : Outcome Value) → WorldEffects p u vs effects r
      → WorldEffects p u vs other s
      → (FirstDiffer effects other → ⊥) → (effects ≡ other) × (r ≡ s)
  effects_one u vs effects other r s h k alike =
      let one : Event = record { term = u; args = h.args; answer = h.answer } in
      let two : Event = record { term = u; args = k.args; answer = k.answer } in
      let args : h.args ≡ k.args = all_trees_are_one p data_sound (h.args) (k.args) (p.terms.inputs u) (h.typed)
      (k.typed) (h.stand ∙ sym (k.stand)) in
      let answers : h.answer ≡ k.answer = one_answer one two refl args (λ d. alike (subst (λ (l : List Event). FirstDiffer l other) (sym h.alone)
      (subst (λ (l : List Event). FirstDiffer (one ∷ []) l) (sym k.alone) d))) in
      let same : one ≡ two = ap (λ (t : ValueTrees). record { term = u; args = t; answer = h.answer }) args
      ∙ ap (λ (z : Option ValueTree). record { term = u; args = k.args; answer = z }) answers in (
        h.alone ∙ ap (λ (z : Event). z ∷ []) same ∙ sym k.alone,
        judged_one (AllowsValue p u k.answer) (answer_value p k.answer) (asks_value u vs) r s
            (subst (λ (z : Option ValueTree). Judged (AllowsValue p u z) (answer_value p z) (asks_value u vs) r) answers h.judged) k.judged,
      )
