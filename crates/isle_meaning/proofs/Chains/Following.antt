-- Two right sides of one rule, each of which goes on under every completion with more answers, do one thing.
use Rattle.std.proofs.Common.{◌≡◌, ◌≢◌, inl, inr, ℕ, suc, ◌++◌, List, [], ◌∷◌, length, Option, Some, None}
use Rattle.std.proofs.Common.{refl, sym, ◌∙◌, ap, subst, append_assoc, append-nil}
use Rattle.isle_meaning.specs.Got.{Got, unknown, fails, gives}
use Rattle.isle_meaning.specs.Values.{Value, Values}
use Rattle.isle_meaning.specs.Words.{Word, Step}
use Rattle.isle_meaning.specs.Answers.{Completion}
use Rattle.isle_meaning.specs.Matching.{word_value, word_values}
use Rattle.isle_meaning.specs.Worlds.{CheckedProgram, Answers, Event}
use Rattle.isle_meaning.specs.RightSides.{IsFailure, on_got, on_answer, Right}
use Rattle.isle_meaning.specs.Calls.{Agrees}
use Rattle.isle_meaning.specs.Laws.Calls.{FirstDiffer, AreOne, Surely, Extends}
use Rattle.isle_meaning.proofs.Chains.Asks.{WordCalls, StepCalls}
use Rattle.isle_meaning.proofs.Chains.Causing.{Cites, Causal, length_more}
use Rattle.isle_meaning.proofs.Chains.Growing.{extends_self, extends_on}
use Rattle.isle_meaning.proofs.Chains.Knowing.{words_more, CanGrow, know_word, know_words}
use Rattle.isle_meaning.proofs.Chains.Surely.{surely, follows}
use Rattle.isle_meaning.proofs.Chains.Unique.{ahead, behind, EachStep, end_one}

-- the same effects before others
cancel : (xs ys zs : List Event) → xs ++ ys ≡ xs ++ zs → ys ≡ zs
cancel [] ys zs e = e
cancel (x ∷ xs) ys zs e = let q : xs ++ ys ≡ xs ++ zs = cc in cancel xs ys zs q

-- no effects differ from themselves
no_self : (s : List Event) → FirstDiffer s s → ⊥
no_self s d = go (cancel (d.shared) (d.here ∷ d.more) (d.there ∷ d.others) (sym (d.one_is) ∙ d.other_is))
  where
    go : d.here ∷ d.more ≡ d.there ∷ d.others → ⊥
    go e = let q : d.here ≡ d.there = cc in d.answer (ap (λ (x : Event). x.answer) q)

-- nor whatever follows
clash : (one other rest rest' : List Event) → FirstDiffer one other → one ++ rest ≡ other ++ rest' → ⊥
clash one other rest rest' d e =
    no_self (one ++ rest) (subst (λ (s : List Event). FirstDiffer (one ++ rest) s) (sym e) (behind one other rest rest' d))

-- what each call of a term does
abbrev pub OneOf : (ℕ → Values → List Event → Option Value → Type 0) → ℕ → Type 0
OneOf makes t = (vs : Values) (one other : List Event) (a b : Option Value) → makes t vs one a → makes t vs other b → AreOne one a other b

module _ (p : CheckedProgram) (w : Answers) (below : ℕ → Values → List Event → Option Value → Type 0) (C E : ℕ → Type 0)
    (grow : CanGrow p w below C E) (makes : ℕ → Values → List Event → Option Value → Type 0) (a : ℕ → Value) (result : Word) where
  -- a right side goes on so under every completion that agrees and has more answers
  abbrev pub GoesOn : Completion → List (Option Value) → List Step → List Event → Option Value → Type 0
  GoesOn c done steps trace x = (d : Completion) → Agrees p w below d → Extends c d → Right d makes a done steps result trace x

  -- the next call, and what follows it
  pub record Goes (c : Completion) (done : List (Option Value)) (s : Step) (steps : List Step) (vs : Values) (trace : List Event)
      (x : Option Value) : Type 0 where
    pub effects : List Event
    pub rest : List Event
    pub answer : Option Value
    pub split : trace ≡ effects ++ rest
    pub made : makes s.term vs effects answer
    pub after : on_answer answer (IsFailure rest x) (GoesOn c (done ++ answer ∷ []) steps rest x)

  -- what a right side does from a step on, whose arguments have these values
  abbrev Rest : Completion → List (Option Value) → Step → List Step → List Event → Option Value → Values → Type 0
  Rest d done s steps trace x vs =
      (effects : List Event) × (rest : List Event) × (b : Option Value) × (trace ≡ effects ++ rest) × makes s.term vs effects b
      × on_answer b (IsFailure rest x) (Right d makes a (done ++ b ∷ []) steps result rest x)

  -- a step under a completion with more answers
  rest_at : (c d : Completion) → Agrees p w below d → Extends c d
      → (done : List (Option Value)) (s : Step) (steps : List Step) (vs : Values)
      (trace : List Event) (x : Option Value) → word_values c a done s.args ≡ gives vs → GoesOn c done (s ∷ steps) trace x
      → Rest d done s steps trace x vs
  rest_at c d ag ex done s steps vs trace x e f =
      let same : word_values d a done s.args ≡ gives vs = words_more c d ex a done s.args (λ u. (let z = sym u ∙ e in cc)) ∙ e in
      subst (λ (g : Got Values). on_got g (IsFailure trace x) (Rest d done s steps trace x)) same (f d ag ex)

  -- what follows an answer
  after_step : (c : Completion) → (done : List (Option Value)) (s : Step) (steps : List Step) (vs : Values) (trace : List Event)
      (x : Option Value)
      → OneOf makes s.term → word_values c a done s.args ≡ gives vs → GoesOn c done (s ∷ steps) trace x → (effects rest : List Event)
      (b : Option Value) → trace ≡ effects ++ rest → makes s.term vs effects b
      → on_answer b (IsFailure rest x) (Right c makes a (done ++ b ∷ []) steps result rest x)
      → on_answer b (IsFailure rest x) (GoesOn c (done ++ b ∷ []) steps rest x)
  after_step c done s steps vs trace x ih e f effects rest None split made h = h
  after_step c done s steps vs trace x ih e f effects rest (Some v) split made h =
      λ d ag ex. at d ag ex (rest_at c d ag ex done s steps vs trace x e f)
    where
      at : (d : Completion) → Agrees p w below d → Extends c d → Rest d done s steps trace x vs
          → Right d makes a (done ++ Some v ∷ []) steps result rest x
      at d ag ex k = elim (ih vs (k.0) effects (k.2) (Some v) (k.4) made) [
        | inr q ↦ absurd (clash (k.0) effects (k.1) rest q (sym (k.3) ∙ split))
        | inl both ↦
            let moved : on_answer (Some v) (IsFailure (k.1) x) (Right d makes a (done ++ Some v ∷ []) steps result (k.1) x) =
            subst (λ (b : Option Value). on_answer b (IsFailure (k.1) x) (Right d makes a (done ++ b ∷ []) steps result (k.1) x))
            (both.1) (k.5) in
            let tails : k.1 ≡ rest = cancel effects (k.1) rest (ap (λ (l : List Event). l ++ k.1) (sym (both.0)) ∙ (sym (k.3) ∙ split)) in
            subst (λ (l : List Event). Right d makes a (done ++ Some v ∷ []) steps result l x) tails moved
      ]

  -- The next call of a right side that goes on, and that it goes on.
  pub goes : (c : Completion) → Agrees p w below c → (done : List (Option Value)) (s : Step) (steps : List Step) (vs : Values)
      (trace : List Event) (x : Option Value) → OneOf makes s.term → word_values c a done s.args ≡ gives vs
      → GoesOn c done (s ∷ steps) trace x → Goes c done s steps vs trace x
  goes c ag done s steps vs trace x ih e f =
      let h = rest_at c c ag (extends_self c) done s steps vs trace x e f in
      record {
        effects = h.0;
        rest = h.1;
        answer = h.2;
        split = h.3;
        made = h.4;
        after = after_step c done s steps vs trace x ih e f (h.0) (h.1) (h.2) (h.3) (h.4) (h.5);
      }

  -- it goes on under more answers
  pub goes_more : (c d : Completion) → Extends c d
      → (done : List (Option Value)) (steps : List Step) (trace : List Event) (x : Option Value)
      → GoesOn c done steps trace x → GoesOn d done steps trace x
  goes_more c d ex done steps trace x f = λ e ag ex'. f e ag (extends_on c d e ex ex')

  -- where a needed call fails, it ends
  pub failed : (c : Completion) → Agrees p w below c → (done : List (Option Value)) (s : Step) (steps : List Step) (trace : List Event)
      (x : Option Value) → word_values c a done s.args ≡ fails → GoesOn c done (s ∷ steps) trace x → IsFailure trace x
  failed c ag done s steps trace x e f =
      subst (λ (g : Got Values). on_got g (IsFailure trace x) (Rest c done s steps trace x)) e (f c ag (extends_self c))

  -- two that go on do one thing
  abbrev FollowOne : List (Option Value) → List Step → Type 0
  FollowOne done steps = (c : Completion) → Agrees p w below c → (one other : List Event) (x y : Option Value) → GoesOn c done steps one x
      → GoesOn c done steps other y → Surely (AreOne one x other y)

  -- after an answer
  answers_follow : (c : Completion) → Agrees p w below c → (done : List (Option Value)) (steps : List Step) (b : Option Value)
      → FollowOne (done ++ b ∷ []) steps → (one other : List Event) (x y : Option Value)
      → on_answer b (IsFailure one x) (GoesOn c (done ++ b ∷ []) steps one x)
      → on_answer b (IsFailure other y) (GoesOn c (done ++ b ∷ []) steps other y) → Surely (AreOne one x other y)
  answers_follow c ag done steps None rec one other x y h k = surely (inl (h.nothing ∙ sym (k.nothing), h.none ∙ sym (k.none)))
  answers_follow c ag done steps (Some v) rec one other x y h k = rec c ag one other x y h k

  -- from a step on
  steps_follow : (c : Completion) → Agrees p w below c → (done : List (Option Value)) (s : Step) (steps : List Step) (vs : Values)
      → OneOf makes s.term → ((b : Option Value) → FollowOne (done ++ b ∷ []) steps) → (one other : List Event) (x y : Option Value)
      → Goes c done s steps vs one x → Goes c done s steps vs other y → Surely (AreOne one x other y)
  steps_follow c ag done s steps vs ih rec one other x y h k =
      elim (ih vs (h.effects) (k.effects) (h.answer) (k.answer) (h.made) (k.made)) [
        | inr d ↦ surely (inr (subst (λ (l : List Event). FirstDiffer l other) (sym (h.split))
            (subst (λ (l : List Event). FirstDiffer (h.effects ++ h.rest) l) (sym (k.split))
            (behind (h.effects) (k.effects) (h.rest) (k.rest) d))))
        | inl both ↦
            let moved : on_answer (h.answer) (IsFailure (k.rest) y) (GoesOn c (done ++ h.answer ∷ []) steps (k.rest) y) =
            subst (λ (b : Option Value). on_answer b (IsFailure (k.rest) y) (GoesOn c (done ++ b ∷ []) steps (k.rest) y)) (sym (both.1))
            (k.after) in
            let there : other ≡ h.effects ++ k.rest = k.split ∙ ap (λ (l : List Event). l ++ k.rest) (sym (both.0)) in
            follows (answers_follow c ag done steps (h.answer) (rec (h.answer)) (h.rest) (k.rest) x y (h.after) moved) (λ tails.
            surely (subst (λ (l : List Event). AreOne l x other y) (sym (h.split))
            (subst (λ (l : List Event). AreOne (h.effects ++ h.rest) x l y) (sym there) (ahead (h.effects) (h.rest) (k.rest) x y tails))))
      ]

  -- by what its arguments give
  step_cases : (c : Completion) → Agrees p w below c → (done : List (Option Value)) (s : Step) (steps : List Step) → OneOf makes s.term
      → ((b : Option Value) → FollowOne (done ++ b ∷ []) steps) → (g : Got Values) → word_values c a done s.args ≡ g → g ≢ unknown
      → (one other : List Event) (x y : Option Value) → GoesOn c done (s ∷ steps) one x → GoesOn c done (s ∷ steps) other y
      → Surely (AreOne one x other y)
  step_cases c ag done s steps ih rec unknown e n one other x y f g = absurd (n refl)
  step_cases c ag done s steps ih rec fails e n one other x y f g =
      let h = failed c ag done s steps one x e f in
      let k = failed c ag done s steps other y e g in
      surely (inl (h.nothing ∙ sym (k.nothing), h.none ∙ sym (k.none)))
  step_cases c ag done s steps ih rec (gives vs) e n one other x y f g =
      steps_follow c ag done s steps vs ih rec one other x y (goes c ag done s steps vs one x ih e f)
      (goes c ag done s steps vs other y ih e g)

  -- Two right sides that go on do one thing.
  pub follow : (before : List Step) (done : List (Option Value)) → length done ≡ length before → (steps : List Step) → Causal before steps
      → Cites (before ++ steps) result → EachStep (StepCalls C) steps → WordCalls C result → EachStep (λ s. OneOf makes s.term) steps
      → FollowOne done steps
  follow before done l [] causal cites calls result_calls each c ag one other x y f g =
      follows (know_word p w below C E grow a before done l result result_calls
      (subst (λ (z : List Step). Cites z result) (append-nil before) cites)
      c ag) (λ m. surely (end_one (word_value (m.next) a done result) one other x y (m.holds) (f (m.next) (m.agrees) (m.extends))
      (g (m.next) (m.agrees) (m.extends))))
  follow before done l (s ∷ steps) causal cites calls result_calls each c ag one other x y f g =
      follows (know_words p w below C E grow a before done l s.args (calls.0.1) (causal.0) c ag) (λ m.
      step_cases (m.next) (m.agrees) done s steps (each.0)
      (λ b. follow (before ++ s ∷ []) (done ++ b ∷ []) (length_more done b ∙ (ap suc l ∙ sym (length_more before s))) steps (causal.1)
      (subst (λ (z : List Step). Cites z result) (sym (append_assoc before (s ∷ []) steps)) cites) (calls.1) result_calls (each.1))
      (word_values (m.next) a done s.args) refl (m.holds) one other x y (goes_more c (m.next) (m.extends) done (s ∷ steps) one x f)
      (goes_more c (m.next) (m.extends) done (s ∷ steps) other y g))
