-- Two meanings of one call are one, or their effects first differ in the world's answer.
use Rattle.std.proofs.Common.{◌≡◌, ◌≢◌, ◌⊎◌, inl, inr, ℕ, zero, suc, ◌++◌, List, [], ◌∷◌, length, Bool, true, false, Option, Some, None, slice_get}
use Rattle.std.proofs.Common.{refl, sym, ◌∙◌, ap, subst, append_assoc, append-nil, arith}
use Rattle.isle_rules.specs.Values.{ValueTree, ValueTrees}
use Rattle.isle_meaning.specs.Got.{Got, unknown, fails, gives}
use Rattle.isle_meaning.specs.Values.{Value, Values, more, made, built, ask}
use Rattle.isle_meaning.specs.GroundValues.{value_of}
use Rattle.isle_meaning.specs.Facts.{TermFacts}
use Rattle.isle_meaning.specs.Words.{Word, var_word, bool_word, int_word, prim_word, variant_word, struct_word, call_word, Words}
use Rattle.isle_meaning.specs.Words.{no_words, more_words, Step}
use Rattle.isle_meaning.specs.Answers.{Completion, answered, answer_of}
use Rattle.isle_meaning.specs.Matching.{word_value, word_values}
use Rattle.isle_meaning.specs.Scopes.{Reads, ReadAll}
use Rattle.isle_meaning.specs.Worlds.{CheckedProgram, AllowsValue, Event}
use Rattle.isle_meaning.specs.RightSides.{IsFailure, IsValue, on_got, on_answer, Right}
use Rattle.isle_meaning.specs.Calls.{MakesIf}
use Rattle.isle_meaning.proofs.Matching.Deciding.{decide}
use Rattle.isle_meaning.specs.SoundPrograms.{HasSoundData}
use Rattle.isle_meaning.specs.Laws.Calls.{FirstDiffer, AreOne, IsTotal}
use Rattle.isle_meaning.proofs.Chains.Deeper.{got_map, answer_map}
use Rattle.isle_meaning.proofs.Chains.Trees.{trees_are_one, all_trees_are_one}
use Rattle.isle_meaning.proofs.Chains.Causing.{Cites, CitesAll, Causal, length_more}

-- one after the same effects
pub ahead : (before one other : List Event) (a b : Option Value) → AreOne one a other b → AreOne (before ++ one) a (before ++ other) b
ahead before one other a b = elim [
  | inl both ↦ inl (ap (λ (l : List Event). before ++ l) (both.0), both.1)
  | inr d ↦ inr (record {
    shared = before ++ d.shared;
    here = d.here;
    there = d.there;
    more = d.more;
    others = d.others;
    one_is = ap (λ (l : List Event). before ++ l) (d.one_is) ∙ sym (append_assoc before (d.shared) (d.here ∷ d.more));
    other_is = ap (λ (l : List Event). before ++ l) (d.other_is) ∙ sym (append_assoc before (d.shared) (d.there ∷ d.others));
    term = d.term;
    args = d.args;
    answer = d.answer;
  })
]

-- whatever follows, effects that differ differ
pub behind : (one other rest rest' : List Event) → FirstDiffer one other → FirstDiffer (one ++ rest) (other ++ rest')
behind one other rest rest' d = record {
  shared = d.shared;
  here = d.here;
  there = d.there;
  more = d.more ++ rest;
  others = d.others ++ rest';
  one_is = ap (λ (l : List Event). l ++ rest) (d.one_is) ∙ append_assoc (d.shared) (d.here ∷ d.more) rest;
  other_is = ap (λ (l : List Event). l ++ rest') (d.other_is) ∙ append_assoc (d.shared) (d.there ∷ d.others) rest';
  term = d.term;
  args = d.args;
  answer = d.answer;
}

-- allowed answers are equal or not
answers_decided : (p : CheckedProgram) → HasSoundData p → (t : ℕ) (a b : Option ValueTree) → AllowsValue p t a → AllowsValue p t b
    → (a ≡ b) ⊎ (a ≢ b)
answers_decided p sound t None None h k = inl refl
answers_decided p sound t None (Some y) h k = inr (λ e. cc)
answers_decided p sound t (Some x) None h k = inr (λ e. cc)
answers_decided p sound t (Some x) (Some y) h k = elim (decide (value_of p.values x) (value_of p.values y)) [
  | inl e ↦ inl (ap (λ (z : ValueTree). Some z) (trees_are_one p sound x y (p.terms.type_of t) h k e))
  | inr n ↦ inr (λ e. n (let q : x ≡ y = cc in ap (value_of p.values) q))
]

-- calls of these terms mean one thing
abbrev pub One : (ℕ → Type 0) → (ℕ → Values → List Event → Option Value → Type 0) → Type 0
One R below = (t : ℕ) (vs : Values) (one other : List Event) (a b : Option Value) → R t → below t vs one a → below t vs other b
    → AreOne one a other b

module _ (p : CheckedProgram) (sound : HasSoundData p) (R : ℕ → Type 0) (below : ℕ → Values → List Event → Option Value → Type 0)
    (ih : One R below) where
  -- so do impure calls
  pub makes_one : (k : Bool) (t : ℕ) (vs : Values) (one other : List Event) (a b : Option Value) → p.has_rules t ≡ k
      → (p.has_rules t ≡ true → R t) → MakesIf p below k t vs one a → MakesIf p below k t vs other b → AreOne one a other b
  makes_one true t vs one other a b e r h k = ih t vs one other a b (r e) h k
  makes_one false t vs one other a b e r h k =
      let args : h.args ≡ k.args = all_trees_are_one p sound (h.args) (k.args) (p.terms.inputs t) (h.typed) (k.typed)
      (h.stand ∙ sym (k.stand)) in
      elim (answers_decided p sound t (h.answer) (k.answer) (h.allowed) (k.allowed)) [
        | inl q ↦
            let event : (let x : Event = record { term = t; args = h.args; answer = h.answer } in x)
            ≡ (let y : Event = record { term = t; args = k.args; answer = k.answer } in y) =
            ap (λ (z : ValueTrees). record { term = t; args = z; answer = h.answer }) args
            ∙ ap (λ (z : Option ValueTree). record { term = t; args = k.args; answer = z }) q in
            inl (
              h.alone ∙ (ap (λ (x : Event). x ∷ []) event ∙ sym (k.alone)),
              sym (h.gives_it) ∙ (rw q (k.gives_it)),
            )
        | inr n ↦ inr (record {
          shared = [];
          here = record { term = t; args = h.args; answer = h.answer };
          there = record { term = t; args = k.args; answer = k.answer };
          more = [];
          others = [];
          one_is = h.alone;
          other_is = k.alone;
          term = refl;
          args = args;
          answer = n;
        })
      ]

-- a result that is known is one
pub end_one : (g : Got Value) (one other : List Event) (a b : Option Value) → g ≢ unknown
    → on_got g (IsFailure one a) (λ v. IsValue v one a) → on_got g (IsFailure other b) (λ v. IsValue v other b) → AreOne one a other b
end_one unknown one other a b n h k = absurd (n refl)
end_one fails one other a b n h k = inl (h.nothing ∙ sym (k.nothing), h.none ∙ sym (k.none))
end_one (gives v) one other a b n h k = inl (h.nothing ∙ sym (k.nothing), h.same ∙ sym (k.same))

-- a known value before known values
pub known_more : (g : Got Value) (gs : Got Values) → g ≢ unknown → gs ≢ unknown → more g gs ≢ unknown
known_more unknown gs h k = λ e. h refl
known_more fails unknown h k = λ e. k refl
known_more fails fails h k = λ e. cc
known_more fails (gives xs) h k = λ e. cc
known_more (gives x) unknown h k = λ e. k refl
known_more (gives x) fails h k = λ e. cc
known_more (gives x) (gives xs) h k = λ e. cc

-- what a known thing gives
pub known_ask : {A B : Type 0} (f : A → Got B) (gs : Got A) → ((x : A) → f x ≢ unknown) → gs ≢ unknown → ask f gs ≢ unknown
known_ask f unknown total h = λ e. h refl
known_ask f fails total h = λ e. cc
known_ask f (gives x) total h = total x

-- a call that was made is known
pub known_answered : (o : Option (Option Value)) → o ≢ None → answered o ≢ unknown
known_answered None h = λ e. h refl
known_answered (Some None) h = λ e. cc
known_answered (Some (Some v)) h = λ e. cc

-- a list as long has an item there too
pub also_there : {A B : Type 0} (xs : List A) (ys : List B) (i : ℕ) (x : A) → length ys ≡ length xs → slice_get xs i ≡ Some x
    → slice_get ys i ≢ None
also_there [] ys i x e h = absurd cc
also_there (z ∷ xs) [] i x e h = absurd (let q : 0 ≡ suc (length xs) = e in omega (arith, q))
also_there (z ∷ xs) (y ∷ ys) zero x e h = λ q. cc
also_there (z ∷ xs) (y ∷ ys) (suc i) x e h =
    also_there xs ys i x (let q : suc (length ys) ≡ suc (length xs) = e in omega (arith, q)) h

-- Under a completion that answers every pure call, what mentions the impure calls made so far is known.
module _ (c : Completion) (total : IsTotal c) (a : ℕ → Value) (before : List Step) (done : List (Option Value))
    (e : length done ≡ length before) where
  mutual
    -- so is a word
    total_word : (w : Word) → Cites before w → word_value c a done w ≢ unknown
    total_word (var_word k) h = λ q. cc
    total_word (bool_word ty b) h = λ q. cc
    total_word (int_word ty n) h = λ q. cc
    total_word (prim_word n) h = λ q. cc
    total_word (variant_word ty k ws) h = known_ask _ (word_values c a done ws) (λ x q. cc) (total_words ws h)
    total_word (struct_word ty ws) h = known_ask _ (word_values c a done ws) (λ x q. cc) (total_words ws h)
    total_word (call_word t ws zero) h = known_ask (answer_of c done t zero) (word_values c a done ws) (total.construct t)
        (total_words ws h)
    total_word (call_word t ws (suc i)) h = known_ask (answer_of c done t (suc i)) (word_values c a done ws)
        (λ vs. known_answered (slice_get done i) (also_there before done i _ e (h.0))) (total_words ws (h.1))

    -- so are words
    total_words : (ws : Words) → CitesAll before ws → word_values c a done ws ≢ unknown
    total_words no_words h = λ q. cc
    total_words (more_words w ws) h =
        known_more (word_value c a done w) (word_values c a done ws) (total_word w (h.0)) (total_words ws (h.1))

-- what a right side does from a step on, whose arguments have these values
abbrev Rest : Completion → (ℕ → Values → List Event → Option Value → Type 0) → (ℕ → Value) → List (Option Value) → Step → List Step → Word
    → List Event → Option Value → Values → Type 0
Rest c makes a done s steps result trace x vs =
    (effects : List Event) × (rest : List Event) × (b : Option Value) × (trace ≡ effects ++ rest) × makes s.term vs effects b
    × on_answer b (IsFailure rest x) (Right c makes a (done ++ b ∷ []) steps result rest x)

-- each step calls a term of these
abbrev pub EachStep : (Step → Type 0) → List Step → Type 0
EachStep Q [] = Unit {0}
EachStep Q (s ∷ steps) = Q s × EachStep Q steps

-- calls of a term mean one thing
abbrev OneOf : (ℕ → Values → List Event → Option Value → Type 0) → ℕ → Type 0
OneOf makes t = (vs : Values) (one other : List Event) (a b : Option Value) → makes t vs one a → makes t vs other b → AreOne one a other b

module _ (c : Completion) (total : IsTotal c) (makes : ℕ → Values → List Event → Option Value → Type 0) (a : ℕ → Value) (result : Word)
  where
    abbrev RightOne : List (Option Value) → List Step → Type 0
    RightOne done steps = (one other : List Event) (x y : Option Value) → Right c makes a done steps result one x
        → Right c makes a done steps result other y → AreOne one x other y

    answer_one : (done : List (Option Value)) (steps : List Step) (b : Option Value) → RightOne (done ++ b ∷ []) steps
        → (one other : List Event) (x y : Option Value)
        → on_answer b (IsFailure one x) (Right c makes a (done ++ b ∷ []) steps result one x)
        → on_answer b (IsFailure other y) (Right c makes a (done ++ b ∷ []) steps result other y) → AreOne one x other y
    answer_one done steps None rec one other x y h k = inl (h.nothing ∙ sym (k.nothing), h.none ∙ sym (k.none))
    answer_one done steps (Some v) rec one other x y h k = rec one other x y h k

    rest_one : (done : List (Option Value)) (s : Step) (steps : List Step) → OneOf makes s.term
        → ((b : Option Value) → RightOne (done ++ b ∷ []) steps) → (vs : Values) (one other : List Event) (x y : Option Value)
        → Rest c makes a done s steps result one x vs → Rest c makes a done s steps result other y vs → AreOne one x other y
    rest_one done s steps ih rec vs one other x y h k = elim (ih vs (h.0) (k.0) (h.2) (k.2) (h.4) (k.4)) [
      | inl both ↦
          let moved : on_answer (h.2) (IsFailure (k.1) y) (Right c makes a (done ++ h.2 ∷ []) steps result (k.1) y) =
          subst (λ (q : Option Value). on_answer q (IsFailure (k.1) y) (Right c makes a (done ++ q ∷ []) steps result (k.1) y))
          (sym (both.1)) (k.5) in
          let tails : AreOne (h.1) x (k.1) y = answer_one done steps (h.2) (rec (h.2)) (h.1) (k.1) x y (h.5) moved in
          let joined : AreOne (h.0 ++ h.1) x (h.0 ++ k.1) y = ahead (h.0) (h.1) (k.1) x y tails in
          let there : other ≡ h.0 ++ k.1 = k.3 ∙ ap (λ (l : List Event). l ++ k.1) (sym (both.0)) in
          subst (λ (s : List Event). AreOne s x other y) (sym (h.3))
          (subst (λ (s : List Event). AreOne (h.0 ++ h.1) x s y) (sym there) joined)
      | inr d ↦ inr (subst (λ (s : List Event). FirstDiffer s other) (sym (h.3))
          (subst (λ (s : List Event). FirstDiffer (h.0 ++ h.1) s) (sym (k.3)) (behind (h.0) (k.0) (h.1) (k.1) d)))
    ]

    step_one : (done : List (Option Value)) (s : Step) (steps : List Step) → OneOf makes s.term
        → ((b : Option Value) → RightOne (done ++ b ∷ []) steps) → (g : Got Values) → g ≢ unknown
        → (one other : List Event) (x y : Option Value)
        → on_got g (IsFailure one x) (Rest c makes a done s steps result one x)
        → on_got g (IsFailure other y) (Rest c makes a done s steps result other y) → AreOne one x other y
    step_one done s steps ih rec unknown n one other x y h k = absurd (n refl)
    step_one done s steps ih rec fails n one other x y h k = inl (h.nothing ∙ sym (k.nothing), h.none ∙ sym (k.none))
    step_one done s steps ih rec (gives vs) n one other x y h k = rest_one done s steps ih rec vs one other x y h k

    -- A right side does one thing.
    pub right_one : (before : List Step) (done : List (Option Value)) → length done ≡ length before → (steps : List Step)
        → Causal before steps → Cites (before ++ steps) result → EachStep (λ s. OneOf makes s.term) steps → RightOne done steps
    right_one before done e [] causal cites each one other x y h k =
        end_one (word_value c a done result) one other x y
        (total_word c total a (before ++ []) done (rw (append-nil before) e) result cites) h k
    right_one before done e (s ∷ steps) causal cites each one other x y h k =
        step_one done s steps (each.0)
        (λ b. right_one (before ++ s ∷ []) (done ++ b ∷ []) (length_more done b ∙ (ap suc e ∙ sym (length_more before s))) steps (causal.1)
        (subst (λ (l : List Step). Cites l result) (sym (append_assoc before (s ∷ []) steps)) cites) (each.1))
        (word_values c a done s.args) (total_words c total a before done e s.args (causal.0)) one other x y h k

-- What is read is the same under variables that are the same there.
module _ (facts : TermFacts) (c : Completion) (a b : ℕ → Value) (S : ℕ → Type 0) (same : (k : ℕ) → S k → a k ≡ b k) where
  mutual
    -- a word's value is
    same_word : (done : List (Option Value)) (w : Word) → Reads facts w S → word_value c a done w ≡ word_value c b done w
    same_word done (var_word k) r = ap (λ (v : Value). gives v) (same k r)
    same_word done (bool_word ty x) r = refl
    same_word done (int_word ty n) r = refl
    same_word done (prim_word n) r = refl
    same_word done (variant_word ty k ws) r = ap (made ty k) (same_words done ws r)
    same_word done (struct_word ty ws) r = ap (built ty) (same_words done ws r)
    same_word done (call_word t ws i) r = ap (ask (answer_of c done t i)) (same_words done ws (r.1))

    -- words' values are
    same_words : (done : List (Option Value)) (ws : Words) → ReadAll facts ws S → word_values c a done ws ≡ word_values c b done ws
    same_words done no_words r = refl
    same_words done (more_words w ws) r =
        ap (λ (g : Got Value). more g (word_values c a done ws)) (same_word done w (r.0))
        ∙ ap (more (word_value c b done w)) (same_words done ws (r.1))

  -- So is what a right side does.
  pub right_same : (makes : ℕ → Values → List Event → Option Value → Type 0) (done : List (Option Value)) (steps : List Step)
      (result : Word)
      (trace : List Event) (x : Option Value) → EachStep (λ s. ReadAll facts s.args S) steps → Reads facts result S
      → Right c makes a done steps result trace x → Right c makes b done steps result trace x
  right_same makes done [] result trace x each r h =
      subst (λ (g : Got Value). on_got g (IsFailure trace x) (λ v. IsValue v trace x)) (same_word done result r) h
  right_same makes done (s ∷ steps) result trace x each r h =
      subst (λ (g : Got Values). on_got g (IsFailure trace x) (Rest c makes b done s steps result trace x))
      (same_words done s.args (each.0)) (got_map (word_values c a done s.args) _ _ _ (λ vs q. (
        q.0,
        q.1,
        q.2,
        q.3,
        q.4,
        answer_map (q.2) _ _ _ (right_same makes (done ++ q.2 ∷ []) steps result (q.1) x (each.1) r) (q.5),
      )) h)
