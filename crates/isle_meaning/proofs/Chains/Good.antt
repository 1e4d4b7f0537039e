-- What a call of a typed term means is of the term's type, or none of one that may fail.
use Rattle.std.proofs.Common.{◌≡◌, ◌≢◌, ◌⊎◌, inl, inr, ℕ, zero, suc, ◌++◌, List, [], ◌∷◌, length, Bool, true, false, Option, Some, None, slice_get}
use Rattle.std.proofs.Common.{refl, sym, ◌∙◌, ap, subst, append_assoc, append-nil}
use Rattle.isle_rules.specs.Values.{ValueTree}
use Rattle.isle_rules.specs.TypedRules.{TypedPattern, typed_bind, typed_var, typed_bool, typed_int, typed_prim, typed_term, typed_wildcard}
use Rattle.isle_rules.specs.TypedRules.{typed_and, TypedPatterns, no_typed, more_typed, TypedIfLet, TypedRule}
use Rattle.isle_meaning.specs.Facts.{TermShape, variant_shape, struct_shape, declared_shape}
use Rattle.isle_meaning.specs.Got.{Got, unknown, fails, gives}
use Rattle.isle_meaning.specs.Values.{Value, Values, made_variant, made_struct, no_values, more_values, more, ask}
use Rattle.isle_meaning.specs.GroundValues.{IsValueOf, AreValuesOf}
use Rattle.isle_meaning.specs.Words.{Word, var_word, bool_word, int_word, prim_word, variant_word, struct_word, call_word, Words}
use Rattle.isle_meaning.specs.Words.{no_words, more_words, Step, word_of}
use Rattle.isle_meaning.specs.Answers.{Completion, answered, answer_of}
use Rattle.isle_meaning.specs.Matching.{word_value, word_values, OpensInto, Fits, FitsAll, FitsEach, IfLetsHold, MatchesWith}
use Rattle.isle_meaning.specs.Typing.{part_types, IsTyped, AllTyped, EachTyped, IfLetsTyped}
use Rattle.isle_meaning.specs.Scopes.{scope, scope_all, iflets_scope, none, scope_of, IfLetsAreWellScoped}
use Rattle.isle_meaning.specs.Worlds.{CheckedProgram, Answers, AllowsValue, answer_value, Event}
use Rattle.isle_meaning.specs.RightSides.{IsFailure, IsValue, on_got, on_answer}
use Rattle.isle_meaning.specs.Calls.{Agrees, MakesIf, Makes}
use Rattle.isle_meaning.proofs.Matching.Basics.{ask_gives, more_gives}
use Rattle.isle_meaning.specs.SoundPrograms.{HasSoundData, AreSoundIfLets, IsSoundRule}
use Rattle.isle_meaning.specs.Inside.TypedWords.{IsTypedWord, AreTypedWords, AreTypedVariables, AreTypedAnswers, IsTypedStep, AreTypedSteps}
use Rattle.isle_meaning.specs.Laws.Calls.{Surely, IsGoodAnswer}
use Rattle.isle_meaning.proofs.Calls.Outcomes.{one_longer, at_end}
use Rattle.isle_meaning.proofs.Calls.RuleGiving.{none_answered, answers_append}
use Rattle.isle_meaning.proofs.Calls.TypedValues.{none_typed, more_values_typed, values_parted, variant_made, struct_made, variant_opened}
use Rattle.isle_meaning.proofs.Calls.TypedValues.{struct_opened}
use Rattle.isle_meaning.proofs.Calls.WordTyping.{calls_types, expr_typed}
use Rattle.isle_meaning.proofs.Chains.Asks.{WordCalls, WordsCall, StepCalls}
use Rattle.isle_meaning.proofs.Chains.Causing.{Cites, Causal, length_more}
use Rattle.isle_meaning.proofs.Chains.Following.{OneOf, GoesOn, goes, goes_more, failed}
use Rattle.isle_meaning.proofs.Chains.Growing.{GivesGood}
use Rattle.isle_meaning.proofs.Chains.Knowing.{CanGrow, know_word, know_words}
use Rattle.isle_meaning.proofs.Chains.Surely.{surely, follows}
use Rattle.isle_meaning.proofs.Chains.Unique.{EachStep}

-- an impure call that gives something was answered it
answered_gives : (o : Option (Option Value)) (v : Value) → answered o ≡ gives v → o ≡ Some (Some v)
answered_gives None v e = absurd cc
answered_gives (Some None) v e = absurd cc
answered_gives (Some (Some x)) v e = let q : x ≡ v = cc in ap (λ (z : Value). Some (Some z)) q

-- one that fails was answered none
answered_fails : (o : Option (Option Value)) → answered o ≡ fails → o ≡ Some None
answered_fails None e = absurd cc
answered_fails (Some None) e = refl
answered_fails (Some (Some x)) e = absurd cc

-- where what needs something fails, that fails, or what is made of it
ask_fails : {A B : Type 0} (f : A → Got B) (g : Got A) → ask f g ≡ fails → (g ≡ fails) ⊎ ((x : A) × (g ≡ gives x) × (f x ≡ fails))
ask_fails f unknown e = absurd cc
ask_fails f fails e = inl refl
ask_fails f (gives x) e = inr (x, refl, e)

-- where values fail, one of them does
more_fails : (g : Got Value) (gs : Got Values) → more g gs ≡ fails → (g ≡ fails) ⊎ (gs ≡ fails)
more_fails unknown gs e = absurd cc
more_fails fails gs e = inl refl
more_fails (gives x) unknown e = absurd cc
more_fails (gives x) fails e = inr refl
more_fails (gives x) (gives xs) e = absurd cc

-- none of these answers is none
abbrev pub AllSome : List (Option Value) → Type 0
AllSome done = (i : ℕ) → slice_get done i ≡ Some None → ⊥

-- nor is one more
some_append : (done : List (Option Value)) (v : Value) → AllSome done → AllSome (done ++ Some v ∷ [])
some_append done v h i e = elim (at_end done (Some v) i None e) [ inl q ↦ h i q | inr q ↦ (let z : Some v ≡ None = q.1 in cc) ]

module _ (p : CheckedProgram) (w : Answers) (R : ℕ → Type 0) (data_sound : HasSoundData p)
    (below : ℕ → Values → List Event → Option Value → Type 0) (c : Completion) (ag : Agrees p w below c) where
  module _ (S : ℕ → Type 0) (G D : ℕ → ℕ) (a : ℕ → Value) (done : List (Option Value)) (variables : AreTypedVariables p S G a)
      (answers : AreTypedAnswers p D done) where
    -- the same value is of the type
    same_typed : (x v : Value) (u : ℕ) → gives x ≡ gives v → IsValueOf p.values x u → IsValueOf p.values v u
    same_typed x v u e h = let q : x ≡ v = cc in subst (λ (z : Value). IsValueOf p.values z u) q h

    mutual
      -- what a typed word gives is of its type
      word_typed : (x : Word) (u : ℕ) (v : Value) → IsTypedWord p R S G D x u → word_value c a done x ≡ gives v → IsValueOf p.values v u
      word_typed (var_word k) u v t e = same_typed (a k) v u e (subst (IsValueOf p.values (a k)) (t.1) (variables k (t.0)))
      word_typed (bool_word ty b) u v t e = same_typed _ v u e t
      word_typed (int_word ty n) u v t e = same_typed _ v u e t
      word_typed (prim_word n) u v t e = same_typed _ v u e t
      word_typed (variant_word ty k ws) u v t e =
          let (vs, q, o) = ask_gives (λ xs. gives (made_variant ty k xs)) (word_values c a done ws) v e in
          let (term, shaped, of) = t.1 in
          let same : p.terms.type_of term ≡ ty = of ∙ sym (t.0) in
          let fields = words_typed ws (p.terms.variant_fields ty k) vs (t.2) q in
          same_typed (made_variant ty k vs) v u o
          (subst (λ (z : ℕ). IsValueOf p.values (made_variant z k vs) u) same
          (subst (IsValueOf p.values (made_variant (p.terms.type_of term) k vs)) of
          (variant_made p data_sound term k vs shaped
          (subst (λ (z : ℕ). AreValuesOf p.values vs (p.terms.variant_fields z k)) (sym same) fields))))
      word_typed (struct_word ty ws) u v t e =
          let (vs, q, o) = ask_gives (λ xs. gives (made_struct ty xs)) (word_values c a done ws) v e in
          let (term, shaped, of) = t.1 in
          let same : p.terms.type_of term ≡ ty = of ∙ sym (t.0) in
          let fields = words_typed ws (p.terms.struct_fields ty) vs (t.2) q in
          same_typed (made_struct ty vs) v u o
          (subst (λ (z : ℕ). IsValueOf p.values (made_struct z vs) u) same
          (subst (IsValueOf p.values (made_struct (p.terms.type_of term) vs)) of
          (struct_made p data_sound term vs shaped
          (subst (λ (z : ℕ). AreValuesOf p.values vs (p.terms.struct_fields z)) (sym same) fields))))
      word_typed (call_word t ws zero) u v typed e =
          let (vs, q, o) = ask_gives (answer_of c done t zero) (word_values c a done ws) v e in
          subst (IsValueOf p.values v) (typed.0) (ag.typed.construct t vs v o)
      word_typed (call_word t ws (suc i)) u v typed e =
          let (vs, q, o) = ask_gives (answer_of c done t (suc i)) (word_values c a done ws) v e in
          subst (IsValueOf p.values v) (typed.1) (answers i v (answered_gives (slice_get done i) v o))

      -- what typed words give is of their types
      words_typed : (xs : Words) (us : List ℕ) (vs : Values) → AreTypedWords p R S G D xs us → word_values c a done xs ≡ gives vs
          → AreValuesOf p.values vs us
      words_typed no_words [] vs t e = let q : no_values ≡ vs = cc in
          subst (λ (z : Values). AreValuesOf p.values z []) q (none_typed p.values)
      words_typed no_words (u ∷ us) vs t e = absurd t
      words_typed (more_words x xs) [] vs t e = absurd t
      words_typed (more_words x xs) (u ∷ us) vs t e =
          let (y, ys, h, k) = more_gives (word_value c a done x) (word_values c a done xs) vs e in
          let z : more (word_value c a done x) (word_values c a done xs) ≡ gives (more_values y ys) =
          ap (λ (g : Got Value). more g (word_values c a done xs)) h ∙ ap (more (gives y)) k in
          let q : gives (more_values y ys) ≡ gives vs = sym z ∙ e in
          let r : more_values y ys ≡ vs = cc in
          subst (λ (z : Values). AreValuesOf p.values z (u ∷ us)) r
          (more_values_typed p.values y ys u us (word_typed x u y (t.0) h) (words_typed xs us ys (t.1) k))

    -- a word whose calls may not fail doesn't
    mutual
      -- it has a value or isn't known
      word_gives : AllSome done → (x : Word) → WordCalls (λ t. p.terms.partial t ≡ false) x → word_value c a done x ≡ fails → ⊥
      word_gives some (var_word k) q e = cc
      word_gives some (bool_word ty b) q e = cc
      word_gives some (int_word ty n) q e = cc
      word_gives some (prim_word n) q e = cc
      word_gives some (variant_word ty k ws) q e = elim (ask_fails (λ xs. gives (made_variant ty k xs)) (word_values c a done ws) e) [
        | inl h ↦ words_give some ws q h
        | inr h ↦ (let z = h.2 in cc)
      ]
      word_gives some (struct_word ty ws) q e = elim (ask_fails (λ xs. gives (made_struct ty xs)) (word_values c a done ws) e) [
        | inl h ↦ words_give some ws q h
        | inr h ↦ (let z = h.2 in cc)
      ]
      word_gives some (call_word t ws zero) q e = elim (ask_fails (answer_of c done t zero) (word_values c a done ws) e) [
        | inl h ↦ words_give some ws (q.1) h
        | inr h ↦ (let z : true ≡ false = sym (ag.allowed.partial t (h.0) (h.2)) ∙ q.0 in cc)
      ]
      word_gives some (call_word t ws (suc i)) q e = elim (ask_fails (answer_of c done t (suc i)) (word_values c a done ws) e) [
        | inl h ↦ words_give some ws (q.1) h
        | inr h ↦ some i (answered_fails (slice_get done i) (h.2))
      ]

      -- nor do words
      words_give : AllSome done → (xs : Words) → WordsCall (λ t. p.terms.partial t ≡ false) xs → word_values c a done xs ≡ fails → ⊥
      words_give some no_words q e = cc
      words_give some (more_words x xs) q e = elim (more_fails (word_value c a done x) (word_values c a done xs) e) [
        | inl h ↦ word_gives some x (q.0) h
        | inr h ↦ words_give some xs (q.1) h
      ]

  module _ (a : ℕ → Value) where
    -- one more variable of its type
    bind_typed : (S : ℕ → Type 0) (G : ℕ → ℕ) (k u : ℕ) (v : Value) → AreTypedVariables p S G a → a k ≡ v → G k ≡ u
        → IsValueOf p.values v u → AreTypedVariables p (λ j. (j ≡ k) ⊎ S j) G a
    bind_typed S G k u v h e g t j (inl q) =
        let x : v ≡ a j = sym e ∙ ap a (sym q) in
        let y : u ≡ G j = sym g ∙ ap G (sym q) in
        subst (λ (z : Value). IsValueOf p.values z (G j)) x (subst (IsValueOf p.values v) y t)
    bind_typed S G k u v h e g t j (inr i) = h j i

    -- what a value opens into is of the parts' types
    opened_typed : (shape : TermShape) (ty t u : ℕ) (v : Value) (vs : Values) → ty ≡ u → IsValueOf p.values v u
        → OpensInto c shape ty t v vs → AreValuesOf p.values vs (part_types p.terms shape ty t)
    opened_typed (variant_shape k) ty t u v vs e h o =
        rw e (variant_opened p data_sound ty k vs u (subst (λ (z : Value). IsValueOf p.values z u) o h))
    opened_typed struct_shape ty t u v vs e h o =
        rw e (struct_opened p data_sound ty vs u (subst (λ (z : Value). IsValueOf p.values z u) o h))
    opened_typed declared_shape ty t u v vs e h o = ag.typed.extract t v vs o

    mutual
      -- the variables of a pattern that fits are of their types
      fits_typed : (q : TypedPattern) (S : ℕ → Type 0) (G : ℕ → ℕ) (v : Value) (u : ℕ) → IsTyped p.terms G q u → AreTypedVariables p S G a
          → IsValueOf p.values v u → Fits p.terms c a q v → AreTypedVariables p (scope q S) G a
      fits_typed (typed_bind ty k q) S G v u t h f m =
          bind_typed (scope q S) G k u v (fits_typed q S G v u (t.2) h f (m.1)) (m.0) (t.1) f
      fits_typed (typed_var ty k) S G v u t h f m = h
      fits_typed (typed_bool ty b) S G v u t h f m = h
      fits_typed (typed_int ty n) S G v u t h f m = h
      fits_typed (typed_prim ty n) S G v u t h f m = h
      fits_typed (typed_term ty t qs) S G v u typed h f m =
          fit_all_typed qs S G (m.0) (part_types p.terms (p.terms.shape t) ty t) (typed.2) h
          (opened_typed (p.terms.shape t) ty t u v (m.0) (typed.0) f (m.1)) (m.2)
      fits_typed (typed_wildcard ty) S G v u t h f m = h
      fits_typed (typed_and ty qs) S G v u t h f m = fit_each_typed qs S G v u (t.1) h f m

      -- so are those of patterns on values at their places
      fit_all_typed : (qs : TypedPatterns) (S : ℕ → Type 0) (G : ℕ → ℕ) (vs : Values) (us : List ℕ) → AllTyped p.terms G qs us
          → AreTypedVariables p S G a → AreValuesOf p.values vs us → FitsAll p.terms c a qs vs → AreTypedVariables p (scope_all qs S) G a
      fit_all_typed no_typed S G vs us t h f m = h
      fit_all_typed (more_typed q qs) S G no_values us t h f m = absurd m
      fit_all_typed (more_typed q qs) S G (more_values v vs) [] t h f m = absurd t
      fit_all_typed (more_typed q qs) S G (more_values v vs) (u ∷ us) t h f m =
          let parted = values_parted p.values v vs u us f in
          fit_all_typed qs (scope q S) G vs us (t.1) (fits_typed q S G v u (t.0) h (parted.0) (m.0)) (parted.1) (m.1)

      -- so are those of patterns on one value
      fit_each_typed : (qs : TypedPatterns) (S : ℕ → Type 0) (G : ℕ → ℕ) (v : Value) (u : ℕ) → EachTyped p.terms G qs u
          → AreTypedVariables p S G a → IsValueOf p.values v u → FitsEach p.terms c a qs v → AreTypedVariables p (scope_all qs S) G a
      fit_each_typed no_typed S G v u t h f m = h
      fit_each_typed (more_typed q qs) S G v u t h f m =
          fit_each_typed qs (scope q S) G v u (t.1) (fits_typed q S G v u (t.0) h f (m.0)) f (m.1)

    -- so are those of if-lets that hold
    hold_typed : (xs : List TypedIfLet) (S : ℕ → Type 0) (G : ℕ → ℕ) → IfLetsAreWellScoped p.terms xs S → IfLetsTyped p.terms G xs
        → AreSoundIfLets p R xs → AreTypedVariables p S G a → IfLetsHold p.terms c a xs → AreTypedVariables p (iflets_scope xs S) G a
    hold_typed [] S G well t s h m = h
    hold_typed (x ∷ xs) S G well t s h m =
        let (v, e, f) = m.0 in
        let (u, expr, pattern) = t.0 in
        let its = expr_typed p R S G x.value u (well.0) expr (s.0) in
        let valued = word_typed S G (calls_types p x.value) a [] h (none_answered p _) (word_of p.terms x.value) u v (its.0) e in
        hold_typed xs (scope x.pattern S) G (well.2) (t.1) (s.1) (fits_typed x.pattern S G v u pattern h valued f) (m.1)

    -- The variables of a rule that matches are of their types.
    pub matches_typed : (args : Values) (rule : TypedRule) (sound : IsSoundRule p R rule)
        → AreValuesOf p.values args (p.terms.inputs rule.root)
        → MatchesWith p.terms c args rule a → AreTypedVariables p (scope_of rule) sound.var_types a
    matches_typed args rule sound h m =
        hold_typed rule.iflets (scope_all rule.args none) sound.var_types (sound.well.iflets) (sound.typed.iflets) (sound.iflets)
        (fit_all_typed rule.args none sound.var_types args (p.terms.inputs rule.root) (sound.typed.args) (λ k i. absurd i) h (m.0)) (m.1)

-- no answer is good where the term may fail
none_good : (p : CheckedProgram) (t : ℕ) (x : Option Value) → x ≡ None → (p.terms.partial t ≡ false → ⊥) → IsGoodAnswer p t x
none_good p t x e n = subst (IsGoodAnswer p t) (sym e) (go (p.terms.partial t) refl)
  where
    go : (b : Bool) → p.terms.partial t ≡ b → p.terms.partial t ≡ true
    go true q = q
    go false q = absurd (n q)

module _ (p : CheckedProgram) (w : Answers) (R : ℕ → Type 0) (data_sound : HasSoundData p)
    (below : ℕ → Values → List Event → Option Value → Type 0) (C E : ℕ → Type 0) (grow : CanGrow p w below C E)
    (good : GivesGood p R below) where
  -- an effect's answer is good
  effect_good : (t : ℕ) (answer : Option ValueTree) (b : Option Value) → AllowsValue p t answer → answer_value p answer ≡ b
      → IsGoodAnswer p t b
  effect_good t None b h e = subst (IsGoodAnswer p t) e h
  effect_good t (Some x) b h e = subst (IsGoodAnswer p t) e (record { tree = x; typed = h; stands = refl })

  -- an impure call can't but have a good answer
  step_good : (k : Bool) (t : ℕ) (vs : Values) (effects : List Event) (b : Option Value) → p.has_rules t ≡ k → (p.has_rules t ≡ true → R t)
      → AreValuesOf p.values vs (p.terms.inputs t) → MakesIf p below k t vs effects b → Surely (IsGoodAnswer p t b)
  step_good true t vs effects b e r h m = good t vs effects b (r e) h m
  step_good false t vs effects b e r h m = surely (effect_good t (m.answer) b (m.allowed) (m.gives_it))

  module _ (S : ℕ → Type 0) (G D : ℕ → ℕ) (a : ℕ → Value) (variables : AreTypedVariables p S G a) (result : Word) (t u : ℕ)
      (of : u ≡ p.terms.type_of t) (result_typed : IsTypedWord p R S G D result u) (result_calls : WordCalls C result)
      (firm : p.terms.partial t ≡ false → WordCalls (λ z. p.terms.partial z ≡ false) result) where
    -- the steps call what may not fail, where the term may not fail
    abbrev AreFirm : List Step → Type 0
    AreFirm steps = p.terms.partial t ≡ false → EachStep (StepCalls (λ z. p.terms.partial z ≡ false)) steps

    -- a result is good
    end_good : (c : Completion) → Agrees p w below c → (done : List (Option Value)) → AreTypedAnswers p D done → AllSome done
        → (g : Got Value)
        → word_value c a done result ≡ g → g ≢ unknown → (trace : List Event) (x : Option Value)
        → on_got g (IsFailure trace x) (λ v. IsValue v trace x) → IsGoodAnswer p t x
    end_good c ag done answers some unknown e n trace x h = absurd (n refl)
    end_good c ag done answers some fails e n trace x h =
        none_good p t x (h.none) (λ q. word_gives p w R data_sound below c ag S G D a done variables answers some result (firm q) e)
    end_good c ag done answers some (gives v) e n trace x h =
        subst (IsGoodAnswer p t) (sym (h.same)) (subst (IsValueOf p.values v) of
        (word_typed p w R data_sound below c ag S G D a done variables answers result u v result_typed e))

    -- a right side that goes on
    abbrev Goes : Completion → List (Option Value) → List Step → List Event → Option Value → Type 0
    Goes c done steps trace x = GoesOn p w below C E grow (Makes p below) a result c done steps trace x

    -- after an answer
    answer_good : (c : Completion) (done : List (Option Value)) (s : Step) (steps : List Step) (rest : List Event) (x b : Option Value)
        → IsGoodAnswer p s.term b → (p.terms.partial t ≡ false → p.terms.partial s.term ≡ false)
        → on_answer b (IsFailure rest x) (Goes c (done ++ b ∷ []) steps rest x)
        → ((v : Value) → IsValueOf p.values v (p.terms.type_of s.term) → Goes c (done ++ Some v ∷ []) steps rest x
        → Surely (IsGoodAnswer p t x)) → Surely (IsGoodAnswer p t x)
    answer_good c done s steps rest x None ok sure h rec =
        surely (none_good p t x (h.none) (λ q. (let z : true ≡ false = sym ok ∙ sure q in cc)))
    answer_good c done s steps rest x (Some v) ok sure h rec = rec v ok h

    -- by what the arguments give
    step_cases : (c : Completion) → Agrees p w below c → (done : List (Option Value)) (s : Step) (steps : List Step)
        → IsTypedStep p R S G D s
        → (p.terms.partial t ≡ false → StepCalls (λ z. p.terms.partial z ≡ false) s) → OneOf (Makes p below) s.term
        → AreTypedAnswers p D done → AllSome done → (trace : List Event) (x : Option Value) → Goes c done (s ∷ steps) trace x
        → ((rest : List Event) (v : Value) → IsValueOf p.values v (p.terms.type_of s.term) → Goes c (done ++ Some v ∷ []) steps rest x
        → Surely (IsGoodAnswer p t x)) → (g : Got Values) → word_values c a done s.args ≡ g → g ≢ unknown → Surely (IsGoodAnswer p t x)
    step_cases c ag done s steps typed sure one answers some trace x f rec unknown e n = absurd (n refl)
    step_cases c ag done s steps typed sure one answers some trace x f rec fails e n =
        let h = failed p w below C E grow (Makes p below) a result c ag done s steps trace x e f in
        surely (none_good p t x (h.none)
        (λ q. words_give p w R data_sound below c ag S G D a done variables answers some s.args ((sure q).1) e))
    step_cases c ag done s steps typed sure one answers some trace x f rec (gives vs) e n =
        let h = goes p w below C E grow (Makes p below) a result c ag done s steps vs trace x one e f in
        let args = words_typed p w R data_sound below c ag S G D a done variables answers s.args (p.terms.inputs s.term) vs (typed.3) e in
        follows (step_good (p.has_rules s.term) s.term vs (h.effects) (h.answer) refl (typed.1) args (h.made)) (λ ok.
        answer_good c done s steps (h.rest) x (h.answer) ok (λ q. (sure q).0) (h.after) (λ v is g. rec (h.rest) v is g))

    -- A right side that goes on can't but have a good answer.
    pub follow_good : (before : List Step) (done : List (Option Value)) (m : ℕ) → m ≡ length done → length done ≡ length before
        → (steps : List Step)
        → Causal before steps → Cites (before ++ steps) result → EachStep (StepCalls C) steps → AreFirm steps
        → AreTypedSteps p R S G D m steps
        → EachStep (λ s. OneOf (Makes p below) s.term) steps → AreTypedAnswers p D done → AllSome done → (c : Completion)
        → Agrees p w below c → (trace : List Event) (x : Option Value) → Goes c done steps trace x → Surely (IsGoodAnswer p t x)
    follow_good before done m l l' [] causal cites calls sure typed each answers some c ag trace x f =
        follows (know_word p w below C E grow a before done l' result result_calls
        (subst (λ (z : List Step). Cites z result) (append-nil before) cites) c ag) (λ k.
        surely (end_good (k.next) (k.agrees) done answers some (word_value (k.next) a done result) refl (k.holds) trace x
        (f (k.next) (k.agrees) (k.extends))))
    follow_good before done m l l' (s ∷ steps) causal cites calls sure typed each answers some c ag trace x f =
        follows (know_words p w below C E grow a before done l' s.args (calls.0.1) (causal.0) c ag) (λ k.
        step_cases (k.next) (k.agrees) done s steps (typed.0) (λ q. (sure q).0) (each.0) answers some trace x
        (goes_more p w below C E grow (Makes p below) a result c (k.next) (k.extends) done (s ∷ steps) trace x f)
        (λ rest v is g. follow_good (before ++ s ∷ []) (done ++ Some v ∷ []) (suc m) (ap suc l ∙ sym (one_longer done (Some v)))
        (length_more done (Some v) ∙ (ap suc l' ∙ sym (length_more before s))) steps (causal.1)
        (subst (λ (z : List Step). Cites z result) (sym (append_assoc before (s ∷ []) steps)) cites) (calls.1) (λ q. (sure q).1)
        (typed.2) (each.1) (answers_append p D done v answers (subst (IsValueOf p.values v) (sym (typed.0.0) ∙ ap D (typed.1 ∙ l)) is))
        (some_append done v some) (k.next) (k.agrees) rest x g)
        (word_values (k.next) a done s.args) refl (k.holds))
