-- What words and patterns give is of their types.
use Rattle.std.proofs.Common.{◌≡◌, ◌⊎◌, inl, inr, ℕ, zero, suc, List, [], ◌∷◌, Bool, true, false, ◌==◌, Option, Some, None, slice_get}
use Rattle.std.proofs.lemmas.Bool.{eqb-true}
use Rattle.std.proofs.Common.{refl, sym, ◌∙◌, ap, subst}
use Rattle.isle_rules.specs.Values.{ValueTree, ValueTrees}
use Rattle.isle_rules.specs.TypedRules.{TypedPattern, typed_bind, typed_var, typed_bool, typed_int, typed_prim, typed_term, typed_wildcard}
use Rattle.isle_rules.specs.TypedRules.{typed_and, TypedPatterns, no_typed, more_typed}
use Rattle.isle_meaning.specs.Facts.{TermShape, variant_shape, struct_shape, declared_shape}
use Rattle.isle_meaning.specs.Values.{Value, Values, made_variant, made_struct, no_values, more_values}
use Rattle.isle_meaning.specs.GroundValues.{IsValueOf, AreValuesOf}
use Rattle.isle_meaning.specs.Words.{Word, var_word, bool_word, int_word, prim_word, variant_word, struct_word, call_word, Words}
use Rattle.isle_meaning.specs.Words.{no_words, more_words, set}
use Rattle.isle_meaning.specs.Typing.{part_types, IsTyped, AllTyped, EachTyped}
use Rattle.isle_meaning.specs.Scopes.{scope, scope_all}
use Rattle.isle_meaning.specs.Worlds.{CheckedProgram, Answers, AllowsValue, AllowsOutputs, answer_value, answer_values, Event}
use Rattle.isle_meaning.specs.Asking.{Asked}
use Rattle.isle_meaning.proofs.Matching.Basics.{set_at}
use Rattle.isle_meaning.specs.Outcomes.{Outcome, given, missing, After, Judged, WorldExtracts, ConstructsIf}
use Rattle.isle_meaning.specs.PlainRuns.{WordRuns, WordsRun, Tests, OpenRuns, PatternRuns, PatternsRun, EachRuns}
use Rattle.isle_meaning.specs.SoundPrograms.{HasSoundData}
use Rattle.isle_meaning.specs.Inside.TypedWords.{IsTypedWord, AreTypedWords, AreTypedVariables, AreTypedAnswers, GivesTyped}
use Rattle.isle_meaning.proofs.Calls.Outcomes.{after_given}
use Rattle.isle_meaning.proofs.Calls.TypedValues.{none_typed, more_values_typed, values_parted, variant_made, struct_made, variant_opened}
use Rattle.isle_meaning.proofs.Calls.TypedValues.{struct_opened}

-- an answer that has its value is allowed
pub judged_given : {A : Type 0} (allowed : Type 0) (answer : Option A) (q : Asked) (x : A) → Judged allowed answer q (given x)
    → allowed × (answer ≡ Some x)
judged_given allowed None q x (inl h) = let e : given x ≡ missing = h.1 in absurd cc
judged_given allowed (Some y) q x (inl h) = let e : given x ≡ given y = h.1 in (h.0, cc)
judged_given allowed answer q x (inr h) = let e = h.1 in absurd cc

-- what is given is of the type
same_typed : (p : CheckedProgram) (x v : Value) (u : ℕ) → given v ≡ given x → IsValueOf p.values x u → IsValueOf p.values v u
same_typed p x v u e h = let q : x ≡ v = cc in subst (λ (z : Value). IsValueOf p.values z u) q h

module _ (p : CheckedProgram) (w : Answers) where
  -- an allowed value is of the term's type
  pub allowed_typed : (t : ℕ) (answer : Option ValueTree) (v : Value) → AllowsValue p t answer → answer_value p answer ≡ Some v
      → IsValueOf p.values v (p.terms.type_of t)
  allowed_typed t None v h e = absurd cc
  allowed_typed t (Some tree) v h e = record { tree = tree; typed = h; stands = cc }

  -- allowed outputs are of the types of the term's arguments
  outputs_typed : (t : ℕ) (answer : Option ValueTrees) (vs : Values) → AllowsOutputs p t answer → answer_values p answer ≡ Some vs
      → AreValuesOf p.values vs (p.terms.inputs t)
  outputs_typed t None vs h e = absurd cc
  outputs_typed t (Some trees) vs h e = record { trees = trees; typed = h; stand = cc }

  -- what an extractor gives is of the types of its term's arguments
  pub extract_gives_typed : (t : ℕ) (v : Value) (vs : Values) → WorldExtracts p w t v (given vs)
      → AreValuesOf p.values vs (p.terms.inputs t)
  extract_gives_typed t v vs run =
      let h = judged_given _ _ _ vs (run.judged) in outputs_typed t (w.extract t (run.arg)) vs (h.0) (h.1)

  module _ (R : ℕ → Type 0) (data_sound : HasSoundData p) (below : ℕ → Values → List Event → Outcome Value → Type 0)
      (gives_typed : GivesTyped p R below) where
    construct_gives_typed : (b : Bool) (t : ℕ) (vs : Values) (v : Value) → p.has_rules t ≡ b → (p.has_rules t ≡ true → R t)
        → AreValuesOf p.values vs (p.terms.inputs t) → ConstructsIf p w below b t vs (given v) → IsValueOf p.values v (p.terms.type_of t)
    construct_gives_typed true t vs v e r h run = gives_typed t vs [] v (r e) h run
    construct_gives_typed false t vs v e r h run =
        let j = judged_given _ _ _ v (run.judged) in allowed_typed t (w.construct t (run.args)) v (j.0) (j.1)

    module _ (S : ℕ → Type 0) (G D : ℕ → ℕ) (a : ℕ → Value) (done : List (Option Value)) (variables : AreTypedVariables p S G a)
        (answers : AreTypedAnswers p D done) where
      mutual
        -- a typed word gives a value of its type
        pub words_give_typed : (x : Word) (u : ℕ) (v : Value) → IsTypedWord p R S G D x u → WordRuns p w below a done x (given v)
            → IsValueOf p.values v u
        words_give_typed (var_word k) u v t e =
            same_typed p (a k) v u e (subst (IsValueOf p.values (a k)) (t.1) (variables k (t.0)))
        words_give_typed (bool_word ty b) u v t e = same_typed p _ v u e t
        words_give_typed (int_word ty n) u v t e = same_typed p _ v u e t
        words_give_typed (prim_word n) u v t e = same_typed p _ v u e t
        words_give_typed (variant_word ty k ws) u v t run =
            let (vs, q, e) = after_given _ _ v (run.2) in
            let (term, shaped, of) = t.1 in
            let same : p.terms.type_of term ≡ ty = of ∙ sym (t.0) in
            let fields = words_give_typed_all ws (p.terms.variant_fields ty k) vs (t.2)
            (subst (WordsRun p w below a done ws) q (run.1)) in
            same_typed p (made_variant ty k vs) v u e
            (subst (λ (z : ℕ). IsValueOf p.values (made_variant z k vs) u) same
            (subst (IsValueOf p.values (made_variant (p.terms.type_of term) k vs)) of
            (variant_made p data_sound term k vs shaped
            (subst (λ (z : ℕ). AreValuesOf p.values vs (p.terms.variant_fields z k)) (sym same) fields))))
        words_give_typed (struct_word ty ws) u v t run =
            let (vs, q, e) = after_given _ _ v (run.2) in
            let (term, shaped, of) = t.1 in
            let same : p.terms.type_of term ≡ ty = of ∙ sym (t.0) in
            let fields = words_give_typed_all ws (p.terms.struct_fields ty) vs (t.2)
            (subst (WordsRun p w below a done ws) q (run.1)) in
            same_typed p (made_struct ty vs) v u e
            (subst (λ (z : ℕ). IsValueOf p.values (made_struct z vs) u) same
            (subst (IsValueOf p.values (made_struct (p.terms.type_of term) vs)) of
            (struct_made p data_sound term vs shaped
            (subst (λ (z : ℕ). AreValuesOf p.values vs (p.terms.struct_fields z)) (sym same) fields))))
        words_give_typed (call_word t ws zero) u v typed run =
            let (vs, q, made) = after_given _ _ v (run.2) in
            let args = words_give_typed_all ws (p.terms.inputs t) vs (typed.3) (subst (WordsRun p w below a done ws) q (run.1)) in
            subst (IsValueOf p.values v) (typed.0) (construct_gives_typed (p.has_rules t) t vs v refl (typed.1) args made)
        words_give_typed (call_word t ws (suc i)) u v typed run =
            let (vs, q, (x, found, e)) = after_given (run.0)
            (λ (vs : Values) (r : Outcome Value). (x : Value) × (slice_get done i ≡ Some (Some x)) × (r ≡ given x)) v (run.2) in
            same_typed p x v u e (subst (IsValueOf p.values x) (typed.1) (answers i x found))

        -- typed words give values of their types
        pub words_give_typed_all : (xs : Words) (us : List ℕ) (vs : Values) → AreTypedWords p R S G D xs us
            → WordsRun p w below a done xs (given vs) → AreValuesOf p.values vs us
        words_give_typed_all no_words [] vs t e = let q : no_values ≡ vs = cc in subst (λ (z : Values). AreValuesOf p.values z []) q
            (none_typed p.values)
        words_give_typed_all no_words (u ∷ us) vs t e = absurd t
        words_give_typed_all (more_words x xs) [] vs t run = absurd t
        words_give_typed_all (more_words x xs) (u ∷ us) vs t run =
            let (v, q, (h, rest, e)) = after_given (run.0) (λ (v : Value) (r : Outcome Values). (h : Outcome Values)
            × WordsRun p w below a done xs h × After h (λ vs r. r ≡ given (more_values v vs)) r) vs (run.2) in
            let (ys, o, k) = after_given h _ vs e in
            let first = words_give_typed x u v (t.0) (subst (WordRuns p w below a done x) q (run.1)) in
            let others = words_give_typed_all xs us ys (t.1) (subst (WordsRun p w below a done xs) o rest) in
            let r : more_values v ys ≡ vs = cc in
            subst (λ (z : Values). AreValuesOf p.values z (u ∷ us)) r (more_values_typed p.values v ys u us first others)

  -- the variables' values are of their types, the one set too
  set_typed : (S : ℕ → Type 0) (G : ℕ → ℕ) (b : ℕ → Value) (k : ℕ) (v : Value) → AreTypedVariables p S G b → IsValueOf p.values v (G k)
      → AreTypedVariables p (λ j. (j ≡ k) ⊎ S j) G (set b k v)
  set_typed S G b k v h t j i = go (j == k) refl
    where
      old : (j == k) ≡ false → (j ≡ k) ⊎ S j → IsValueOf p.values (set b k v j) (G j)
      old e (inl q) = let r : set b k v j ≡ v = ap (set b k v) q ∙ set_at b k v in
          rw r (subst (λ (z : ℕ). IsValueOf p.values v (G z)) (sym q) t)
      old e (inr g) = rw e (h j g)

      go : (c : Bool) → (j == k) ≡ c → IsValueOf p.values (set b k v j) (G j)
      go true e = let q : j ≡ k = eqb-true j k e in rw e (subst (λ (z : ℕ). IsValueOf p.values v (G z)) (sym q) t)
      go false e = old e i

  test_typed : (S : ℕ → Type 0) (G : ℕ → ℕ) (passes : Type 0) (a b : ℕ → Value) → AreTypedVariables p S G a → Tests passes a (given b)
      → AreTypedVariables p S G b
  test_typed S G passes a b h (inl t) = let e : given b ≡ given a = t.1 in let q : a ≡ b = cc in subst (AreTypedVariables p S G) q h
  test_typed S G passes a b h (inr t) = let e : given b ≡ missing = t.1 in absurd cc

  module _ (data_sound : HasSoundData p) where
    -- what a value opens into is of the parts' types
    open_typed : (shape : TermShape) (ty t u : ℕ) (v : Value) (parts : Values → Outcome (ℕ → Value) → Type 0) (b : ℕ → Value) → ty ≡ u
        → IsValueOf p.values v u → OpenRuns p w shape ty t v parts (given b)
        → (vs : Values) × AreValuesOf p.values vs (part_types p.terms shape ty t) × parts vs (given b)
    open_typed (variant_shape k) ty t u v parts b e h (inl (vs, q, run)) = (
      vs,
      rw e (variant_opened p data_sound ty k vs u
          (rw q at h)),
      run,
    )
    open_typed (variant_shape k) ty t u v parts b e h (inr (n, q)) = absurd cc
    open_typed struct_shape ty t u v parts b e h (inl (vs, q, run)) = (vs, rw e (struct_opened p data_sound ty vs u (rw q at h)), run)
    open_typed struct_shape ty t u v parts b e h (inr (n, q)) = absurd cc
    open_typed declared_shape ty t u v parts b e h (g, run, next) =
        let (vs, q, parted) = after_given g parts b next in
        (vs, extract_gives_typed t v vs (subst (WorldExtracts p w t v) q run), parted)

    mutual
      -- a pattern on a value of its type gives its variables values of their types
      pub patterns_give_typed : (q : TypedPattern) (S : ℕ → Type 0) (G : ℕ → ℕ) (a b : ℕ → Value) (v : Value) (u : ℕ)
          → IsTyped p.terms G q u
          → AreTypedVariables p S G a → IsValueOf p.values v u → PatternRuns p w a q v (given b) → AreTypedVariables p (scope q S) G b
      patterns_give_typed (typed_bind ty k q) S G a b v u t h f run =
          let (c, e, o) = after_given _ _ b (run.2) in
          let low = patterns_give_typed q S G a c v u (t.2) h f (subst (PatternRuns p w a q v) e (run.1)) in
          let r : set c k v ≡ b = cc in
          subst (AreTypedVariables p (λ j. (j ≡ k) ⊎ scope q S j) G) r
          (set_typed (scope q S) G c k v low (subst (IsValueOf p.values v) (sym (t.1)) f))
      patterns_give_typed (typed_var ty k) S G a b v u t h f run = test_typed S G _ a b h run
      patterns_give_typed (typed_bool ty x) S G a b v u t h f run = test_typed S G _ a b h run
      patterns_give_typed (typed_int ty n) S G a b v u t h f run = test_typed S G _ a b h run
      patterns_give_typed (typed_prim ty n) S G a b v u t h f run = test_typed S G _ a b h run
      patterns_give_typed (typed_term ty t qs) S G a b v u typed h f run =
          let (vs, fs, parted) = open_typed (p.terms.shape t) ty t u v _ b (typed.0) f run in
          patterns_give_typed_all qs S G a b vs (part_types p.terms (p.terms.shape t) ty t) (typed.2) h fs parted
      patterns_give_typed (typed_wildcard ty) S G a b v u t h f run =
          let q : a ≡ b = cc in subst (AreTypedVariables p S G) q h
      patterns_give_typed (typed_and ty qs) S G a b v u t h f run = patterns_give_typed_each qs S G a b v u (t.1) h f run

      -- patterns on the values at their places
      pub patterns_give_typed_all : (qs : TypedPatterns) (S : ℕ → Type 0) (G : ℕ → ℕ) (a b : ℕ → Value) (vs : Values) (us : List ℕ)
          → AllTyped p.terms G qs us → AreTypedVariables p S G a → AreValuesOf p.values vs us → PatternsRun p w a qs vs (given b)
          → AreTypedVariables p (scope_all qs S) G b
      patterns_give_typed_all no_typed S G a b no_values us t h f run =
          let q : a ≡ b = cc in subst (AreTypedVariables p S G) q h
      patterns_give_typed_all no_typed S G a b (more_values v vs) us t h f run = absurd cc
      patterns_give_typed_all (more_typed q qs) S G a b no_values us t h f run = absurd cc
      patterns_give_typed_all (more_typed q qs) S G a b (more_values v vs) [] t h f run = absurd t
      patterns_give_typed_all (more_typed q qs) S G a b (more_values v vs) (u ∷ us) t h f run =
          let (c, e, rest) = after_given _ _ b (run.2) in
          let parted = values_parted p.values v vs u us f in
          let first = patterns_give_typed q S G a c v u (t.0) h (parted.0) (subst (PatternRuns p w a q v) e (run.1)) in
          patterns_give_typed_all qs (scope q S) G c b vs us (t.1) first (parted.1) rest

      -- patterns on one value
      pub patterns_give_typed_each : (qs : TypedPatterns) (S : ℕ → Type 0) (G : ℕ → ℕ) (a b : ℕ → Value) (v : Value) (u : ℕ)
          → EachTyped p.terms G qs u → AreTypedVariables p S G a → IsValueOf p.values v u → EachRuns p w a qs v (given b)
          → AreTypedVariables p (scope_all qs S) G b
      patterns_give_typed_each no_typed S G a b v u t h f run =
          let q : a ≡ b = cc in subst (AreTypedVariables p S G) q h
      patterns_give_typed_each (more_typed q qs) S G a b v u t h f run =
          let (c, e, rest) = after_given _ _ b (run.2) in
          let first = patterns_give_typed q S G a c v u (t.0) h f (subst (PatternRuns p w a q v) e (run.1)) in
          patterns_give_typed_each qs (scope q S) G c b v u (t.1) first f rest
