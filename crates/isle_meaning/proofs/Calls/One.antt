-- Two plain runs of one call at one depth are one, or their effects first differ in the world's answer to the same call.
use Rattle.std.proofs.Common.{◌≡◌, ◌⊎◌, inl, inr, ◌<◌, ◌<ℤ◌, ℕ, ℤ, zero, suc, List, [], ◌∷◌, ◌++◌, length, Contains, Option, Some, None, refl, sym, ◌∙◌, ap, subst}
use Rattle.std.proofs.Common.{arith, slice_get, slice_index_or, Bool, true, false}
use Rattle.std.specs.Cmp.{int_chain}
use lib.Signed.{<ℤ_irrefl}
use Rattle.isle_rules.specs.TypedRules.{TypedPattern, typed_bind, typed_var, typed_bool, typed_int, typed_prim, typed_term, typed_wildcard}
use Rattle.isle_rules.specs.TypedRules.{typed_and, TypedPatterns, no_typed, more_typed, TypedIfLet, TypedRule}
use Rattle.isle_meaning.specs.Calls.{IsRuleAt}
use Rattle.isle_meaning.specs.Facts.{TermShape, variant_shape, struct_shape, declared_shape}
use Rattle.isle_meaning.specs.Laws.Calls.{FirstDiffer}
use Rattle.isle_meaning.specs.Laws.Plain.{PlainRunsAreOne}
use Rattle.isle_meaning.specs.Outcomes.{Outcome, given, missing, ended, After, WorldExtracts, ConstructsIf, EffectsIf, PureRuns, ImpureRuns, Then}
use Rattle.isle_meaning.specs.PlainRuns.{WordRuns, WordsRun, Tests, OpenRuns, PatternRuns, PatternsRun, EachRuns, IfLetsRun, no_variables, RuleRuns}
use Rattle.isle_meaning.specs.PlainRuns.{RightRuns, Tried, RulesRun, IsTriedBefore, AreTriedInOrder, PlainRun}
use Rattle.isle_meaning.specs.SoundPrograms.{HasSoundData}
use Rattle.isle_meaning.specs.Values.{Value, Values, bool_value, int_value, constant_value, made_variant, made_struct, no_values, more_values}
use Rattle.isle_meaning.specs.Words.{Word, var_word, bool_word, int_word, prim_word, variant_word, struct_word, call_word, Words}
use Rattle.isle_meaning.specs.Words.{no_words, more_words, Step, set, word_of, steps_of}
use Rattle.isle_meaning.specs.Worlds.{CheckedProgram, Answers, Event}
use Rattle.isle_meaning.proofs.Calls.Answered.{constructs_one, extracts_one, effects_one}
use Rattle.isle_meaning.proofs.Chains.Stable.{none_first, front_alike, rest_alike, first_differ}

-- ---- a list in an order is given by its members

-- each stands before those behind it
abbrev IsInOrder : (ℕ → ℕ → Type 0) → List ℕ → Type 0
IsInOrder R xs = (k l i j : ℕ) → k < l → slice_get xs k ≡ Some i → slice_get xs l ≡ Some j → R i j

-- a member has a place
at_of : (xs : List ℕ) (k y : ℕ) → k < length xs → slice_index_or xs k y ≡ y → slice_get xs k ≡ Some y
at_of [] k y less e = absurd (omega (arith, less))
at_of (x ∷ xs) zero y less e = ap (λ (z : ℕ). Some z) e
at_of (x ∷ xs) (suc k) y less e = at_of xs k y (omega (arith, less)) e

-- it is the first, or one behind it
split_member : (x y : ℕ) (xs : List ℕ) → Contains (x ∷ xs) y → (x ≡ y) ⊎ Contains xs y
split_member x y xs (zero, less, e) = inl e
split_member x y xs (suc k, less, e) = inr (k, omega (arith, less), e)

-- the first is a member
first_member : (x : ℕ) (xs : List ℕ) → Contains (x ∷ xs) x
first_member x xs = (0, omega arith, refl)

-- so are those behind it
later_member : (x y : ℕ) (xs : List ℕ) → Contains xs y → Contains (x ∷ xs) y
later_member x y xs (k, less, e) = (suc k, omega (arith, less), e)

module _ (R : ℕ → ℕ → Type 0) (M : ℕ → Type 0) (one_way : (i j : ℕ) → M i → M j → R i j → R j i → ⊥) where
  -- the first stands before each behind it
  before_later : (x y : ℕ) (xs : List ℕ) → IsInOrder R (x ∷ xs) → Contains xs y → R x y
  before_later x y xs order (k, less, e) = order 0 (suc k) x y (omega arith) refl (at_of xs k y less e)

  -- lists in order with the same members are the same
  lists_one : (xs ys : List ℕ) → IsInOrder R xs → IsInOrder R ys → ((i : ℕ) → Contains xs i → M i) → ((i : ℕ) → Contains xs i → Contains ys i)
      → ((i : ℕ) → Contains ys i → Contains xs i) → xs ≡ ys
  lists_one [] [] one two are into back = refl
  lists_one [] (y ∷ ys) one two are into back = let (k, less, e) = back y (first_member y ys) in absurd (omega (arith, less))
  lists_one (x ∷ xs) [] one two are into back = let (k, less, e) = into x (first_member x xs) in absurd (omega (arith, less))
  lists_one (x ∷ xs) (y ∷ ys) one two are into back =
      let same : x ≡ y = heads (split_member y x ys (into x (first_member x xs))) (split_member x y xs (back y (first_member y ys))) in
      let rest : xs ≡ ys = lists_one xs ys (λ k l i j less at to. one (suc k) (suc l) i j (omega (arith, less)) at to)
      (λ k l i j less at to. two (suc k) (suc l) i j (omega (arith, less)) at to) (λ i c. are i (later_member x i xs c))
      (λ i c. tails x y xs ys i same one c (are i (later_member x i xs c)) (split_member y i ys (into i (later_member x i xs c))))
      (λ i c. tails y x ys xs i (sym same) two c (are i (back i (later_member y i ys c))) (split_member x i xs (back i (later_member y i ys c)))) in
      ap (λ (z : ℕ). z ∷ xs) same ∙ ap (λ (l : List ℕ). y ∷ l) rest
    where
      heads : (y ≡ x) ⊎ Contains ys x → (x ≡ y) ⊎ Contains xs y → x ≡ y
      heads (inl e) h = sym e
      heads (inr c) (inl e) = e
      heads (inr c) (inr d) = absurd (one_way x y (are x (first_member x xs)) (are y (back y (first_member y ys)))
          (before_later x y xs one d) (before_later y x ys two c))

      tails : (x y : ℕ) (xs ys : List ℕ) (i : ℕ) → x ≡ y → IsInOrder R (x ∷ xs) → Contains xs i → M i → (y ≡ i) ⊎ Contains ys i → Contains ys i
      tails x y xs ys i same order c is (inr d) = d
      tails x y xs ys i same order c is (inl e) =
          let r : R i i = subst (λ (z : ℕ). R z i) (same ∙ e) (before_later x i xs order c) in absurd (one_way i i is is r r)

-- ---- the places of a term's rules are one list

-- a rule stands there
abbrev HasRule : CheckedProgram → ℕ → Type 0
HasRule p i = (rule : TypedRule) × (slice_get p.rules i ≡ Some rule)

-- the rule at one place is tried before that at another
abbrev GoesBefore : CheckedProgram → ℕ → ℕ → Type 0
GoesBefore p i j = (one other : TypedRule) → slice_get p.rules i ≡ Some one → slice_get p.rules j ≡ Some other → IsTriedBefore i one j other

-- never both ways
one_first : (i j : ℕ) (one other : TypedRule) → IsTriedBefore i one j other → IsTriedBefore j other i one → ⊥
one_first i j one other (inl h) (inl k) = <ℤ_irrefl (int_chain _ _ _ h k)
one_first i j one other (inl h) (inr k) = <ℤ_irrefl (subst (λ (z : ℤ). z <ℤ one.priority) (k.0) h)
one_first i j one other (inr h) (inl k) = <ℤ_irrefl (subst (λ (z : ℤ). z <ℤ other.priority) (h.0) k)
one_first i j one other (inr h) (inr k) = omega (arith, h.1, k.1)

places_one : (p : CheckedProgram) (t : ℕ) (xs ys : List ℕ) → AreTriedInOrder p t xs → AreTriedInOrder p t ys → xs ≡ ys
places_one p t xs ys one two =
    lists_one (GoesBefore p) (HasRule p) (λ i j h k r s. one_first i j (h.0) (k.0) (r (h.0) (k.0) (h.1) (k.1)) (s (k.0) (h.0) (k.1) (h.1))) xs ys
    (λ k l i j less at to x y. one.order k l i j x y less at to) (λ k l i j less at to x y. two.order k l i j x y less at to)
    (λ i c. let (rule, is) = (one.all i).0 c in (rule, is.listed)) (λ i c. (two.all i).1 ((one.all i).0 c)) (λ i c. (one.all i).1 ((two.all i).0 c))

-- ---- what is read comes to one thing

-- what goes on after one thing
chained : {A B : Type 0} (runs : Outcome A → Type 0) (next : A → Outcome B → Type 0) → ((g h : Outcome A) → runs g → runs h → g ≡ h)
    → ((x : A) (r s : Outcome B) → next x r → next x s → r ≡ s) → (r s : Outcome B) → (g : Outcome A) × runs g × After g next r
    → (g : Outcome A) × runs g × After g next s → r ≡ s
chained {A} {B} runs next one then r s (g, run, more) (h, other, others) =
    go g more (subst (λ (z : Outcome A). After z next s) (one h g other run) others)
  where
    go : (g : Outcome A) → After g next r → After g next s → r ≡ s
    go (given x) h k = then x r s h k
    go missing h k = h ∙ sym k
    go (ended e) h k = h ∙ sym k

-- a test
tests_one : (passes : Type 0) (a : ℕ → Value) (r s : Outcome (ℕ → Value)) → Tests passes a r → Tests passes a s → r ≡ s
tests_one passes a r s (inl h) (inl k) = h.1 ∙ sym (k.1)
tests_one passes a r s (inl h) (inr k) = absurd (k.0 (h.0))
tests_one passes a r s (inr h) (inl k) = absurd (h.0 (k.0))
tests_one passes a r s (inr h) (inr k) = h.1 ∙ sym (k.1)

-- an impure call's answer
known_one : (done : List (Option Value)) (i : ℕ) (r s : Outcome Value) → (v : Value) × (slice_get done i ≡ Some (Some v)) × (r ≡ given v)
    → (v : Value) × (slice_get done i ≡ Some (Some v)) × (s ≡ given v) → r ≡ s
known_one done i r s (v, at, is) (u, to, be) =
    let q : Some (Some v) ≡ Some (Some u) = sym at ∙ to in let e : v ≡ u = cc in is ∙ ap (λ (z : Value). given z) e ∙ sym be

-- effects and an outcome, where effects don't first differ in an answer
abbrev One : (List Event → Outcome Value → Type 0) → Type 0
One g = (trace other : List Event) (r s : Outcome Value) → g trace r → g other s → (FirstDiffer trace other → ⊥) → (trace ≡ other) × (r ≡ s)

-- what goes on
then_one : {A : Type 0} (g : Outcome A) (next : A → List Event → Outcome Value → Type 0) → ((x : A) → One (next x)) → One (Then g next)
then_one (given x) next f = f x
then_one missing next f = λ trace other r s h k alike. (h.0 ∙ sym (k.0), h.1 ∙ sym (k.1))
then_one (ended e) next f = λ trace other r s h k alike. (h.0 ∙ sym (k.0), h.1 ∙ sym (k.1))

-- and steps, likewise
abbrev OneRun : (ℕ → List Event → Outcome Value → Type 0) → Type 0
OneRun g = (m n : ℕ) (trace other : List Event) (r s : Outcome Value) → g m trace r → g n other s → (FirstDiffer trace other → ⊥)
    → (m ≡ n) × (trace ≡ other) × (r ≡ s)

-- what follows a rule that was tried
tried_one : (s : Outcome (ℕ → Value)) (right : (ℕ → Value) → List Event → Outcome Value → Type 0) (others : ℕ → List Event → Outcome Value → Type 0)
    → ((a : ℕ → Value) → One (right a)) → OneRun others → OneRun (Tried s right others)
tried_one (given a) right others f g m n trace other r s h k alike =
    let (traces, outcomes) = f a trace other r s (h.1) (k.1) alike in (h.0 ∙ sym (k.0), traces, outcomes)
tried_one missing right others f g m n trace other r s (k, c, run) (k', c', run') alike =
    let (steps, traces, outcomes) = g k k' trace other r s run run' alike in (c ∙ ap suc steps ∙ sym c', traces, outcomes)
tried_one (ended e) right others f g m n trace other r s h k alike = (h.0 ∙ sym (k.0), h.1 ∙ sym (k.1), h.2 ∙ sym (k.2))

module _ (p : CheckedProgram) (w : Answers) (data_sound : HasSoundData p) (below : ℕ → Values → List Event → Outcome Value → Type 0)
    (one_below : (u : ℕ) (vs : Values) → One (below u vs)) where
  -- a pure call has one answer
  pure_one : (c : Bool) (u : ℕ) (vs : Values) (r s : Outcome Value) → ConstructsIf p w below c u vs r → ConstructsIf p w below c u vs s → r ≡ s
  pure_one true u vs r s h k = (one_below u vs [] [] r s h k (none_first [])).1
  pure_one false u vs r s h k = constructs_one p w data_sound u vs r s h k

  -- so has an impure one
  impure_one : (c : Bool) (u : ℕ) (vs : Values) → One (EffectsIf p below c u vs)
  impure_one true u vs = one_below u vs
  impure_one false u vs = effects_one p w data_sound u vs

  mutual
    -- an expression
    word_one : (a : ℕ → Value) (done : List (Option Value)) (x : Word) (r s : Outcome Value) → WordRuns p w below a done x r
        → WordRuns p w below a done x s → r ≡ s
    word_one a done (var_word k) r s h j = h ∙ sym j
    word_one a done (bool_word ty b) r s h j = h ∙ sym j
    word_one a done (int_word ty n) r s h j = h ∙ sym j
    word_one a done (prim_word n) r s h j = h ∙ sym j
    word_one a done (variant_word ty k ws) r s h j =
        chained (WordsRun p w below a done ws) (λ vs r. r ≡ given (made_variant ty k vs)) (words_one a done ws) (λ vs r s h k. h ∙ sym k) r s h j
    word_one a done (struct_word ty ws) r s h j =
        chained (WordsRun p w below a done ws) (λ vs r. r ≡ given (made_struct ty vs)) (words_one a done ws) (λ vs r s h k. h ∙ sym k) r s h j
    word_one a done (call_word t ws zero) r s h j =
        chained (WordsRun p w below a done ws) (PureRuns p w below t) (words_one a done ws)
        (λ vs r s h k. pure_one (p.has_rules t) t vs r s h k) r s h j
    word_one a done (call_word t ws (suc i)) r s h j =
        chained (WordsRun p w below a done ws) (λ vs r. (v : Value) × (slice_get done i ≡ Some (Some v)) × (r ≡ given v)) (words_one a done ws)
        (λ vs r s h k. known_one done i r s h k) r s h j

    -- expressions
    words_one : (a : ℕ → Value) (done : List (Option Value)) (xs : Words) (r s : Outcome Values) → WordsRun p w below a done xs r
        → WordsRun p w below a done xs s → r ≡ s
    words_one a done no_words r s h j = h ∙ sym j
    words_one a done (more_words x xs) r s h j =
        chained (WordRuns p w below a done x) (λ v r. (h : Outcome Values) × WordsRun p w below a done xs h
        × After h (λ vs r. r ≡ given (more_values v vs)) r)
        (word_one a done x) (λ v r s h k. chained (WordsRun p w below a done xs) (λ vs r. r ≡ given (more_values v vs)) (words_one a done xs)
        (λ vs r s h k. h ∙ sym k) r s h k) r s h j

  -- a term's pattern is opened
  open_one : (shape : TermShape) (ty t : ℕ) (v : Value) (parts : Values → Outcome (ℕ → Value) → Type 0)
      → ((vs : Values) (r s : Outcome (ℕ → Value)) → parts vs r → parts vs s → r ≡ s) → (r s : Outcome (ℕ → Value))
      → OpenRuns p w shape ty t v parts r → OpenRuns p w shape ty t v parts s → r ≡ s
  open_one (variant_shape k) ty t v parts f r s (inl (vs, e, h)) (inl (us, d, j)) =
      let q : made_variant ty k us ≡ made_variant ty k vs = sym d ∙ e in let same : us ≡ vs = cc in
      f vs r s h (subst (λ (z : Values). parts z s) same j)
  open_one (variant_shape k) ty t v parts f r s (inl (vs, e, h)) (inr n) = absurd (n.0 vs e)
  open_one (variant_shape k) ty t v parts f r s (inr n) (inl (us, d, j)) = absurd (n.0 us d)
  open_one (variant_shape k) ty t v parts f r s (inr n) (inr m) = n.1 ∙ sym (m.1)
  open_one struct_shape ty t v parts f r s (inl (vs, e, h)) (inl (us, d, j)) =
      let q : made_struct ty us ≡ made_struct ty vs = sym d ∙ e in let same : us ≡ vs = cc in
      f vs r s h (subst (λ (z : Values). parts z s) same j)
  open_one struct_shape ty t v parts f r s (inl (vs, e, h)) (inr n) = absurd (n.0 vs e)
  open_one struct_shape ty t v parts f r s (inr n) (inl (us, d, j)) = absurd (n.0 us d)
  open_one struct_shape ty t v parts f r s (inr n) (inr m) = n.1 ∙ sym (m.1)
  open_one declared_shape ty t v parts f r s h j = chained (WorldExtracts p w t v) parts (extracts_one p w data_sound t v) f r s h j

  mutual
    -- a pattern
    pattern_one : (a : ℕ → Value) (q : TypedPattern) (v : Value) (r s : Outcome (ℕ → Value)) → PatternRuns p w a q v r
        → PatternRuns p w a q v s → r ≡ s
    pattern_one a (typed_bind ty k q) v r s h j =
        chained (PatternRuns p w a q v) (λ b r. r ≡ given (set b k v)) (pattern_one a q v) (λ b r s h k. h ∙ sym k) r s h j
    pattern_one a (typed_var ty k) v r s h j = tests_one (a k ≡ v) a r s h j
    pattern_one a (typed_bool ty b) v r s h j = tests_one (v ≡ bool_value b) a r s h j
    pattern_one a (typed_int ty n) v r s h j = tests_one (v ≡ int_value n) a r s h j
    pattern_one a (typed_prim ty n) v r s h j = tests_one (v ≡ constant_value n) a r s h j
    pattern_one a (typed_term ty t ps) v r s h j =
        open_one (p.terms.shape t) ty t v (λ vs r. PatternsRun p w a ps vs r) (λ vs r s h k. patterns_one a ps vs r s h k) r s h j
    pattern_one a (typed_wildcard ty) v r s h j = h ∙ sym j
    pattern_one a (typed_and ty ps) v r s h j = each_one a ps v r s h j

    -- patterns, each on its value
    patterns_one : (a : ℕ → Value) (ps : TypedPatterns) (vs : Values) (r s : Outcome (ℕ → Value)) → PatternsRun p w a ps vs r
        → PatternsRun p w a ps vs s → r ≡ s
    patterns_one a no_typed no_values r s h j = h ∙ sym j
    patterns_one a no_typed (more_values v vs) r s h j = h ∙ sym j
    patterns_one a (more_typed q qs) no_values r s h j = h ∙ sym j
    patterns_one a (more_typed q qs) (more_values v vs) r s h j =
        chained (PatternRuns p w a q v) (λ b r. PatternsRun p w b qs vs r) (pattern_one a q v) (λ b r s h k. patterns_one b qs vs r s h k) r s h j

    -- patterns on one value
    each_one : (a : ℕ → Value) (ps : TypedPatterns) (v : Value) (r s : Outcome (ℕ → Value)) → EachRuns p w a ps v r → EachRuns p w a ps v s → r ≡ s
    each_one a no_typed v r s h j = h ∙ sym j
    each_one a (more_typed q qs) v r s h j =
        chained (PatternRuns p w a q v) (λ b r. EachRuns p w b qs v r) (pattern_one a q v) (λ b r s h k. each_one b qs v r s h k) r s h j

  -- if-lets
  iflets_one : (a : ℕ → Value) (xs : List TypedIfLet) (r s : Outcome (ℕ → Value)) → IfLetsRun p w below a xs r → IfLetsRun p w below a xs s → r ≡ s
  iflets_one a [] r s h j = h ∙ sym j
  iflets_one a (x ∷ xs) r s h j =
      chained (WordRuns p w below a [] (word_of p.terms x.value))
      (λ v r. (s : Outcome (ℕ → Value)) × PatternRuns p w a x.pattern v s × After s (λ b r. IfLetsRun p w below b xs r) r)
      (word_one a [] (word_of p.terms x.value)) (λ v r s h k. chained (PatternRuns p w a x.pattern v) (λ b r. IfLetsRun p w below b xs r)
      (pattern_one a x.pattern v) (λ b r s h k. iflets_one b xs r s h k) r s h k) r s h j

  -- a rule
  rule_one : (args : Values) (rule : TypedRule) (r s : Outcome (ℕ → Value)) → RuleRuns p w below args rule r → RuleRuns p w below args rule s → r ≡ s
  rule_one args rule r s h j =
      chained (PatternsRun p w no_variables rule.args args) (λ a r. IfLetsRun p w below a rule.iflets r) (patterns_one no_variables rule.args args)
      (λ a r s h k. iflets_one a rule.iflets r s h k) r s h j

  -- what a right side does once its call's arguments are known
  abbrev Made : (ℕ → Value) → Word → List Step → Step → List (Option Value) → Values → List Event → Outcome Value → Type 0
  Made a result steps x done vs trace r = (effects : List Event) × (rest : List Event) × (b : Outcome Value) × (trace ≡ effects ++ rest)
      × ImpureRuns p below x.term vs effects b × Then b (λ v rest r. RightRuns p w below a (done ++ Some v ∷ []) steps result rest r) rest r

  made_one : (a : ℕ → Value) (result : Word) (steps : List Step) (x : Step) (done : List (Option Value))
      → ((v : Value) → One (RightRuns p w below a (done ++ Some v ∷ []) steps result)) → (vs : Values) → One (Made a result steps x done vs)
  made_one a result steps x done again vs trace other r s (effects, rest, b, split, run, more) (effects', rest', b', split', run', more') alike =
      let whole : FirstDiffer (effects ++ rest) (effects' ++ rest') → ⊥ = λ d. alike (subst (λ (l : List Event). FirstDiffer l other) (sym split)
      (subst (λ (l : List Event). FirstDiffer (effects ++ rest) l) (sym split') d)) in
      let both = impure_one (p.has_rules x.term) x.term vs effects effects' b b' run run' (front_alike effects effects' rest rest' whole) in
      let later : FirstDiffer rest rest' → ⊥ =
      rest_alike effects' rest rest' (subst (λ (l : List Event). FirstDiffer (l ++ rest) (effects' ++ rest') → ⊥) (both.0) whole) in
      let (rests, outcomes) = then_one b (λ v rest r. RightRuns p w below a (done ++ Some v ∷ []) steps result rest r) again rest rest' r s more
      (subst (λ (z : Outcome Value). Then z (λ v rest r. RightRuns p w below a (done ++ Some v ∷ []) steps result rest r) rest' s)
      (sym (both.1)) more') later in
      (split ∙ ap (λ (l : List Event). l ++ rest) (both.0) ∙ ap (λ (l : List Event). effects' ++ l) rests ∙ sym split', outcomes)

  -- a right side
  right_one : (a : ℕ → Value) (result : Word) (steps : List Step) (done : List (Option Value)) → One (RightRuns p w below a done steps result)
  right_one a result [] done trace other r s h k alike = (h.0 ∙ sym (k.0), word_one a done result r s (h.1) (k.1))
  right_one a result (x ∷ steps) done trace other r s (g, run, more) (g', run', more') alike =
      then_one g (Made a result steps x done) (made_one a result steps x done (λ v. right_one a result steps (done ++ Some v ∷ [])))
      trace other r s more
      (subst (λ (z : Outcome Values). Then z (Made a result steps x done) other s) (words_one a done x.args g' g run' run) more') alike

  -- rules in turn
  rules_one : (t : ℕ) (args : Values) (places : List ℕ) → OneRun (RulesRun p w below t args places)
  rules_one t args [] m n trace other r s h k alike = (h.0 ∙ sym (k.0), h.1 ∙ sym (k.1), h.2 ∙ sym (k.2))
  rules_one t args (i ∷ is) m n trace other r s (rule, at, o, run, tried) (rule', at', o', run', tried') alike =
      let rules : rule' ≡ rule = (let q : Some rule' ≡ Some rule = sym at' ∙ at in cc) in
      let same : o' ≡ o = rule_one args rule o' o (subst (λ (z : TypedRule). RuleRuns p w below args z o') rules run') run in
      tried_one o (right rule) (RulesRun p w below t args is)
      (λ a. right_one a (word_of p.terms rule.right) (steps_of p.terms rule.right) []) (rules_one t args is) m n trace other r s tried
      (subst (λ (z : Outcome (ℕ → Value)). Tried z (right rule) (RulesRun p w below t args is) n other s) same
      (subst (λ (z : TypedRule). Tried o' (right z) (RulesRun p w below t args is) n other s) rules tried')) alike
    where
      right : TypedRule → (ℕ → Value) → List Event → Outcome Value → Type 0
      right rule a trace r = RightRuns p w below a [] (steps_of p.terms rule.right) (word_of p.terms rule.right) trace r

-- two plain runs of one call at one depth are one, where their effects don't first differ in an answer
plain_runs_one : (p : CheckedProgram) (w : Answers) → HasSoundData p → (depth t : ℕ) (args : Values) → OneRun (PlainRun p w depth t args)
plain_runs_one p w data_sound zero t args m n one other r q h k alike = (h.0 ∙ sym (k.0), h.1 ∙ sym (k.1), h.2 ∙ sym (k.2))
plain_runs_one p w data_sound (suc d) t args m n one other r q (places, order, run) (places', order', run') alike =
    rules_one p w data_sound below (λ u vs one other r q h k alike. let (steps, traces, outcomes) = plain_runs_one p w data_sound d u vs (h.0) (k.0)
    one other r q (h.1) (k.1) alike in (traces, outcomes)) t args places m n one other r q run
    (subst (λ (l : List ℕ). RulesRun p w below t args l n other q) (places_one p t places' places order' order) run') alike
  where
    below : ℕ → Values → List Event → Outcome Value → Type 0
    below u vs effects q = (tried : ℕ) × PlainRun p w d u vs tried effects q

-- Two plain runs of one call at one depth are one, or their effects first differ in the world's answer to the same call.
pub plain_runs_are_one : PlainRunsAreOne
plain_runs_are_one p w data_sound depth t args m n one other r q h k = elim (first_differ one other) [
  | inl d ↦ inr d
  | inr same ↦ inl (plain_runs_one p w data_sound depth t args m n one other r q h k same)
]
