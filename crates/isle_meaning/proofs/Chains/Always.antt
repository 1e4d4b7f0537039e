-- One call has one meaning, whether or not completions are given.
use Rattle.std.proofs.Common.{◌≡◌, ◌⊎◌, inl, inr, ℕ, zero, suc, List, [], ◌∷◌, true, false, Option, refl, sym, ◌∙◌, ap, subst}
use Rattle.isle_rules.specs.TypedRules.{TypedPattern, typed_bind, typed_var, typed_bool, typed_int, typed_prim, typed_term, typed_wildcard}
use Rattle.isle_rules.specs.TypedRules.{typed_and, TypedPatterns, no_typed, more_typed, TypedExpr, built_var, built_bool, built_int}
use Rattle.isle_rules.specs.TypedRules.{built_prim, built_term, built_let, TypedExprs, no_built, more_built, TypedBindings, no_typed_bindings}
use Rattle.isle_rules.specs.TypedRules.{more_typed_bindings, TypedIfLet, TypedRule}
use Rattle.isle_meaning.specs.Facts.{TermShape, variant_shape, struct_shape, declared_shape}
use Rattle.isle_meaning.specs.Values.{Value, Values}
use Rattle.isle_meaning.specs.GroundValues.{AreValuesOf}
use Rattle.isle_meaning.specs.Words.{word_of, steps_of}
use Rattle.isle_meaning.specs.Answers.{Completion}
use Rattle.isle_meaning.specs.Scopes.{scope, scope_of, scope_all, none, IsSingle, let_scope, ReadsExpr, ReadExprs, ReadsLets, IsWellOpened}
use Rattle.isle_meaning.specs.Scopes.{IsWellScoped, AreWellScoped, IfLetsAreWellScoped}
use Rattle.isle_meaning.specs.Worlds.{CheckedProgram, Answers, Event}
use Rattle.isle_meaning.specs.Calls.{Agrees, Makes, IsRuleAt, Told, CoversAll, Means}
use Rattle.isle_meaning.specs.SoundPrograms.{IsSoundExpr, AreSoundExprs, AreSoundBindings, AreSoundIfLets, IsSound, IsSoundRule}
use Rattle.isle_meaning.specs.Laws.Calls.{AreOne, HasNoTies, CallOf, ExprCalls, ExprsCall, BindingsCall, PatternCalls, PatternsCall}
use Rattle.isle_meaning.specs.Laws.Calls.{IfLetsCall, CallsOnly, HasValues, FailsWherePartial, OneMeaningAlways}
use Rattle.isle_meaning.specs.Laws.Calls.{Surely, Extends, IsGoodAnswer, Covering, CompletionsExtend, MeaningsAreTyped}
use Rattle.isle_meaning.proofs.Calls.RuleGiving.{none_answered}
use Rattle.isle_meaning.proofs.Calls.WordTyping.{calls_types, expr_typed}
use Rattle.isle_meaning.proofs.Chains.Asks.{WordCalls, StepCalls, word_calls, rule_asks}
use Rattle.isle_meaning.proofs.Chains.Causing.{steps_are_causal}
use Rattle.isle_meaning.proofs.Chains.Covering.{RuleAsks, covers_more, know_rules, chosen_stays}
use Rattle.isle_meaning.proofs.Chains.Following.{OneOf, follow}
use Rattle.isle_meaning.proofs.Chains.Good.{matches_typed, follow_good}
use Rattle.isle_meaning.proofs.Chains.Growing.{with_construct, with_extract, construct_extends, extract_extends, construct_there}
use Rattle.isle_meaning.proofs.Chains.Growing.{extract_there, construct_agrees, extract_agrees, open_completion, open_agrees, GivesGood}
use Rattle.isle_meaning.proofs.Chains.Growing.{call_answered, opening_answered}
use Rattle.isle_meaning.proofs.Chains.Knowing.{CanGrow}
use Rattle.isle_meaning.proofs.Chains.One.{steps_call, no_steps, each_map}
use Rattle.isle_meaning.proofs.Chains.Stable.{one_is_stable}
use Rattle.isle_meaning.proofs.Chains.Surely.{surely, follows}
use Rattle.isle_meaning.proofs.Chains.Unique.{One, EachStep, makes_one}

module _ (p : CheckedProgram) (R Q : ℕ → Type 0) where
  -- a constructor that rules call
  abbrev pub MayMake : ℕ → Type 0
  MayMake t = Q t × (p.has_rules t ≡ true → R t) × (p.terms.multi t ≡ false)

  -- an extractor that patterns call
  abbrev pub MayOpen : ℕ → Type 0
  MayOpen t = Q t × (p.terms.multi t ≡ false)

  -- a declared constructor that may be made
  made_call : (shape : TermShape) (t : ℕ) → CallOf Q shape t → (p.has_rules t ≡ true → R t) → IsSingle p.terms shape t
      → CallOf MayMake shape t
  made_call (variant_shape k) t q r m = tt
  made_call struct_shape t q r m = tt
  made_call declared_shape t q r m = (q, r, m)

  -- a declared extractor that may be opened by
  opened_call : (shape : TermShape) (t n : ℕ) → CallOf Q shape t → IsWellOpened p.terms shape t n → CallOf MayOpen shape t
  opened_call (variant_shape k) t n q m = tt
  opened_call struct_shape t n q m = tt
  opened_call declared_shape t n q m = (q, m.1)

  mutual
    -- what a sound expression calls may be called
    expr_makes : (e : TypedExpr) (S : ℕ → Type 0) → ExprCalls p.terms Q e → IsSoundExpr p R e → ReadsExpr p.terms e S
        → ExprCalls p.terms MayMake e
    expr_makes (built_var ty k) S q s r = tt
    expr_makes (built_bool ty b) S q s r = tt
    expr_makes (built_int ty n) S q s r = tt
    expr_makes (built_prim ty n) S q s r = tt
    expr_makes (built_term ty t es) S q s r = (made_call (p.terms.shape t) t (q.0) (s.0) (r.0), exprs_make es S (q.1) (s.1) (r.1))
    expr_makes (built_let ty bs body) S q s r =
        (bindings_make bs S (q.0) (s.0) (r.0), expr_makes body (let_scope bs S) (q.1) (s.1) (r.1))

    -- so is what sound expressions call
    exprs_make : (es : TypedExprs) (S : ℕ → Type 0) → ExprsCall p.terms Q es → AreSoundExprs p R es → ReadExprs p.terms es S
        → ExprsCall p.terms MayMake es
    exprs_make no_built S q s r = tt
    exprs_make (more_built e es) S q s r = (expr_makes e S (q.0) (s.0) (r.0), exprs_make es S (q.1) (s.1) (r.1))

    -- so is what sound bindings call
    bindings_make : (bs : TypedBindings) (S : ℕ → Type 0) → BindingsCall p.terms Q bs → AreSoundBindings p R bs → ReadsLets p.terms bs S
        → BindingsCall p.terms MayMake bs
    bindings_make no_typed_bindings S q s r = tt
    bindings_make (more_typed_bindings k ty e bs) S q s r =
        (expr_makes e S (q.0) (s.0) (r.0), bindings_make bs (λ j. (j ≡ k) ⊎ S j) (q.1) (s.1) (r.1))

  mutual
    -- by what a pattern takes values apart may be called
    pattern_opens : (x : TypedPattern) (S : ℕ → Type 0) → PatternCalls p.terms Q x → IsWellScoped p.terms x S
        → PatternCalls p.terms MayOpen x
    pattern_opens (typed_bind ty k x) S q m = pattern_opens x S q (m.0)
    pattern_opens (typed_var ty k) S q m = tt
    pattern_opens (typed_bool ty b) S q m = tt
    pattern_opens (typed_int ty n) S q m = tt
    pattern_opens (typed_prim ty n) S q m = tt
    pattern_opens (typed_term ty t xs) S q m = (opened_call (p.terms.shape t) t _ (q.0) (m.0), patterns_open xs S (q.1) (m.1))
    pattern_opens (typed_wildcard ty) S q m = tt
    pattern_opens (typed_and ty xs) S q m = patterns_open xs S q m

    -- so is by what patterns do
    patterns_open : (xs : TypedPatterns) (S : ℕ → Type 0) → PatternsCall p.terms Q xs → AreWellScoped p.terms xs S
        → PatternsCall p.terms MayOpen xs
    patterns_open no_typed S q m = tt
    patterns_open (more_typed x xs) S q m = (pattern_opens x S (q.0) (m.0), patterns_open xs (scope x S) (q.1) (m.1))

  -- the calls of if-lets may be made
  iflets_call : (xs : List TypedIfLet) (S : ℕ → Type 0) → IfLetsCall p.terms Q Q xs → AreSoundIfLets p R xs
      → IfLetsAreWellScoped p.terms xs S → IfLetsCall p.terms MayMake MayOpen xs
  iflets_call [] S q s m = tt
  iflets_call (x ∷ xs) S q s m = (
    expr_makes x.value S (q.0) (s.0) (m.0),
    pattern_opens x.pattern S (q.1) (m.1),
    iflets_call xs (scope x.pattern S) (q.2) (s.1) (m.2),
  )

module _ (p : CheckedProgram) (w : Answers) (R Q : ℕ → Type 0) (sound : IsSound p R) (ties : HasNoTies p R)
    (calls : CallsOnly p R Q) (has : HasValues p Q) (firm : FailsWherePartial p R) where
  -- the constructors that may be called
  abbrev C : ℕ → Type 0
  C = MayMake p R Q

  -- the extractors that may be called
  abbrev E : ℕ → Type 0
  E = MayOpen p R Q

  -- a rule of a term that is run is sound
  sound_at : (t : ℕ) → R t → (i : ℕ) (rule : TypedRule) → IsRuleAt p t i rule → IsSoundRule p R rule
  sound_at t r i rule at = sound.rules i rule (at.listed) (subst R (sym (at.of_term)) r)

  module _ (n : ℕ) (ones : One R (Means p w n)) (good : GivesGood p R (Means p w n)) where
    -- what is called at this depth can't but be answered
    grow : CanGrow p w (Means p w n) C E
    grow = record {
      construct = λ c ag t vs q u. follows (call_answered p w R Q (sound.data_sound) (Means p w n) ones good has t vs (q.0) (q.1)) (λ a.
          surely (record {
            next = with_construct c t vs (a.answer);
            agrees = construct_agrees p w (Means p w n) c t vs (a.answer) ag (a.fits);
            extends = construct_extends c t vs (a.answer) u;
            holds = λ z. a.known (sym (construct_there c t vs (a.answer)) ∙ z);
          }));
      extract = λ c ag t v q u. follows (opening_answered p w R Q (sound.data_sound) (Means p w n) ones good has t v (q.0)) (λ a.
          surely (record {
            next = with_extract c t v (a.answer);
            agrees = extract_agrees p w (Means p w n) c t v (a.answer) ag (a.fits);
            extends = extract_extends c t v (a.answer) u;
            holds = λ z. a.known (sym (extract_there c t v (a.answer)) ∙ z);
          }));
      single_construct = λ t q. q.2;
      single_extract = λ t q. q.1;
    }

    -- what the rules of a term that is run ask may be asked
    asks_at : (t : ℕ) → R t → (args : Values) (i : ℕ) (rule : TypedRule) → IsRuleAt p t i rule
        → RuleAsks p w (Means p w n) C E grow args rule
    asks_at t r args i rule at =
        let is = sound_at t r i rule at in
        let q = calls i rule (at.listed) (subst R (sym (at.of_term)) r) in
        rule_asks p.terms C E rule (patterns_open p R Q rule.args none (q.0) (is.well.args))
        (no_steps p rule.iflets (is.pure_iflets))
        (iflets_call p R Q rule.iflets (scope_all rule.args none) (q.1) (is.iflets) (is.well.iflets))

    -- what its right side calls may be called
    right_calls : (t : ℕ) → R t → (i : ℕ) (rule : TypedRule) → IsRuleAt p t i rule
        → WordCalls C (word_of p.terms rule.right) × EachStep (StepCalls C) (steps_of p.terms rule.right)
    right_calls t r i rule at =
        let is = sound_at t r i rule at in
        let q = calls i rule (at.listed) (subst R (sym (at.of_term)) r) in
        word_calls p.terms C rule.right (expr_makes p R Q rule.right (scope_of rule) (q.2) (is.right) (is.well.right))

    -- its impure calls do one thing
    right_ones : (t : ℕ) → R t → (i : ℕ) (rule : TypedRule) → IsRuleAt p t i rule
        → EachStep (λ s. OneOf (Makes p (Means p w n)) s.term) (steps_of p.terms rule.right)
    right_ones t r i rule at =
        let is = sound_at t r i rule at in
        let typed = expr_typed p R (scope_of rule) (is.var_types) rule.right (p.terms.type_of rule.root) (is.well.right) (is.typed.right)
        (is.right) in
        each_map _ _ (steps_of p.terms rule.right)
        (λ s ruled vs u v x y. makes_one p (sound.data_sound) R (Means p w n) ones (p.has_rules s.term) s.term vs u v x y refl ruled)
        (steps_call p R (scope_of rule) (is.var_types) (calls_types p rule.right) 0 (steps_of p.terms rule.right) (typed.1))

    -- under more answers the rules are still covered
    still_covered : (c d : Completion) → Extends c d → (t : ℕ) (args : Values) → CoversAll p c t args → CoversAll p d t args
    still_covered c d ex t args covers i rule at = covers_more p w (Means p w n) C E grow args c d ex rule (covers i rule at)

    -- what a meaning tells under each completion with more answers
    abbrev Tells : Completion → ℕ → Values → List Event → Option Value → Type 0
    Tells c t args trace x = (d : Completion) → Agrees p w (Means p w n) d → Extends c d → Told p (Means p w n) d t args trace x

    -- a meaning tells so
    tells : (c : Completion) (t : ℕ) (args : Values) (trace : List Event) (x : Option Value) → CoversAll p c t args
        → Means p w (suc n) t args trace x → Tells c t args trace x
    tells c t args trace x covers h d ag ex = h.1 d ag (still_covered c d ex t args covers)

    -- what is told in two ways is one
    told_one : (c : Completion) → Agrees p w (Means p w n) c → (t : ℕ) (args : Values) → CoversAll p c t args → (one other : List Event)
        (x y : Option Value) → R t → Tells c t args one x → Tells c t args other y → Told p (Means p w n) c t args one x
        → Told p (Means p w n) c t args other y → Surely (AreOne one x other y)
    told_one c ag t args covers one other x y r f g (inl h) k =
        let causal = steps_are_causal p.terms (h.chosen).right in
        let q = right_calls t r (h.place) (h.chosen) (h.at) in
        follow p w (Means p w n) C E grow (Makes p (Means p w n)) (h.variables) (word_of p.terms (h.chosen).right) [] [] refl
        (steps_of p.terms (h.chosen).right) (causal.0) (causal.1) (q.1) (q.0) (right_ones t r (h.place) (h.chosen) (h.at)) c ag one
        other x y (λ d agd ex. chosen_stays p R sound ties (Means p w n) c d ex t args one x r covers h one x (f d agd ex))
        (λ d agd ex. chosen_stays p R sound ties (Means p w n) c d ex t args one x r covers h other y (g d agd ex))
    told_one c ag t args covers one other x y r f g (inr h) (inl k) = absurd (h.none (k.place) (k.chosen) (k.at) (k.variables, k.matches))
    told_one c ag t args covers one other x y r f g (inr h) (inr k) =
        surely (inl (h.failure.nothing ∙ sym (k.failure.nothing), h.failure.none ∙ sym (k.failure.none)))

    -- the rules of a term that is run can't but be covered
    pub covering_at : (t : ℕ) (args : Values) (c : Completion) → R t → Agrees p w (Means p w n) c → Surely (Covering p w n t args c)
    covering_at t args c r ag = follows (know_rules p w (Means p w n) C E grow args t (asks_at t r args) c ag)
        (λ m. surely (record { next = m.next; agrees = m.agrees; extends = m.extends; covers = m.holds }))

    -- one depth further, meanings are one
    ones_next : One R (Means p w (suc n))
    ones_next t args one other x y r h k = one_is_stable one other x y
        (follows (know_rules p w (Means p w n) C E grow args t (asks_at t r args) (open_completion p w (Means p w n))
        (open_agrees p w (Means p w n)))
        (λ m. told_one (m.next) (m.agrees) t args (m.holds) one other x y r (tells (m.next) t args one x (m.holds) h)
        (tells (m.next) t args other y (m.holds) k) (h.1 (m.next) (m.agrees) (m.holds)) (k.1 (m.next) (m.agrees) (m.holds))))

    -- what is told is of the term's type
    told_good : (c : Completion) → Agrees p w (Means p w n) c → (t : ℕ) (args : Values) → CoversAll p c t args → (trace : List Event)
        (x : Option Value) → R t → AreValuesOf p.values args (p.terms.inputs t) → Tells c t args trace x
        → Told p (Means p w n) c t args trace x → Surely (IsGoodAnswer p t x)
    told_good c ag t args covers trace x r typed f (inr h) = surely (subst (IsGoodAnswer p t) (sym (h.failure.none)) (h.partial))
    told_good c ag t args covers trace x r typed f (inl h) =
        let is = sound_at t r (h.place) (h.chosen) (h.at) in
        let of : (h.chosen).root ≡ t = h.at.of_term in
        let causal = steps_are_causal p.terms (h.chosen).right in
        let q = right_calls t r (h.place) (h.chosen) (h.at) in
        let its = expr_typed p R (scope_of (h.chosen)) (is.var_types) (h.chosen).right (p.terms.type_of (h.chosen).root) (is.well.right)
        (is.typed.right) (is.right) in
        let variables = matches_typed p w R (sound.data_sound) (Means p w n) c ag (h.variables) args (h.chosen) is
        (subst (λ (z : ℕ). AreValuesOf p.values args (p.terms.inputs z)) (sym of) typed) (h.matches) in
        let sure : p.terms.partial t ≡ false
        → WordCalls (λ z. p.terms.partial z ≡ false) (word_of p.terms (h.chosen).right)
        × EachStep (StepCalls (λ z. p.terms.partial z ≡ false)) (steps_of p.terms (h.chosen).right) =
        λ e. word_calls p.terms (λ z. p.terms.partial z ≡ false) (h.chosen).right (firm (h.place) (h.chosen) (h.at.listed)
        (subst R (sym of) r) (ap p.terms.partial of ∙ e)) in
        follow_good p w R (sound.data_sound) (Means p w n) C E grow good (scope_of (h.chosen)) (is.var_types)
        (calls_types p (h.chosen).right)
        (h.variables) variables (word_of p.terms (h.chosen).right) t (p.terms.type_of (h.chosen).root) (ap p.terms.type_of of) (its.0)
        (q.0) (λ e. (sure e).0) [] [] 0 refl refl (steps_of p.terms (h.chosen).right) (causal.0) (causal.1) (q.1) (λ e. (sure e).1) (its.1)
        (right_ones t r (h.place) (h.chosen) (h.at)) (none_answered p _) (λ i e. cc) c ag trace x
        (λ d agd ex. chosen_stays p R sound ties (Means p w n) c d ex t args trace x r covers h trace x (f d agd ex))

    -- and of their terms' types
    good_next : GivesGood p R (Means p w (suc n))
    good_next t args trace x r typed h =
        follows (know_rules p w (Means p w n) C E grow args t (asks_at t r args) (open_completion p w (Means p w n))
        (open_agrees p w (Means p w n)))
        (λ m. told_good (m.next) (m.agrees) t args (m.holds) trace x r typed (tells (m.next) t args trace x (m.holds) h)
        (h.1 (m.next) (m.agrees) (m.holds)))

  -- Meanings are one, and of their terms' types.
  pub meanings_are : (n : ℕ) → One R (Means p w n) × GivesGood p R (Means p w n)
  meanings_are zero = (λ t vs one other a b r h k. absurd h, λ t vs effects b r typed h. absurd h)
  meanings_are (suc n) = let both = meanings_are n in (ones_next n (both.0) (both.1), good_next n (both.0) (both.1))

-- Two meanings of one call are one.
pub one_meaning_always : OneMeaningAlways
one_meaning_always p w run called h n t args one other x y r m k =
    (meanings_are p w (λ u. run u ≡ true) (λ u. called u ≡ true) (h.sound) (h.ties) (h.calls) (h.has) (h.firm) n).0 t args one
    other x y r m k

-- What a call means is of its term's type.
pub meanings_are_typed : MeaningsAreTyped
meanings_are_typed p w run called h n t args trace x r typed m =
    (meanings_are p w (λ u. run u ≡ true) (λ u. called u ≡ true) (h.sound) (h.ties) (h.calls) (h.has) (h.firm) n).1 t args trace x
    r typed m

-- A completion can't but have more answers, with which it covers.
pub completions_extend : CompletionsExtend
completions_extend p w run called h n t args c r agrees =
    let its = meanings_are p w (λ u. run u ≡ true) (λ u. called u ≡ true) (h.sound) (h.ties) (h.calls) (h.has) (h.firm) n in
    covering_at p w (λ u. run u ≡ true) (λ u. called u ≡ true) (h.sound) (h.ties) (h.calls) (h.has) (h.firm) n (its.0) (its.1)
    t args c r agrees
