-- Where a pattern's run ends, the end is that of an extractor's call that the pattern makes.
use Rattle.std.proofs.Common.{◌≡◌, ◌≢◌, ◌⊎◌, inl, inr, ℕ, suc, [], Bool, true, false, ◌==◌, refl, sym, ◌∙◌, ap, subst}
use Rattle.std.proofs.lemmas.Bool.{eq-eqb}
use Rattle.isle_rules.specs.TypedRules.{TypedPattern, typed_bind, typed_var, typed_bool, typed_int, typed_prim, typed_term, typed_wildcard}
use Rattle.isle_rules.specs.TypedRules.{typed_and, TypedPatterns, no_typed, more_typed}
use Rattle.isle_meaning.specs.Facts.{TermShape, variant_shape, struct_shape, declared_shape, patterns}
use Rattle.isle_meaning.specs.Got.{Got, unknown, gives}
use Rattle.isle_meaning.specs.Values.{Value, Values, made_variant, made_struct, no_values, more_values}
use Rattle.isle_meaning.specs.Words.{set}
use Rattle.isle_meaning.specs.Answers.{Completion}
use Rattle.isle_meaning.specs.Sites.{Site, extractor_call}
use Rattle.isle_meaning.specs.Held.{Held, held_value, held, extracted, value, IsAnswered}
use Rattle.isle_meaning.specs.Demands.{parts, bound, bound_all}
use Rattle.isle_meaning.specs.Scopes.{scope, scope_all, IsWellOpened, IsWellScoped, AreWellScoped, OfCall, OfCalls, OfAllCalls}
use Rattle.isle_meaning.specs.Worlds.{CheckedProgram, Answers}
use Rattle.isle_meaning.specs.Calls.{Agrees, Means}
use Rattle.isle_meaning.specs.Asking.{Asked, asks_outputs, IsOpenedAt, IsSiteOfPattern, IsSiteOfPatterns, IsCallOn, no_link, Ended}
use Rattle.isle_meaning.proofs.Matching.Basics.{field_at, struct_at}
use Rattle.isle_meaning.proofs.Matching.Children.{IsAt, Agree, parts_at}
use Rattle.isle_meaning.specs.Outcomes.{Outcome, given, missing, ended, WorldExtracts}
use Rattle.isle_meaning.specs.PlainRuns.{Tests, OpenRuns, PatternRuns, PatternsRun, EachRuns}
use Rattle.isle_meaning.proofs.Calls.Outcomes.{after_given}
use Rattle.isle_meaning.proofs.Calls.Saying.{extract_says}
use Rattle.isle_meaning.proofs.Chains.WordEnds.{Ends, after_ended, judged_ended}

-- an answered call's answer is known
extracted_known : (b : Bool) (g : Got Values) → extracted b g ≢ unknown → g ≢ unknown
extracted_known b g h e = h (ap (extracted b) e)

-- variables and sites set together agree
agree_both : (val : Site → Got Held) (a : ℕ → Value) (S : ℕ → Type 0) (vars : ℕ → Site) (j : ℕ) (s : Site) (v : Value)
    → Agree val a S vars → val s ≡ gives (held_value v) → Agree val (set a j v) (λ k. (k ≡ j) ⊎ S k) (set vars j s)
agree_both val a S vars j s v g e k i = go (k == j) refl i
  where
    go : (b : Bool) → (k == j) ≡ b → (k ≡ j) ⊎ S k → val (set vars j s k) ≡ gives (held_value (set a j v k))
    go true q i = rw q e
    go false q (inl o) = absurd (let r : (k == j) ≡ true = eq-eqb k j o in cc)
    go false q (inr h) = rw q (g k h)

module _ (p : CheckedProgram) (w : Answers) (n : ℕ) where
  -- what is said of an extractor's call that is answered
  extract_is : (c : Completion) → Agrees p w (Means p w n) c → (args : Values) (t : ℕ) (s : Site) (v : Value) (vs : Values)
      → p.terms.multi t ≡ false → WorldExtracts p w t v (given vs) → value p.terms c args [] s ≡ gives (held_value v)
      → IsAnswered p.terms c args [] (extractor_call t s) → c.extract t v ≡ gives vs
  extract_is c ag args t s v vs m run e answered =
      extract_says p w (Means p w n) c ag t v (given vs) run
      (extracted_known (p.terms.infallible t) (c.extract t v) (λ u. answered.1 v e (rw (m, u) (refl))))

  -- what a plain run opens a value into
  abbrev pub HasOpened : TermShape → ℕ → ℕ → Value → Values → Type 0
  HasOpened (variant_shape k) ty t v vs = v ≡ made_variant ty k vs
  HasOpened struct_shape ty t v vs = v ≡ made_struct ty vs
  HasOpened declared_shape ty t v vs = WorldExtracts p w t v (given vs)

  -- the parts' sites have the values that a value opens into
  parts_have : (c : Completion) → Agrees p w (Means p w n) c → (args : Values) (shape : TermShape) (ty t m : ℕ) (s : Site) (v : Value)
      (vs : Values) → IsWellOpened p.terms shape t m → HasOpened shape ty t v vs → value p.terms c args [] s ≡ gives (held_value v)
      → OfCall (IsAnswered p.terms c args []) shape t s → IsAt (value p.terms c args []) (parts p.terms shape t m s) vs
  parts_have c ag args (variant_shape k) ty t m s v vs well o e answered i x h =
      field_at (value p.terms c args [] s) ty k i vs (e ∙ ap (λ (y : Value). gives (held_value y)) o) ∙ ap held h
  parts_have c ag args struct_shape ty t m s v vs well o e answered i x h =
      struct_at (value p.terms c args [] s) ty i vs (e ∙ ap (λ (y : Value). gives (held_value y)) o) ∙ ap held h
  parts_have c ag args declared_shape ty t m s v vs well o e answered i x h =
      let its : c.extract t v ≡ gives vs = extract_is c ag args t s v vs (well.1) o e answered in
      parts_at p.terms c args [] declared_shape ty t m s v vs well e its (ag.allowed.outputs t v vs its ∙ sym (well.0)) i x h

  -- a value is opened, and its parts are read
  record Opened (shape : TermShape) (ty t : ℕ) (v : Value) (next : Values → Type 0) : Type 0 where
    outputs : Values
    opened : HasOpened shape ty t v outputs
    reads : next outputs

  -- where the parts are passed
  opened_given : (shape : TermShape) (ty t : ℕ) (v : Value) (next : Values → Outcome (ℕ → Value) → Type 0) (b : ℕ → Value)
      → OpenRuns p w shape ty t v next (given b) → Opened shape ty t v (λ vs. next vs (given b))
  opened_given (variant_shape k) ty t v next b (inl h) = record { outputs = h.0; opened = h.1; reads = h.2 }
  opened_given (variant_shape k) ty t v next b (inr h) = absurd (let q = h.1 in cc)
  opened_given struct_shape ty t v next b (inl h) = record { outputs = h.0; opened = h.1; reads = h.2 }
  opened_given struct_shape ty t v next b (inr h) = absurd (let q = h.1 in cc)
  opened_given declared_shape ty t v next b h =
      let (vs, q, run) = after_given (h.0) next b (h.2) in
      record { outputs = vs; opened = subst (WorldExtracts p w t v) q (h.1); reads = run }

  -- where the run ends, at the extractor's call or in the parts
  opened_ended : (shape : TermShape) (ty t : ℕ) (v : Value) (next : Values → Outcome (ℕ → Value) → Type 0) (e : Ended)
      → OpenRuns p w shape ty t v next (ended e)
      → ((shape ≡ declared_shape) × WorldExtracts p w t v (ended e)) ⊎ Opened shape ty t v (λ vs. next vs (ended e))
  opened_ended (variant_shape k) ty t v next e (inl h) = inr (record { outputs = h.0; opened = h.1; reads = h.2 })
  opened_ended (variant_shape k) ty t v next e (inr h) = absurd (let q = h.1 in cc)
  opened_ended struct_shape ty t v next e (inl h) = inr (record { outputs = h.0; opened = h.1; reads = h.2 })
  opened_ended struct_shape ty t v next e (inr h) = absurd (let q = h.1 in cc)
  opened_ended declared_shape ty t v next e h = elim (after_ended (h.0) next e (h.2)) [
    | inl q ↦ inl (refl, subst (WorldExtracts p w t v) q (h.1))
    | inr k ↦ inr (record { outputs = k.0; opened = subst (WorldExtracts p w t v) (k.1) (h.1); reads = k.2 })
  ]

  -- where an extractor's call ends, its answer isn't allowed
  extract_ends : (t : ℕ) (v : Value) (e : Ended) → WorldExtracts p w t v (ended e) → Ends p w n (asks_outputs t v) [] e
  extract_ends t v e run =
      let j = judged_ended _ _ _ e (run.judged) in
      subst (λ (z : Ended). Ends p w n (asks_outputs t v) [] z) (sym (j.1)) (record {
        left = n;
        chain = no_link;
        tree = run.arg;
        typed = run.typed;
        stands = run.stands;
        wrong = j.0;
      })

  -- the call at which a pattern ends, by its site
  pub record PatternEnds (q : TypedPattern) (v : Value) (e : Ended) : Type 0 where
    pub asked : Asked
    pub ends_so : Ends p w n asked [] e
    pub call : Site → Site
    pub its : (s : Site) → IsSiteOfPattern p.terms q s (call s)
    pub on : (c : Completion) → Agrees p w (Means p w n) c → (args : Values) (s : Site) → value p.terms c args [] s ≡ gives (held_value v)
        → OfCalls p.terms (IsAnswered p.terms c args []) q s → IsCallOn p.terms c args (call s) asked

  -- the call at which patterns end, each at its place
  pub record PatternsEnd (qs : TypedPatterns) (vs : Values) (e : Ended) : Type 0 where
    pub asked : Asked
    pub ends_so : Ends p w n asked [] e
    pub call : (ℕ → Site) → Site
    pub its : (at : ℕ → Site) → IsSiteOfPatterns p.terms qs at (call at)
    pub on : (c : Completion) → Agrees p w (Means p w n) c → (args : Values) (at : ℕ → Site) → IsAt (value p.terms c args []) at vs
        → OfAllCalls p.terms (IsAnswered p.terms c args []) qs at → IsCallOn p.terms c args (call at) asked

  -- the call at which patterns end, all on one value
  pub record EachEnds (qs : TypedPatterns) (v : Value) (e : Ended) : Type 0 where
    pub asked : Asked
    pub ends_so : Ends p w n asked [] e
    pub call : Site → Site
    pub its : (s : Site) → IsSiteOfPatterns p.terms qs (λ i. s) (call s)
    pub on : (c : Completion) → Agrees p w (Means p w n) c → (args : Values) (s : Site) → value p.terms c args [] s ≡ gives (held_value v)
        → OfAllCalls p.terms (IsAnswered p.terms c args []) qs (λ i. s) → IsCallOn p.terms c args (call s) asked

  -- an extractor's call opens so
  opened_at : (shape : TermShape) (t : ℕ) (s : Site) → shape ≡ declared_shape → IsOpenedAt shape t s (extractor_call t s)
  opened_at (variant_shape k) t s q = absurd cc
  opened_at struct_shape t s q = absurd cc
  opened_at declared_shape t s q = refl

  mutual
    -- Where a pattern's run ends, the end is that of an extractor's call that it makes.
    pub pattern_ends : (q : TypedPattern) (S : ℕ → Type 0) (a : ℕ → Value) (v : Value) (e : Ended) → IsWellScoped p.terms q S
        → PatternRuns p w a q v (ended e) → PatternEnds q v e
    pattern_ends (typed_bind ty k q) S a v e well run = elim (after_ended (run.0) _ e (run.2)) [
      | inr h ↦ absurd (let o = h.2 in cc)
      | inl o ↦ (let r = pattern_ends q S a v e (well.0) (subst (PatternRuns p w a q v) o (run.1)) in
          record { asked = r.asked; ends_so = r.ends_so; call = r.call; its = r.its; on = r.on })
    ]
    pattern_ends (typed_var ty k) S a v e well (inl h) = absurd (let o = h.1 in cc)
    pattern_ends (typed_var ty k) S a v e well (inr h) = absurd (let o = h.1 in cc)
    pattern_ends (typed_bool ty b) S a v e well (inl h) = absurd (let o = h.1 in cc)
    pattern_ends (typed_bool ty b) S a v e well (inr h) = absurd (let o = h.1 in cc)
    pattern_ends (typed_int ty m) S a v e well (inl h) = absurd (let o = h.1 in cc)
    pattern_ends (typed_int ty m) S a v e well (inr h) = absurd (let o = h.1 in cc)
    pattern_ends (typed_prim ty m) S a v e well (inl h) = absurd (let o = h.1 in cc)
    pattern_ends (typed_prim ty m) S a v e well (inr h) = absurd (let o = h.1 in cc)
    pattern_ends (typed_term ty t qs) S a v e well run =
        elim (opened_ended (p.terms.shape t) ty t v (λ vs r. PatternsRun p w a qs vs r) e run) [
          | inl h ↦ record {
            asked = asks_outputs t v;
            ends_so = extract_ends t v e (h.1);
            call = λ s. extractor_call t s;
            its = λ s. inl (opened_at (p.terms.shape t) t s (h.0));
            on = λ c ag args s is answered. (refl, is);
          }
          | inr h ↦ (let r = patterns_end qs S a (h.outputs) e (well.1) (h.reads) in
              record {
                asked = r.asked;
                ends_so = r.ends_so;
                call = λ s. r.call (parts p.terms (p.terms.shape t) t (patterns qs) s);
                its = λ s. inr (r.its (parts p.terms (p.terms.shape t) t (patterns qs) s));
                on = λ c ag args s is answered. r.on c ag args (parts p.terms (p.terms.shape t) t (patterns qs) s)
                    (parts_have c ag args (p.terms.shape t) ty t (patterns qs) s v (h.outputs) (well.0) (h.opened) is (answered.0))
                    (answered.1);
              })
        ]
    pattern_ends (typed_wildcard ty) S a v e well run = absurd cc
    pattern_ends (typed_and ty qs) S a v e well run =
        let r = each_ends qs S a v e well run in record { asked = r.asked; ends_so = r.ends_so; call = r.call; its = r.its; on = r.on }

    -- So is it of patterns, each at its place.
    pub patterns_end : (qs : TypedPatterns) (S : ℕ → Type 0) (a : ℕ → Value) (vs : Values) (e : Ended) → AreWellScoped p.terms qs S
        → PatternsRun p w a qs vs (ended e) → PatternsEnd qs vs e
    patterns_end no_typed S a no_values e well run = absurd cc
    patterns_end no_typed S a (more_values v vs) e well run = absurd cc
    patterns_end (more_typed q qs) S a no_values e well run = absurd cc
    patterns_end (more_typed q qs) S a (more_values v vs) e well run = elim (after_ended (run.0) _ e (run.2)) [
      | inl o ↦ (let r = pattern_ends q S a v e (well.0) (subst (PatternRuns p w a q v) o (run.1)) in
          record {
            asked = r.asked;
            ends_so = r.ends_so;
            call = λ at. r.call (at 0);
            its = λ at. inl (r.its (at 0));
            on = λ c ag args at is answered. r.on c ag args (at 0) (is 0 v refl) (answered.0);
          })
      | inr h ↦ (let r = patterns_end qs (scope q S) (h.0) vs e (well.1) (h.2) in
          record {
            asked = r.asked;
            ends_so = r.ends_so;
            call = λ at. r.call (λ i. at (suc i));
            its = λ at. inr (r.its (λ i. at (suc i)));
            on = λ c ag args at is answered. r.on c ag args (λ i. at (suc i)) (λ i x o. is (suc i) x o) (answered.1);
          })
    ]

    -- So is it of patterns on one value.
    pub each_ends : (qs : TypedPatterns) (S : ℕ → Type 0) (a : ℕ → Value) (v : Value) (e : Ended) → AreWellScoped p.terms qs S
        → EachRuns p w a qs v (ended e) → EachEnds qs v e
    each_ends no_typed S a v e well run = absurd cc
    each_ends (more_typed q qs) S a v e well run = elim (after_ended (run.0) _ e (run.2)) [
      | inl o ↦ (let r = pattern_ends q S a v e (well.0) (subst (PatternRuns p w a q v) o (run.1)) in
          record {
            asked = r.asked;
            ends_so = r.ends_so;
            call = r.call;
            its = λ s. inl (r.its s);
            on = λ c ag args s is answered. r.on c ag args s is (answered.0);
          })
      | inr h ↦ (let r = each_ends qs (scope q S) (h.0) v e (well.1) (h.2) in
          record {
            asked = r.asked;
            ends_so = r.ends_so;
            call = r.call;
            its = λ s. inr (r.its s);
            on = λ c ag args s is answered. r.on c ag args s is (answered.1);
          })
    ]

  module _ (c : Completion) (ag : Agrees p w (Means p w n) c) (args : Values) where
    -- a test that is passed changes nothing
    test_agrees : (S : ℕ → Type 0) (vars : ℕ → Site) (passes : Type 0) (a b : ℕ → Value) → Agree (value p.terms c args []) a S vars
        → Tests passes a (given b) → Agree (value p.terms c args []) b S vars
    test_agrees S vars passes a b g (inl h) = let e : given b ≡ given a = h.1 in let q : a ≡ b = cc in
        subst (λ (z : ℕ → Value). Agree (value p.terms c args []) z S vars) q g
    test_agrees S vars passes a b g (inr h) = absurd (let e : given b ≡ missing = h.1 in cc)

    -- what is the same agrees
    moved : (S : ℕ → Type 0) (vars : ℕ → Site) (a b : ℕ → Value) → given b ≡ given a → Agree (value p.terms c args []) a S vars
        → Agree (value p.terms c args []) b S vars
    moved S vars a b e g = let q : a ≡ b = cc in subst (λ (z : ℕ → Value). Agree (value p.terms c args []) z S vars) q g

    mutual
      -- The variables of a pattern that is passed have the values of their sites.
      pub pattern_agrees : (q : TypedPattern) (S : ℕ → Type 0) (vars : ℕ → Site) (s : Site) (a b : ℕ → Value) (v : Value)
          → IsWellScoped p.terms q S → Agree (value p.terms c args []) a S vars → value p.terms c args [] s ≡ gives (held_value v)
          → OfCalls p.terms (IsAnswered p.terms c args []) q s → PatternRuns p w a q v (given b)
          → Agree (value p.terms c args []) b (scope q S) (bound p.terms q s vars)
      pattern_agrees (typed_bind ty k q) S vars s a b v well g is answered run =
          let (d, o, e) = after_given (run.0) _ b (run.2) in
          let low = pattern_agrees q S vars s a d v (well.0) g is answered (subst (PatternRuns p w a q v) o (run.1)) in
          moved (λ j. (j ≡ k) ⊎ scope q S j) (set (bound p.terms q s vars) k s) (set d k v) b e
          (agree_both (value p.terms c args []) d (scope q S) (bound p.terms q s vars) k s v low is)
      pattern_agrees (typed_var ty k) S vars s a b v well g is answered run = test_agrees S vars _ a b g run
      pattern_agrees (typed_bool ty x) S vars s a b v well g is answered run = test_agrees S vars _ a b g run
      pattern_agrees (typed_int ty m) S vars s a b v well g is answered run = test_agrees S vars _ a b g run
      pattern_agrees (typed_prim ty m) S vars s a b v well g is answered run = test_agrees S vars _ a b g run
      pattern_agrees (typed_term ty t qs) S vars s a b v well g is answered run =
          let h = opened_given (p.terms.shape t) ty t v (λ vs r. PatternsRun p w a qs vs r) b run in
          patterns_agree qs S vars (parts p.terms (p.terms.shape t) t (patterns qs) s) a b (h.outputs) (well.1) g
          (parts_have c ag args (p.terms.shape t) ty t (patterns qs) s v (h.outputs) (well.0) (h.opened) is (answered.0)) (answered.1)
          (h.reads)
      pattern_agrees (typed_wildcard ty) S vars s a b v well g is answered run = moved S vars a b run g
      pattern_agrees (typed_and ty qs) S vars s a b v well g is answered run = each_agree qs S vars s a b v well g is answered run

      -- So have those of patterns, each at its place.
      pub patterns_agree : (qs : TypedPatterns) (S : ℕ → Type 0) (vars : ℕ → Site) (at : ℕ → Site) (a b : ℕ → Value) (vs : Values)
          → AreWellScoped p.terms qs S → Agree (value p.terms c args []) a S vars → IsAt (value p.terms c args []) at vs
          → OfAllCalls p.terms (IsAnswered p.terms c args []) qs at → PatternsRun p w a qs vs (given b)
          → Agree (value p.terms c args []) b (scope_all qs S) (bound_all p.terms qs at vars)
      patterns_agree no_typed S vars at a b no_values well g is answered run = moved S vars a b run g
      patterns_agree no_typed S vars at a b (more_values v vs) well g is answered run = absurd cc
      patterns_agree (more_typed q qs) S vars at a b no_values well g is answered run = absurd cc
      patterns_agree (more_typed q qs) S vars at a b (more_values v vs) well g is answered run =
          let (d, o, rest) = after_given (run.0) _ b (run.2) in
          let first = pattern_agrees q S vars (at 0) a d v (well.0) g (is 0 v refl) (answered.0)
          (subst (PatternRuns p w a q v) o (run.1)) in
          patterns_agree qs (scope q S) (bound p.terms q (at 0) vars) (λ i. at (suc i)) d b vs (well.1) first (λ i x h. is (suc i) x h)
          (answered.1) rest

      -- So have those of patterns on one value.
      pub each_agree : (qs : TypedPatterns) (S : ℕ → Type 0) (vars : ℕ → Site) (s : Site) (a b : ℕ → Value) (v : Value)
          → AreWellScoped p.terms qs S → Agree (value p.terms c args []) a S vars → value p.terms c args [] s ≡ gives (held_value v)
          → OfAllCalls p.terms (IsAnswered p.terms c args []) qs (λ i. s) → EachRuns p w a qs v (given b)
          → Agree (value p.terms c args []) b (scope_all qs S) (bound_all p.terms qs (λ i. s) vars)
      each_agree no_typed S vars s a b v well g is answered run = moved S vars a b run g
      each_agree (more_typed q qs) S vars s a b v well g is answered run =
          let (d, o, rest) = after_given (run.0) _ b (run.2) in
          let first = pattern_agrees q S vars s a d v (well.0) g is (answered.0) (subst (PatternRuns p w a q v) o (run.1)) in
          each_agree qs (scope q S) (bound p.terms q s vars) s d b v (well.1) first is (answered.1) rest
