-- Under a completion that answers what is asked, a pattern that was passed fits.
use Rattle.std.proofs.Common.{◌≡◌, ◌≢◌, inl, inr, ℕ, suc, List, [], Option, Bool, refl, ◌∙◌, ap, subst}
use Rattle.isle_rules.specs.TypedRules.{TypedPattern, typed_bind, typed_var, typed_bool, typed_int, typed_prim, typed_term, typed_wildcard}
use Rattle.isle_rules.specs.TypedRules.{typed_and, TypedPatterns, no_typed, more_typed}
use Rattle.isle_meaning.specs.Facts.{TermShape, variant_shape, struct_shape, declared_shape, patterns}
use Rattle.isle_meaning.specs.Got.{Got, unknown, gives, fails}
use Rattle.isle_meaning.specs.Values.{Value, Values, no_values, more_values, count}
use Rattle.isle_meaning.specs.Words.{set}
use Rattle.isle_meaning.specs.Answers.{Completion}
use Rattle.isle_meaning.specs.Matching.{OpensInto, Fits, FitsAll, FitsEach}
use Rattle.isle_meaning.specs.Sites.{Site}
use Rattle.isle_meaning.specs.Held.{held_value, extracted, extract_held, value, IsAnswered}
use Rattle.isle_meaning.specs.Demands.{parts}
use Rattle.isle_meaning.specs.Scopes.{scope, scope_all, IsWellOpened, IsWellScoped, AreWellScoped, OfCall, OfCalls, OfAllCalls}
use Rattle.isle_meaning.specs.Worlds.{CheckedProgram, Answers, Event}
use Rattle.isle_meaning.specs.Calls.{Says, Agrees}
use Rattle.isle_meaning.proofs.Matching.Basics.{set_at, set_other}
use Rattle.isle_meaning.proofs.Matching.Children.{IsAt, mono, mono_all, parts_at}
use Rattle.isle_meaning.specs.Outcomes.{Outcome, given, missing, WorldExtracts}
use Rattle.isle_meaning.specs.PlainRuns.{Tests, OpenRuns, PatternRuns, PatternsRun, EachRuns}
use Rattle.isle_meaning.proofs.Calls.Outcomes.{after_given}
use Rattle.isle_meaning.proofs.Calls.Saying.{extract_says}
use Rattle.isle_meaning.proofs.Calls.Trying.{Has}

pub test_passed : (passes : Type 0) (env b : ℕ → Value) → Tests passes env (given b) → passes × (b ≡ env)
test_passed passes env b (inl h) = let e : given b ≡ given env = h.1 in (h.0, cc)
test_passed passes env b (inr h) = let e : given b ≡ missing = h.1 in absurd cc

pub same_env : (env b : ℕ → Value) → given b ≡ given env → (k : ℕ) → b k ≡ env k
same_env env b e k = let q : b ≡ env = cc in ap (λ (f : ℕ → Value). f k) q

-- variables that are bound earlier keep their values
pub has_before : (S T : ℕ → Type 0) (env b a : ℕ → Value) → ((k : ℕ) → S k → T k) → ((k : ℕ) → S k → b k ≡ env k) → Has T b a → Has S env a
has_before S T env b a inside keeps h k i = h k (inside k i) ∙ keeps k i

module _ (p : CheckedProgram) (w : Answers) where
  -- what a value opens into, where its parts are passed
  pub open_passed : (shape : TermShape) (ty t : ℕ) (v : Value) (next : Values → Outcome (ℕ → Value) → Type 0) (b : ℕ → Value)
      → OpenRuns p w shape ty t v next (given b) → (vs : Values) × next vs (given b)
  open_passed (variant_shape k) ty t v next b (inl (vs, q, run)) = (vs, run)
  open_passed (variant_shape k) ty t v next b (inr (n, q)) = absurd cc
  open_passed struct_shape ty t v next b (inl (vs, q, run)) = (vs, run)
  open_passed struct_shape ty t v next b (inr (n, q)) = absurd cc
  open_passed declared_shape ty t v next b (g, run, rest) = let (vs, q, parted) = after_given g next b rest in (vs, parted)

  mutual
    -- a pattern keeps the variables that are bound before
    pub pattern_keeps : (q : TypedPattern) (S : ℕ → Type 0) (env b : ℕ → Value) (v : Value) → IsWellScoped p.terms q S
        → PatternRuns p w env q v (given b) → (k : ℕ) → S k → b k ≡ env k
    pattern_keeps (typed_bind ty j q) S env b v well run k i =
        let (d, e, o) = after_given _ _ b (run.2) in
        let low = pattern_keeps q S env d v (well.0) (subst (PatternRuns p w env q v) e (run.1)) k i in
        same_env (set d j v) b o k
        ∙ set_other d j v k (λ z. well.1 (subst (scope q S) z (mono p.terms q S k i))) ∙ low
    pattern_keeps (typed_var ty j) S env b v well run k i = ap (λ (f : ℕ → Value). f k) ((test_passed _ env b run).1)
    pattern_keeps (typed_bool ty x) S env b v well run k i = ap (λ (f : ℕ → Value). f k) ((test_passed _ env b run).1)
    pattern_keeps (typed_int ty n) S env b v well run k i = ap (λ (f : ℕ → Value). f k) ((test_passed _ env b run).1)
    pattern_keeps (typed_prim ty n) S env b v well run k i = ap (λ (f : ℕ → Value). f k) ((test_passed _ env b run).1)
    pattern_keeps (typed_term ty t qs) S env b v well run k i =
        let (vs, parted) = open_passed (p.terms.shape t) ty t v
        (λ (vs : Values) (r : Outcome (ℕ → Value)). PatternsRun p w env qs vs r) b run in
        patterns_keep qs S env b vs (well.1) parted k i
    pattern_keeps (typed_wildcard ty) S env b v well run k i = same_env env b run k
    pattern_keeps (typed_and ty qs) S env b v well run k i = each_keeps qs S env b v well run k i

    pub patterns_keep : (qs : TypedPatterns) (S : ℕ → Type 0) (env b : ℕ → Value) (vs : Values) → AreWellScoped p.terms qs S
        → PatternsRun p w env qs vs (given b) → (k : ℕ) → S k → b k ≡ env k
    patterns_keep no_typed S env b no_values well run k i = same_env env b run k
    patterns_keep no_typed S env b (more_values v vs) well run k i = absurd cc
    patterns_keep (more_typed q qs) S env b no_values well run k i = absurd cc
    patterns_keep (more_typed q qs) S env b (more_values v vs) well run k i =
        let (d, e, rest) = after_given _ _ b (run.2) in
        patterns_keep qs (scope q S) d b vs (well.1) rest k (mono p.terms q S k i)
        ∙ pattern_keeps q S env d v (well.0) (subst (PatternRuns p w env q v) e (run.1)) k i

    pub each_keeps : (qs : TypedPatterns) (S : ℕ → Type 0) (env b : ℕ → Value) (v : Value) → AreWellScoped p.terms qs S
        → EachRuns p w env qs v (given b) → (k : ℕ) → S k → b k ≡ env k
    each_keeps no_typed S env b v well run k i = same_env env b run k
    each_keeps (more_typed q qs) S env b v well run k i =
        let (d, e, rest) = after_given _ _ b (run.2) in
        each_keeps qs (scope q S) d b v (well.1) rest k (mono p.terms q S k i)
        ∙ pattern_keeps q S env d v (well.0) (subst (PatternRuns p w env q v) e (run.1)) k i

  -- as many values as patterns
  pub passed_count : (qs : TypedPatterns) (env b : ℕ → Value) (vs : Values) → PatternsRun p w env qs vs (given b) → count vs ≡ patterns qs
  passed_count no_typed env b no_values run = refl
  passed_count no_typed env b (more_values v vs) run = absurd cc
  passed_count (more_typed q qs) env b no_values run = absurd cc
  passed_count (more_typed q qs) env b (more_values v vs) run =
      let (d, e, rest) = after_given (run.0) (λ (d : ℕ → Value) (r : Outcome (ℕ → Value)). PatternsRun p w d qs vs r) b (run.2) in
      ap suc (passed_count qs d b vs rest)

  module _ (means : ℕ → Values → List Event → Option Value → Type 0) (c : Completion) (agrees : Agrees p w means c) (args : Values) where
    -- an answered call of an extractor
    extract_answered : (b : Bool) (g : Got Values) → extracted b g ≢ unknown → g ≢ unknown
    extract_answered b unknown h e = h refl
    extract_answered b fails h e = cc
    extract_answered b (gives vs) h e = cc

    -- a value opens as the completion says
    pub open_fits : (shape : TermShape) (ty t n : ℕ) (s : Site) (v : Value) (next : Values → Outcome (ℕ → Value) → Type 0) (b : ℕ → Value)
        → IsWellOpened p.terms shape t n → value p.terms c args [] s ≡ gives (held_value v)
        → OfCall (IsAnswered p.terms c args []) shape t s → OpenRuns p w shape ty t v next (given b)
        → (vs : Values) × OpensInto c shape ty t v vs × next vs (given b)
    open_fits (variant_shape k) ty t n s v next b well e h (inl (vs, q, run)) = (vs, q, run)
    open_fits (variant_shape k) ty t n s v next b well e h (inr (m, q)) = absurd cc
    open_fits struct_shape ty t n s v next b well e h (inl (vs, q, run)) = (vs, q, run)
    open_fits struct_shape ty t n s v next b well e h (inr (m, q)) = absurd cc
    open_fits declared_shape ty t n s v next b well e h (g, run, rest) =
        let (vs, q, parted) = after_given g next b rest in
        let says : Says (c.extract t v) (gives vs) = extract_says p w means c agrees t v (given vs) (subst (WorldExtracts p w t v) q run) in
        let held : extract_held p.terms c t v ≡ extracted (p.terms.infallible t) (c.extract t v) = rw (well.1) refl in
        let some : extracted (p.terms.infallible t) (c.extract t v) ≢ unknown = λ u. h.1 v e (held ∙ u) in
        (vs, says (extract_answered (p.terms.infallible t) (c.extract t v) some), parted)

    mutual
      -- a pattern that was passed fits
      pub pattern_fits : (q : TypedPattern) (S : ℕ → Type 0) (env b a : ℕ → Value) (v : Value) (s : Site) → IsWellScoped p.terms q S
          → PatternRuns p w env q v (given b) → Has (scope q S) b a → value p.terms c args [] s ≡ gives (held_value v)
          → OfCalls p.terms (IsAnswered p.terms c args []) q s → Fits p.terms c a q v
      pattern_fits (typed_bind ty j q) S env b a v s well run h e n =
          let (d, o, last) = after_given _ _ b (run.2) in
          let low : Has (scope q S) d a = λ k i. h k (inr i) ∙ same_env (set d j v) b last k
          ∙ set_other d j v k (λ z. well.1 (subst (scope q S) z i)) in (
            h j (inl refl) ∙ same_env (set d j v) b last j ∙ set_at d j v,
            pattern_fits q S env d a v s (well.0) (subst (PatternRuns p w env q v) o (run.1)) low e n,
          )
      pattern_fits (typed_var ty j) S env b a v s well run h e n =
          let t = test_passed (env j ≡ v) env b run in h j well ∙ ap (λ (f : ℕ → Value). f j) (t.1) ∙ t.0
      pattern_fits (typed_bool ty x) S env b a v s well run h e n = (test_passed _ env b run).0
      pattern_fits (typed_int ty m) S env b a v s well run h e n = (test_passed _ env b run).0
      pattern_fits (typed_prim ty m) S env b a v s well run h e n = (test_passed _ env b run).0
      pattern_fits (typed_term ty t qs) S env b a v s well run h e n =
          let (vs, o, parted) = open_fits (p.terms.shape t) ty t (patterns qs) s v
          (λ (vs : Values) (r : Outcome (ℕ → Value)). PatternsRun p w env qs vs r) b (well.0) e (n.0) run in (
            vs,
            o,
            patterns_fit qs S env b a vs (parts p.terms (p.terms.shape t) t (patterns qs) s) (well.1) parted h
                (parts_at p.terms c args [] (p.terms.shape t) ty t (patterns qs) s v vs (well.0) e o
                (passed_count qs env b vs parted)) (n.1),
          )
      pattern_fits (typed_wildcard ty) S env b a v s well run h e n = tt
      pattern_fits (typed_and ty qs) S env b a v s well run h e n = each_fits qs S env b a v s well run h e n

      -- patterns that were passed fit the values at their places
      pub patterns_fit : (qs : TypedPatterns) (S : ℕ → Type 0) (env b a : ℕ → Value) (vs : Values) (at : ℕ → Site)
          → AreWellScoped p.terms qs S → PatternsRun p w env qs vs (given b) → Has (scope_all qs S) b a
          → IsAt (value p.terms c args []) at vs → OfAllCalls p.terms (IsAnswered p.terms c args []) qs at → FitsAll p.terms c a qs vs
      patterns_fit no_typed S env b a no_values at well run h e n = tt
      patterns_fit no_typed S env b a (more_values v vs) at well run h e n = absurd cc
      patterns_fit (more_typed q qs) S env b a no_values at well run h e n = absurd cc
      patterns_fit (more_typed q qs) S env b a (more_values v vs) at well run h e n =
          let (d, o, rest) = after_given _ _ b (run.2) in
          let mid : Has (scope q S) d a = has_before (scope q S) (scope_all qs (scope q S)) d b a (mono_all p.terms qs (scope q S))
          (patterns_keep qs (scope q S) d b vs (well.1) rest) h in (
            pattern_fits q S env d a v (at 0) (well.0) (subst (PatternRuns p w env q v) o (run.1)) mid (e 0 v refl) (n.0),
            patterns_fit qs (scope q S) d b a vs (λ i. at (suc i)) (well.1) rest h (λ i x z. e (suc i) x z) (n.1),
          )

      -- patterns that were passed fit the one value
      pub each_fits : (qs : TypedPatterns) (S : ℕ → Type 0) (env b a : ℕ → Value) (v : Value) (s : Site) → AreWellScoped p.terms qs S
          → EachRuns p w env qs v (given b) → Has (scope_all qs S) b a → value p.terms c args [] s ≡ gives (held_value v)
          → OfAllCalls p.terms (IsAnswered p.terms c args []) qs (λ i. s) → FitsEach p.terms c a qs v
      each_fits no_typed S env b a v s well run h e n = tt
      each_fits (more_typed q qs) S env b a v s well run h e n =
          let (d, o, rest) = after_given _ _ b (run.2) in
          let mid : Has (scope q S) d a = has_before (scope q S) (scope_all qs (scope q S)) d b a (mono_all p.terms qs (scope q S))
          (each_keeps qs (scope q S) d b v (well.1) rest) h in (
            pattern_fits q S env d a v s (well.0) (subst (PatternRuns p w env q v) o (run.1)) mid e (n.0),
            each_fits qs (scope q S) d b a v s (well.1) rest h e (n.1),
          )
