-- Where the demands hold, patterns fit and if-lets hold, the variables having the values of their sites.
use Rattle.std.proofs.Common.{◌≡◌, ◌≢◌, inl, inr, ℕ, suc, List, [], ◌∷◌, Bool, true, false, refl, sym, ◌∙◌, ap, subst, arith}
use Rattle.isle_meaning.specs.Values.{Value, bool_value, int_value, constant_value, made_variant, made_struct, Values, no_values}
use Rattle.isle_meaning.specs.Got.{Got, unknown, fails, gives}
use Rattle.isle_meaning.specs.Values.{more_values, count}
use Rattle.isle_rules.specs.TypedRules.{TypedPattern, typed_bind, typed_var, typed_bool, typed_int, typed_prim, typed_term, typed_wildcard}
use Rattle.isle_rules.specs.TypedRules.{typed_and, TypedPatterns, no_typed, more_typed, TypedIfLet}
use Rattle.isle_meaning.specs.Facts.{TermShape, variant_shape, struct_shape, declared_shape, TermFacts, patterns}
use Rattle.isle_meaning.specs.Words.{word_of}
use Rattle.isle_meaning.specs.Answers.{Completion, IsAllowed}
use Rattle.isle_meaning.specs.Matching.{OpensInto, Fits, FitsAll, FitsEach, IfLetsHold}
use Rattle.isle_meaning.specs.Sites.{Site, extractor_call}
use Rattle.isle_meaning.specs.Held.{Held, held_value, held_outputs, held_none, held_some, held_answers, held, value, IsAnswered}
use Rattle.isle_meaning.specs.Demands.{extractor_demands, opens, parts, bound, bound_all, demands, demands_all, iflet_site, contents}
use Rattle.isle_meaning.specs.Demands.{iflets_bound, iflets_demands}
use Rattle.isle_meaning.specs.Holds.{AllHoldProper}
use Rattle.isle_meaning.specs.Scopes.{scope, scope_all, IsWellOpened, IsWellScoped, AreWellScoped, iflets_scope, IfLetsAreWellScoped}
use Rattle.isle_meaning.specs.Scopes.{OfCall, OfCalls, OfAllCalls, OfIfLets}
use Rattle.isle_meaning.proofs.Matching.Scoping.{word_reads}
use Rattle.isle_meaning.proofs.Matching.Basics.{each_first, each_rest, set_at, set_other}
use Rattle.isle_meaning.proofs.Matching.Written.{word_site}
use Rattle.isle_meaning.proofs.Matching.Known.{known}
use Rattle.isle_meaning.proofs.Matching.Contents.{word_valued}
use Rattle.isle_meaning.proofs.Matching.Deciding.{stable_value}
use Rattle.isle_meaning.proofs.Matching.Children.{IsAt, Agree, parts_at, agree_set, mono_all, kept_all, lets_mono, lets_kept}

-- the value of a variable's site, where it has one
abbrev pub given : Got Held → Value
given unknown = bool_value false
given fails = bool_value false
given (gives (held_value v)) = v
given (gives (held_outputs vs)) = bool_value false
given (gives held_none) = bool_value false
given (gives (held_some h)) = bool_value false
given (gives (held_answers l)) = bool_value false

-- these are what the variables stand for in the end
abbrev pub IsLast : (ℕ → Site) → (ℕ → Type 0) → (ℕ → Site) → Type 0
IsLast last S vars = (k : ℕ) → S k → last k ≡ vars k

module _ (facts : TermFacts) (c : Completion) (args : Values) (allowed : IsAllowed facts c) (last : ℕ → Site) where
  abbrev pub at_last : ℕ → Value
  at_last k = given (value facts c args [] (last k))

  -- a known extractor call whose demand holds has outputs
  outputs_given : (b : Bool) (t : ℕ) (s : Site) (v : Value) (g : Got Values) → facts.multi t ≡ false → facts.infallible t ≡ b
      → value facts c args [] s ≡ gives (held_value v) → c.extract t v ≡ g
      → (value facts c args [] (extractor_call t s) ≡ unknown → ⊥)
      → AllHoldProper (value facts c args []) (extractor_demands false b (extractor_call t s)) → (vs : Values)
      × (c.extract t v ≡ gives vs)
  outputs_given b t s v unknown m eb es eg n h = absurd (n (rw (es, m, eg) refl))
  outputs_given b t s v (gives vs) m eb es eg n h = (vs, eg)
  outputs_given true t s v fails m eb es eg n h = let p : facts.infallible t ≡ false = allowed.fallible t v eg in absurd cc
  outputs_given false t s v fails m eb es eg n h =
      let (x, e, (y, p)) = h.0 tt in
      let q : value facts c args [] (extractor_call t s) ≡ gives held_none = rw (es, m, eb, eg) refl in absurd cc

  -- a value opens where the demands on it hold
  open_given : (shape : TermShape) (ty t n : ℕ) (s : Site) (v : Value) → IsWellOpened facts shape t n
      → value facts c args [] s ≡ gives (held_value v) → OfCall (IsAnswered facts c args []) shape t s
      → AllHoldProper (value facts c args []) (opens facts shape ty t n s) → (vs : Values) × OpensInto c shape ty t v vs × (count vs ≡ n)
  open_given (variant_shape k) ty t n s v w e o h = let (x, p, (vs, q, m)) = h.0 tt in (vs, (let r : v ≡ made_variant ty k vs = cc in r), m)
  open_given struct_shape ty t n s v w e o h = let (x, p, (vs, q, m)) = h.0 tt in (vs, (let r : v ≡ made_struct ty vs = cc in r), m)
  open_given declared_shape ty t n s v w e o h =
      let h' = subst (λ (b : Bool). AllHoldProper (value facts c args []) (extractor_demands b (facts.infallible t) (extractor_call t s)))
      (w.1) h in
      let (vs, q) = outputs_given (facts.infallible t) t s v (c.extract t v) (w.1) refl e refl
      (known facts c args [] (extractor_call t s) o) h' in
      (vs, q, allowed.outputs t v vs q ∙ sym (w.0))

  mutual
    pub backward : (p : TypedPattern) (S : ℕ → Type 0) (vars : ℕ → Site) (s : Site) (v : Value) → IsWellScoped facts p S
        → Agree (value facts c args []) at_last S vars → IsLast last (scope p S) (bound facts p s vars)
        → value facts c args [] s ≡ gives (held_value v) → OfCalls facts (IsAnswered facts c args []) p s
        → AllHoldProper (value facts c args []) (demands facts p s vars)
        → Fits facts c at_last p v × Agree (value facts c args []) at_last (scope p S) (bound facts p s vars)
    backward (typed_bind ty j p) S vars s v w g l e n h =
        let low : IsLast last (scope p S) (bound facts p s vars) =
        λ k i. l k (inr i) ∙ set_other (bound facts p s vars) j s k (λ q. w.1 (subst (scope p S) q i)) in
        let r = backward p S vars s v (w.0) g low e n h in
        let q : last j ≡ s = l j (inl refl) ∙ set_at (bound facts p s vars) j s in
        let f : at_last j ≡ v = ap (λ (x : Site). given (value facts c args [] x)) q ∙ ap given e in
        ((f, r.0), agree_set (value facts c args []) at_last (scope p S) (bound facts p s vars) j s v (r.1) e f (w.1))
    backward (typed_var ty k) S vars s v w g l e n h =
        let m : value facts c args [] (vars k) ≡ gives (held_value (at_last k)) = g k w in
        let f : at_last k ≡ v = stable_value (at_last k) v (λ o.
        let apart : s ≢ vars k =
        λ q. o (let r : value facts c args [] s ≡ value facts c args [] (vars k) = ap (value facts c args []) q in cc) in
        let (x, p, q) = h.0 apart in o cc) in (f, g)
    backward (typed_bool ty b) S vars s v w g l e n h = let (x, p, q) = h.0 tt in (let r : v ≡ bool_value b = cc in r, g)
    backward (typed_int ty m) S vars s v w g l e n h = let (x, p, q) = h.0 tt in (let r : v ≡ int_value m = cc in r, g)
    backward (typed_prim ty m) S vars s v w g l e n h = let (x, p, q) = h.0 tt in (let r : v ≡ constant_value m = cc in r, g)
    backward (typed_term ty t ps) S vars s v w g l e n h =
        let here = each_first _ (opens facts (facts.shape t) ty t (patterns ps) s) _ h in
        let rest = each_rest _ (opens facts (facts.shape t) ty t (patterns ps) s) _ h in
        let (vs, q, m) = open_given (facts.shape t) ty t (patterns ps) s v (w.0) e (n.0) here in
        let f = backward_all ps S vars (parts facts (facts.shape t) t (patterns ps) s) vs (w.1) g l
        (parts_at facts c args [] (facts.shape t) ty t (patterns ps) s v vs (w.0) e q m) m (n.1) rest in
        ((vs, q, f.0), f.1)
    backward (typed_wildcard ty) S vars s v w g l e n h = (tt, g)
    backward (typed_and ty ps) S vars s v w g l e n h = backward_each ps S vars s v w g l e n h

    pub backward_all : (ps : TypedPatterns) (S : ℕ → Type 0) (vars : ℕ → Site) (at : ℕ → Site) (vs : Values) → AreWellScoped facts ps S
        → Agree (value facts c args []) at_last S vars → IsLast last (scope_all ps S) (bound_all facts ps at vars)
        → IsAt (value facts c args []) at vs → count vs ≡ patterns ps → OfAllCalls facts (IsAnswered facts c args []) ps at
        → AllHoldProper (value facts c args []) (demands_all facts ps at vars)
        → FitsAll facts c at_last ps vs × Agree (value facts c args []) at_last (scope_all ps S) (bound_all facts ps at vars)
    backward_all no_typed S vars at no_values w g l e m n h = (tt, g)
    backward_all no_typed S vars at (more_values x xs) w g l e m n h = absurd (omega arith)
    backward_all (more_typed p ps) S vars at no_values w g l e m n h = absurd (omega arith)
    backward_all (more_typed p ps) S vars at (more_values x xs) w g l e m n h =
        let low : IsLast last (scope p S) (bound facts p (at 0) vars) =
        λ k i. l k (mono_all facts ps (scope p S) k i)
        ∙ kept_all facts ps (λ i. at (suc i)) (bound facts p (at 0) vars) (scope p S) k (w.1) i in
        let r = backward p S vars (at 0) x (w.0) g low (e 0 x refl) (n.0) (each_first _ (demands facts p (at 0) vars) _ h) in
        let q = backward_all ps (scope p S) (bound facts p (at 0) vars) (λ i. at (suc i)) xs (w.1) (r.1) l (λ i y d. e (suc i) y d)
        (omega arith) (n.1) (each_rest _ (demands facts p (at 0) vars) _ h) in
        ((r.0, q.0), q.1)

    pub backward_each : (ps : TypedPatterns) (S : ℕ → Type 0) (vars : ℕ → Site) (s : Site) (v : Value) → AreWellScoped facts ps S
        → Agree (value facts c args []) at_last S vars → IsLast last (scope_all ps S) (bound_all facts ps (λ i. s) vars)
        → value facts c args [] s ≡ gives (held_value v) → OfAllCalls facts (IsAnswered facts c args []) ps (λ i. s)
        → AllHoldProper (value facts c args []) (demands_all facts ps (λ i. s) vars)
        → FitsEach facts c at_last ps v × Agree (value facts c args []) at_last (scope_all ps S) (bound_all facts ps (λ i. s) vars)
    backward_each no_typed S vars s v w g l e n h = (tt, g)
    backward_each (more_typed p ps) S vars s v w g l e n h =
        let low : IsLast last (scope p S) (bound facts p s vars) =
        λ k i. l k (mono_all facts ps (scope p S) k i) ∙ kept_all facts ps (λ i. s) (bound facts p s vars) (scope p S) k (w.1) i in
        let r = backward p S vars s v (w.0) g low e (n.0) (each_first _ (demands facts p s vars) _ h) in
        let q = backward_each ps (scope p S) (bound facts p s vars) s v (w.1) (r.1) l e (n.1) (each_rest _ (demands facts p s vars) _ h) in
        ((r.0, q.0), q.1)

  pub backward_lets : (xs : List TypedIfLet) (S : ℕ → Type 0) (vars : ℕ → Site) → IfLetsAreWellScoped facts xs S
      → Agree (value facts c args []) at_last S vars → IsLast last (iflets_scope xs S) (iflets_bound facts xs vars)
      → OfIfLets facts (IsAnswered facts c args []) xs vars → AllHoldProper (value facts c args []) (iflets_demands facts xs vars)
      → IfLetsHold facts c at_last xs × Agree (value facts c args []) at_last (iflets_scope xs S) (iflets_bound facts xs vars)
  backward_lets [] S vars w g l n h = (tt, g)
  backward_lets (x ∷ xs) S vars w g l n h =
      let e = word_site facts c args [] at_last vars S g (word_of facts x.value) (word_reads facts S x.value (w.0)) in
      let first = each_first _ (contents (iflet_site facts vars x)) _ h in
      let rest = each_rest _ (contents (iflet_site facts vars x)) _ h in
      let (v, p) = word_valued facts c args allowed at_last vars S g (word_of facts x.value) (word_reads facts S x.value (w.0))
      (λ u. known facts c args [] (iflet_site facts vars x) (n.0) (e ∙ ap held u)) first in
      let es : value facts c args [] (iflet_site facts vars x) ≡ gives (held_value v) = e ∙ ap held p in
      let low : IsLast last (scope x.pattern S) (bound facts x.pattern (iflet_site facts vars x) vars) = λ k i.
      l k (lets_mono facts xs (scope x.pattern S) k i)
      ∙ lets_kept facts xs (bound facts x.pattern (iflet_site facts vars x) vars) (scope x.pattern S) k (w.2) i in
      let r = backward x.pattern S vars (iflet_site facts vars x) v (w.1) g low es (n.1)
      (each_first _ (demands facts x.pattern (iflet_site facts vars x) vars) _ rest) in
      let q = backward_lets xs (scope x.pattern S) (bound facts x.pattern (iflet_site facts vars x) vars) (w.2) (r.1) l (n.2)
      (each_rest _ (demands facts x.pattern (iflet_site facts vars x) vars) _ rest) in
      (((v, p, r.0), q.0), q.1)
