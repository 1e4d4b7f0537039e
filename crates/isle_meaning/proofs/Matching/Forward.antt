-- Where patterns fit and if-lets hold, the demands do.
use Rattle.std.proofs.Common.{◌≡◌, ℕ, suc, List, [], ◌∷◌, Bool, true, false, refl, ◌∙◌, ap, subst, sym}
use Rattle.isle_meaning.specs.Got.{gives}
use Rattle.isle_meaning.specs.Values.{Value, Values, no_values, more_values, count}
use Rattle.isle_rules.specs.TypedRules.{TypedPattern, typed_bind, typed_var, typed_bool, typed_int, typed_prim, typed_term, typed_wildcard}
use Rattle.isle_rules.specs.TypedRules.{typed_and, TypedPatterns, no_typed, more_typed, TypedIfLet}
use Rattle.isle_meaning.specs.Facts.{TermShape, variant_shape, struct_shape, declared_shape, TermFacts, patterns}
use Rattle.isle_meaning.specs.Words.{word_of}
use Rattle.isle_meaning.specs.Answers.{Completion}
use Rattle.isle_meaning.specs.Matching.{OpensInto, Fits, FitsAll, FitsEach, IfLetsHold}
use Rattle.isle_meaning.specs.Sites.{Site, extractor_call}
use Rattle.isle_meaning.specs.Held.{held_value, held_some, held, outputs_of, value}
use Rattle.isle_meaning.specs.Demands.{extractor_demands, opens, parts, bound, bound_all, demands, demands_all, iflet_site, contents}
use Rattle.isle_meaning.specs.Demands.{iflets_bound, iflets_demands}
use Rattle.isle_meaning.specs.Holds.{Holds, AllHold}
use Rattle.isle_meaning.specs.Scopes.{scope, scope_all, IsWellOpened, IsWellScoped, AreWellScoped, iflets_scope, IfLetsAreWellScoped}
use Rattle.isle_meaning.proofs.Matching.Scoping.{word_reads}
use Rattle.isle_meaning.proofs.Matching.Basics.{each_append}
use Rattle.isle_meaning.proofs.Matching.Written.{word_site}
use Rattle.isle_meaning.proofs.Matching.Contents.{contents_hold}
use Rattle.isle_meaning.proofs.Matching.Children.{IsAt, Agree, parts_at, agree_set}

module _ (facts : TermFacts) (c : Completion) (args : Values) (a : ℕ → Value) where
  pub fits_count : (ps : TypedPatterns) (vs : Values) → FitsAll facts c a ps vs → count vs ≡ patterns ps
  fits_count no_typed no_values f = refl
  fits_count no_typed (more_values x xs) f = absurd f
  fits_count (more_typed p ps) no_values f = absurd f
  fits_count (more_typed p ps) (more_values x xs) f = ap suc (fits_count ps xs (f.1))

  some_holds : (b : Bool) (t : ℕ) (s : Site) (v : Value) (vs : Values) → facts.multi t ≡ false → facts.infallible t ≡ b
      → value facts c args [] s ≡ gives (held_value v) → c.extract t v ≡ gives vs
      → AllHold (value facts c args []) (extractor_demands false b (extractor_call t s))
  some_holds true t s v vs m eb es ex = tt
  some_holds false t s v vs m eb es ex = ((held_some (outputs_of vs), rw (es, m, eb, ex) refl, (outputs_of vs, refl)), tt)

  opened : (shape : TermShape) (ty t n : ℕ) (s : Site) (v : Value) (vs : Values) → IsWellOpened facts shape t n
      → value facts c args [] s ≡ gives (held_value v) → OpensInto c shape ty t v vs → count vs ≡ n
      → AllHold (value facts c args []) (opens facts shape ty t n s)
  opened (variant_shape k) ty t n s v vs w e o l = ((held_value v, e, (vs, ap held_value o, l)), tt)
  opened struct_shape ty t n s v vs w e o l = ((held_value v, e, (vs, ap held_value o, l)), tt)
  opened declared_shape ty t n s v vs w e o l =
      subst (λ (b : Bool). AllHold (value facts c args []) (extractor_demands b (facts.infallible t) (extractor_call t s))) (sym (w.1))
      (some_holds (facts.infallible t) t s v vs (w.1) refl e o)

  mutual
    pub forward : (p : TypedPattern) (S : ℕ → Type 0) (vars : ℕ → Site) (s : Site) (v : Value) → IsWellScoped facts p S
        → Agree (value facts c args []) a S vars → value facts c args [] s ≡ gives (held_value v) → Fits facts c a p v
        → AllHold (value facts c args []) (demands facts p s vars) × Agree (value facts c args []) a (scope p S) (bound facts p s vars)
    forward (typed_bind ty j p) S vars s v w g e f =
        let r = forward p S vars s v (w.0) g e (f.1) in
        (r.0, agree_set (value facts c args []) a (scope p S) (bound facts p s vars) j s v (r.1) e (f.0) (w.1))
    forward (typed_var ty k) S vars s v w g e f = (((held_value v, e, g k w ∙ ap (λ (x : Value). gives (held_value x)) f), tt), g)
    forward (typed_bool ty b) S vars s v w g e f = (((held_value v, e, ap held_value f), tt), g)
    forward (typed_int ty n) S vars s v w g e f = (((held_value v, e, ap held_value f), tt), g)
    forward (typed_prim ty n) S vars s v w g e f = (((held_value v, e, ap held_value f), tt), g)
    forward (typed_term ty t ps) S vars s v w g e f =
        let (vs, q, h) = f in
        let l = fits_count ps vs h in
        let r = forward_all ps S vars (parts facts (facts.shape t) t (patterns ps) s) vs (w.1) g
        (parts_at facts c args [] (facts.shape t) ty t (patterns ps) s v vs (w.0) e q l) h in (
          each_append (Holds (value facts c args [])) (opens facts (facts.shape t) ty t (patterns ps) s) _
              (opened (facts.shape t) ty t (patterns ps) s v vs (w.0) e q l) (r.0),
          r.1,
        )
    forward (typed_wildcard ty) S vars s v w g e f = (tt, g)
    forward (typed_and ty ps) S vars s v w g e f = forward_each ps S vars s v w g e f

    pub forward_all : (ps : TypedPatterns) (S : ℕ → Type 0) (vars : ℕ → Site) (at : ℕ → Site) (vs : Values) → AreWellScoped facts ps S
        → Agree (value facts c args []) a S vars → IsAt (value facts c args []) at vs → FitsAll facts c a ps vs
        → AllHold (value facts c args []) (demands_all facts ps at vars)
        × Agree (value facts c args []) a (scope_all ps S) (bound_all facts ps at vars)
    forward_all no_typed S vars at vs w g e f = (tt, g)
    forward_all (more_typed p ps) S vars at no_values w g e f = absurd f
    forward_all (more_typed p ps) S vars at (more_values x xs) w g e f =
        let r = forward p S vars (at 0) x (w.0) g (e 0 x refl) (f.0) in
        let q = forward_all ps (scope p S) (bound facts p (at 0) vars) (λ i. at (suc i)) xs (w.1) (r.1) (λ i y h. e (suc i) y h) (f.1) in
        (each_append (Holds (value facts c args [])) (demands facts p (at 0) vars) _ (r.0) (q.0), q.1)

    pub forward_each : (ps : TypedPatterns) (S : ℕ → Type 0) (vars : ℕ → Site) (s : Site) (v : Value) → AreWellScoped facts ps S
        → Agree (value facts c args []) a S vars → value facts c args [] s ≡ gives (held_value v) → FitsEach facts c a ps v
        → AllHold (value facts c args []) (demands_all facts ps (λ i. s) vars)
        × Agree (value facts c args []) a (scope_all ps S) (bound_all facts ps (λ i. s) vars)
    forward_each no_typed S vars s v w g e f = (tt, g)
    forward_each (more_typed p ps) S vars s v w g e f =
        let r = forward p S vars s v (w.0) g e (f.0) in
        let q = forward_each ps (scope p S) (bound facts p s vars) s v (w.1) (r.1) e (f.1) in
        (each_append (Holds (value facts c args [])) (demands facts p s vars) _ (r.0) (q.0), q.1)

  pub forward_lets : (xs : List TypedIfLet) (S : ℕ → Type 0) (vars : ℕ → Site) → IfLetsAreWellScoped facts xs S
      → Agree (value facts c args []) a S vars → IfLetsHold facts c a xs
      → AllHold (value facts c args []) (iflets_demands facts xs vars)
      × Agree (value facts c args []) a (iflets_scope xs S) (iflets_bound facts xs vars)
  forward_lets [] S vars w g f = (tt, g)
  forward_lets (x ∷ xs) S vars w g f =
      let (v, p, h) = f.0 in
      let e : value facts c args [] (iflet_site facts vars x) ≡ gives (held_value v) =
      word_site facts c args [] a vars S g (word_of facts x.value) (word_reads facts S x.value (w.0)) ∙ ap held p in
      let r = forward x.pattern S vars (iflet_site facts vars x) v (w.1) g e h in
      let q = forward_lets xs (scope x.pattern S) (bound facts x.pattern (iflet_site facts vars x) vars) (w.2) (r.1) (f.1) in (
        each_append (Holds (value facts c args [])) (contents (iflet_site facts vars x)) _
            (contents_hold facts c args [] (iflet_site facts vars x) (held_value v) e)
            (each_append (Holds (value facts c args [])) (demands facts x.pattern (iflet_site facts vars x) vars) _ (r.0) (q.0)),
        q.1,
      )
