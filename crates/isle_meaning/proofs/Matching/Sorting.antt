-- What a typed rule demands is of its sites' types.
use Rattle.std.proofs.Common.{◌≡◌, ◌⊎◌, inl, inr, ℕ, zero, suc, ◌<◌, List, [], ◌∷◌, length, Bool, true, false, ◌==◌, refl, sym, ◌∙◌, ap}
use Rattle.std.proofs.Common.{subst, arith}
use Rattle.std.proofs.lemmas.Bool.{eqb-true}
use Rattle.isle_rules.specs.TypedRules.{TypedPattern, typed_bind, typed_var, typed_bool, typed_int, typed_prim, typed_term, typed_wildcard}
use Rattle.isle_rules.specs.TypedRules.{typed_and, TypedPatterns, no_typed, more_typed, TypedExpr, built_var, built_bool, built_int}
use Rattle.isle_rules.specs.TypedRules.{built_prim, built_term, built_let, TypedBindings, no_typed_bindings, more_typed_bindings, TypedIfLet}
use Rattle.isle_meaning.specs.Facts.{TermShape, variant_shape, struct_shape, declared_shape, TermFacts, patterns, nth_type}
use Rattle.isle_meaning.specs.Words.{Word, var_word, bool_word, int_word, prim_word, variant_word, struct_word, call_word, Words}
use Rattle.isle_meaning.specs.Words.{no_words, more_words, Step, set, call, apply, flat, flat_all, flat_lets, word_of}
use Rattle.isle_meaning.specs.Sites.{Site, argument, extractor_call, constructor_call, match_some, Sites, answer_site, extract_site}
use Rattle.isle_meaning.specs.Sites.{output, site_of, sites_of}
use Rattle.isle_meaning.specs.Demands.{Demand, extractor_demands, opens, parts, bound, bound_all, demands, demands_all, contents}
use Rattle.isle_meaning.specs.Demands.{contents_all, iflet_site, iflets_bound, iflets_demands, demands_of, args_bound, nothing, Among}
use Rattle.isle_meaning.specs.Holds.{Each}
use Rattle.isle_meaning.specs.Sorts.{plain_sort, of_outputs, sort, Suits}
use Rattle.isle_meaning.specs.Scopes.{scope, scope_all, IsWellOpened, IsWellScoped, AreWellScoped, Reads, ReadAll, iflets_scope}
use Rattle.isle_meaning.specs.Scopes.{IfLetsAreWellScoped, none}
use Rattle.isle_meaning.specs.Typing.{part_types, IsTyped, AllTyped, EachTyped, ExprTyped, BindingsTyped, IfLetsTyped}
use Rattle.isle_meaning.specs.Laws.Matching.{DemandsSuit}
use Rattle.isle_meaning.proofs.Matching.Scoping.{word_reads}
use Rattle.isle_meaning.proofs.Matching.Basics.{set_at, set_other, each_append}

pub among : (P : Demand → Type 0) (ds : List Demand) → Each P ds → (d : Demand) → Among ds d → P d
among P [] h d i = absurd i
among P (e ∷ ds) h d (inl p) = subst P (sym p) (h.0)
among P (e ∷ ds) h d (inr i) = among P ds (h.1) d i

pub each_of : (P : Demand → Type 0) (ds : List Demand) → ((d : Demand) → Among ds d → P d) → Each P ds
each_of P [] h = tt
each_of P (e ∷ ds) h = (h e (inl refl), each_of P ds (λ d i. h d (inr i)))

module _ (facts : TermFacts) (tys : List ℕ) (G : ℕ → ℕ) where
  -- a word gives a value of the type
  abbrev WordGives : Word → ℕ → Type 0
  WordGives (var_word k) u = G k ≡ u
  WordGives (bool_word ty b) u = ty ≡ u
  WordGives (int_word ty n) u = ty ≡ u
  WordGives (prim_word n) u = facts.constant_type n ≡ u
  WordGives (variant_word ty k ws) u = ty ≡ u
  WordGives (struct_word ty ws) u = ty ≡ u
  WordGives (call_word t ws i) u = facts.type_of t ≡ u

  call_gives : (b : Bool) (t u : ℕ) (r : Words × List Step) → facts.type_of t ≡ u → WordGives ((call b t r).0) u
  call_gives true t u r e = e
  call_gives false t u r e = e

  apply_gives : (shape : TermShape) (b : Bool) (ty t u : ℕ) (r : Words × List Step) → ty ≡ u → facts.type_of t ≡ u
      → WordGives ((apply shape b ty t r).0) u
  apply_gives (variant_shape k) b ty t u r e f = e
  apply_gives struct_shape b ty t u r e f = e
  apply_gives declared_shape b ty t u r e f = call_gives b t u r f

  set_gives : (vars : ℕ → Word) (k : ℕ) (w : Word) → ((j : ℕ) → WordGives (vars j) (G j)) → WordGives w (G k) → (j : ℕ)
      → WordGives (set vars k w j) (G j)
  set_gives vars k w h g j = go (j == k) refl
    where
      go : (b : Bool) → (j == k) ≡ b → WordGives (set vars k w j) (G j)
      go true e = let p : j ≡ k = eqb-true j k e in rw e (subst (WordGives w) (ap G (sym p)) g)
      go false e = rw e (h j)

  mutual
    flat_gives : (e : TypedExpr) (u : ℕ) (vars : ℕ → Word) (steps : List Step) → ((j : ℕ) → WordGives (vars j) (G j))
        → ExprTyped facts G e u → WordGives ((flat facts vars steps e).0) u
    flat_gives (built_var ty k) u vars steps h t = subst (WordGives (vars k)) (t.1) (h k)
    flat_gives (built_bool ty b) u vars steps h t = t
    flat_gives (built_int ty n) u vars steps h t = t
    flat_gives (built_prim ty n) u vars steps h t = t.1
    flat_gives (built_term ty t es) u vars steps h p =
        apply_gives (facts.shape t) (facts.pure t) ty t u (flat_all facts vars steps es) (p.0) (p.1)
    flat_gives (built_let ty bs body) u vars steps h t =
        flat_gives body u ((flat_lets facts vars steps bs).0) ((flat_lets facts vars steps bs).1) (flat_lets_give bs vars steps h (t.0))
        (t.1)

    flat_lets_give : (bs : TypedBindings) (vars : ℕ → Word) (steps : List Step) → ((j : ℕ) → WordGives (vars j) (G j))
        → BindingsTyped facts G bs → (j : ℕ) → WordGives ((flat_lets facts vars steps bs).0 j) (G j)
    flat_lets_give no_typed_bindings vars steps h t = h
    flat_lets_give (more_typed_bindings k ty e bs) vars steps h t =
        flat_lets_give bs (set vars k ((flat facts vars steps e).0)) ((flat facts vars steps e).1)
        (set_gives vars k _ h (subst (WordGives ((flat facts vars steps e).0)) (sym (t.0)) (flat_gives e ty vars steps h (t.1)))) (t.2)

  word_gives : (e : TypedExpr) (u : ℕ) → ExprTyped facts G e u → WordGives (word_of facts e) u
  word_gives e u t = flat_gives e u (λ k. var_word k) [] (λ j. refl) t

  -- the site holds a value of the type, and what is looked into on the way is an option
  abbrev IsGood : Site → ℕ → Type 0
  IsGood s u = (sort facts tys s ≡ plain_sort u) × Each (Suits facts tys) (contents s)

  abbrev AreGood : (ℕ → Type 0) → (ℕ → Site) → Type 0
  AreGood S vars = (k : ℕ) → S k → IsGood (vars k) (G k)

  module _ (vars : ℕ → Site) (S : ℕ → Type 0) (good : AreGood S vars) where
    call_sort : (b : Bool) (t u : ℕ) (ss : Sites) (i : ℕ) → facts.multi t ≡ false → facts.partial t ≡ b → facts.type_of t ≡ u
        → sort facts tys (answer_site false b (constructor_call t ss i)) ≡ plain_sort u
    call_sort true t u ss i m e f = rw (m, e, f) refl
    call_sort false t u ss i m e f = rw (m, e, f) refl

    word_sort : (w : Word) (u : ℕ) → Reads facts w S → WordGives w u → sort facts tys (site_of facts vars w) ≡ plain_sort u
    word_sort (var_word k) u r t = (good k r).0 ∙ ap plain_sort t
    word_sort (bool_word ty b) u r t = ap plain_sort t
    word_sort (int_word ty n) u r t = ap plain_sort t
    word_sort (prim_word n) u r t = ap plain_sort t
    word_sort (variant_word ty k ws) u r t = ap plain_sort t
    word_sort (struct_word ty ws) u r t = ap plain_sort t
    word_sort (call_word t ws i) u r e =
        subst (λ (b : Bool). sort facts tys (answer_site b (facts.partial t) (constructor_call t (sites_of facts vars ws) i)) ≡ plain_sort
        u) (sym (r.0)) (call_sort (facts.partial t) t u (sites_of facts vars ws) i (r.0) refl e)

    call_contents : (b : Bool) (t : ℕ) (ss : Sites) (i : ℕ) → facts.multi t ≡ false → facts.partial t ≡ b
        → Each (Suits facts tys) (contents_all ss) → Each (Suits facts tys) (contents (answer_site false b (constructor_call t ss i)))
    call_contents true t ss i m e h = ((plain_sort (facts.type_of t), rw (m, e) refl), h)
    call_contents false t ss i m e h = h

    mutual
      word_contents : (w : Word) → Reads facts w S → Each (Suits facts tys) (contents (site_of facts vars w))
      word_contents (var_word k) r = (good k r).1
      word_contents (bool_word ty b) r = tt
      word_contents (int_word ty n) r = tt
      word_contents (prim_word n) r = tt
      word_contents (variant_word ty k ws) r = words_contents ws r
      word_contents (struct_word ty ws) r = words_contents ws r
      word_contents (call_word t ws i) r =
          subst (λ (b : Bool). Each (Suits facts tys)
          (contents (answer_site b (facts.partial t) (constructor_call t (sites_of facts vars ws) i)))) (sym (r.0))
          (call_contents (facts.partial t) t (sites_of facts vars ws) i (r.0) refl (words_contents ws (r.1)))

      words_contents : (ws : Words) → ReadAll facts ws S → Each (Suits facts tys) (contents_all (sites_of facts vars ws))
      words_contents no_words r = tt
      words_contents (more_words w ws) r =
          each_append (Suits facts tys) (contents (site_of facts vars w)) _ (word_contents w (r.0)) (words_contents ws (r.1))

  good_set : (S : ℕ → Type 0) (vars : ℕ → Site) (j : ℕ) (s : Site) (u : ℕ) → AreGood S vars → IsGood s u → G j ≡ u → (S j → ⊥)
      → AreGood (λ k. (k ≡ j) ⊎ S k) (set vars j s)
  good_set S vars j s u g h e n k (inl p) =
      let q : set vars j s k ≡ s = ap (set vars j s) p ∙ set_at vars j s in
      subst (λ (z : Site). IsGood z (G k)) (sym q) (subst (IsGood s) (sym (ap G p ∙ e)) h)
  good_set S vars j s u g h e n k (inr i) = subst (λ (z : Site). IsGood z (G k)) (sym (set_other vars j s k (λ p. n (subst S p i)))) (g k i)

  output_good : (n : ℕ) (s : Site) (ts : List ℕ) (i : ℕ) → n ≡ length ts → i < n → sort facts tys s ≡ of_outputs ts
      → Each (Suits facts tys) (contents s) → IsGood (output n s i) (nth_type ts i)
  output_good n s [] i l j e h = absurd (omega arith)
  output_good zero s (t ∷ ts) i l j e h = absurd (omega arith)
  output_good (suc zero) s (t ∷ []) zero l j e h = (e, h)
  output_good (suc zero) s (t ∷ []) (suc i) l j e h = absurd (omega arith)
  output_good (suc zero) s (t ∷ (u ∷ us)) i l j e h = absurd (omega arith)
  output_good (suc (suc n)) s (t ∷ []) i l j e h = absurd (omega arith)
  output_good (suc (suc n)) s (t ∷ (u ∷ us)) i l j e h = (rw e refl, h)

  extract_good : (b : Bool) (t n : ℕ) (s : Site) (i : ℕ) → facts.multi t ≡ false → facts.infallible t ≡ b → n ≡ length (facts.inputs t)
      → i < n → Each (Suits facts tys) (contents s)
      → IsGood (output n (extract_site false b (extractor_call t s)) i) (nth_type (facts.inputs t) i)
  extract_good true t n s i m e l j h = output_good n (extractor_call t s) (facts.inputs t) i l j (rw (m, e) refl) h
  extract_good false t n s i m e l j h =
      output_good n (match_some (extractor_call t s)) (facts.inputs t) i l j (rw (m, e) refl) (
        (
          of_outputs (facts.inputs t),
          rw (m, e) refl,
        ),
        h,
      )

  parts_good : (shape : TermShape) (ty t n : ℕ) (s : Site) (i : ℕ) → IsWellOpened facts shape t n → n ≡ length (part_types facts shape ty t)
      → i < n → IsGood s ty → IsGood (parts facts shape t n s i) (nth_type (part_types facts shape ty t) i)
  parts_good (variant_shape k) ty t n s i w l j h = (rw (h.0) refl, h.1)
  parts_good struct_shape ty t n s i w l j h = (rw (h.0) refl, h.1)
  parts_good declared_shape ty t n s i w l j h =
      subst (λ (b : Bool). IsGood (output n (extract_site b (facts.infallible t) (extractor_call t s)) i) (nth_type (facts.inputs t) i))
      (sym (w.1)) (extract_good (facts.infallible t) t n s i (w.1) refl (w.0) j (h.1))

  extractor_suit : (b : Bool) (t : ℕ) (s : Site) → facts.multi t ≡ false → facts.infallible t ≡ b
      → Each (Suits facts tys) (extractor_demands false b (extractor_call t s))
  extractor_suit true t s m e = tt
  extractor_suit false t s m e = ((of_outputs (facts.inputs t), rw (m, e) refl), tt)

  opens_suit : (shape : TermShape) (ty t n : ℕ) (s : Site) → IsWellOpened facts shape t n → sort facts tys s ≡ plain_sort ty
      → Each (Suits facts tys) (opens facts shape ty t n s)
  opens_suit (variant_shape k) ty t n s w e = (e, tt)
  opens_suit struct_shape ty t n s w e = (e, tt)
  opens_suit declared_shape ty t n s w e =
      subst (λ (b : Bool). Each (Suits facts tys) (extractor_demands b (facts.infallible t) (extractor_call t s))) (sym (w.1))
      (extractor_suit (facts.infallible t) t s (w.1) refl)

  typed_count : (ps : TypedPatterns) (us : List ℕ) → AllTyped facts G ps us → patterns ps ≡ length us
  typed_count no_typed [] t = refl
  typed_count no_typed (u ∷ us) t = absurd t
  typed_count (more_typed p ps) [] t = absurd t
  typed_count (more_typed p ps) (u ∷ us) t = ap suc (typed_count ps us (t.1))

  mutual
    suits : (p : TypedPattern) (u : ℕ) (S : ℕ → Type 0) (vars : ℕ → Site) (s : Site) → IsWellScoped facts p S → IsTyped facts G p u
        → AreGood S vars → IsGood s u
        → Each (Suits facts tys) (demands facts p s vars) × AreGood (scope p S) (bound facts p s vars)
    suits (typed_bind ty j p) u S vars s w t g h =
        let r = suits p u S vars s (w.0) (t.2) g h in (r.0, good_set (scope p S) (bound facts p s vars) j s u (r.1) h (t.1) (w.1))
    suits (typed_var ty k) u S vars s w t g h = (((u, h.0, (g k w).0 ∙ ap plain_sort (t.1)), tt), g)
    suits (typed_bool ty b) u S vars s w t g h = ((h.0 ∙ ap plain_sort (sym t), tt), g)
    suits (typed_int ty n) u S vars s w t g h = ((h.0 ∙ ap plain_sort (sym t), tt), g)
    suits (typed_prim ty n) u S vars s w t g h = (((u, h.0), tt), g)
    suits (typed_term ty t ps) u S vars s w p g h =
        let h' : IsGood s ty = subst (IsGood s) (sym (p.0)) h in
        let l = typed_count ps (part_types facts (facts.shape t) ty t) (p.2) in
        let r = suits_all ps (part_types facts (facts.shape t) ty t) S vars (parts facts (facts.shape t) t (patterns ps) s) (w.1) (p.2) g
        (λ i j. parts_good (facts.shape t) ty t (patterns ps) s i (w.0) l j h') in (
          each_append (Suits facts tys) (opens facts (facts.shape t) ty t (patterns ps) s) _
              (opens_suit (facts.shape t) ty t (patterns ps) s (w.0) (h'.0)) (r.0),
          r.1,
        )
    suits (typed_wildcard ty) u S vars s w t g h = (tt, g)
    suits (typed_and ty ps) u S vars s w t g h = suits_each ps u S vars s w (t.1) g h

    suits_all : (ps : TypedPatterns) (us : List ℕ) (S : ℕ → Type 0) (vars : ℕ → Site) (at : ℕ → Site) → AreWellScoped facts ps S
        → AllTyped facts G ps us → AreGood S vars → ((i : ℕ) → i < patterns ps → IsGood (at i) (nth_type us i))
        → Each (Suits facts tys) (demands_all facts ps at vars) × AreGood (scope_all ps S) (bound_all facts ps at vars)
    suits_all no_typed us S vars at w t g h = (tt, g)
    suits_all (more_typed p ps) [] S vars at w t g h = absurd t
    suits_all (more_typed p ps) (u ∷ us) S vars at w t g h =
        let r = suits p u S vars (at 0) (w.0) (t.0) g (h 0 (omega arith)) in
        let q = suits_all ps us (scope p S) (bound facts p (at 0) vars) (λ i. at (suc i)) (w.1) (t.1) (r.1) (λ i l. h (suc i) (omega arith))
        in
        (each_append (Suits facts tys) (demands facts p (at 0) vars) _ (r.0) (q.0), q.1)

    suits_each : (ps : TypedPatterns) (u : ℕ) (S : ℕ → Type 0) (vars : ℕ → Site) (s : Site) → AreWellScoped facts ps S
        → EachTyped facts G ps u → AreGood S vars → IsGood s u
        → Each (Suits facts tys) (demands_all facts ps (λ i. s) vars) × AreGood (scope_all ps S) (bound_all facts ps (λ i. s) vars)
    suits_each no_typed u S vars s w t g h = (tt, g)
    suits_each (more_typed p ps) u S vars s w t g h =
        let r = suits p u S vars s (w.0) (t.0) g h in
        let q = suits_each ps u (scope p S) (bound facts p s vars) s (w.1) (t.1) (r.1) h in
        (each_append (Suits facts tys) (demands facts p s vars) _ (r.0) (q.0), q.1)

  suits_lets : (xs : List TypedIfLet) (S : ℕ → Type 0) (vars : ℕ → Site) → IfLetsAreWellScoped facts xs S → IfLetsTyped facts G xs
      → AreGood S vars
      → Each (Suits facts tys) (iflets_demands facts xs vars) × AreGood (iflets_scope xs S) (iflets_bound facts xs vars)
  suits_lets [] S vars w t g = (tt, g)
  suits_lets (x ∷ xs) S vars w t g =
      let (u, e, p) = t.0 in
      let reads = word_reads facts S x.value (w.0) in
      let h : IsGood (iflet_site facts vars x) u = (
        word_sort vars S g (word_of facts x.value) u reads (word_gives x.value u e),
        word_contents vars S g (word_of facts x.value) reads,
      ) in
      let r = suits x.pattern u S vars (iflet_site facts vars x) (w.1) p g h in
      let q = suits_lets xs (scope x.pattern S) (bound facts x.pattern (iflet_site facts vars x) vars) (w.2) (t.1) (r.1) in (
        each_append (Suits facts tys) (contents (iflet_site facts vars x)) _ (h.1)
            (each_append (Suits facts tys) (demands facts x.pattern (iflet_site facts vars x) vars) _ (r.0) (q.0)),
        q.1,
      )

pub demands_suit : DemandsSuit
demands_suit facts tys rule is =
    let G = is.var_types in
    let r = suits_all facts tys G rule.args tys none nothing argument (is.well.args) (is.typed.args) (λ k h. absurd h) (λ i l. (refl, tt))
    in
    let q = suits_lets facts tys G rule.iflets (scope_all rule.args none) (args_bound facts rule) (is.well.iflets) (is.typed.iflets) (r.1)
    in
    among (Suits facts tys) (demands_of facts rule)
    (each_append (Suits facts tys) (demands_all facts rule.args argument nothing) _ (r.0) (q.0))
