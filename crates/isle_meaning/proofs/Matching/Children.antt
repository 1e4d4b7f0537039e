-- The sites of a pattern's parts, and what stays bound.
use Rattle.std.proofs.Common.{◌≡◌, ◌⊎◌, inl, inr, ℕ, zero, suc, List, [], ◌∷◌, Bool, true, false, Option, refl, sym, ◌∙◌, ap, subst, arith}
use Rattle.isle_meaning.specs.Got.{Got, gives}
use Rattle.isle_meaning.specs.Values.{Value, Values, no_values, more_values, nth, count}
use Rattle.isle_rules.specs.TypedRules.{TypedPattern, typed_bind, typed_var, typed_bool, typed_int, typed_prim, typed_term, typed_wildcard}
use Rattle.isle_rules.specs.TypedRules.{typed_and, TypedPatterns, no_typed, more_typed, TypedIfLet}
use Rattle.isle_meaning.specs.Facts.{TermShape, variant_shape, struct_shape, declared_shape, TermFacts, patterns}
use Rattle.isle_meaning.specs.Words.{set}
use Rattle.isle_meaning.specs.Answers.{Completion}
use Rattle.isle_meaning.specs.Matching.{OpensInto}
use Rattle.isle_meaning.specs.Sites.{Site, extractor_call, match_some, extract_site, output}
use Rattle.isle_meaning.specs.Held.{Held, held_value, held, outputs_of, value}
use Rattle.isle_meaning.specs.Demands.{parts, bound, bound_all, iflet_site, iflets_bound}
use Rattle.isle_meaning.specs.Scopes.{scope, scope_all, IsWellOpened, IsWellScoped, AreWellScoped, iflets_scope, IfLetsAreWellScoped}
use Rattle.isle_meaning.proofs.Matching.Basics.{set_at, set_other, field_at, struct_at}

-- the sites have the values
abbrev pub IsAt : (Site → Got Held) → (ℕ → Site) → Values → Type 0
IsAt val at vs = (i : ℕ) (x : Value) → nth vs i ≡ gives x → val (at i) ≡ gives (held_value x)

-- each variable's site has its value
abbrev pub Agree : (Site → Got Held) → (ℕ → Value) → (ℕ → Type 0) → (ℕ → Site) → Type 0
Agree val a S vars = (k : ℕ) → S k → val (vars k) ≡ gives (held_value (a k))

module _ (facts : TermFacts) (c : Completion) (args : Values) (done : List (Option Value)) where
  output_at : (n : ℕ) (s : Site) (vs : Values) → count vs ≡ n → value facts c args done s ≡ gives (outputs_of vs)
      → IsAt (value facts c args done) (output n s) vs
  output_at n s no_values l e i x h = absurd cc
  output_at zero s (more_values y no_values) l e i x h = absurd (omega arith)
  output_at (suc zero) s (more_values y no_values) l e zero x h = let p : y ≡ x = cc in rw (← p) e
  output_at (suc zero) s (more_values y no_values) l e (suc i) x h = absurd cc
  output_at (suc (suc n)) s (more_values y no_values) l e i x h = absurd (omega arith)
  output_at zero s (more_values y (more_values z zs)) l e i x h = absurd (omega arith)
  output_at (suc zero) s (more_values y (more_values z zs)) l e i x h = absurd (omega arith)
  output_at (suc (suc n)) s (more_values y (more_values z zs)) l e i x h = rw e (ap held h)

  extract_at : (b : Bool) (t n : ℕ) (s : Site) (v : Value) (vs : Values) → facts.multi t ≡ false → facts.infallible t ≡ b
      → value facts c args done s ≡ gives (held_value v) → c.extract t v ≡ gives vs → count vs ≡ n
      → IsAt (value facts c args done) (output n (extract_site false b (extractor_call t s))) vs
  extract_at true t n s v vs m eb es ex l = output_at n (extractor_call t s) vs l (rw (es, m, eb, ex) refl)
  extract_at false t n s v vs m eb es ex l = output_at n (match_some (extractor_call t s)) vs l (rw (es, m, eb, ex) refl)

  -- the parts of what a value opens into
  pub parts_at : (shape : TermShape) (ty t n : ℕ) (s : Site) (v : Value) (vs : Values) → IsWellOpened facts shape t n
      → value facts c args done s ≡ gives (held_value v) → OpensInto c shape ty t v vs → count vs ≡ n
      → IsAt (value facts c args done) (parts facts shape t n s) vs
  parts_at (variant_shape k) ty t n s v vs w e o l i x h =
      field_at (value facts c args done s) ty k i vs (e ∙ ap (λ (y : Value). gives (held_value y)) o) ∙ ap held h
  parts_at struct_shape ty t n s v vs w e o l i x h =
      struct_at (value facts c args done s) ty i vs (e ∙ ap (λ (y : Value). gives (held_value y)) o) ∙ ap held h
  parts_at declared_shape ty t n s v vs w e o l i x h =
      let its : IsAt (value facts c args done) (output n (extract_site false (facts.infallible t) (extractor_call t s))) vs =
      extract_at (facts.infallible t) t n s v vs (w.1) refl e o l in
      subst (λ (b : Bool). value facts c args done (output n (extract_site b (facts.infallible t) (extractor_call t s)) i) ≡ gives
      (held_value x)) (sym (w.1)) (its i x h)

-- what is bound stays bound, at its site
module _ (facts : TermFacts) where
  mutual
    pub mono : (p : TypedPattern) (S : ℕ → Type 0) (k : ℕ) → S k → scope p S k
    mono (typed_bind ty j p) S k h = inr (mono p S k h)
    mono (typed_var ty j) S k h = h
    mono (typed_bool ty b) S k h = h
    mono (typed_int ty n) S k h = h
    mono (typed_prim ty n) S k h = h
    mono (typed_term ty t ps) S k h = mono_all ps S k h
    mono (typed_wildcard ty) S k h = h
    mono (typed_and ty ps) S k h = mono_all ps S k h

    pub mono_all : (ps : TypedPatterns) (S : ℕ → Type 0) (k : ℕ) → S k → scope_all ps S k
    mono_all no_typed S k h = h
    mono_all (more_typed p ps) S k h = mono_all ps (scope p S) k (mono p S k h)

  mutual
    pub kept : (p : TypedPattern) (s : Site) (vars : ℕ → Site) (S : ℕ → Type 0) (k : ℕ) → IsWellScoped facts p S → S k
        → bound facts p s vars k ≡ vars k
    kept (typed_bind ty j p) s vars S k w h =
        set_other (bound facts p s vars) j s k (λ e. w.1 (subst (scope p S) e (mono p S k h))) ∙ kept p s vars S k (w.0) h
    kept (typed_var ty j) s vars S k w h = refl
    kept (typed_bool ty b) s vars S k w h = refl
    kept (typed_int ty n) s vars S k w h = refl
    kept (typed_prim ty n) s vars S k w h = refl
    kept (typed_term ty t ps) s vars S k w h = kept_all ps (parts facts (facts.shape t) t (patterns ps) s) vars S k (w.1) h
    kept (typed_wildcard ty) s vars S k w h = refl
    kept (typed_and ty ps) s vars S k w h = kept_all ps (λ i. s) vars S k w h

    pub kept_all : (ps : TypedPatterns) (at : ℕ → Site) (vars : ℕ → Site) (S : ℕ → Type 0) (k : ℕ) → AreWellScoped facts ps S → S k
        → bound_all facts ps at vars k ≡ vars k
    kept_all no_typed at vars S k w h = refl
    kept_all (more_typed p ps) at vars S k w h =
        kept_all ps (λ i. at (suc i)) (bound facts p (at 0) vars) (scope p S) k (w.1) (mono p S k h) ∙ kept p (at 0) vars S k (w.0) h

  pub lets_mono : (xs : List TypedIfLet) (S : ℕ → Type 0) (k : ℕ) → S k → iflets_scope xs S k
  lets_mono [] S k h = h
  lets_mono (x ∷ xs) S k h = lets_mono xs (scope x.pattern S) k (mono x.pattern S k h)

  pub lets_kept : (xs : List TypedIfLet) (vars : ℕ → Site) (S : ℕ → Type 0) (k : ℕ) → IfLetsAreWellScoped facts xs S → S k
      → iflets_bound facts xs vars k ≡ vars k
  lets_kept [] vars S k w h = refl
  lets_kept (x ∷ xs) vars S k w h =
      lets_kept xs (bound facts x.pattern (iflet_site facts vars x) vars) (scope x.pattern S) k (w.2) (mono x.pattern S k h)
      ∙ kept x.pattern (iflet_site facts vars x) vars S k (w.1) h

-- one more variable
pub agree_set : (val : Site → Got Held) (a : ℕ → Value) (S : ℕ → Type 0) (vars : ℕ → Site) (j : ℕ) (s : Site) (v : Value)
    → Agree val a S vars → val s ≡ gives (held_value v) → a j ≡ v → (S j → ⊥) → Agree val a (λ k. (k ≡ j) ⊎ S k) (set vars j s)
agree_set val a S vars j s v g e f n k (inl p) =
    let q : set vars j s k ≡ s = ap (set vars j s) p ∙ set_at vars j s in
    ap val q ∙ e ∙ ap (λ (x : Value). gives (held_value x)) (sym (ap a p ∙ f))
agree_set val a S vars j s v g e f n k (inr h) = ap val (set_other vars j s k (λ p. n (subst S p h))) ∙ g k h
