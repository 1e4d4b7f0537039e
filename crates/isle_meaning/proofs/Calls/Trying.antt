-- A pattern that is tried fits under the assignments alone that have the values found.
use Rattle.std.proofs.Common.{◌≡◌, ◌⊎◌, inl, inr, ℕ, List, Option, refl, sym, ◌∙◌, ap, subst}
use Rattle.isle_rules.specs.TypedRules.{TypedPattern, typed_bind, typed_var, typed_bool, typed_int, typed_prim, typed_term, typed_wildcard}
use Rattle.isle_rules.specs.TypedRules.{typed_and, TypedPatterns, no_typed, more_typed}
use Rattle.isle_meaning.specs.Facts.{TermShape, variant_shape, struct_shape, declared_shape}
use Rattle.isle_meaning.specs.Got.{gives, fails}
use Rattle.isle_meaning.specs.Values.{Value, Values, made_variant, made_struct, no_values, more_values}
use Rattle.isle_meaning.specs.Words.{set}
use Rattle.isle_meaning.specs.Answers.{Completion}
use Rattle.isle_meaning.specs.Matching.{OpensInto, Fits, FitsAll, FitsEach}
use Rattle.isle_meaning.specs.Scopes.{scope, scope_all, IsWellScoped, AreWellScoped}
use Rattle.isle_meaning.specs.Worlds.{CheckedProgram, Answers, Event}
use Rattle.isle_meaning.specs.Calls.{Agrees}
use Rattle.isle_meaning.proofs.Matching.Basics.{set_at, set_other}
use Rattle.isle_meaning.specs.Outcomes.{Outcome, given, missing, ended, After}
use Rattle.isle_meaning.specs.PlainRuns.{Tests, OpenRuns, PatternRuns, PatternsRun, EachRuns}
use Rattle.isle_meaning.proofs.Calls.Saying.{SaysOutcome, said, extract_says}

-- these variables have these values
abbrev pub Has : (ℕ → Type 0) → (ℕ → Value) → (ℕ → Value) → Type 0
Has S env a = (k : ℕ) → S k → a k ≡ env k

-- an assignment that fits has the values found; none fits where what is tried is left
abbrev pub OnlyFits : (ℕ → Type 0) → (ℕ → Value) → Outcome (ℕ → Value) → Type 0
OnlyFits S a (given env) = Has S env a
OnlyFits S a missing = ⊥
OnlyFits S a (ended e) = Unit {0}

test_only : (S : ℕ → Type 0) (a env : ℕ → Value) (passes : Type 0) (r : Outcome (ℕ → Value)) → Has S env a → passes → Tests passes env r
    → OnlyFits S a r
test_only S a env passes r h t (inl q) = subst (OnlyFits S a) (sym (q.1)) h
test_only S a env passes r h t (inr q) = absurd (q.0 t)

-- one after the other
pub next_only : (Mid S : ℕ → Type 0) (a : ℕ → Value) (s r : Outcome (ℕ → Value))
    (next : (ℕ → Value) → Outcome (ℕ → Value) → Type 0) → OnlyFits Mid a s → After s next r
    → ((env : ℕ → Value) → s ≡ given env → Has Mid env a → next env r → OnlyFits S a r) → OnlyFits S a r
next_only Mid S a (given env) r next h run k = k env refl h run
next_only Mid S a missing r next h run k = absurd h
next_only Mid S a (ended e) r next h run k = subst (OnlyFits S a) (sym run) tt

bind_only : (S : ℕ → Type 0) (a env : ℕ → Value) (k : ℕ) (v : Value) → (S k → ⊥) → a k ≡ v → Has S env a
    → Has (λ j. (j ≡ k) ⊎ S j) (set env k v) a
bind_only S a env k v n e h j (inl q) = ap a q ∙ e ∙ sym (ap (set env k v) q ∙ set_at env k v)
bind_only S a env k v n e h j (inr i) = h j i ∙ sym (set_other env k v j (λ q. n (subst S q i)))

module _ (p : CheckedProgram) (w : Answers) (means : ℕ → Values → List Event → Option Value → Type 0) (c : Completion)
    (agrees : Agrees p w means c) where
  pub open_only : (shape : TermShape) (ty t : ℕ) (v : Value) (vs : Values) (parts : Values → Outcome (ℕ → Value) → Type 0)
      (S : ℕ → Type 0) (a : ℕ → Value) (r : Outcome (ℕ → Value)) → OpensInto c shape ty t v vs → OpenRuns p w shape ty t v parts r
      → (parts vs r → OnlyFits S a r) → OnlyFits S a r
  open_only (variant_shape k) ty t v vs parts S a r o (inl (us, q, run)) h =
      let e : us ≡ vs = (let z : made_variant ty k us ≡ made_variant ty k vs = sym q ∙ o in cc) in
      h (subst (λ (x : Values). parts x r) e run)
  open_only (variant_shape k) ty t v vs parts S a r o (inr q) h = absurd (q.0 vs o)
  open_only struct_shape ty t v vs parts S a r o (inl (us, q, run)) h =
      let e : us ≡ vs = (let z : made_struct ty us ≡ made_struct ty vs = sym q ∙ o in cc) in
      h (subst (λ (x : Values). parts x r) e run)
  open_only struct_shape ty t v vs parts S a r o (inr q) h = absurd (q.0 vs o)
  open_only declared_shape ty t v vs parts S a r o (g, run, next) h = go g (extract_says p w means c agrees t v g run) next
    where
      go : (g : Outcome Values) → SaysOutcome (c.extract t v) g → After g parts r → OnlyFits S a r
      go (given us) s n = let q : gives us ≡ gives vs = said (c.extract t v) (gives us) vs o s in let e : us ≡ vs = cc in
          h (subst (λ (x : Values). parts x r) e n)
      go missing s n = let q : fails ≡ gives vs = said (c.extract t v) fails vs o s in absurd cc
      go (ended e) s n = subst (OnlyFits S a) (sym n) tt

  mutual
    -- a pattern that is tried
    pub pattern_only : (q : TypedPattern) (S : ℕ → Type 0) (env : ℕ → Value) (v : Value) (r : Outcome (ℕ → Value)) (a : ℕ → Value)
        → IsWellScoped p.terms q S → PatternRuns p w env q v r → Has S env a → Fits p.terms c a q v → OnlyFits (scope q S) a r
    pattern_only (typed_bind ty k q) S env v r a well run h f =
        next_only (scope q S) (λ j. (j ≡ k) ⊎ scope q S j) a (run.0) r _
        (pattern_only q S env v (run.0) a (well.0) (run.1) h (f.1)) (run.2)
        (λ b z o e. subst (OnlyFits (λ j. (j ≡ k) ⊎ scope q S j) a) (sym e) (bind_only (scope q S) a b k v (well.1) (f.0) o))
    pattern_only (typed_var ty k) S env v r a well run h f = test_only S a env _ r h (sym (h k well) ∙ f) run
    pattern_only (typed_bool ty b) S env v r a well run h f = test_only S a env _ r h f run
    pattern_only (typed_int ty n) S env v r a well run h f = test_only S a env _ r h f run
    pattern_only (typed_prim ty n) S env v r a well run h f = test_only S a env _ r h f run
    pattern_only (typed_term ty t qs) S env v r a well run h (vs, o, f) =
        open_only (p.terms.shape t) ty t v vs _ (scope_all qs S) a r o run
        (λ parted. patterns_only qs S env vs r a (well.1) parted h f)
    pattern_only (typed_wildcard ty) S env v r a well run h f = subst (OnlyFits S a) (sym run) h
    pattern_only (typed_and ty qs) S env v r a well run h f = each_only qs S env v r a well run h f

    -- patterns on the values at their places
    pub patterns_only : (qs : TypedPatterns) (S : ℕ → Type 0) (env : ℕ → Value) (vs : Values) (r : Outcome (ℕ → Value)) (a : ℕ → Value)
        → AreWellScoped p.terms qs S → PatternsRun p w env qs vs r → Has S env a → FitsAll p.terms c a qs vs → OnlyFits (scope_all qs S) a r
    patterns_only no_typed S env no_values r a well run h f = subst (OnlyFits S a) (sym run) h
    patterns_only no_typed S env (more_values v vs) r a well run h f = absurd f
    patterns_only (more_typed q qs) S env no_values r a well run h f = absurd f
    patterns_only (more_typed q qs) S env (more_values v vs) r a well run h f =
        next_only (scope q S) (scope_all qs (scope q S)) a (run.0) r _ (pattern_only q S env v (run.0) a (well.0) (run.1) h (f.0)) (run.2)
        (λ b z o rest. patterns_only qs (scope q S) b vs r a (well.1) rest o (f.1))

    -- patterns on one value
    pub each_only : (qs : TypedPatterns) (S : ℕ → Type 0) (env : ℕ → Value) (v : Value) (r : Outcome (ℕ → Value)) (a : ℕ → Value)
        → AreWellScoped p.terms qs S → EachRuns p w env qs v r → Has S env a → FitsEach p.terms c a qs v → OnlyFits (scope_all qs S) a r
    each_only no_typed S env v r a well run h f = subst (OnlyFits S a) (sym run) h
    each_only (more_typed q qs) S env v r a well run h f =
        next_only (scope q S) (scope_all qs (scope q S)) a (run.0) r _ (pattern_only q S env v (run.0) a (well.0) (run.1) h (f.0)) (run.2)
        (λ b z o rest. each_only qs (scope q S) b v r a (well.1) rest o (f.1))
