-- The rule sets of terms that ask no `multi` term are well made.
use Rattle.std.proofs.Common.{◌≡◌, inl, inr, ℕ, Bool, true, false, List, [], ◌∷◌, Option, Some, None, slice_get, refl, sym, subst}
use Rattle.isle_types.specs.declared.ids.Sym.{Sym}
use Rattle.isle_rules.specs.declared.rules.Rule as source
use Rattle.isle_rules.specs.TypedRules.{TypedRule}
use Rattle.isle_meaning.specs.Facts.{TermFacts}
use Rattle.isle_meaning.specs.Held.{Held}
use Rattle.isle_meaning.specs.Sites.{Site, iterator}
use Rattle.isle_meaning.specs.Demands.{Demand, constrained, equal}
use Rattle.isle_meaning.specs.Demands as meaning
use Rattle.isle_meaning.specs.Derived.{Derived}
use Rattle.isle_meaning.specs.AboutSites.Kinds.{IsKinded}
use Rattle.isle_meaning.specs.Laws.Matching.{IsRuleOfTypes}
use Rattle.isle_meaning.specs.Demands.{DemandOf}
use Rattle.isle_meaning.specs.Laws.Sites.{IsKindedRule}
use Rattle.isle_meaning.specs.Numbered.{Row, At}
use Rattle.isle_meaning.specs.Sorts.{Suits}
use Rattle.isle_meaning.proofs.Matching.Numbering.{one_site}
use Rattle.isle_meaning.proofs.Matching.Sorting.{demands_suit}
use Rattle.isle_meaning.proofs.Matching.Closing.{derived_suits, meets_one}
use Rattle.isle_meaning.proofs.Sites.DerivedKinds.{rules_are_kinded}
use Rattle.isle_blocks.specs.declared.binding.Binding.{Binding}
use Rattle.isle_blocks.specs.declared.binding.Binding.TheVariants as sites
use Rattle.isle_blocks.specs.declared.constraint.Constraint.{Constraint}
use Rattle.isle_blocks.specs.declared.rule.Rule.{Rule}
use Rattle.isle_blocks.specs.DefinedSets.{IsMadeAt}
use Rattle.isle_blocks.specs.RuleSets.{RulesOverSites}
use Rattle.isle_blocks.specs.Rows.{rows_of, test_of}
use Rattle.isle_blocks.specs.Trees.View.{id_of, test_at, has_loop, want_or, rule_joins, made_by, is_impure, is_bound}
use Rattle.isle_blocks.specs.Trees.View.{rules_of}
use Rattle.isle_blocks.specs.Trees.Premises.{IsRunnableSet}
use Rattle.isle_blocks.proofs.Rows.RowsInjective.{test-injective}
use Rattle.isle_blocks.proofs.Trees.Buildable.{made_source, rule_made, other_joined, test_of_rule, is_buildable}
use Rattle.isle_blocks.proofs.Trees.Exact.{are_exact, passed_meets}
use Rattle.isle_blocks.proofs.Trees.Reading.{read_some, read_true, test_want, found_test, found_loop, place_sound}
use Rattle.isle_trees.specs.Premises.{IsWellMade}
use Rattle.isle_trees.specs.Rules.{has, Source, Rules}
use Rattle.isle_trees.proofs.Basics.{true_or, none_or}

-- ---- by the kinds of sites

-- What a test makes is no call.
pub made_pure : (rules : List Rule) (b : Binding) (m : Source Constraint) → made_by rules b ≡ Some m → is_impure b ≡ false
made_pure rules (sites.Constructor t ps n) m e = absurd cc
made_pure rules b m e = refl

-- It is bound.
pub made_stands : (rules : List Rule) (b : Binding) (m : Source Constraint) → made_by rules b ≡ Some m → is_bound b ≡ true
made_stands rules (sites.Iterator a) m e = refl
made_stands rules (sites.MatchVariant a v i) m e = refl
made_stands rules (sites.ExtractStruct a i) m e = refl
made_stands rules (sites.MatchSome a) m e = refl
made_stands rules b m e = absurd cc

-- So is an impure call.
pub impure_stands : (b : Binding) → is_impure b ≡ true → is_bound b ≡ true
impure_stands (sites.Constructor t ps n) e = refl
impure_stands b e = absurd cc

-- Nothing is wanted where neither a test nor one value is.
pub no_want : (b : Bool) (o : Option Constraint) → b ≡ false → o ≡ None → want_or b o ≡ None
no_want b o e f = rw (e, f) refl

module _ (name : Sym → List ℕ) (facts : TermFacts) (sources : List source.Rule) (rules : List TypedRule) (term : ℕ) (set : RulesOverSites)
    (h : IsRunnableSet name facts sources rules term set) where
  -- the entries of the set's sites
  abbrev rows : List Row
  rows = rows_of name set.sites

  -- the set as trees see it
  abbrev R : Rules Constraint Held
  R = rules_of name set

  -- what a rule is made of
  abbrev Made : ℕ → Rule → Type 0
  Made p r = IsMadeAt name facts sources rules term set.sites p r

  -- Each rule, with what it is made of.
  pub made_rule : (i : ℕ) (r : Rule) → slice_get set.rules i ≡ Some r → (p : ℕ) × Made p r
  made_rule i r e = rule_made name facts sources rules term set h.injective h.is i r e

  -- A rule's typed rule is as the laws ask.
  pub fit_of : (p : ℕ) (r : Rule) (m : Made p r) → IsRuleOfTypes facts h.runnable.types m.reached.rule
  fit_of p r m = let run = h.runnable in run.fit p m.reached.rule m.reached.at m.reached.of_term

  -- Its sites are of their kinds.
  pub kinds_of : (p : ℕ) (r : Rule) (m : Made p r) → IsKindedRule facts h.runnable.types m.reached.rule
  kinds_of p r m = rules_are_kinded facts h.runnable.types m.reached.rule (fit_of p r m)

  -- A test is a derived constraint.
  pub derived_test : (p : ℕ) (r : Rule) (m : Made p r) (s : ℕ) (c : Constraint)
      → test_at s r ≡ Some c → (t : Site) × At rows t s × Derived (DemandOf facts m.reached.rule) (constrained t (test_of name c))
  derived_test p r m s c e = let closed = m.closed in closed.tests.derived (id_of s) c (found_test r s c e)

  -- What is derived is of its sites' types.
  pub suits_of : (p : ℕ) (r : Rule) (m : Made p r) (d : Demand) → Derived (DemandOf facts m.reached.rule) d → Suits facts h.runnable.types d
  suits_of p r m d e =
      let run = h.runnable in
      derived_suits facts run.types (DemandOf facts m.reached.rule) (demands_suit facts run.types m.reached.rule (fit_of p r m)) d e

  -- A test that is wanted is a rule's.
  pub wanted_test : (i s : ℕ) (c : Constraint) → R.at i s ≡ Some (has c) → (r : Rule) × (slice_get set.rules i ≡ Some r) × (test_at s r ≡ Some c)
  wanted_test i s c e = test_of_rule name facts sources rules term set h.injective h.is i s c e

  -- A rule's test is wanted.
  pub test_wanted : (i s : ℕ) (r : Rule) (c : Constraint) → slice_get set.rules i ≡ Some r → test_at s r ≡ Some c → R.at i s ≡ Some (has c)
  test_wanted i s r c at e = rw at (test_want (has_loop s r) (test_at s r) c e)

  -- tests of one site that pass for one value are one
  one_test : (i j s : ℕ) (c d : Constraint) (x : Held) → R.at i s ≡ Some (has c) → R.at j s ≡ Some (has d)
      → R.tests.passes c x ≡ true → R.tests.passes d x ≡ true → c ≡ d
  one_test i j s c d x e f p q =
      let (r, at, t) = wanted_test i s c e in let (k, ak, u) = wanted_test j s d f in
      let (a, m) = made_rule i r at in let (b, n) = made_rule j k ak in
      let (v, av, dv) = derived_test a r m s c t in let (w, aw, dw) = derived_test b k n s d u in
      let same : w ≡ v = one_site rows w v s aw av in
      let first = suits_of a r m (constrained v (test_of name c)) dv in
      let second = subst (λ (z : Site). Suits facts h.runnable.types (constrained z (test_of name d))) same
      (suits_of b k n (constrained w (test_of name d)) dw) in
      test-injective name h.injective c d
      (meets_one facts h.runnable.types v (test_of name c) (test_of name d) x first second (passed_meets name c x p) (passed_meets name d x q))

  -- a field's only part is its source
  made_parts : (s : ℕ) (m : Source Constraint) → R.made s ≡ Some m → R.parts s ≡ m.site ∷ []
  made_parts s m e =
      let (b, at, is) = read_some (made_by set.rules) (slice_get set.sites s) m e in rw at (made_source set.rules b m is)

  -- No rule uses a multi call.
  pub no_loops : (p : ℕ) (r : Rule) (m : Made p r) (s : ℕ) → has_loop s r ≡ false
  no_loops p r m s = elim (true_or (has_loop s r)) [
    | inl e ↦
        let calls = m.calls in
        let (t, multi, here) = calls.numbered (id_of s) (found_loop r s e) in
        let kinds = kinds_of p r m in
        absurd (elim multi [
          | inl n ↦ kinds.needed (iterator t) n
          | inr q ↦ subst (IsKinded facts h.runnable.types) (sym q) (kinds.result (facts.partial m.reached.rule.root))
        ])
    | inr e ↦ e
  ]

  -- A joined site has another.
  pub joined_other : (p : ℕ) (r : Rule) (m : Made p r) (a b : ℕ) → rule_joins a b r ≡ true
      → (s : Site) × (u : Site) × At rows s a × Derived (DemandOf facts m.reached.rule) (equal s u)
      × ((c : meaning.Constraint) → Derived (DemandOf facts m.reached.rule) (constrained s c) → ⊥)
  joined_other p r m a b j =
      let (y, apart, joined) = other_joined name facts sources rules term set h.injective h.is p r m a b j in
      let closed = m.closed in
      let (s, u, here, there, left) = closed.equalities.left (id_of a) y apart joined in
      (s, u, here, left.0, left.2)

  -- a joined site has no test
  untested : (p : ℕ) (r : Rule) (m : Made p r) (a b : ℕ) → rule_joins a b r ≡ true → (c : Constraint) → test_at a r ≡ Some c → ⊥
  untested p r m a b j c t =
      let (s, u, here, same, none) = joined_other p r m a b j in
      let (v, av, dv) = derived_test p r m a c t in
      none (test_of name c) (subst (λ (z : Site). Derived (DemandOf facts m.reached.rule) (constrained z (test_of name c)))
      (one_site rows v s a av here) dv)

  -- nothing is wanted of it
  joined_free : (i a b : ℕ) → R.joins i a b ≡ true → R.at i a ≡ None
  joined_free i a b e =
      let (r, at, j) = read_true (rule_joins a b) (slice_get set.rules i) e in
      let (p, m) = made_rule i r at in
      let none : test_at a r ≡ None = elim (none_or (test_at a r)) [ inl q ↦ q | inr q ↦ absurd (untested p r m a b j (q.0) (q.1)) ] in
      rw at (no_want (has_loop a r) (test_at a r) (no_loops p r m a) none)

  -- The set is well made.
  pub well_made : IsWellMade (rules_of name set)
  well_made =
      let built = is_buildable name facts sources rules term set h.injective h.is in
      record {
        exact = are_exact name;
        one_test = one_test;
        lower = built.lower;
        source = made_parts;
        apart = joined_free;
        both = built.both;
        listed = built.listed;
        grouped = built.grouped;
        value_made = λ s x e. rw (place_sound (sites.Iterator (id_of s)) set.sites x e) refl;
        field_pure = λ s m e. let (b, at, is) = read_some (made_by set.rules) (slice_get set.sites s) m e in rw at (made_pure set.rules b m is);
        field_stands = λ s m e. let (b, at, is) = read_some (made_by set.rules) (slice_get set.sites s) m e in rw at (made_stands set.rules b m is);
        call_stands = λ s e. let (b, at, is) = read_true is_impure (slice_get set.sites s) e in rw at (impure_stands b is);
      }
