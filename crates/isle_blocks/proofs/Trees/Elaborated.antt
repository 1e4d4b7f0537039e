-- The rule sets of any terms are well made, and list the fields of tests.
use Rattle.std.proofs.Common.{◌≡◌, inl, inr, ℕ, true, false, List, [], ◌∷◌, map, Option, Some, None, slice_get, refl, ap, sym, subst}
use Rattle.std.proofs.Common.{◌∙◌, arith, Contains}
use Rattle.std.proofs.lemmas.Option.{same_Some, slice_get_cases}
use Rattle.isle_types.specs.declared.ids.Sym.{Sym}
use Rattle.isle_rules.specs.declared.rules.Rule as source
use Rattle.isle_rules.specs.TypedRules.{TypedRule}
use Rattle.isle_meaning.specs.Facts.{TermFacts}
use Rattle.isle_meaning.specs.Held.{Held}
use Rattle.isle_meaning.specs.Sites.{Site, iterator}
use Rattle.isle_meaning.specs.Demands.{Demand, constrained, equal}
use Rattle.isle_meaning.specs.Demands as meaning
use Rattle.isle_meaning.specs.Derived.{Derived}
use Rattle.isle_meaning.specs.AboutSites.Kinds.{HasItsKind}
use Rattle.isle_meaning.specs.Laws.Elaborated.{HasItsKinds}
use Rattle.isle_meaning.specs.Demands.{DemandOf}
use Rattle.isle_meaning.specs.Numbered.{Row, At}
use Rattle.isle_meaning.specs.Sorts.{Sort, plain_sort, list_sort, sort, Suits}
use Rattle.isle_meaning.proofs.Matching.Numbering.{one_site}
use Rattle.isle_meaning.proofs.Matching.Closing.{meets_one}
use Rattle.isle_meaning.proofs.Sites.DerivedKinds.{elaborated_are_kinded}
use Rattle.isle_blocks.specs.declared.ids.BindingId.{BindingId}
use Rattle.isle_blocks.specs.declared.binding.Binding.{Binding}
use Rattle.isle_blocks.specs.declared.binding.Binding.TheVariants as sites
use Rattle.isle_blocks.specs.declared.constraint.Constraint.{Constraint}
use Rattle.isle_blocks.specs.declared.rule.Rule.{Rule}
use Rattle.isle_blocks.specs.AddedRules.{IsMultiCall}
use Rattle.isle_blocks.specs.Constraints.{bindings_made}
use Rattle.isle_blocks.specs.DefinedSets.{IsMadeAt}
use Rattle.isle_blocks.specs.RuleSets.{RulesOverSites}
use Rattle.isle_blocks.specs.Rows.{rows_of, test_of}
use Rattle.isle_blocks.specs.Trees.View.{id_of, test_at, has_loop, rule_joins, made_by, is_impure, is_bound, opening}
use Rattle.isle_blocks.specs.Trees.View.{opens_field, place_of, tests_by, made_at, field_of, rules_of}
use Rattle.isle_blocks.specs.Trees.SiteTrees.{tree_from, tree_of}
use Rattle.isle_blocks.specs.Trees.ElaboratedSets.{IsElaboratedSet}
use Rattle.isle_blocks.proofs.Closure.Trees.{row_get, one_number, at_below}
use Rattle.isle_blocks.proofs.ClosedRules.{same_id}
use Rattle.isle_blocks.proofs.Rows.RowsInjective.{test-injective}
use Rattle.isle_blocks.proofs.Trees.Buildable.{made_source, rule_made, other_joined, test_of_rule, is_buildable}
use Rattle.isle_blocks.proofs.Trees.Exact.{are_exact, passed_meets}
use Rattle.isle_blocks.proofs.Trees.Listed.{same_opening, made_in}
use Rattle.isle_blocks.proofs.Trees.Reading.{read_some, read_true, test_want, found_test, test_found, found_loop, place_sound, place_found}
use Rattle.isle_blocks.proofs.Trees.Reading.{opening_found, opening_there, keep_some, keep_full, elem_map, map_elem}
use Rattle.isle_blocks.proofs.Trees.Standing.{part_at, tree_is}
use Rattle.isle_blocks.proofs.Trees.WellMade.{made_pure, made_stands, impure_stands, no_want}
use Rattle.isle_trees.specs.Premises.{IsWellMade}
use Rattle.isle_trees.specs.Reads.{IsListed}
use Rattle.isle_trees.specs.Rules.{has, one_value, Source, Rules, Elem}
use Rattle.isle_trees.specs.Scopes.{is_source}
use Rattle.isle_trees.proofs.Basics.{true_or, none_or, by_made, source_made}

-- What a test suits is no list.
pub no_list : (facts : TermFacts) (tys : List ℕ) (t : Site) (c : meaning.Constraint) (k : Sort) → Suits facts tys (constrained t c)
    → sort facts tys t ≡ list_sort k → ⊥
no_list facts tys t (meaning.variant_constraint ty v n) k s e = let z = sym s ∙ e in cc
no_list facts tys t (meaning.struct_constraint ty n) k s e = let z = sym s ∙ e in cc
no_list facts tys t (meaning.bool_constraint b ty) k s e = let z = sym s ∙ e in cc
no_list facts tys t (meaning.int_constraint n ty) k s e = let z = sym s ∙ e in cc
no_list facts tys t (meaning.prim_constraint n) k (ty, s) e = let z = sym s ∙ e in cc
no_list facts tys t meaning.some_constraint k (j, s) e = let z = sym s ∙ e in cc

-- An entry that holds a list is bound.
pub list_bound : (name : Sym → List ℕ) (facts : TermFacts) (tys : List ℕ) (tree : ℕ → Site) (b : Binding) (k : Sort)
    → HasItsKind true facts tys (tree_from name tree (Some b)) → sort facts tys (tree_from name tree (Some b)) ≡ list_sort k → is_bound b ≡ true
list_bound name facts tys tree (sites.ConstInt v t) k w e = absurd cc
list_bound name facts tys tree (sites.ConstPrim v) k w e = absurd cc
list_bound name facts tys tree (sites.Argument i) k w e = absurd cc
list_bound name facts tys tree (sites.MakeVariant t v cs) k w e = absurd cc
list_bound name facts tys tree (sites.MakeStruct t cs) k w e = absurd cc
list_bound name facts tys tree (sites.MatchTuple a i) k (w, (ts, p, l)) e = absurd (let z = e in cc)
list_bound name facts tys tree (sites.ConstBool v t) k w e = refl
list_bound name facts tys tree (sites.Extractor t a) k w e = refl
list_bound name facts tys tree (sites.Constructor t cs n) k w e = refl
list_bound name facts tys tree (sites.Iterator a) k w e = refl
list_bound name facts tys tree (sites.MatchVariant a v i) k w e = refl
list_bound name facts tys tree (sites.ExtractStruct a i) k w e = refl
list_bound name facts tys tree (sites.MakeSome a) k w e = refl
list_bound name facts tys tree (sites.MatchSome a) k w e = refl

-- what takes one value is the site of one
one_taken : (rules : List Rule) (b : Binding) (s : ℕ) → made_by rules b ≡ Some (record { site = s; want = one_value })
    → b ≡ sites.Iterator (id_of s)
one_taken rules (sites.Iterator a) s e =
    let p : a.0 ≡ s = ap (λ (m : Source Constraint). m.site) (same_Some _ _ e) in ap sites.Iterator (same_id a (id_of s) p)
one_taken rules (sites.MatchVariant a v i) s e =
    absurd (let w : has (opening rules (Some v.0) a.0 i.0) ≡ one_value = ap (λ (m : Source Constraint). m.want) (same_Some _ _ e) in cc)
one_taken rules (sites.ExtractStruct a i) s e =
    absurd (let w : has (opening rules None a.0 i.0) ≡ one_value = ap (λ (m : Source Constraint). m.want) (same_Some _ _ e) in cc)
one_taken rules (sites.MatchSome a) s e = absurd (let w = ap (λ (m : Source Constraint). m.want) (same_Some _ _ e) in cc)
one_taken rules b s e = absurd cc

module _ (name : Sym → List ℕ) (facts : TermFacts) (sources : List source.Rule) (rules : List TypedRule) (term : ℕ) (set : RulesOverSites)
    (h : IsElaboratedSet name facts sources rules term set) where
  -- the entries of the set's sites
  abbrev rows : List Row
  rows = rows_of name set.sites

  -- the set as trees see it
  abbrev R : Rules Constraint Held
  R = rules_of name set

  -- what a rule is made of
  abbrev Made : ℕ → Rule → Type 0
  Made p r = IsMadeAt name facts sources rules term set.sites p r

  -- Each rule, with what it is made of.
  pub made_rule : (i : ℕ) (r : Rule) → slice_get set.rules i ≡ Some r → (p : ℕ) × Made p r
  made_rule i r e = rule_made name facts sources rules term set h.injective h.is i r e

  -- Its sites are of their kinds.
  pub kinds_of : (p : ℕ) (r : Rule) (m : Made p r) → HasItsKinds facts h.types m.reached.rule
  kinds_of p r m = elaborated_are_kinded facts h.types m.reached.rule (h.fit p m.reached.rule m.reached.at m.reached.of_term)

  -- A test is a derived constraint.
  pub derived_test : (p : ℕ) (r : Rule) (m : Made p r) (s : ℕ) (c : Constraint)
      → test_at s r ≡ Some c → (t : Site) × At rows t s × Derived (DemandOf facts m.reached.rule) (constrained t (test_of name c))
  derived_test p r m s c e = let closed = m.closed in closed.tests.derived (id_of s) c (found_test r s c e)

  -- A derived constraint is a test.
  pub its_test : (p : ℕ) (r : Rule) (m : Made p r) (t : Site) (a : ℕ) (c : meaning.Constraint) → At rows t a
      → Derived (DemandOf facts m.reached.rule) (constrained t c) → (test : Constraint) × (test_at a r ≡ Some test) × (test_of name test ≡ c)
  its_test p r m t a c at_a e =
      let closed = m.closed in
      let (id, test, inside, at_id, is) = closed.tests.all t c e in
      let same : id.0 ≡ a = one_number name set.sites h.injective h.is.table t id.0 a at_id at_a in (
        test,
        test_found r a test closed.ascending (subst (λ (x : BindingId). Contains r.constraints (x, test)) (same_id id (id_of a) same) inside),
        is,
      )

  -- A rule's test is wanted.
  pub test_wanted : (i s : ℕ) (r : Rule) (c : Constraint) → slice_get set.rules i ≡ Some r → test_at s r ≡ Some c → R.at i s ≡ Some (has c)
  test_wanted i s r c at e = rw at (test_want (has_loop s r) (test_at s r) c e)

  -- a test suits its site
  test_suits : (p : ℕ) (r : Rule) (m : Made p r) (s : ℕ) (t : Site) (c : Constraint) → At rows t s → test_at s r ≡ Some c
      → Suits facts h.types (constrained t (test_of name c)) × HasItsKinds facts h.types m.reached.rule
      × Derived (DemandOf facts m.reached.rule) (constrained t (test_of name c))
  test_suits p r m s t c at e =
      let (v, av, dv) = derived_test p r m s c e in
      let kinds = kinds_of p r m in
      let same : v ≡ t = one_site rows v t s av at in
      let d = subst (λ (z : Site). Derived (DemandOf facts m.reached.rule) (constrained z (test_of name c))) same dv in
      (kinds.suit (constrained t (test_of name c)) d, kinds, d)

  -- tests of one site that pass for one value are one
  one_test : (i j s : ℕ) (c d : Constraint) (x : Held) → R.at i s ≡ Some (has c) → R.at j s ≡ Some (has d)
      → R.tests.passes c x ≡ true → R.tests.passes d x ≡ true → c ≡ d
  one_test i j s c d x e f p q =
      let (r, at, t) = test_of_rule name facts sources rules term set h.injective h.is i s c e in
      let (k, ak, u) = test_of_rule name facts sources rules term set h.injective h.is j s d f in
      let (a, m) = made_rule i r at in let (b, n) = made_rule j k ak in
      let (v, av, dv) = derived_test a r m s c t in
      test-injective name h.injective c d
      (meets_one facts h.types v (test_of name c) (test_of name d) x ((test_suits a r m s v c av t).0) ((test_suits b k n s v d av u).0)
      (passed_meets name c x p) (passed_meets name d x q))

  -- a field's only part is its source
  made_parts : (s : ℕ) (m : Source Constraint) → R.made s ≡ Some m → R.parts s ≡ m.site ∷ []
  made_parts s m e =
      let (b, at, is) = read_some (made_by set.rules) (slice_get set.sites s) m e in rw at (made_source set.rules b m is)

  -- A multi call that a rule uses holds a list.
  pub loop_site : (p : ℕ) (r : Rule) (m : Made p r) (s : ℕ) → has_loop s r ≡ true → (t : Site) × At rows t s
      × IsMultiCall facts (facts.partial m.reached.rule.root) m.reached.rule t × ((k : Sort) × (sort facts h.types t ≡ list_sort k))
  loop_site p r m s e =
      let calls = m.calls in
      let (t, multi, at) = calls.numbered (id_of s) (found_loop r s e) in
      let kinds = kinds_of p r m in
      let one : HasItsKind true facts h.types (iterator t) = elim multi [
        | inl n ↦ kinds.needed (iterator t) n
        | inr q ↦ subst (HasItsKind true facts h.types) (sym q) (kinds.result (facts.partial m.reached.rule.root))
      ] in
      (t, at, multi, one.1)

  -- It has no test.
  pub loop_untested : (p : ℕ) (r : Rule) (m : Made p r) (s : ℕ) → has_loop s r ≡ true → test_at s r ≡ None
  loop_untested p r m s e = elim (none_or (test_at s r)) [
    | inl none ↦ none
    | inr there ↦
        let (t, at, multi, (k, list)) = loop_site p r m s e in
        absurd (no_list facts h.types t (test_of name (there.0)) k ((test_suits p r m s t (there.0) at (there.1)).0) list)
  ]

  -- One value of it is wanted.
  pub loop_wanted : (i : ℕ) (r : Rule) (at : slice_get set.rules i ≡ Some r) (p : ℕ) (m : Made p r) (s : ℕ) → has_loop s r ≡ true
      → R.at i s ≡ Some one_value
  loop_wanted i r at p m s e = rw (at, loop_untested p r m s e, e) refl

  -- A joined site has another.
  pub joined_other : (p : ℕ) (r : Rule) (m : Made p r) (a b : ℕ) → rule_joins a b r ≡ true
      → (s : Site) × (u : Site) × At rows s a × Derived (DemandOf facts m.reached.rule) (equal s u)
      × ((c : meaning.Constraint) → Derived (DemandOf facts m.reached.rule) (constrained s c) → ⊥)
  joined_other p r m a b j =
      let (y, apart, joined) = other_joined name facts sources rules term set h.injective h.is p r m a b j in
      let closed = m.closed in
      let (s, u, here, there, left) = closed.equalities.left (id_of a) y apart joined in
      (s, u, here, left.0, left.2)

  -- nothing is wanted of it
  joined_free : (i a b : ℕ) → R.joins i a b ≡ true → R.at i a ≡ None
  joined_free i a b e =
      let (r, at, j) = read_true (rule_joins a b) (slice_get set.rules i) e in
      let (p, m) = made_rule i r at in
      let (s, u, here, same, free) = joined_other p r m a b j in
      let none : test_at a r ≡ None = elim (none_or (test_at a r)) [
        | inl q ↦ q
        | inr q ↦ absurd (free (test_of name (q.0)) ((test_suits p r m a s (q.0) here (q.1)).2))
      ] in
      let once : has_loop a r ≡ false = elim (true_or (has_loop a r)) [
        | inl l ↦
            let (t, at_t, multi, (k, list)) = loop_site p r m a l in
            let kinds = kinds_of p r m in
            let (ty, plain, other) = kinds.suit (equal s u) same in
            let z : plain_sort ty ≡ list_sort k =
            sym plain ∙ ap (sort facts h.types) (one_site rows s t a here at_t) ∙ list in absurd cc
        | inr l ↦ l
      ] in
      rw at (no_want (has_loop a r) (test_at a r) once none)

  -- The set is well made.
  pub well_made : IsWellMade (rules_of name set)
  well_made =
      let built = is_buildable name facts sources rules term set h.injective h.is in
      record {
        exact = are_exact name;
        one_test = one_test;
        lower = built.lower;
        source = made_parts;
        apart = joined_free;
        both = built.both;
        listed = built.listed;
        grouped = built.grouped;
        value_made = λ s x e. rw (place_sound (sites.Iterator (id_of s)) set.sites x e) refl;
        field_pure = λ s m e. let (b, at, is) = read_some (made_by set.rules) (slice_get set.sites s) m e in rw at (made_pure set.rules b m is);
        field_stands = λ s m e. let (b, at, is) = read_some (made_by set.rules) (slice_get set.sites s) m e in rw at (made_stands set.rules b m is);
        call_stands = λ s e. let (b, at, is) = read_true is_impure (slice_get set.sites s) e in rw at (impure_stands b is);
      }

  -- Each site of the table is of its kind.
  pub site_kinded : (t : Site) (k : ℕ) → At rows t k → HasItsKind true facts h.types t
  site_kinded t k at =
      let is = h.is in
      let from = is.explained t (k, at) in
      let rule = from.reached.rule in
      let kinds = elaborated_are_kinded facts h.types rule (h.fit from.place rule from.reached.at from.reached.of_term) in
      elim from.from [
        | inl n ↦ kinds.needed t n
        | inr other ↦ elim other [
          | inl q ↦ subst (HasItsKind true facts h.types) (sym q) (kinds.result (facts.partial rule.root))
          | inr q ↦ kinds.fields (q.0) t (q.1)
        ]
      ]

  -- The source of a value is a site that holds a list.
  pub iterator_list : (x : ℕ) (a : BindingId) → slice_get set.sites x ≡ Some (sites.Iterator a)
      → At rows (tree_of name set.sites a.0) a.0 × HasItsKind true facts h.types (tree_of name set.sites a.0)
      × ((k : Sort) × (sort facts h.types (tree_of name set.sites a.0) ≡ list_sort k))
  iterator_list x a e =
      let is = h.is in
      let at = part_at name set.sites is.table x (sites.Iterator a) a e (0, omega arith, refl) in
      let kind = site_kinded (iterator (tree_of name set.sites a.0)) x (a.0, row_get name set.sites x _ e, at) in
      (at, kind.0, kind.1)

  -- tests of one site that open one field are one
  one_opening : (i j : ℕ) (r k : Rule) (s : ℕ) (kind : Option ℕ) (f : ℕ) (c d : Constraint) → slice_get set.rules i ≡ Some r
      → slice_get set.rules j ≡ Some k → test_at s r ≡ Some c → test_at s k ≡ Some d → opens_field kind f c ≡ true → opens_field kind f d ≡ true
      → c ≡ d
  one_opening i j r k s kind f c d ar ak tc td oc od =
      let (a, m) = made_rule i r ar in let (b, n) = made_rule j k ak in
      let (v, av, dv) = derived_test a r m s c tc in
      let (sc, kc, gc) = test_suits a r m s v c av tc in let (sd, kd, gd) = test_suits b k n s v d av td in
      test-injective name h.injective c d
      (same_opening name facts h.types v kind f c d oc od sc sd ((kc.demands (constrained v (test_of name c)) gc).1)
      ((kd.demands (constrained v (test_of name d)) gd).1))

  -- What makes a field is the test that a rule has.
  pub opening_is : (i : ℕ) (r : Rule) (s : ℕ) (kind : Option ℕ) (f : ℕ) (c : Constraint) → slice_get set.rules i ≡ Some r → test_at s r ≡ Some c
      → opens_field kind f c ≡ true → opening set.rules kind s f ≡ c
  opening_is i r s kind f c at t o =
      let (d, e) = opening_there kind f s set.rules i r c at t o in
      let (j, k, ak, td, od) = opening_found kind f s set.rules d e in
      rw e (one_opening j i k r s kind f d c ak at td t od o)

  -- a multi call stands in the orders
  multi_stands : (s x : ℕ) → slice_get set.sites x ≡ Some (sites.Iterator (id_of s)) → R.stands s ≡ true
  multi_stands s x e =
      let (at, kind, (k, list)) = iterator_list x (id_of s) e in
      let is = h.is in
      let low = at_below name set.sites (tree_of name set.sites s) s at in
      elim (slice_get_cases set.sites s).1 [
        | inl (b, q, at_b, g) ↦
            let same = tree_is name set.sites is.table s b at_b in
            rw at_b (list_bound name facts h.types (tree_of name set.sites) b k (subst (HasItsKind true facts h.types) same kind)
            (subst (λ (z : Site). sort facts h.types z ≡ list_sort k) same list))
        | inr (q, none) ↦ absurd (omega arith)
      ]

  -- The fields of each test are listed.
  pub are_listed : IsListed (rules_of name set)
  are_listed =
      let table = h.is.table in
      record {
        fields_listed = λ x s c e.
            let (b, at, is) = read_some (made_by set.rules) (slice_get set.sites x) (record { site = s; want = has c }) e in
            let there = made_in set.rules b s c is in
            subst (λ (o : Option ℕ). Elem o (map (field_of name set s c) (bindings_made c (id_of s))))
            (keep_full (λ (y : ℕ). is_source (tests_by name) s (has c) (made_at set y)) (place_of b set.sites) x
            (place_found b set.sites x table.once at) (by_made R s (has c) (made_at set x) well_made e))
            (elem_map (field_of name set s c) (bindings_made c (id_of s)) b there);
        fields_made = λ s x c m.
            let (b, there, e) = map_elem (field_of name set s c) (bindings_made c (id_of s)) (Some x) m in
            let k = keep_some (λ (y : ℕ). is_source (tests_by name) s (has c) (made_at set y)) (place_of b set.sites) x e in
            source_made R s (has c) (made_at set x) well_made (k.1);
        value_listed = λ x s e.
            let (b, at, is) = read_some (made_by set.rules) (slice_get set.sites x) (record { site = s; want = one_value }) e in
            place_found (sites.Iterator (id_of s)) set.sites x table.once (at ∙ ap Some (one_taken set.rules b s is));
        multi_stands = λ s m. multi_stands s (m.0) (place_sound (sites.Iterator (id_of s)) set.sites (m.0) (m.1));
      }
