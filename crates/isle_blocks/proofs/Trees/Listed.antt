-- What the rule sets of runnable terms list, and the tests of what they ask.
use Rattle.std.proofs.Common.{◌≡◌, inl, inr, ℕ, zero, suc, ◌<◌, true, false, List, [], ◌∷◌, map, Option, Some, None, slice_get, refl}
use Rattle.std.proofs.Common.{ap, sym, subst}
use Rattle.std.proofs.Common.{◌∙◌, ◌==◌, arith, eqb-true, eq-eqb}
use Rattle.std.specs.Prelude.{nat_lt}
use Rattle.std.proofs.lemmas.Bool.Decides.{nat_tests}
use Rattle.std.proofs.lemmas.Option.{same_Some}
use Rattle.isle_types.specs.declared.ids.Sym.{Sym}
use Rattle.isle_rules.specs.declared.rules.Rule as source
use Rattle.isle_rules.specs.TypedRules.{TypedRule}
use Rattle.isle_meaning.specs.Facts.{TermFacts}
use Rattle.isle_meaning.specs.Held.{Held}
use Rattle.isle_meaning.specs.Sites.{Site, iterator}
use Rattle.isle_meaning.specs.Demands.{Demand, constrained, variant_constraint, struct_constraint, some_constraint}
use Rattle.isle_meaning.specs.Derived.{Derived}
use Rattle.isle_meaning.specs.Demands.{DemandOf}
use Rattle.isle_meaning.specs.Numbered.{Row, At}
use Rattle.isle_meaning.specs.Sorts.{Suits, plain_sort}
use Rattle.isle_meaning.proofs.Matching.Numbering.{one_site}
use Rattle.isle_blocks.specs.declared.ids.BindingId.{BindingId}
use Rattle.isle_blocks.specs.declared.binding.Binding.{Binding}
use Rattle.isle_blocks.specs.declared.binding.Binding.TheVariants as sites
use Rattle.isle_blocks.specs.declared.constraint.Constraint.{Constraint}
use Rattle.isle_blocks.specs.declared.constraint.Constraint.TheVariants as tests
use Rattle.isle_blocks.specs.declared.rule.Rule.{Rule}
use Rattle.isle_blocks.specs.Constraints.{bindings_made, fields_below, variant_field, struct_field}
use Rattle.isle_blocks.specs.Rows.{rows_of, test_of}
use Rattle.isle_blocks.specs.DefinedSets.{IsMadeAt}
use Rattle.isle_blocks.specs.RuleSets.{RulesOverSites}
use Rattle.isle_blocks.proofs.Closure.Trees.{row_get}
use Rattle.isle_blocks.proofs.Rows.RowsInjective.{test-injective}
use Rattle.isle_trees.specs.Rules.{has, one_value, Source, Rules, Elem}
use Rattle.isle_trees.specs.Premises.{UsesNoMulti}
use Rattle.isle_trees.specs.Reads.{IsListed}
use Rattle.isle_trees.specs.Scopes.{is_source}
use Rattle.isle_trees.proofs.Basics.{none_or, and_both, both_and, eq_or, by_made, source_made}
use Rattle.isle_blocks.specs.Inside.ClosureFields.{field_binding}
use Rattle.isle_blocks.specs.Trees.View.{id_of, test_at, has_loop, want_at, made_by, opening, any_opening, first_opening, opens_field}
use Rattle.isle_blocks.specs.Trees.View.{place_of, tests_by, made_at, field_of, rules_of}
use Rattle.isle_blocks.specs.Trees.SiteTrees.{tree_of}
use Rattle.isle_blocks.specs.Trees.Premises.{IsRunnableSet}
use Rattle.isle_meaning.specs.AboutSites.Kinds.{IsKinded, HasItsFields, IsKindedDemand}
use Rattle.isle_blocks.proofs.Trees.Reading.{read_some, want_one, place_sound, place_found, opening_found, opening_there, keep_some}
use Rattle.isle_blocks.proofs.Trees.Reading.{keep_full, elem_map, map_elem, elem_left, elem_right}
use Rattle.isle_blocks.proofs.Trees.Standing.{part_at}
use Rattle.isle_meaning.proofs.Sites.DerivedKinds.{rules_are_kinded}
use Rattle.isle_blocks.proofs.Trees.WellMade.{made_rule, kinds_of, derived_test, suits_of, no_loops, well_made}

module _ (name : Sym → List ℕ) (facts : TermFacts) (tys : List ℕ) (t : Site) where
  -- Tests of one site that open one field are one.
  pub same_opening : (kind : Option ℕ) (i : ℕ) (c d : Constraint) → opens_field kind i c ≡ true → opens_field kind i d ≡ true
      → Suits facts tys (constrained t (test_of name c)) → Suits facts tys (constrained t (test_of name d))
      → HasItsFields facts (test_of name c) → HasItsFields facts (test_of name d) → test_of name c ≡ test_of name d
  same_opening (Some k) i (tests.Variant ty v n) (tests.Variant uy w m) e f p q a b =
      let g : v.0 ≡ k = eqb-true v.0 k ((and_both (v.0 == k) (nat_lt i n.0) e).0) in
      let h : w.0 ≡ k = eqb-true w.0 k ((and_both (w.0 == k) (nat_lt i m.0) f).0) in
      let one : plain_sort ty.0 ≡ plain_sort uy.0 = sym p ∙ q in
      let same : ty.0 ≡ uy.0 = cc in let kind : v.0 ≡ w.0 = g ∙ sym h in
      let many : n.0 ≡ m.0 = cc in cc
  same_opening None i (tests.Struct ty n) (tests.Struct uy m) e f p q a b =
      let one : plain_sort ty.0 ≡ plain_sort uy.0 = sym p ∙ q in
      let same : ty.0 ≡ uy.0 = cc in
      let many : n.0 ≡ m.0 = cc in cc
  same_opening kind i c d e f p q a b = absurd cc

-- A test of a variant opens its fields.
pub variant_opens : (name : Sym → List ℕ) (c : Constraint) (ty k n i : ℕ) → test_of name c ≡ variant_constraint ty k n → i < n
    → opens_field (Some k) i c ≡ true
variant_opens name (tests.Variant uy v m) ty k n i e l =
    let p : v.0 ≡ k = cc in let q : m.0 ≡ n = cc in
    both_and (v.0 == k) (nat_lt i m.0) (eq-eqb v.0 k p) (grind (arith, nat_tests))
variant_opens name (tests.Struct uy m) ty k n i e l = absurd cc
variant_opens name (tests.ConstBool v uy) ty k n i e l = absurd cc
variant_opens name (tests.ConstInt v uy) ty k n i e l = absurd cc
variant_opens name (tests.ConstPrim v) ty k n i e l = absurd cc
variant_opens name tests.Some ty k n i e l = absurd cc

-- One of a struct opens its fields.
pub struct_opens : (name : Sym → List ℕ) (c : Constraint) (ty n i : ℕ) → test_of name c ≡ struct_constraint ty n → i < n
    → opens_field None i c ≡ true
struct_opens name (tests.Variant uy v m) ty n i e l = absurd cc
struct_opens name (tests.Struct uy m) ty n i e l = let q : m.0 ≡ n = cc in grind (arith, nat_tests)
struct_opens name (tests.ConstBool v uy) ty n i e l = absurd cc
struct_opens name (tests.ConstInt v uy) ty n i e l = absurd cc
struct_opens name (tests.ConstPrim v) ty n i e l = absurd cc
struct_opens name tests.Some ty n i e l = absurd cc

-- One of an option is that test.
pub some_is : (name : Sym → List ℕ) (c : Constraint) → test_of name c ≡ some_constraint → c ≡ tests.Some
some_is name (tests.Variant uy v m) e = absurd cc
some_is name (tests.Struct uy m) e = absurd cc
some_is name (tests.ConstBool v uy) e = absurd cc
some_is name (tests.ConstInt v uy) e = absurd cc
some_is name (tests.ConstPrim v) e = absurd cc
some_is name tests.Some e = refl

-- a field below the number is among them
elem_below : (g : ℕ → Binding) (n i : ℕ) → i < n → Elem (g i) (fields_below g n)
elem_below g zero i l = absurd (omega arith)
elem_below g (suc n) i l = elim (eq_or i n) [
  | inl e ↦ elem_right (g i) (fields_below g n) (g n ∷ []) (inl (ap g e))
  | inr e ↦ elem_left (g i) (fields_below g n) (g n ∷ []) (elem_below g n i (omega arith))
]

-- What is said to open a field does.
pub opening_opens : (rules : List Rule) (kind : Option ℕ) (s i : ℕ) → opens_field kind i (opening rules kind s i) ≡ true
opening_opens rules kind s i = elim (none_or (first_opening kind i s rules)) [
  | inl e ↦ rw e (any_opens kind i)
  | inr e ↦ let (j, k, ak, t, o) = opening_found kind i s rules (e.0) (e.1) in rw (e.1) o
]
  where
    any_opens : (kind : Option ℕ) (i : ℕ) → opens_field kind i (any_opening kind i) ≡ true
    any_opens (Some k) i = both_and (k == k) (nat_lt i (suc i)) (eq-eqb k k refl) (grind (arith, nat_tests))
    any_opens None i = grind (arith, nat_tests)

-- a test that opens a variant's or a struct's field makes it
opens_made : (kind : Option ℕ) (s i : ℕ) (c : Constraint) → opens_field kind i c ≡ true → Elem (field_binding kind s i) (bindings_made c (id_of s))
opens_made (Some k) s i (tests.Variant ty v n) e =
    let b = and_both (v.0 == k) (nat_lt i n.0) e in
    let p : v.0 ≡ k = eqb-true v.0 k (b.0) in
    subst (λ (j : ℕ). Elem (field_binding (Some j) s i) (fields_below (variant_field (id_of s) v) n.0)) p
    (elem_below (variant_field (id_of s) v) n.0 i (let t = b.1 in grind (arith, nat_tests)))
opens_made None s i (tests.Struct ty n) e = elem_below (struct_field (id_of s)) n.0 i (grind (arith, nat_tests))
opens_made kind s i c e = absurd cc

-- What a test makes is among what it makes.
pub made_in : (rules : List Rule) (b : Binding) (s : ℕ) (c : Constraint) → made_by rules b ≡ Some (record { site = s; want = has c })
    → Elem b (bindings_made c (id_of s))
made_in rules (sites.MatchVariant a v i) s c e =
    let m = same_Some _ _ e in
    let p : a.0 ≡ s = ap (λ (m : Source Constraint). m.site) m in
    let w : has (opening rules (Some v.0) a.0 i.0) ≡ has c = ap (λ (m : Source Constraint). m.want) m in
    let q : opening rules (Some v.0) a.0 i.0 ≡ c = cc in
    subst (λ (j : ℕ). Elem (field_binding (Some v.0) j i.0) (bindings_made c (id_of s))) (sym p)
    (opens_made (Some v.0) s i.0 c (subst (λ (d : Constraint). opens_field (Some v.0) i.0 d ≡ true) q (opening_opens rules (Some v.0) a.0 i.0)))
made_in rules (sites.ExtractStruct a i) s c e =
    let m = same_Some _ _ e in
    let p : a.0 ≡ s = ap (λ (m : Source Constraint). m.site) m in
    let w : has (opening rules None a.0 i.0) ≡ has c = ap (λ (m : Source Constraint). m.want) m in
    let q : opening rules None a.0 i.0 ≡ c = cc in
    subst (λ (j : ℕ). Elem (field_binding None j i.0) (bindings_made c (id_of s))) (sym p)
    (opens_made None s i.0 c (subst (λ (d : Constraint). opens_field None i.0 d ≡ true) q (opening_opens rules None a.0 i.0)))
made_in rules (sites.MatchSome a) s c e =
    let m = same_Some _ _ e in
    let p : a.0 ≡ s = ap (λ (m : Source Constraint). m.site) m in
    let w : has tests.Some ≡ has c = ap (λ (m : Source Constraint). m.want) m in
    let q : tests.Some ≡ c = cc in
    subst (λ (d : Constraint). Elem (sites.MatchSome a) (bindings_made d (id_of s))) q (inl (λ i. sites.MatchSome (record { 0 = p i })))
made_in rules (sites.Iterator a) s c e =
    let w : one_value ≡ has c = ap (λ (m : Source Constraint). m.want) (same_Some _ _ e) in absurd cc
made_in rules b s c e = absurd cc

module _ (name : Sym → List ℕ) (facts : TermFacts) (sources : List source.Rule) (rules : List TypedRule) (term : ℕ) (set : RulesOverSites)
    (h : IsRunnableSet name facts sources rules term set) where
  -- the entries of the set's sites
  abbrev rows : List Row
  rows = rows_of name set.sites

  -- the set as trees see it
  abbrev R : Rules Constraint Held
  R = rules_of name set

  -- what a rule is made of
  abbrev Made : ℕ → Rule → Type 0
  Made p r = IsMadeAt name facts sources rules term set.sites p r

  -- What is derived is of its kind.
  pub kinded_of : (p : ℕ) (r : Rule) (m : Made p r) (d : Demand) → Derived (DemandOf facts m.reached.rule) d
      → IsKindedDemand facts h.runnable.types d
  kinded_of p r m d e = (kinds_of name facts sources rules term set h p r m).demands d e

  -- each site of the table is of its kind
  pub site_kinded : (t : Site) (k : ℕ) → At rows t k → IsKinded facts h.runnable.types t
  site_kinded t k at =
      let is = h.is in
      let from = is.explained t (k, at) in
      let run = h.runnable in
      let rule = from.reached.rule in
      let kinds = rules_are_kinded facts run.types rule (run.fit from.place rule from.reached.at from.reached.of_term) in
      elim from.from [
        | inl n ↦ kinds.needed t n
        | inr other ↦ elim other [
          | inl q ↦ subst (IsKinded facts run.types) (sym q) (kinds.result (facts.partial rule.root))
          | inr q ↦ kinds.fields (q.0) t (q.1)
        ]
      ]

  -- no site is one value of a multi call
  pub no_iterator : (k : ℕ) (a : BindingId) → slice_get set.sites k ≡ Some (sites.Iterator a) → ⊥
  no_iterator k a e =
      let is = h.is in
      site_kinded (iterator (tree_of name set.sites a.0)) k
      (a.0, row_get name set.sites k _ e, part_at name set.sites is.table k (sites.Iterator a) a e (0, omega arith, refl))

  -- No rule uses a multi call.
  pub uses_no_multi : (left : List ℕ) → UsesNoMulti R left
  uses_no_multi left i s m e =
      let (r, at, w) = read_some (want_at s) (slice_get set.rules i) one_value e in
      let (p, made) = made_rule name facts sources rules term set h i r at in
      let one = want_one (has_loop s r) (test_at s r) w in
      let none = no_loops name facts sources rules term set h p r made s in
      let f : true ≡ false = sym (one.1) ∙ none in cc

  -- tests of one site that open one field are one
  pub one_opening : (i j : ℕ) (r k : Rule) (s : ℕ) (kind : Option ℕ) (f : ℕ) (c d : Constraint) → slice_get set.rules i ≡ Some r
      → slice_get set.rules j ≡ Some k → test_at s r ≡ Some c → test_at s k ≡ Some d → opens_field kind f c ≡ true → opens_field kind f d ≡ true
      → c ≡ d
  one_opening i j r k s kind f c d ar ak tc td oc od =
      let (a, m) = made_rule name facts sources rules term set h i r ar in let (b, n) = made_rule name facts sources rules term set h j k ak in
      let (v, av, dv) = derived_test name facts sources rules term set h a r m s c tc in
      let (w, aw, dw) = derived_test name facts sources rules term set h b k n s d td in
      let same : w ≡ v = one_site rows w v s aw av in
      let tys = h.runnable.types in
      test-injective name h.injective c d
      (same_opening name facts tys v kind f c d oc od
      (suits_of name facts sources rules term set h a r m (constrained v (test_of name c)) dv)
      (subst (λ (z : Site). Suits facts tys (constrained z (test_of name d))) same
      (suits_of name facts sources rules term set h b k n (constrained w (test_of name d)) dw))
      ((kinded_of a r m (constrained v (test_of name c)) dv).1) ((kinded_of b k n (constrained w (test_of name d)) dw).1))

  -- what makes a field is the test that a rule has
  pub opening_is : (i : ℕ) (r : Rule) (s : ℕ) (kind : Option ℕ) (f : ℕ) (c : Constraint) → slice_get set.rules i ≡ Some r → test_at s r ≡ Some c
      → opens_field kind f c ≡ true → opening set.rules kind s f ≡ c
  opening_is i r s kind f c at t o =
      let (d, e) = opening_there kind f s set.rules i r c at t o in
      let (j, k, ak, td, od) = opening_found kind f s set.rules d e in
      rw e (one_opening j i k r s kind f d c ak at td t od o)

  -- ---- what is listed

  -- no site is made by taking one value
  not_taken : (x : ℕ) (b : Binding) (s : ℕ) → slice_get set.sites x ≡ Some b
      → made_by set.rules b ≡ Some (record { site = s; want = one_value }) → ⊥
  not_taken x (sites.Iterator a) s at e = no_iterator x a at
  not_taken x (sites.MatchVariant a v i) s at e =
      let w : has (opening set.rules (Some v.0) a.0 i.0) ≡ one_value = ap (λ (m : Source Constraint). m.want) (same_Some _ _ e) in cc
  not_taken x (sites.ExtractStruct a i) s at e =
      let w : has (opening set.rules None a.0 i.0) ≡ one_value = ap (λ (m : Source Constraint). m.want) (same_Some _ _ e) in cc
  not_taken x (sites.MatchSome a) s at e =
      let w : has tests.Some ≡ one_value = ap (λ (m : Source Constraint). m.want) (same_Some _ _ e) in cc
  not_taken x b s at e = cc

  -- The fields of each test are listed.
  pub are_listed : IsListed R
  are_listed =
      let well = well_made name facts sources rules term set h in
      record {
        fields_listed = λ x s c e.
            let (b, at, is) = read_some (made_by set.rules) (slice_get set.sites x) (record { site = s; want = has c }) e in
            let there = made_in set.rules b s c is in
            let table = h.is.table in
            subst (λ (o : Option ℕ). Elem o (map (field_of name set s c) (bindings_made c (id_of s))))
            (keep_full (λ (y : ℕ). is_source (tests_by name) s (has c) (made_at set y)) (place_of b set.sites) x
            (place_found b set.sites x table.once at) (by_made R s (has c) (made_at set x) well e))
            (elem_map (field_of name set s c) (bindings_made c (id_of s)) b there);
        fields_made = λ s x c m.
            let (b, there, e) = map_elem (field_of name set s c) (bindings_made c (id_of s)) (Some x) m in
            let k = keep_some (λ (y : ℕ). is_source (tests_by name) s (has c) (made_at set y)) (place_of b set.sites) x e in
            source_made R s (has c) (made_at set x) well (k.1);
        value_listed = λ x s e.
            let (b, at, is) = read_some (made_by set.rules) (slice_get set.sites x) (record { site = s; want = one_value }) e in
            absurd (not_taken x b s at is);
        multi_stands = λ s m. absurd (no_iterator (m.0) (id_of s) (place_sound (sites.Iterator (id_of s)) set.sites (m.0) (m.1)));
      }
