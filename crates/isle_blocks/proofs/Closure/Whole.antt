-- The closure of a rule's demands, from its parts.
use Rattle.std.proofs.Common.{◌≡◌, ◌<◌, ◌≤◌, ◌++◌, inl, inr, ℕ, suc, List, [], ◌∷◌, length, get_or, Option, Some, None, slice_get, sym, ◌∙◌, ap, subst, arith, length-append}
use Rattle.std.specs.Prelude.{Contains}
use Rattle.std.proofs.lemmas.Bool.{cases_lt}
use Rattle.isle_containers.proofs.RootedTables.{Contains-map}
use Rattle.isle_containers.proofs.Lists.{slice_get-kept, slice_get-last}
use Rattle.isle_types.specs.declared.ids.Sym.{Sym}
use Rattle.isle_meaning.specs.Sites.{Site}
use Rattle.isle_meaning.specs.Demands as meaning
use Rattle.isle_meaning.specs.Demands.{Demand, constrained, equal}
use Rattle.isle_meaning.specs.Derived.{Derived, demanded, AreEqual, FieldOf}
use Rattle.isle_meaning.specs.Faults.{Conflict, IsUnreachable}
use Rattle.isle_meaning.specs.Numbered.{Row, At}
use Rattle.isle_meaning.proofs.Matching.Numbering.{one_site}
use Rattle.isle_blocks.specs.declared.ids.BindingId.{BindingId}
use Rattle.isle_blocks.specs.declared.binding.Binding.{Binding}
use Rattle.isle_blocks.specs.declared.constraint.Constraint.{Constraint}
use Rattle.isle_blocks.specs.Rows.{IsInjective, rows_of, test_of, pairs_of}
use Rattle.isle_blocks.specs.Inside.ClosureFields.{field_binding, field_site}
use Rattle.isle_blocks.specs.Inside.ClosureStates.{IsReady, HasOwn, AreOwn, HasTwo, AreClasses, IsClosed, IsState, IsRanked, IsSound, Grows, Still, Added, HasFields, HasNeed, IsMissingField, demanded_in}
use Rattle.isle_blocks.specs.Closure.{Stands, HasAllFields, HasNoRoom, IsClosure}
use Rattle.isle_blocks.proofs.Rows.RowsInjective.{test-injective}
use Rattle.isle_blocks.proofs.Closure.Trees.{stands, at_below, at_field, field_at, one_number}
use Rattle.isle_blocks.proofs.Closure.Demands.{of_image, owned, own_of}
use Rattle.isle_blocks.proofs.Closure.Merge.{equal_back, equal_chain, equal_has, field_of}
use Rattle.isle_blocks.proofs.Closure.Quotient.{no_clash, no_loop}
use Rattle.isle_blocks.proofs.Closure.Longer.{stays, stood}
use Rattle.isle_blocks.proofs.Closure.Growth.{grown_state, grown_longer}
use Rattle.isle_blocks.proofs.Closure.Sound.{grown_owns, grown_sound}
use Rattle.isle_blocks.proofs.Closure.Least.{shown, has_all_fields}
use Rattle.isle_blocks.proofs.Rows.FullTables.{no_more}

-- recorded pairs stand in the table
pub pairs_below : (table : List Binding) (has : List (BindingId × Constraint)) (same : List (BindingId × BindingId)) → IsReady table has same
    → (a b : ℕ) → Contains (pairs_of same) (a, b) → (a < length table) × (b < length table)
pairs_below table has same ready a b h =
    let (p, inside, e) = of_image (λ (p : BindingId × BindingId). (p.0.0, p.1.0)) same (a, b) h in
    let ea : p.0.0 ≡ a = ap (λ (q : ℕ × ℕ). q.0) e in let eb : p.1.0 ≡ b = ap (λ (q : ℕ × ℕ). q.1) e in
    let la = ready.one p.0 p.1 inside in let lb = ready.other p.0 p.1 inside in (omega arith, omega arith)

module _ (table : List Binding) (has : List (BindingId × Constraint)) (same : List (BindingId × BindingId)) (ready : IsReady table has same) where
  -- two tests of a site clash
  pub two_clash : HasTwo has → (name : Sym → List ℕ) → IsInjective name → Conflict (demanded_in name table has (pairs_of same))
  two_clash two name injective =
      let (t, p) = stands name table ready.sites two.site.0 (ready.constrained two.site two.one two.has_one) in
      let f : BindingId × Constraint → ℕ × meaning.Constraint = λ q. (q.0.0, test_of name q.1) in
      record {
        site = t;
        one = test_of name two.one;
        other = test_of name two.other;
        has_one = demanded (two.site.0, Contains-map f has (two.site, two.one) two.has_one, p);
        has_other = demanded (two.site.0, Contains-map f has (two.site, two.other) two.has_other, p);
        differ = λ e. two.differ (test-injective name injective two.one two.other e);
      }

  pub state_of : (own : List (Option Constraint)) → AreOwn (length table) has own → (class : List ℕ) → AreClasses (length table) class
      → IsClosed table (pairs_of same) own class → IsState own (pairs_of same) table class
  state_of own are class classes closed = record {
    table_ok = ready.sites;
    classes = classes;
    roots = λ a h. let b = classes.below a h in let e = are.fits in omega arith;
    own_fits = let e = are.fits in omega arith;
    within = pairs_below table has same ready;
    closed = closed;
    fields = λ a kind i opened.
        let (c, h, opens) = opened in let (id, at, inside) = are.demanded a c h in
        let (f, e) = ready.fields id c kind i inside opens in (f, subst (λ (z : ℕ). slice_get table f ≡ Some (field_binding kind z i)) at e);
  }

module _ (name : Sym → List ℕ) (injective : IsInjective name) (old : List Binding) (has : List (BindingId × Constraint))
    (same : List (BindingId × BindingId)) (ready : IsReady old has same) (own : List (Option Constraint)) (are : AreOwn (length old) has own)
    (first : List ℕ) (classes : AreClasses (length old) first) (closed : IsClosed old (pairs_of same) own first)
    (sound : IsSound name old (demanded_in name old has (pairs_of same)) first) where
  abbrev D : Demand → Type 0
  D = demanded_in name old has (pairs_of same)

  state : IsState own (pairs_of same) old first
  state = state_of old has same ready own are first classes closed

  owns : (a : ℕ) (c : Constraint) (t : Site) → HasOwn own a c → At (rows_of name old) t a → D (constrained t (test_of name c))
  owns = owned name old (pairs_of same) own has are

  all : (t : Site) (d : meaning.Constraint) → D (constrained t d)
      → (a : ℕ) × (c : Constraint) × At (rows_of name old) t a × HasOwn own a c × (test_of name c ≡ d)
  all = own_of name old (pairs_of same) own has are

  given : (t u : Site) → D (equal t u)
      → (a : ℕ) × (b : ℕ) × At (rows_of name old) t a × At (rows_of name old) u b × Contains (pairs_of same) (a, b)
  given t u (a, b, h, p, q) = (a, b, p, q, h)

  -- where classes have ranks, some arguments meet the demands
  pub is_reachable : IsRanked old own first → IsUnreachable D → ⊥
  is_reachable ranked (inl c) = no_clash name injective old ready.sites D (pairs_of same) own first all given closed state.fields c
  is_reachable ranked (inr l) = no_loop name injective old ready.sites D (pairs_of same) own first all given closed state.fields ranked l

  module _ (table : List Binding) (class : List ℕ) (grows : Grows own old first table class) where
    after : IsState own (pairs_of same) table class
    after = grown_state own (pairs_of same) old table first class grows state

    longer : (k : ℕ) (b : Binding) → slice_get old k ≡ Some b → slice_get table k ≡ Some b
    longer = grown_longer own (pairs_of same) old table first class grows

    sound_after : IsSound name table D class
    sound_after = grown_sound own (pairs_of same) name D old table first class grows state are.fits owns sound

    -- the test of a site's class is derived
    pub class_has : (a : ℕ) (t : Site) (c : Constraint) → At (rows_of name table) t a → HasOwn own (get_or class a 0) c
        → Derived D (constrained t (test_of name c))
    class_has a t c p h =
        let a_in = at_below name table t a p in
        let (u, q) = stands name table after.table_ok (get_or class a 0) (after.classes.below a a_in) in
        let has_u = demanded (grown_owns own (pairs_of same) name D old table first class grows state are.fits owns (get_or class a 0) c u h q) in
        equal_has D u t (test_of name c) (equal_back D t u (sound_after a a_in t u p q)) has_u

    -- a missing field is one of a derived variant or struct
    pub needed_field : (s : ℕ) (kind : Option ℕ) (i f : ℕ) → IsMissingField own table class s kind i f
        → (t : Site) × At (rows_of name table) t s × FieldOf D t (field_site kind t i)
    needed_field s kind i f needed =
        let (t, p) = stands name table after.table_ok s needed.site_in in
        let (c, h, opens) = needed.opened in (t, p, field_of D name t c kind i (class_has s t c p h) opens)

  -- what is added are fields of derived variants and structs
  pub added_fields : (table : List Binding) (class : List ℕ) → Grows own old first table class → (k : ℕ) → length old ≤ k → k < length table
      → (s : Site) × (u : Site) × FieldOf D s u × At (rows_of name table) u k
  added_fields table class Still k h l = absurd (omega arith)
  added_fields table class (Added {u = w} {d = e} s kind i f g needed) k h l =
      let table' = w ++ field_binding kind s i ∷ [] in
      let kept : (j : ℕ) (b : Binding) → slice_get w j ≡ Some b → slice_get table' j ≡ Some b =
      λ j b x. slice_get-kept w (field_binding kind s i ∷ []) j b x in
      elim (cases_lt k (length w)) [
        | inl less ↦ let (t, u, is, p) = added_fields w e g k h less in (t, u, is, stays name w table' kept u k p)
        | inr more ↦
            let len : length table' ≡ suc (length w) = simp length-append (omega arith) in
            let at : length w ≡ k = omega arith in
            let (t, p, is) = needed_field w e g s kind i f needed in (
              t,
              field_site kind t i,
              is,
              subst (λ (z : ℕ). At (rows_of name table') (field_site kind t i) z) at
                  (field_at name table' kind s i (length w) t (slice_get-last w (field_binding kind s i)) (stays name w table' kept t s p)),
            )
      ]

  module _ (table : List Binding) (class : List ℕ) (grows : Grows own old first table class) where
    -- every site of the grown table stands in each table that has the old sites and all fields
    wanted : (rows : List Row) → ((s : Site) → Stands (rows_of name old) s → Stands rows s) → HasAllFields D rows → (k : ℕ) (s : Site)
        → At (rows_of name table) s k → Stands rows s
    wanted rows has_old has_fields k s p = elim (cases_lt k (length old)) [
      | inl less ↦ has_old s (k, stood name old table (longer table class grows) ready.sites s k p less)
      | inr more ↦
          let (t, u, is, q) = added_fields table class grows k more (at_below name table s k p) in
          subst (λ (z : Site). Stands rows z) (one_site (rows_of name table) u s k q p) (has_fields t u is)
    ]

    too_many : (s : ℕ) (kind : Option ℕ) (i f : ℕ) → IsMissingField own table class s kind i f → (rows : List Row) → length rows ≤ length table
        → ((s : Site) → Stands (rows_of name old) s → Stands rows s) → HasAllFields D rows → ⊥
    too_many s kind i f needed rows fits has_old has_fields =
        let ok = (after table class grows).table_ok in
        let (t, at_s, is) = needed_field table class grows s kind i f needed in
        let last = field_site kind t i in
        let missing : (k : ℕ) → At (rows_of name table) last k → ⊥ =
        λ k p. let (a, e, q) = at_field name table injective kind t i k p in
        needed.missing k (subst (λ (z : ℕ). slice_get table k ≡ Some (field_binding kind z i)) (one_number name table injective ok t a s q at_s) e) in
        no_more name injective table ok last missing rows fits (wanted rows has_old has_fields) (has_fields t last is)

    pub no_room : length table ≡ 65536 → HasNeed own table class → HasNoRoom D (rows_of name old)
    no_room full need rows fits has_old has_fields =
        too_many need.site need.kind need.index need.field need.needed rows (subst (λ (z : ℕ). length rows ≤ z) (sym full) fits) has_old has_fields

    module _ (full : (a : ℕ) → a < length table → HasFields own table class a) (each : List (Option Constraint))
        (each_fits : length each ≡ length class)
        (spread : (a : ℕ) → a < length class → get_or each a None ≡ get_or own (get_or class a 0) None) (ranked : IsRanked old own first) where
      all_after : (t : Site) (d : meaning.Constraint) → D (constrained t d)
          → (a : ℕ) × (c : Constraint) × At (rows_of name table) t a × HasOwn own a c × (test_of name c ≡ d)
      all_after t d h = let (a, c, p, q, e) = all t d h in (a, c, stays name old table (longer table class grows) t a p, q, e)

      given_after : (t u : Site) → D (equal t u)
          → (a : ℕ) × (b : ℕ) × At (rows_of name table) t a × At (rows_of name table) u b × Contains (pairs_of same) (a, b)
      given_after t u h =
          let (a, b, p, q, e) = given t u h in
          (a, b, stays name old table (longer table class grows) t a p, stays name old table (longer table class grows) u b q, e)

      -- what is derived, by numbers
      tests_shown : (t : Site) (d : meaning.Constraint) → Derived D (constrained t d)
          → (a : ℕ) × (c : Constraint) × At (rows_of name table) t a × HasOwn own (get_or class a 0) c × (test_of name c ≡ d)
      tests_shown t d h =
          let s = after table class grows in
          shown name injective table s.table_ok D (pairs_of same) own class all_after given_after s.closed s.fields full (constrained t d) h

      pairs_shown : (t u : Site) → Derived D (equal t u)
          → (a : ℕ) × (b : ℕ) × At (rows_of name table) t a × At (rows_of name table) u b × (get_or class a 0 ≡ get_or class b 0)
      pairs_shown t u h =
          let s = after table class grows in
          shown name injective table s.table_ok D (pairs_of same) own class all_after given_after s.closed s.fields full (equal t u) h

      same_class : (t : Site) (a b : ℕ) → At (rows_of name table) t a → At (rows_of name table) t b → get_or class a 0 ≡ get_or class b 0
      same_class t a b p q = ap (λ (z : ℕ). get_or class z 0) (one_number name table injective (after table class grows).table_ok t a b p q)

      each_at : (a : ℕ) (t : Site) → At (rows_of name table) t a → get_or each a None ≡ get_or own (get_or class a 0) None
      each_at a t p = let s = after table class grows in let e = s.classes.fits in let l = at_below name table t a p in spread a (omega arith)

      -- sites of one class are equal
      class_equal : (a b : ℕ) (t u : Site) → At (rows_of name table) t a → At (rows_of name table) u b → get_or class a 0 ≡ get_or class b 0
          → AreEqual D t u
      class_equal a b t u p q e =
          let s = after table class grows in
          let a_in = at_below name table t a p in let b_in = at_below name table u b q in
          let (w, r) = stands name table s.table_ok (get_or class a 0) (s.classes.below a a_in) in
          let to_w = sound_after table class grows a a_in t w p r in
          let from_w = sound_after table class grows b b_in u w q (subst (λ (z : ℕ). At (rows_of name table) w z) e r) in
          equal_chain D t w u to_w (equal_back D u w from_w)

      equal_class : (a b : ℕ) (t u : Site) → At (rows_of name table) t a → At (rows_of name table) u b → AreEqual D t u
          → get_or class a 0 ≡ get_or class b 0
      equal_class a b t u p q (inl e) = same_class u a b (subst (λ (z : Site). At (rows_of name table) z a) e p) q
      equal_class a b t u p q (inr d) = let (x, y, r, s, e) = pairs_shown t u d in same_class t a x p r ∙ e ∙ same_class u y b s q

      pub whole : IsClosure name D old table each class
      whole = record {
        reachable = is_reachable ranked;
        sites = (after table class grows).table_ok;
        kept = longer table class grows;
        added = added_fields table class grows;
        fields = let s = after table class grows in
            has_all_fields name injective table s.table_ok D (pairs_of same) own class all_after given_after s.closed s.fields full;
        each_fits = each_fits ∙ (after table class grows).classes.fits;
        classes = (after table class grows).classes;
        class_tests = λ a h.
            let s = after table class grows in let fits = s.classes.fits in
            let low = s.classes.below a (omega arith) in let flat = s.classes.flat a (omega arith) in
            spread a h ∙ sym (spread (get_or class a 0) (omega arith) ∙ ap (λ (z : ℕ). get_or own z None) flat);
        tested = λ a t d p. (
          λ (c, h, e). subst (λ (z : meaning.Constraint). Derived D (constrained t z)) e
              (class_has table class grows a t c p (sym (each_at a t p) ∙ h)),
          λ h. let (b, c, q, has_c, e) = tests_shown t d h in
              (c, each_at a t p ∙ subst (λ (z : ℕ). HasOwn own z c) (same_class t b a q p) has_c, e),
        );
        same = λ a b t u p q. (class_equal a b t u p q, equal_class a b t u p q);
        all_tested = λ t d h. let (a, c, p, q, e) = tests_shown t d h in (a, p);
        all_same = λ t u h. let (a, b, p, q, e) = pairs_shown t u h in ((a, p), (b, q));
      }
