-- A placed rule's tests and sets of equal sites are what follows from its demands.
use Rattle.std.proofs.Common.{◌≡◌, ◌≢◌, ◌<◌, inl, inr, ℕ, List, [], ◌∷◌, map, length, Option, Some, None, get_or, slice_get, refl, sym, ◌∙◌, ap, subst, arith}
use Rattle.std.specs.Prelude.{Contains, IsPermutation, IsSorted}
use Rattle.std.specs.List.{filter_map}
use Rattle.std.specs.List.Sorted.{IsStrictlySortedBy}
use Rattle.std.proofs.lemmas.List.{length-map}
use Rattle.std.proofs.lemmas.List.Sorted.{Contains-permutation, IsPermutation-sym}
use Rattle.std.specs.Map.{keys_of}
use Rattle.std.proofs.lemmas.Option.{same_Some, slice_get-get_or, slice_get_within}
use Rattle.isle_containers.specs.JoinedSets.{AreDisjoint}
use Rattle.isle_types.specs.declared.ids.Sym.{Sym}
use Rattle.isle_meaning.specs.Sites.{Site, iterator}
use Rattle.isle_meaning.specs.Demands as meaning
use Rattle.isle_meaning.specs.Demands.{Demand, constrained, equal, Among, variant_constraint, struct_constraint}
use Rattle.isle_meaning.specs.Derived.{Derived, flipped, shared, Closed}
use Rattle.isle_meaning.specs.Numbered.{At, iterator_row}
use Rattle.isle_meaning.proofs.Matching.Numbering.{one_site, numbers_say_demands}
use Rattle.isle_blocks.specs.declared.ids.BindingId.{BindingId}
use Rattle.isle_blocks.specs.declared.binding.Binding.{Binding}
use Rattle.isle_blocks.specs.declared.binding.Binding.TheVariants.{Iterator}
use Rattle.isle_blocks.specs.declared.constraint.Constraint.{Constraint}
use Rattle.isle_blocks.specs.declared.placing.PlacedRule.{PlacedRule}
use Rattle.isle_blocks.specs.declared.rule.Rule.{Rule}
use Rattle.isle_blocks.specs.Rows.{IsInjective, row_of, rows_of, numbers_of, test_of, constraints_of, pairs_of}
use Rattle.isle_blocks.specs.Rules.{site_cmp}
use Rattle.isle_blocks.specs.ClosedRules.{same_site, AreDerived, AreLeftEqual, AreNumbersOf}
use Rattle.isle_blocks.specs.Inside.NormalRules.{AreTestsOf, AreEqualitiesOf, MustBeEqual, IsUntested}
use Rattle.isle_blocks.specs.Inside.MovedSites.{new_number, place_in}
use Rattle.isle_blocks.specs.Tables.{IsTable}
use Rattle.isle_blocks.specs.Inside.ClosureStates.{demanded_in}
use Rattle.isle_blocks.specs.Closure.{Stands}
use Rattle.isle_blocks.specs.Inside.Placing.{IsExplained, IsPlacedRule}
use Rattle.isle_blocks.specs.Inside.Assembly.{IsAssembledRule, multi_call}
use Rattle.isle_blocks.specs.Building.Standing.{StandEach, Adds, GoesOn, IsFieldRow, NumbersBehind}
use Rattle.isle_blocks.specs.Closure.{AreInOrder}
use Rattle.isle_blocks.proofs.Closure.FieldOrder.{rows_in_order}
use Rattle.isle_blocks.proofs.Building.OpenedFields.{opened}
use Rattle.isle_blocks.proofs.Closure.Pairs.{own_in}
use Rattle.isle_blocks.proofs.Closure.Trees.{stands, at_below, one_number, row_get, get_row}
use Rattle.isle_blocks.proofs.Rows.RowsInjective.{row-injective}
use Rattle.isle_blocks.proofs.Counting.{place_of, stands_at}
use Rattle.isle_blocks.proofs.MultiCalls.{picked_of, picked, picked_once, call_site, as_iterator, no_field}
use Rattle.isle_blocks.proofs.RuleFaults.StrictCalls.{once_moved, strictly}
use Rattle.isle_blocks.proofs.Closure.Longer.{stays}
use Rattle.isle_blocks.proofs.Rows.MovedRows.{new_place, moved_rows}
use Rattle.isle_blocks.proofs.SiteOrder.{moved_adds}
use Rattle.isle_blocks.proofs.Rows.Placed.{early_rows, after_ok, to_at, numbered_at, numbers_fit, still_stands, all_known}
use Rattle.isle_blocks.proofs.Rows.PlacedRoom.{grown_site, recorded_field}

module _ (name : Sym → List ℕ) (injective : IsInjective name) (ds : List Demand) (base own grown table : List Binding) (placed : PlacedRule)
    (p : IsPlacedRule name ds base own grown table placed) (base_ok : IsTable base) (own_ok : IsTable own) where
  abbrev D : Demand → Type 0
  D = demanded_in name own p.has (pairs_of p.same)

  abbrev each : List (Option Constraint)
  each = placed.closed.each.items

  abbrev class : List ℕ
  class = placed.closed.class.items

  abbrev numbers : List BindingId
  numbers = placed.numbers.items

  -- what is closed of the recorded demands is closed of the rule's
  to_demands : (d : Demand) → Closed D d → Closed (Among ds) d
  to_demands d h = ((numbers_say_demands (rows_of name own) (constraints_of name p.has) (pairs_of p.same) ds p.recorded).0 d).0 h

  to_recorded : (d : Demand) → Closed (Among ds) d → Closed D d
  to_recorded d h = ((numbers_say_demands (rows_of name own) (constraints_of name p.has) (pairs_of p.same) ds p.recorded).0 d).1 h

  -- a site's number in the table
  number_at : (k : ℕ) → k < length grown → (id : BindingId) × (slice_get numbers k ≡ Some id)
  number_at k inside =
      let fits = numbers_fit p.between grown table numbers p.moved p.opened.sites p.closure.sites name injective in
      (get_or numbers k (record { 0 = 0 }), slice_get-get_or numbers k (record { 0 = 0 }) (omega (arith, fits, inside)))

  moved_to : (s : Site) (k : ℕ) (id : BindingId) → slice_get numbers k ≡ Some id → At (rows_of name grown) s k → At (rows_of name table) s id.0
  moved_to = numbered_at p.between grown table numbers p.moved p.opened.sites p.closure.sites name injective

  moved_stands : (s : Site) → Stands (rows_of name grown) s → Stands (rows_of name table) s
  moved_stands s (k, q) = (
    place_in (numbers_of numbers) k,
    to_at p.between grown table numbers p.moved p.opened.sites
        p.closure.sites name injective s k q,
  )

  tests_derived : (tests : List (BindingId × Constraint)) → AreTestsOf numbers each tests → AreDerived name (rows_of name table) (Among ds) tests
  tests_derived tests are = record {
    derived = λ id test h.
        let (k, at, has) = (are id test).0 h in let low = own_in each k test has in let fits = p.closure.each_fits in
        let (s, q) = stands name grown p.closure.sites k (omega (arith, low, fits)) in
        (s, moved_to s k id at q, to_demands (constrained s (test_of name test)) ((p.closure.tested k s (test_of name test) q).0 (test, has, refl)));
    all = λ s c d.
        let r = to_recorded (constrained s c) d in
        let (k, q) = p.closure.all_tested s c r in
        let (test, has, e) = (p.closure.tested k s c q).1 r in
        let (id, at) = number_at k (at_below name grown s k q) in
        (id, test, (are id test).1 (k, at, has), moved_to s k id at q, e);
  }

  -- a site without a test has no derived constraint
  no_constraint : (a : ℕ) (s : Site) → At (rows_of name grown) s a → get_or each a None ≡ None → (c : meaning.Constraint)
      → Derived D (constrained s c) → ⊥
  no_constraint a s q none c d = let (test, has, e) = (p.closure.tested a s c q).1 d in
      absurd (let x : ◌≡◌ {A = Option Constraint} None (Some test) = sym none ∙ has in cc)

  untested : (a : ℕ) (s : Site) → At (rows_of name grown) s a → ((c : meaning.Constraint) → Derived D (constrained s c) → ⊥) → IsUntested each class a
  untested a s q none = record {
    inside = let l = at_below name grown s a q in let f = p.closure.classes.fits in omega arith;
    untested = elim (get_or each a None) as (λ o. get_or each a None ≡ o → get_or each a None ≡ None) [
      | None ↦ λ e. e
      | Some test ↦ λ e. absurd (none (test_of name test) ((p.closure.tested a s (test_of name test) q).0 (test, e, refl)))
    ] refl;
  }

  equal_left : (sets : List (List BindingId)) → AreEqualitiesOf numbers each class sets → AreLeftEqual (rows_of name table) (Among ds) sets
  equal_left sets are = record {
    left = λ x y differ joined.
        let (k, l, at_k, at_l, (ux, uy, same)) = (are.joined x y differ).0 joined in
        let fits = p.closure.classes.fits in
        let lx = ux.inside in let ly = uy.inside in
        let (s, px) = stands name grown p.closure.sites k (omega (arith, fits, lx)) in
        let (u, py) = stands name grown p.closure.sites l (omega (arith, fits, ly)) in
        let apart : s ≢ u = λ e.
        let n : k ≡ l = one_number name grown injective p.closure.sites u k l (subst (λ (z : Site). At (rows_of name grown) z k) e px) py in
        differ (same_Some x y (sym at_k ∙ ap (λ (i : ℕ). slice_get numbers i) n ∙ at_l)) in
        let derived : Derived D (equal s u) = elim ((p.closure.same k l s u px py).0 same) [ inl e ↦ absurd (apart e) | inr d ↦ d ] in
        (s, u, moved_to s k x at_k px, moved_to u l y at_l py, to_demands (equal s u) (derived, apart, no_constraint k s px ux.untested));
    all = λ s u h.
        let (d, apart, none) = to_recorded (equal s u) h in
        let ((a, pa), (b, pb)) = p.closure.all_same s u d in
        let (x, at_x) = number_at a (at_below name grown s a pa) in
        let (y, at_y) = number_at b (at_below name grown u b pb) in
        let differ : x ≢ y = λ e. apart (one_site (rows_of name table) s u y.0
        (subst (λ (z : ℕ). At (rows_of name table) s z) (ap (λ (z : BindingId). z.0) e) (moved_to s a x at_x pa)) (moved_to u b y at_y pb)) in
        let must : MustBeEqual each class a b =
        (untested a s pa none, untested b u pb (λ c k. none c (shared (flipped d) k)), (p.closure.same a b s u pa pb).1 (inr d)) in
        (x, y, moved_to s a x at_x pa, moved_to u b y at_y pb, (are.joined x y differ).1 (a, b, at_x, at_y, must));
  }

  grown_at : (s : Site) (k : ℕ) → At (rows_of name own) s k → At (rows_of name grown) s k
  grown_at = stays name own grown p.closure.kept

  moved_at : (s : Site) (id : BindingId) → At (rows_of name own) s id.0 → At (rows_of name table) s (new_number numbers id).0
  moved_at s id q =
      subst (λ (z : ℕ). At (rows_of name table) s z) (sym (new_place numbers id))
      (to_at p.between grown table numbers p.moved p.opened.sites p.closure.sites name injective s id.0 (grown_at s id.0 q))

  each_moved : (ids : List BindingId) (ss : List Site) → StandEach (rows_of name own) ids ss
      → StandEach (rows_of name table) (map (new_number placed.numbers.items) ids) ss
  each_moved [] [] h = tt
  each_moved [] (s ∷ ss) h = absurd h
  each_moved (id ∷ ids) [] h = absurd h
  each_moved (id ∷ ids) (s ∷ ss) h = (moved_at s id h.0, each_moved ids ss h.1)

  explained : (s : Site) → Stands (rows_of name table) s → IsExplained name ds base own s
  explained s (k, q) = elim (all_known p.between grown table numbers p.moved p.opened.sites p.closure.sites name injective s k q) [
    | inl x ↦ p.opened.explained s x
    | inr (j, r) ↦ inr (grown_site base own base_ok own_ok name injective ds p.has p.same p.recorded grown each class p.closure s j r)
  ]

  moved_grown : (s : Site) (id : BindingId) → At (rows_of name grown) s id.0 → At (rows_of name table) s (new_number numbers id).0
  moved_grown s id q =
      subst (λ (z : ℕ). At (rows_of name table) s z) (sym (new_place numbers id))
      (to_at p.between grown table numbers p.moved p.opened.sites p.closure.sites name injective s id.0 q)

  -- a site that is one value of a call, and the call
  called_of : (site : Binding) (id : BindingId) → Contains grown site → multi_call (new_number numbers) site ≡ Some id
      → (source : BindingId) × (site ≡ Iterator source) × (j : ℕ) × (s : Site) × At (rows_of name grown) (iterator s) j
      × At (rows_of name grown) s source.0 × At (rows_of name table) s id.0
  called_of site id there called =
      let (source, is, number) = call_site (new_number numbers) site id called in
      let (j, at) = place_of grown site there in
      let row : slice_get (rows_of name grown) j ≡ Some (iterator_row source.0) = row_get name grown j (Iterator source) (at ∙ ap Some is) in
      let (t, q) = stands name grown p.closure.sites j (slice_get_within grown j site at) in
      let (s, same, inner) = as_iterator (rows_of name grown) t j source.0 row q in (
        source,
        is,
        j,
        s,
        subst (λ (z : Site). At (rows_of name grown) z j) same q,
        inner,
        subst (λ (z : BindingId). At (rows_of name table) s z.0) number (moved_grown s source inner),
      )

  -- a number of a call stands for one of which a value stands among the own sites
  call_numbered : (id : BindingId) → Contains (filter_map (multi_call (new_number numbers)) grown) id
      → (s : Site) × Stands (rows_of name own) (iterator s) × At (rows_of name table) s id.0
  call_numbered id among =
      let (site, there, called) = picked_of (multi_call (new_number numbers)) grown id among in
      let (source, is, j, s, value, inner, number) = called_of site id there called in (
        s,
        elim (grown_site base own base_ok own_ok name injective ds p.has p.same p.recorded grown each class p.closure (iterator s) j value) [
          | inl x ↦ x
          | inr (u, f) ↦ absurd (no_field (Among ds) u s f)
        ],
        number,
      )

  -- each call is of one site
  call_once : (one other : Binding) (id : BindingId) → Contains grown one → Contains grown other → multi_call (new_number numbers) one ≡ Some id
      → multi_call (new_number numbers) other ≡ Some id → one ≡ other
  call_once one other id in_one in_other of_one of_other =
      let (a, is_a, j, s, value_a, at_a, number_a) = called_of one id in_one of_one in
      let (b, is_b, l, u, value_b, at_b, number_b) = called_of other id in_other of_other in
      let site : s ≡ u = one_site (rows_of name table) s u id.0 number_a number_b in
      let place : a.0 ≡ b.0 = one_number name grown injective p.closure.sites u a.0 b.0
      (subst (λ (z : Site). At (rows_of name grown) z a.0) site at_a) at_b in
      let same : a ≡ b = λ i. record { 0 = place i } in is_a ∙ ap Iterator same ∙ sym is_b

  -- and each such call has one
  call_there : (s : Site) → Stands (rows_of name own) (iterator s)
      → (id : BindingId) × Contains (filter_map (multi_call (new_number numbers)) grown) id × At (rows_of name table) s id.0
  call_there s (j, q) =
      let (x, row, inner) = grown_at (iterator s) j q in
      let source : BindingId = record { 0 = x } in
      let (site, at, is) = get_row name grown j (iterator_row x) row in
      let same : site ≡ Iterator source = row-injective name injective site (Iterator source) is in (
        new_number numbers source,
        picked (multi_call (new_number numbers)) grown (Iterator source) (new_number numbers source)
            (stands_at grown j (Iterator source) (at ∙ ap Some same)) refl,
        moved_grown s source inner,
      )

  calls_are : (calls : List BindingId) → IsPermutation (filter_map (multi_call (new_number numbers)) grown) calls → IsSorted site_cmp calls
      → AreNumbersOf (rows_of name table) (λ s. Stands (rows_of name own) (iterator s)) calls
  calls_are calls moved sorted = record {
    numbered = λ id among. call_numbered id (Contains-permutation calls (filter_map (multi_call (new_number numbers)) grown) id
        (IsPermutation-sym (filter_map (multi_call (new_number numbers)) grown) calls moved) among);
    all = λ s stands.
        let (id, among, at) = call_there s stands in
        (id, Contains-permutation (filter_map (multi_call (new_number numbers)) grown) calls id moved among, at);
    ascending = strictly calls sorted (once_moved (filter_map (multi_call (new_number numbers)) grown) calls moved
        (picked_once (multi_call (new_number numbers)) grown (λ i j site e f. p.closure.sites.once site i j e f) call_once));
  }

  goes_on : (mid : List Binding) → ((k : ℕ) (b : Binding) → slice_get mid k ≡ Some b → slice_get table k ≡ Some b)
      → GoesOn (rows_of name mid) (rows_of name table)
  goes_on mid keeps k row e = let (b, at, is) = get_row name mid k row e in row_get name table k b (keeps k b at) ∙ ap Some is

  ordered : (needed : List Site) → Adds [] needed (rows_of name own) → NumbersBehind (rows_of name base) needed (Among ds) (rows_of name table)
  ordered needed adds =
      let first = p.order in
      let added = moved_adds needed adds (early_rows name own own_ok) (moved_rows name injective first.moved) in
      let goes = goes_on first.mid first.kept in
      let table_ok = after_ok p.between grown table numbers p.moved p.opened.sites p.closure.sites name injective in
      record {
        mid = rows_of name first.mid;
        added = added;
        goes_on = goes;
        opened = λ k high low. opened name injective ds base own table table_ok explained needed adds (rows_of name first.mid) added goes k high
            (subst (λ (n : ℕ). k < n) (length-map table (row_of name)) low);
        all = λ s u f. moved_stands u (p.closure.fields s u (recorded_field name own p.has p.same ds p.recorded s u f));
        fields = subst (λ (n : ℕ). AreInOrder (IsFieldRow (rows_of name table)) n (length (rows_of name table)))
            (sym (length-map first.mid (row_of name)))
            (rows_in_order name table (length first.mid) first.fields);
      }

  pub assembled : (impure : List BindingId) (result : BindingId) (made : Rule) → AreTestsOf numbers each made.constraints
      → IsStrictlySortedBy site_cmp (keys_of made.constraints) → AreEqualitiesOf numbers each class made.equals → AreDisjoint same_site made.equals
      → IsPermutation (filter_map (multi_call (new_number numbers)) grown) made.iterators → IsSorted site_cmp made.iterators
      → made.impure ≡ map (new_number placed.numbers.items) impure → made.result ≡ new_number placed.numbers.items result
      → IsAssembledRule name ds base own impure result table made
  assembled impure result made tests ascending equalities disjoint moved sorted effects value = record {
    reachable = p.reachable;
    closed = record {
      tests = tests_derived made.constraints tests;
      ascending = ascending;
      equalities =
          equal_left made.equals equalities;
      disjoint = disjoint;
    };
    calls = calls_are made.iterators moved sorted;
    kept = λ s k q. still_stands p.between grown table numbers p.moved p.opened.sites p.closure.sites name injective s k
        (stays name base p.between p.opened.kept s k q);
    own_stand = λ s (k, q). moved_stands s (k, grown_at s k q);
    fields = λ s u f. moved_stands u (p.closure.fields s u (recorded_field name own p.has p.same ds p.recorded s u f));
    explained = explained;
    value = λ s q. subst (λ (z : BindingId). At (rows_of name table) s z.0) (sym value) (moved_at s result q);
    order = ordered;
    effects = λ ss h. subst (λ (l : List BindingId). StandEach (rows_of name table) l ss) (sym effects) (each_moved impure ss h);
  }
