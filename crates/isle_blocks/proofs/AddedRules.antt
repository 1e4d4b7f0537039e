-- What a visit leaves, with the site of the rule's result.
use Rattle.std.proofs.Common.{◌≡◌, ◌<◌, ◌≤◌, ◌++◌, ◌⊎◌, inl, inr, ℕ, suc, Bool, true, false, Option, Some, None, List, [], ◌∷◌, length, refl, sym, ◌∙◌, ap, subst, arith, length-append}
use Rattle.std.proofs.lemmas.Bool.{cases_lt}
use Rattle.std.proofs.lemmas.List.{length-map}
use Rattle.isle_types.specs.Names.{AreDistinct}
use Rattle.isle_types.specs.declared.ids.Sym.{Sym}
use Rattle.isle_rules.specs.TypedRules.{TypedRule}
use Rattle.isle_meaning.specs.Facts.{TermFacts}
use Rattle.isle_meaning.specs.Sites.{Site, iterator, make_some, site_of}
use Rattle.isle_meaning.specs.Words.{word_of}
use Rattle.isle_meaning.specs.Demands.{demands_of, vars_of, impure_of, result_of}
use Rattle.isle_meaning.specs.Needs.{needs_of, IsNeeded}
use Rattle.isle_meaning.specs.Numbered.{Row, make_some_row, At}
use Rattle.isle_meaning.proofs.Matching.Numbering.{one_site}
use Rattle.isle_blocks.specs.declared.ids.BindingId.{BindingId}
use Rattle.isle_blocks.specs.declared.binding.Binding.{Binding}
use Rattle.isle_blocks.specs.declared.binding.Binding.TheVariants.{MakeSome}
use Rattle.isle_blocks.specs.declared.constraint.Constraint.{Constraint}
use Rattle.isle_blocks.specs.Rows.{IsInjective, row_of, rows_of, constraints_of, pairs_of}
use Rattle.isle_blocks.specs.Tables.{IsInterned, IsFull}
use Rattle.isle_blocks.specs.Tables.{IsTable}
use Rattle.isle_blocks.specs.Closure.{Stands}
use Rattle.isle_blocks.specs.AddedRules.{IsOwnOf, IsAdded, IsMultiCall, needs_in_order, HasRoomAlone, HasNoRoomAlone, HasNoRoomBeside}
use Rattle.isle_blocks.specs.Inside.Placing.{HasNoRoomFor}
use Rattle.isle_blocks.specs.declared.rule.Rule.{Rule}
use Rattle.isle_blocks.specs.Inside.Assembly.{IsAssembled}
use Rattle.isle_blocks.specs.ClosedRules.{AreNumbersOf}
use Rattle.isle_blocks.specs.Inside.Building.Gathering.{Gathered}
use Rattle.isle_blocks.specs.Building.Standing.{IsPut, Adds, begin, next, StandEach}
use Rattle.isle_blocks.specs.Inside.Building.Built.{IsBuiltOf}
use Rattle.isle_blocks.proofs.Building.Tables.{at_within, stands_before, stands_once, site_once, parts_before}
use Rattle.isle_blocks.proofs.Building.Entries.{Grown, at_grown, put_grown, put_there, entry_at, absent_of, put_of, recorded_grown}
use Rattle.isle_blocks.proofs.Building.Rules.{built_before}
use Rattle.isle_blocks.proofs.Rows.FullTables.{no_more}
use Rattle.isle_blocks.proofs.Closure.Ready.{needed_stands, ready_of_recorded}

more_needed : (xs : List Site) (s t : Site) → IsNeeded xs s → IsNeeded (xs ++ t ∷ []) s
more_needed [] s t h = absurd h
more_needed (x ∷ xs) s t (inl e) = inl e
more_needed (x ∷ xs) s t (inr h) = inr (more_needed xs s t h)

last_needed : (xs : List Site) (t : Site) → IsNeeded (xs ++ t ∷ []) t
last_needed [] t = inl refl
last_needed (x ∷ xs) t = inr (last_needed xs t)

needed_or_last : (xs : List Site) (s t : Site) → IsNeeded (xs ++ t ∷ []) s → IsNeeded xs s ⊎ (s ≡ t)
needed_or_last [] s t (inl e) = inr e
needed_or_last [] s t (inr h) = absurd h
needed_or_last (x ∷ xs) s t (inl e) = inl (inl e)
needed_or_last (x ∷ xs) s t (inr h) = elim (needed_or_last xs s t h) [ inl n ↦ inl (inr n) | inr e ↦ inr e ]

-- each number of the table stands for a site that is needed
pub stands_for : (needed : List Site) (rows : List Row) → Adds [] needed rows → (k : ℕ) → k < length rows
    → (s : Site) × IsNeeded needed s × At rows s k
stands_for needed rows begin k h = absurd (omega arith)
stands_for needed rows (next {needed = sites} {old = old} new site row j before is (inl (there, e))) k h =
    let (s, n, p) = stands_for sites old before k (subst (λ (l : List Row). k < length l) e h) in
    (s, more_needed sites s site n, subst (λ (l : List Row). At l s k) (sym e) p)
stands_for needed rows (next {needed = sites} {old = old} new site row j before is (inr (absent, last, e))) k h =
    let put : IsPut old row j rows = inr (absent, last, e) in
    let len : length rows ≡ suc (length old) = ap length e ∙ (let l : length (old ++ row ∷ []) ≡ suc (length old) =
    simp length-append (omega arith) in l) in
    elim (cases_lt k (length old)) [
      | inl less ↦
          let (s, n, p) = stands_for sites old before k less in
          (s, more_needed sites s site n, at_grown old rows (put_grown old row j rows put) s k p)
      | inr more ↦
          let at : j ≡ k = omega arith in (
            site,
            last_needed sites site,
            subst (λ (z : ℕ). At rows site z) at (entry_at old rows (put_grown old row j rows put) site row j is (put_there old row j rows put)),
          )
    ]

each_grown : (name : Sym → List ℕ) (rows new : List Row) → Grown rows new → (ids : List BindingId) (ss : List Site)
    → StandEach rows ids ss → StandEach new ids ss
each_grown name rows new g [] [] h = tt
each_grown name rows new g [] (s ∷ ss) h = absurd h
each_grown name rows new g (id ∷ ids) [] h = absurd h
each_grown name rows new g (id ∷ ids) (s ∷ ss) h = (at_grown rows new g s id.0 h.0, each_grown name rows new g ids ss h.1)

module _ (name : Sym → List ℕ) (injective : IsInjective name) (facts : TermFacts) (typed : TypedRule) (left : Gathered) (value : BindingId)
    (built : IsBuiltOf name facts typed left value) (once : AreDistinct left.sites) where
  left_ok : IsTable left.sites
  left_ok = record { earlier = built_before name facts typed left value built; once = once }

  only_needed : (s : Site) (k : ℕ) → At (rows_of name left.sites) s k → IsNeeded (needs_of facts typed) s
  only_needed s k p =
      let rows = rows_of name left.sites in
      let (t, n, q) = stands_for (needs_of facts typed) rows built.sites k (at_within rows s k p) in
      subst (λ (z : Site). IsNeeded (needs_of facts typed) z) (one_site rows t s k q p) n

  all_needed : (s : Site) → IsNeeded (needs_of facts typed) s → Stands (rows_of name left.sites) s
  all_needed = needed_stands [] (needs_of facts typed) (rows_of name left.sites) built.sites

  pub own_total : IsOwnOf name facts false typed left.sites left.has left.same left.impure value
  own_total = record {
    ready = ready_of_recorded name injective facts typed left.sites left.has left.same left_ok built.demands all_needed;
    recorded = built.demands;
    needed = all_needed;
    only = λ s (k, p). inl (only_needed s k p);
    value = built.result;
    effects = built.impure;
    order = built.sites;
  }

  pub own_partial : (id : BindingId) (new : List Binding) → IsInterned left.sites (MakeSome value) id new → AreDistinct new
      → IsOwnOf name facts true typed new left.has left.same left.impure id
  own_partial id new put new_once =
      let rows = rows_of name left.sites in let longer = rows_of name new in
      let placed : IsPut rows (row_of name (MakeSome value)) id.0 longer = put_of name injective left.sites (MakeSome value) id new put in
      let grown = put_grown rows (row_of name (MakeSome value)) id.0 longer placed in
      let site = site_of facts (vars_of facts typed) (word_of facts typed.right) in
      let result : At longer (make_some site) id.0 =
      (value.0, put_there rows (row_of name (MakeSome value)) id.0 longer placed, at_grown rows longer grown site value.0 built.result) in
      let more : Adds [] (needs_of facts typed ++ make_some site ∷ []) longer =
      next longer (make_some site) (row_of name (MakeSome value)) id.0 built.sites (value.0, refl, built.result) placed in
      let ok : IsTable new = record {
        earlier = parts_before name new (stands_before (needs_of facts typed ++ make_some site ∷ []) longer more);
        once = new_once;
      } in
      let recorded = recorded_grown rows longer (constraints_of name left.has) (pairs_of left.same) (demands_of facts typed) grown built.demands in
      let needed : (s : Site) → IsNeeded (needs_of facts typed) s → Stands longer s =
      λ s n. let (k, p) = all_needed s n in (k, at_grown rows longer grown s k p) in
      record {
        ready = ready_of_recorded name injective facts typed new left.has left.same ok recorded needed;
        recorded = recorded;
        needed = needed;
        only = λ s (k, p).
            let (t, n, q) = stands_for (needs_of facts typed ++ make_some site ∷ []) longer more k (at_within longer s k p) in
            needed_or_last (needs_of facts typed) s (make_some site)
            (subst (λ (z : Site). IsNeeded (needs_of facts typed ++ make_some site ∷ []) z) (one_site longer t s k q p) n);
        value = result;
        effects = each_grown name rows longer grown left.impure (impure_of facts typed) built.impure;
        order = more;
      }

  -- where no number is left for the option of its value, the rule has no room
  pub alone_partial : IsFull left.sites (MakeSome value) → HasNoRoomAlone facts true typed
  alone_partial full room =
      let rows = rows_of name left.sites in let many = full.1 in
      let table = room.table in let small : length room.table ≤ 65536 = room.few in
      let site = site_of facts (vars_of facts typed) (word_of facts typed.right) in
      let absent = absent_of name injective left.sites (MakeSome value) full.0 in
      let once_there = stands_once (needs_of facts typed) rows built.sites in
      let missing : (k : ℕ) → At rows (make_some site) k → ⊥ =
      λ k (j, is, at). let same : j ≡ value.0 = site_once rows once_there site j value.0 at built.result in
      absent k (is ∙ ap (λ (z : ℕ). Some (make_some_row z)) same) in
      no_more name injective left.sites left_ok (make_some site) missing table (omega arith) (λ k s p. room.needed s (only_needed s k p)) room.result

module _ (name : Sym → List ℕ) (facts : TermFacts) (partial : Bool) (typed : TypedRule) (base own table : List Binding)
    (has : List (BindingId × Constraint)) (same : List (BindingId × BindingId)) (impure : List BindingId) (result : BindingId)
    (is : IsOwnOf name facts partial typed own has same impure result) where
  calls_of : (rows : List Row) (ids : List BindingId) → AreNumbersOf rows (λ s. Stands (rows_of name own) (iterator s)) ids
      → AreNumbersOf rows (IsMultiCall facts partial typed) ids
  calls_of rows ids are = record {
    numbered = λ id among. let (s, stands, at) = are.numbered id among in (s, is.only (iterator s) stands, at);
    all = λ s call. are.all s (elim call [
      | inl needed ↦ is.needed (iterator s) needed
      | inr e ↦ (result.0, subst (λ (z : Site). At (rows_of name own) z result.0) (sym e) is.value)
    ]);
    ascending = are.ascending;
  }

  -- the rule's own sites are room enough alone
  room_alone : length own ≤ 65536 → HasRoomAlone facts partial typed
  room_alone few = record {
    table = rows_of name own;
    few = subst (λ (n : ℕ). n ≤ 65536) (sym (length-map own (row_of name))) few;
    needed = is.needed;
    result = (result.0, is.value);
  }

  -- what is assembled of a rule's own sites is the rule
  pub added_of : length own ≤ 65536 → (made : Option Rule) → IsAssembled name (demands_of facts typed) base own impure result table made
      → IsAdded name facts partial typed base table made
  added_of few None h = (h.0, room_alone few, h.1)
  added_of few (Some rule) h = record {
    reachable = h.reachable;
    closed = h.closed;
    calls = calls_of (rows_of name table) rule.iterators h.calls;
    kept = h.kept;
    needed = λ s n. h.own_stand s (is.needed s n);
    fields = h.fields;
    explained = λ s st. elim (h.explained s st) [
      | inl x ↦ inl x
      | inr y ↦ elim y [
        | inl x ↦ elim (is.only s x) [ inl n ↦ inr (inl n) | inr e ↦ inr (inr (inl e)) ]
        | inr f ↦ inr (inr (inr f))
      ]
    ];
    value = h.value (result_of facts partial typed) is.value;
    effects = h.effects (impure_of facts typed) is.effects;
    order = h.order (needs_in_order facts partial typed) is.order;
  }

  -- where the own sites have no room beside a table's, the rule has none
  pub beside_of : HasNoRoomFor name (demands_of facts typed) base own → HasNoRoomBeside name facts partial typed base
  beside_of full table small old needed made fields =
      full table small old
      (λ s stands. elim (is.only s stands) [ inl n ↦ needed s n | inr e ↦ subst (λ (z : Site). Stands table z) (sym e) made ]) fields
