-- Where a rule isn't placed for want of room, no table has room for it.
use Rattle.std.proofs.Common.{◌≡◌, ◌<◌, ◌≤◌, ◌++◌, ◌+◌, ◌⊎◌, inl, inr, Option, ℕ, List, [], ◌∷◌, length, Some, take, slice_get, refl, sym, ◌∙◌, ap, subst, arith, length-append, length-take-le}
use Rattle.isle_containers.proofs.Lists.{from_take, slice_get-kept}
use Rattle.std.proofs.lemmas.Option.{slice_get_within, get_or_from_slice_get}
use Rattle.std.proofs.lemmas.List.{length-map, map-append}
use Rattle.isle_types.proofs.DefinitionTurns.{take_here}
use Rattle.isle_types.specs.declared.ids.Sym.{Sym}
use Rattle.isle_meaning.specs.Sites.{Site}
use Rattle.isle_meaning.specs.Demands.{Demand, constrained, Among, variant_constraint, struct_constraint}
use Rattle.isle_meaning.specs.Derived.{FieldOf, of_variant, of_struct}
use Rattle.isle_meaning.specs.Faults.{IsUnreachable}
use Rattle.isle_meaning.specs.Numbered.{Row, At, AreRecorded}
use Rattle.std.proofs.lemmas.Bool.{cases_lt}
use Rattle.isle_meaning.proofs.Matching.Numbering.{numbers_say_demands, one_site}
use Rattle.isle_blocks.specs.declared.ids.BindingId.{BindingId}
use Rattle.isle_blocks.specs.declared.binding.Binding.{Binding}
use Rattle.isle_blocks.specs.declared.constraint.Constraint.{Constraint}
use Rattle.isle_blocks.specs.Rows.{IsInjective, row_of, rows_of, numbers_of, constraints_of, pairs_of}
use Rattle.isle_blocks.specs.Tables.{IsInterned}
use Rattle.isle_blocks.specs.Inside.MovedSites.{new_number, renumbered, place_in, MovesSites, no_sites_moved, next_site_moved, EndsFull}
use Rattle.isle_blocks.specs.Tables.{IsTable}
use Rattle.isle_blocks.specs.Inside.ClosureStates.{demanded_in}
use Rattle.isle_blocks.specs.Closure.{Stands, HasNoRoom, IsClosure}
use Rattle.isle_blocks.specs.Inside.Placing.{HasNoRoomFor, GrowsFor}
use Rattle.isle_blocks.proofs.Closure.Trees.{stands, at_below, one_number}
use Rattle.isle_blocks.proofs.Closure.Longer.{stays, stood}
use Rattle.isle_blocks.proofs.Rows.MovedTables.{as_many}
use Rattle.isle_blocks.proofs.Rows.MovedRows.{moved_rows}
use Rattle.isle_blocks.proofs.Rows.FullTables.{no_more}
use Rattle.isle_blocks.proofs.Rows.Placed.{after_ok, to_at, all_known, grown, place_new, still_stands}

-- what is recorded says the demands
module _ (name : Sym → List ℕ) (table : List Binding) (has : List (BindingId × Constraint)) (same : List (BindingId × BindingId)) (ds : List Demand)
    (are : AreRecorded (rows_of name table) (constraints_of name has) (pairs_of same) ds) where
  pub dead_recorded : IsUnreachable (demanded_in name table has (pairs_of same)) → IsUnreachable (Among ds)
  dead_recorded = (numbers_say_demands (rows_of name table) (constraints_of name has) (pairs_of same) ds are).1.0

  pub recorded_dead : IsUnreachable (Among ds) → IsUnreachable (demanded_in name table has (pairs_of same))
  recorded_dead = (numbers_say_demands (rows_of name table) (constraints_of name has) (pairs_of same) ds are).1.1

  pub field_recorded : (s u : Site) → FieldOf (demanded_in name table has (pairs_of same)) s u → FieldOf (Among ds) s u
  field_recorded s u (of_variant {ty = ty} {k = k} {n = n} d l) =
      of_variant (((numbers_say_demands (rows_of name table) (constraints_of name has) (pairs_of same) ds are).0
      (constrained s (variant_constraint ty k n))).0 d) l
  field_recorded s u (of_struct {ty = ty} {n = n} d l) =
      of_struct (((numbers_say_demands (rows_of name table) (constraints_of name has) (pairs_of same) ds are).0
      (constrained s (struct_constraint ty n))).0 d) l

  pub recorded_field : (s u : Site) → FieldOf (Among ds) s u → FieldOf (demanded_in name table has (pairs_of same)) s u
  recorded_field s u (of_variant {ty = ty} {k = k} {n = n} d l) =
      of_variant (((numbers_say_demands (rows_of name table) (constraints_of name has) (pairs_of same) ds are).0
      (constrained s (variant_constraint ty k n))).1 d) l
  recorded_field s u (of_struct {ty = ty} {n = n} d l) =
      of_struct (((numbers_say_demands (rows_of name table) (constraints_of name has) (pairs_of same) ds are).0
      (constrained s (struct_constraint ty n))).1 d) l

-- the beginning of a table is one
prefix_ok : (own : List Binding) → IsTable own → (n : ℕ) → IsTable (take n own)
prefix_ok own ok n = record {
  earlier = λ k site part e c. ok.earlier k site part (from_take own n k site e) c;
  once = λ site j k p q. ok.once site j k (from_take own n j site p) (from_take own n k site q);
}

-- a site that is put behind a table has no number in it
placed_last : (base first after : List Binding) (numbers : List BindingId) → MovesSites base first numbers after
    → (site : Binding) (more : List Binding)
    (id : BindingId) → MovesSites base (first ++ site ∷ []) (numbers ++ id ∷ []) more
    → (base_ok : IsTable base) (second_ok : IsTable (first ++ site ∷ []))
    (name : Sym → List ℕ) → IsInjective name → (t : Site) (k place : ℕ) → length first ≡ place → id.0 ≡ length after
    → At (rows_of name (first ++ site ∷ [])) t place → At (rows_of name more) t k → k < length after → ⊥
placed_last base first after numbers moves site more id moved base_ok second_ok name injective t k place len last at p low =
    let ids = numbers_of numbers in
    let many : length ids ≡ place = as_many (moved_rows name injective moves) ∙ length-map first (row_of name) ∙ len in
    let to : place_in (numbers_of (numbers ++ id ∷ [])) place ≡ id.0 =
    ap (λ (l : List ℕ). place_in l place) (map-append (λ (x : BindingId). x.0) numbers (id ∷ []))
    ∙ ap (place_in (ids ++ id.0 ∷ [])) (sym many) ∙ place_new ids id.0 in
    let q = to_at base (first ++ site ∷ []) more (numbers ++ id ∷ []) moved base_ok second_ok name injective t place at in
    let ok = after_ok base (first ++ site ∷ []) more (numbers ++ id ∷ []) moved base_ok second_ok name injective in
    let same : k ≡ place_in (numbers_of (numbers ++ id ∷ [])) place =
    one_number name more injective ok t k (place_in (numbers_of (numbers ++ id ∷ [])) place) p q in
    omega arith

-- the sites before the last are a table
before_ok : (own : List Binding) (site : Binding) → IsTable (own ++ site ∷ []) → IsTable own
before_ok own site ok = record {
  earlier = λ k b part e c. ok.earlier k b part (slice_get-kept own (site ∷ []) k b e) c;
  once = λ b j k p q. ok.once b j k (slice_get-kept own (site ∷ []) j b p) (slice_get-kept own (site ∷ []) k b q);
}

-- a table stays where all sites that are moved into it stand there
pub stays_put : (name : Sym → List ℕ) (injective : IsInjective name) (base own after : List Binding) (numbers : List BindingId)
    → MovesSites base own numbers after → IsTable base → IsTable own
    → ((s : Site) (k : ℕ) → At (rows_of name own) s k → Stands (rows_of name base) s) → after ≡ base
stays_put name injective base own after numbers no_sites_moved base_ok own_ok there = refl
stays_put name injective base own after numbers (next_site_moved {own = first} {numbers = ids} {table = before} site id more moves put)
    base_ok own_ok there =
    let first_ok = before_ok first site own_ok in
    let same : before ≡ base = stays_put name injective base first before ids moves base_ok first_ok
    (λ s k p. there s k (stays name first (first ++ site ∷ []) (λ i b e. slice_get-kept first (site ∷ []) i b e) s k p)) in
    elim put [
      | inl (found, e) ↦ e ∙ same
      | inr (absent, last, e) ↦
          let (t, at) = stands name (first ++ site ∷ []) own_ok (length first) (simp length-append (omega arith)) in
          let (k, p) = there t (length first) at in
          let moved : MovesSites base (first ++ site ∷ []) (ids ++ id ∷ []) after = next_site_moved site id after moves (inr (absent, last, e)) in
          let q = still_stands base (first ++ site ∷ []) after (ids ++ id ∷ []) moved base_ok own_ok name injective t k p in
          absurd (placed_last base first before ids moves site after id moved base_ok own_ok name injective t k (length first) refl last at q
          (subst (λ (l : List Binding). k < length l) (sym same) (at_below name base t k p)))
    ]

module _ (base own : List Binding) (base_ok : IsTable base) (own_ok : IsTable own) (name : Sym → List ℕ) (injective : IsInjective name)
    (ds : List Demand) where
  -- what the closed table has no room for
  pub closing_lacks_room : (after : List Binding) (numbers : List BindingId) → MovesSites base own numbers after
      → (has : List (BindingId × Constraint))
      (same : List (BindingId × BindingId)) → AreRecorded (rows_of name after) (constraints_of name has) (pairs_of same) ds
      → HasNoRoom (demanded_in name after has (pairs_of same)) (rows_of name after) → HasNoRoomFor name ds base own
  closing_lacks_room after numbers moves has same are lacks rows fits has_base has_own has_fields =
      lacks rows fits
      (λ s (k, p). elim (all_known base own after numbers moves base_ok own_ok name injective s k p) [ inl x ↦ has_base s x | inr x ↦ has_own s x ])
      (λ s u f. has_fields s u (field_recorded name after has same ds are s u f))

  -- what the moved sites have no room for
  pub moving_lacks_room : (after : List Binding) → EndsFull base own after → (table : List Row) → length table ≤ 65536
      → ((s : Site) → Stands (rows_of name base) s → Stands table s) → ((s : Site) → Stands (rows_of name own) s → Stands table s) → ⊥
  moving_lacks_room after ends rows fits has_base has_own =
      let first = take ends.place own in
      let first_ok = prefix_ok own own_ok ends.place in
      let moves : MovesSites base first ends.numbers after = ends.moved in
      let ok = after_ok base first after ends.numbers moves base_ok first_ok name injective in
      let inside = slice_get_within own ends.place ends.site ends.at in
      let here : take (ends.place + 1) own ≡ first ++ ends.site ∷ [] =
      take_here own ends.place ends.site inside (sym (get_or_from_slice_get own ends.place ends.site ends.site ends.at)) in
      let (t, at_t) = stands name own own_ok ends.place inside in
      let more = after ++ renumbered (new_number ends.numbers) ends.site ∷ [] in
      let id : BindingId = record { 0 = length after } in
      let put : IsInterned after (renumbered (new_number ends.numbers) ends.site) id more = inr (ends.full.0, refl, refl) in
      let moved : MovesSites base (first ++ ends.site ∷ []) (ends.numbers ++ id ∷ []) more = next_site_moved ends.site id more moves put in
      let second_ok : IsTable (first ++ ends.site ∷ []) = subst IsTable here (prefix_ok own own_ok (ends.place + 1)) in
      let missing : (k : ℕ) → At (rows_of name after) t k → ⊥ = λ k p. placed_last base first after ends.numbers
      moves ends.site more id moved base_ok second_ok name injective t k ends.place
      (length-take-le ends.place own (omega arith)) refl
      (stood name (first ++ ends.site ∷ []) own (λ i b e. from_take own (ends.place + 1) i b
      (subst (λ (l : List Binding). slice_get l i ≡ Some b) (sym here) e))
      second_ok t ends.place at_t (let l = length-take-le ends.place own (omega arith) in simp length-append (omega arith)))
      (stays name after more (λ i b e. slice_get-kept after (renumbered (new_number ends.numbers) ends.site ∷ []) i b e) t k p)
      (at_below name after t k p) in
      no_more name injective after ok t missing rows (subst (λ (n : ℕ). length rows ≤ n) (sym ends.full.1) fits)
      (λ k s p. elim (all_known base first after ends.numbers moves base_ok first_ok name injective s k p) [
        | inl x ↦ has_base s x
        | inr (j, q) ↦ has_own s (j, stays name first own (λ i b e. from_take own ends.place i b e) s j q)
      ])
      (has_own t (ends.place, at_t))

module _ (base own : List Binding) (base_ok : IsTable base) (own_ok : IsTable own) (name : Sym → List ℕ) (injective : IsInjective name)
    (ds : List Demand)
    (has : List (BindingId × Constraint)) (same : List (BindingId × BindingId))
    (are : AreRecorded (rows_of name own) (constraints_of name has) (pairs_of same) ds) where
  -- what the rule's own fields have no room for
  pub own_lacks_room : HasNoRoom (demanded_in name own has (pairs_of same)) (rows_of name own) → HasNoRoomFor name ds base own
  own_lacks_room lacks rows fits has_base has_own has_fields =
      lacks rows fits has_own (λ s u f. has_fields s u (field_recorded name own has same ds are s u f))

  -- a site of the closed table is the rule's own, or a field that its demands open
  pub grown_site : (grown : List Binding) (each : List (Option Constraint)) (class : List ℕ)
      → IsClosure name (demanded_in name own has (pairs_of same)) own grown each class → (s : Site) (k : ℕ) → At (rows_of name grown) s k
      → Stands (rows_of name own) s ⊎ ((t : Site) × FieldOf (Among ds) t s)
  grown_site grown each class closure s k p = elim (cases_lt k (length own)) [
    | inl less ↦ inl (k, stood name own grown closure.kept own_ok s k p less)
    | inr more ↦
        let (t, u, f, q) = closure.added k more (at_below name grown s k p) in
        let one : u ≡ s = one_site (rows_of name grown) u s k q p in
        inr (t, subst (λ (z : Site). FieldOf (Among ds) t z) one (field_recorded name own has same ds are t u f))
  ]

  -- what its closed table's sites have no room for
  pub grown_lacks_room : (grown : List Binding) (each : List (Option Constraint)) (class : List ℕ)
      → IsClosure name (demanded_in name own has (pairs_of same)) own grown each class → (between : List Binding) → GrowsFor name ds base own between
      → (after : List Binding) → EndsFull between grown after → HasNoRoomFor name ds base own
  grown_lacks_room grown each class closure between opened after ends rows fits has_base has_own has_fields =
      moving_lacks_room between grown opened.sites closure.sites name injective ds after ends rows fits
      (λ s stands. elim (opened.explained s stands) [ inl x ↦ has_base s x | inr (inl x) ↦ has_own s x | inr (inr (t, f)) ↦ has_fields t s f ])
      (λ s (k, p). elim (grown_site grown each class closure s k p) [ inl x ↦ has_own s x | inr (t, f) ↦ has_fields t s f ])

-- a table closed over a rule's sites has grown by these and by fields alone
pub closed_grows : (name : Sym → List ℕ) (injective : IsInjective name) (ds : List Demand) (base own between table : List Binding)
    (numbers : List BindingId)
    (has : List (BindingId × Constraint)) (same : List (BindingId × BindingId)) (each : List (Option Constraint)) (class : List ℕ)
    → MovesSites base own numbers between → IsTable base → IsTable own → AreRecorded (rows_of name between)
    (constraints_of name has) (pairs_of same) ds
    → IsClosure name (demanded_in name between has (pairs_of same)) between table each class → GrowsFor name ds base own table
closed_grows name injective ds base own between table numbers has same each class moved base_ok own_ok recorded closure = record {
  sites = closure.sites;
  kept = λ k b e. closure.kept k b (grown base own between numbers moved base_ok own_ok name injective k b e);
  explained = λ s (k, q). elim (cases_lt k (length between)) [
    | inl less ↦
        let mid_ok = after_ok base own between numbers moved base_ok own_ok name injective in
        elim (all_known base own between numbers moved base_ok own_ok name injective s k (stood name between table closure.kept mid_ok s k q less)) [
          | inl x ↦ inl x
          | inr x ↦ inr (inl x)
        ]
    | inr more ↦
        let (t, u, f, r) = closure.added k more (at_below name table s k q) in
        let one : u ≡ s = one_site (rows_of name table) u s k r q in
        inr (inr (t, subst (λ (z : Site). FieldOf (Among ds) t z) one (field_recorded name between has same ds recorded t u f)))
  ];
}

-- a table into which a rule's sites are moved has grown by these alone
pub moved_grows : (name : Sym → List ℕ) (injective : IsInjective name) (ds : List Demand) (base own between : List Binding) (numbers : List BindingId)
    → MovesSites base own numbers between → IsTable base → IsTable own → GrowsFor name ds base own between
moved_grows name injective ds base own between numbers moved base_ok own_ok = record {
  sites = after_ok base own between numbers moved base_ok own_ok name injective;
  kept = grown base own between numbers moved base_ok own_ok name injective;
  explained = λ s (k, q). elim (all_known base own between numbers moved base_ok own_ok name injective s k q) [ inl x ↦ inl x | inr x ↦ inr (inl x) ];
}
