-- A rule's own sites in the table of its rule set.
use Rattle.std.proofs.Common.{◌≡◌, ◌<◌, ◌++◌, ◌⊎◌, inl, inr, ℕ, suc, List, [], ◌∷◌, map, length, Option, Some, unwrap_or, get_or, slice_get, refl, sym, ◌∙◌, ap, subst, arith, length-append}
use Rattle.std.proofs.lemmas.List.{length-map}
use Rattle.std.specs.Prelude.{Contains}
use Rattle.std.proofs.lemmas.Bool.{cases_lt}
use Rattle.std.proofs.lemmas.Option.{slice_get-get_or, slice_get_within}
use Rattle.isle_containers.proofs.Lists.{slice_get-kept, slice_get-last}
use Rattle.isle_containers.proofs.RootedTables.{Contains-map}
use Rattle.isle_types.specs.Names.{AreDistinct}
use Rattle.isle_types.specs.declared.ids.Sym.{Sym}
use Rattle.isle_meaning.specs.Sites.{Site}
use Rattle.isle_meaning.specs.Demands.{Demand}
use Rattle.isle_meaning.specs.Numbered.{Row, At, AreRecorded}
use Rattle.isle_meaning.proofs.Matching.Numbering.{one_site}
use Rattle.isle_blocks.specs.declared.ids.BindingId.{BindingId}
use Rattle.isle_blocks.specs.declared.binding.Binding.{Binding}
use Rattle.isle_blocks.specs.declared.binding.Binding.TheVariants as sites
use Rattle.isle_blocks.specs.declared.constraint.Constraint.{Constraint}
use Rattle.isle_blocks.specs.Tables.{sources_of}
use Rattle.isle_blocks.specs.Rows.{IsInjective, row_of, rows_of, numbers_of, test_of, constraints_of, pairs_of}
use Rattle.isle_blocks.specs.Inside.RowTables as entries
use Rattle.isle_blocks.specs.Inside.RowTables.{sources}
use Rattle.isle_blocks.specs.Inside.MovedSites.{new_number, place_in, MovesSites, moved_test, moved_pair, Moves, none_moved, next_moved}
use Rattle.isle_blocks.specs.Inside.ClosureFields.{Opens, field_binding, field_site}
use Rattle.isle_blocks.specs.Tables.{IsTable}
use Rattle.isle_blocks.specs.Inside.ClosureStates.{IsReady, HasField, AreClasses, demanded_in}
use Rattle.isle_blocks.specs.Inside.Placing.{AreSettled}
use Rattle.isle_blocks.specs.Closure.{Stands, IsClosure}
use Rattle.isle_blocks.proofs.Closure.Trees.{row_get, get_row, stands, at_below, at_field, field_at, one_number}
use Rattle.isle_blocks.proofs.Closure.Demands.{of_image}
use Rattle.isle_blocks.proofs.Rows.RowsInjective.{row-injective}
use Rattle.isle_blocks.proofs.Building.Tables.{at_within}
use Rattle.isle_blocks.proofs.Rows.MovedTables.{Kept, at_moved, AreEarlier, moves_keep, moves_grow, moves_table, moved_recorded, moved_constraints, moved_pairs, as_many}
use Rattle.isle_blocks.proofs.Rows.MovedRows.{new_place, moved_rows}
use Rattle.isle_blocks.proofs.Closure.Longer.{stays, stood}

-- names that tell symbols apart
abbrev pub by_number : Sym → List ℕ
by_number sym = sym.0 ∷ []

pub by_number_injective : IsInjective by_number
by_number_injective a b e = let same : a.0 ≡ b.0 = cc in λ i. record { 0 = same i }

sources_named : (name : Sym → List ℕ) (b : Binding) → sources (row_of name b) ≡ numbers_of (sources_of b)
sources_named name (sites.ConstBool v t) = refl
sources_named name (sites.ConstInt v t) = refl
sources_named name (sites.ConstPrim v) = refl
sources_named name (sites.Argument i) = refl
sources_named name (sites.Extractor t a) = refl
sources_named name (sites.Constructor t cs n) = refl
sources_named name (sites.Iterator a) = refl
sources_named name (sites.MakeVariant t v cs) = refl
sources_named name (sites.MatchVariant a v i) = refl
sources_named name (sites.MakeStruct t cs) = refl
sources_named name (sites.ExtractStruct a i) = refl
sources_named name (sites.MakeSome a) = refl
sources_named name (sites.MatchSome a) = refl
sources_named name (sites.MatchTuple a i) = refl

module _ (name : Sym → List ℕ) (table : List Binding) where
  -- entries stand behind their parts, as sites do
  pub early_rows : IsTable table → AreEarlier (rows_of name table)
  early_rows ok k s row e c =
      let (b, at, is) = get_row name table k row e in
      let inside : Contains (numbers_of (sources_of b)) s =
      subst (λ (l : List ℕ). Contains l s) (sources_named name b) (subst (λ (r : Row). Contains (sources r) s) (sym is) c) in
      let (part, h, same) = of_image (λ (id : BindingId). id.0) (sources_of b) s inside in
      subst (λ (z : ℕ). z < k) same (ok.earlier k b part at h)

  pub rows_table : IsInjective name → IsTable table → entries.IsTable (rows_of name table)
  rows_table injective ok = record {
    earlier = early_rows ok;
    once = λ j k row p q.
        let (a, e, r) = get_row name table j row p in let (b, f, s) = get_row name table k row q in
        ok.once a j k e (f ∙ ap Some (row-injective name injective b a (s ∙ sym r)));
  }

  pub table_rows : entries.IsTable (rows_of name table) → IsTable table
  table_rows ok = record {
    earlier = λ k b part e c.
        ok.earlier k part.0 (row_of name b) (row_get name table k b e)
        (subst (λ (l : List ℕ). Contains l part.0) (sym (sources_named name b)) (Contains-map (λ (id : BindingId). id.0) (sources_of b) part c));
    once = λ b j k p q. ok.once j k (row_of name b) (row_get name table j b p) (row_get name table k b q);
  }

-- moved tests and pairs are recorded with their new numbers
constraints_moved : (name : Sym → List ℕ) (ids : List BindingId) (has : List (BindingId × Constraint))
    → constraints_of name (map (moved_test (new_number ids)) has) ≡ moved_constraints (place_in (numbers_of ids)) (constraints_of name has)
constraints_moved name ids [] = refl
constraints_moved name ids (x ∷ xs) =
    let p = new_place ids x.0 in let q = constraints_moved name ids xs in λ i. (p i, test_of name x.1) ∷ q i

pairs_moved : (ids : List BindingId) (same : List (BindingId × BindingId))
    → pairs_of (map (moved_pair (new_number ids)) same) ≡ moved_pairs (place_in (numbers_of ids)) (pairs_of same)
pairs_moved ids [] = refl
pairs_moved ids (x ∷ xs) =
    let p = new_place ids x.0 in let r = new_place ids x.1 in let q = pairs_moved ids xs in λ i. (p i, r i) ∷ q i

length_pushed : {X : Type 0} (xs : List X) (x : X) → length (xs ++ x ∷ []) ≡ suc (length xs)
length_pushed xs x = simp length-append (omega arith)

longer : (own : List Row) (row : Row) (j : ℕ) → j < length own → j < length (own ++ row ∷ [])
longer own row j h = let l = length_pushed own row in omega arith

place_old : (numbers : List ℕ) (n j : ℕ) → j < length numbers → place_in (numbers ++ n ∷ []) j ≡ place_in numbers j
place_old numbers n j h = rw (slice_get-kept numbers (n ∷ []) j (get_or numbers j 0) (slice_get-get_or numbers j 0 h))
    (rw (slice_get-get_or numbers j 0 h) refl)

pub place_new : (numbers : List ℕ) (n : ℕ) → place_in (numbers ++ n ∷ []) (length numbers) ≡ n
place_new numbers n = rw (slice_get-last numbers n) refl

-- each number of the table was there, or is that of a moved entry
pub covered : {base own after : List Row} {numbers : List ℕ} → Moves base own numbers after → (k : ℕ) → k < length after
    → (k < length base) ⊎ ((j : ℕ) × (j < length own) × (place_in numbers j ≡ k))
covered none_moved k h = inl h
covered {base = base} (next_moved {own = own} {numbers = numbers} {table = table} row n after m (inl (there, e))) k h =
    elim (covered m k (subst (λ (l : List Row). k < length l) e h)) [
      | inl l ↦ inl l
      | inr (j, l, at) ↦ inr (j, longer own row j l, place_old numbers n j (let c = as_many m in omega arith) ∙ at)
    ]
covered {base = base} (next_moved {own = own} {numbers = numbers} {table = table} row n after m (inr (absent, last, e))) k h =
    let len : length after ≡ suc (length table) = ap length e ∙ length_pushed table _ in
    elim (cases_lt k (length table)) [
      | inl less ↦ elim (covered m k less) [
        | inl l ↦ inl l
        | inr (j, l, at) ↦ inr (j, longer own row j l, place_old numbers n j (let c = as_many m in omega arith) ∙ at)
      ]
      | inr more ↦ inr (
        length own,
        let l = length_pushed own row in omega arith,
        ap (place_in (numbers ++ n ∷ [])) (sym (as_many m)) ∙ place_new numbers n ∙ (let a : n ≡ k = omega arith in a),
      )
    ]

module _ (base own after : List Binding) (numbers : List BindingId) (moves : MovesSites base own numbers after)
    (base_ok : IsTable base) (own_ok : IsTable own)
    (name : Sym → List ℕ) (injective : IsInjective name) where
  to : ℕ → ℕ
  to = place_in (numbers_of numbers)

  kept : Kept (rows_of name own) (place_in (numbers_of numbers)) (rows_of name after)
  kept = moves_keep (early_rows name own own_ok) (moved_rows name injective moves)

  pub after_ok : IsTable after
  after_ok = table_rows name after (moves_table (early_rows name own own_ok) (rows_table name base injective base_ok)
      (moved_rows name injective moves))

  -- a site's new number stands for it
  pub to_at : (s : Site) (k : ℕ) → At (rows_of name own) s k → At (rows_of name after) s (place_in (numbers_of numbers) k)
  to_at = at_moved (rows_of name own) (rows_of name after) (place_in (numbers_of numbers)) kept

  -- the site of a number
  pub numbered_at : (s : Site) (k : ℕ) (id : BindingId) → slice_get numbers k ≡ Some id → At (rows_of name own) s k → At (rows_of name after) s id.0
  numbered_at s k id at p =
      let here : place_in (numbers_of numbers) k ≡ id.0 = sym (new_place numbers (record { 0 = k })) ∙ ap
      (λ (o : Option BindingId). (unwrap_or o (record { 0 = k })).0) at in
      subst (λ (z : ℕ). At (rows_of name after) s z) here (to_at s k p)

  pub numbers_fit : length numbers ≡ length own
  numbers_fit = sym (length-map numbers (λ (x : BindingId). x.0)) ∙ as_many (moved_rows name injective moves) ∙ length-map own (row_of name)

  -- no two sites have got one number
  pub numbers_once : AreDistinct numbers
  numbers_once id j k e f =
      let same = numbers_fit in
      let inside = slice_get_within numbers j id e in
      let other = slice_get_within numbers k id f in
      let (s, p) = stands name own own_ok j (omega (arith, same, inside)) in
      let (u, q) = stands name own own_ok k (omega (arith, same, other)) in
      let one : s ≡ u = one_site (rows_of name after) s u id.0 (numbered_at s j id e p) (numbered_at u k id f q) in
      one_number name own injective own_ok u j k (subst (λ (z : Site). At (rows_of name own) z j) one p) q

  -- demands stay recorded
  pub still_recorded : (has : List (BindingId × Constraint)) (same : List (BindingId × BindingId)) (ds : List Demand)
      → AreRecorded (rows_of name own) (constraints_of name has) (pairs_of same) ds
      → AreRecorded (rows_of name after) (constraints_of name (map (moved_test (new_number numbers)) has))
      (pairs_of (map (moved_pair (new_number numbers)) same)) ds
  still_recorded has same ds are =
      let moved = moved_recorded (rows_of name own) (rows_of name after) (place_in (numbers_of numbers)) (constraints_of name has)
      (pairs_of same) ds kept are in
      subst (λ z. AreRecorded (rows_of name after) z (pairs_of (map (moved_pair (new_number numbers)) same)) ds)
      (sym (constraints_moved name numbers has))
      (subst (λ z. AreRecorded (rows_of name after) (moved_constraints (place_in (numbers_of numbers)) (constraints_of name has)) z ds)
      (sym (pairs_moved numbers same)) moved)

  new_at : (id : BindingId) → id.0 < length own → (s : Site) × At (rows_of name own) s id.0 × At (rows_of name after) s (new_number numbers id).0
  new_at id h =
      let (s, p) = stands name own own_ok id.0 h in
      (s, p, subst (λ (z : ℕ). At (rows_of name after) s z) (sym (new_place numbers id)) (to_at s id.0 p))

  new_below : (id : BindingId) → id.0 < length own → (new_number numbers id).0 < length after
  new_below id h = let (s, p, q) = new_at id h in at_below name after s (new_number numbers id).0 q

  module _ (has : List (BindingId × Constraint)) (same : List (BindingId × BindingId)) (ready : IsReady own has same) where
    field_moved : (a : BindingId) (c : Constraint) (kind : Option ℕ) (i : ℕ) → Contains has (a, c) → Opens c kind i
        → HasField after kind (new_number numbers a).0 i
    field_moved a c kind i h opens =
        let (f, e) = ready.fields a c kind i h opens in
        let (s, p, q) = new_at a (ready.constrained a c h) in
        let r = to_at (field_site kind s i) f (field_at name own kind a.0 i f s e p) in
        let (b, e', q') = at_field name after injective kind s i (place_in (numbers_of numbers) f) r in
        let same_b : b ≡ (new_number numbers a).0 = one_number name after injective after_ok s b (new_number numbers a).0 q' q in (
          place_in (numbers_of numbers) f,
          subst (λ (z : ℕ). slice_get after (place_in (numbers_of numbers) f) ≡ Some (field_binding kind z i)) same_b e',
        )

    pub still_ready : IsReady after (map (moved_test (new_number numbers)) has) (map (moved_pair (new_number numbers)) same)
    still_ready = record {
      sites = after_ok;
      constrained = λ a c h.
          let (p, inside, e) = of_image (moved_test (new_number numbers)) has (a, c) h in
          let at : new_number numbers p.0 ≡ a = ap (λ (q : BindingId × Constraint). q.0) e in
          subst (λ (z : BindingId). z.0 < length after) at (new_below p.0 (ready.constrained p.0 p.1 inside));
      one = λ a b h.
          let (p, inside, e) = of_image (moved_pair (new_number numbers)) same (a, b) h in
          let at : new_number numbers p.0 ≡ a = ap (λ (q : BindingId × BindingId). q.0) e in
          subst (λ (z : BindingId). z.0 < length after) at (new_below p.0 (ready.one p.0 p.1 inside));
      other = λ a b h.
          let (p, inside, e) = of_image (moved_pair (new_number numbers)) same (a, b) h in
          let at : new_number numbers p.1 ≡ b = ap (λ (q : BindingId × BindingId). q.1) e in
          subst (λ (z : BindingId). z.0 < length after) at (new_below p.1 (ready.other p.0 p.1 inside));
      fields = λ a c kind i h opens.
          let (p, inside, e) = of_image (moved_test (new_number numbers)) has (a, c) h in
          let at : new_number numbers p.0 ≡ a = ap (λ (q : BindingId × Constraint). q.0) e in
          let test : p.1 ≡ c = ap (λ (q : BindingId × Constraint). q.1) e in
          subst (λ (z : BindingId). HasField after kind z.0 i) at
          (field_moved p.0 p.1 kind i inside (subst (λ (x : Constraint). Opens x kind i) (sym test) opens));
    }

  pub grown : (k : ℕ) (b : Binding) → slice_get base k ≡ Some b → slice_get after k ≡ Some b
  grown k b e =
      let (x, p, same) = get_row name after k (row_of name b)
      (moves_grow (moved_rows name injective moves) k (row_of name b) (row_get name base k b e)) in
      p ∙ ap Some (row-injective name injective x b same)

  -- what stood in the table stands there
  pub still_stands : (s : Site) (k : ℕ) → At (rows_of name base) s k → At (rows_of name after) s k
  still_stands = stays name base after grown

  stood_before : (s : Site) (k : ℕ) → At (rows_of name after) s k → k < length base → At (rows_of name base) s k
  stood_before = stood name base after grown base_ok

  -- every site of the table stood there, or is one of the rule's own
  pub all_known : (s : Site) (k : ℕ) → At (rows_of name after) s k → Stands (rows_of name base) s ⊎ Stands (rows_of name own) s
  all_known s k p = elim (covered (moved_rows name injective moves) k (at_within (rows_of name after) s k p)) [
    | inl l ↦ inl (k, stood_before s k p (let e = length-map base (row_of name) in omega arith))
    | inr (j, l, at) ↦
        let (t, q) = stands name own own_ok j (let e = length-map own (row_of name) in omega arith) in
        let r = subst (λ (z : ℕ). At (rows_of name after) t z) at (to_at t j q) in
        inr (j, subst (λ (z : Site). At (rows_of name own) z j) (one_site (rows_of name after) t s k r p) q)
  ]

-- each of the rule's sites has a number of its own, a test and a representative
pub settled : (base own grown table : List Binding) (numbers : List BindingId) (has : List (BindingId × Constraint))
    (same : List (BindingId × BindingId))
    (each : List (Option Constraint)) (class : List ℕ) → MovesSites base grown numbers table → IsTable base
    → IsClosure by_number (demanded_in by_number own has (pairs_of same)) own grown each class → AreSettled numbers each class
settled base own grown table numbers has same each class moved base_ok closure =
    let fits = numbers_fit base grown table numbers moved base_ok closure.sites by_number by_number_injective in
    record {
      once = numbers_once base grown table numbers moved base_ok closure.sites by_number by_number_injective;
      fits = closure.each_fits ∙ sym fits;
      classes = subst (λ (n : ℕ). AreClasses n class) (sym fits) closure.classes;
      tests = closure.class_tests;
    }
