-- Numbers and the sites that they stand for.
use Rattle.std.proofs.Common.{◌≡◌, ◌<◌, ℕ, zero, suc, inl, inr, List, [], ◌∷◌, length, Option, Some, None, slice_get, refl, sym, ◌∙◌, ap, subst, arith}
use Rattle.std.specs.Prelude.{Contains}
use Rattle.std.specs.Option.{option_map}
use Rattle.std.proofs.lemmas.Option.{same_Some, none-some, slice_get_within, slice_get_cases, slice_get-map}
use Rattle.isle_types.specs.declared.ids.Sym.{Sym}
use Rattle.isle_meaning.specs.Sites.{Site, bool_site, int_site, prim_site, argument, extractor_call, constructor_call, iterator}
use Rattle.isle_meaning.specs.Sites.{make_variant, match_variant, make_struct, extract_struct, make_some, match_some, match_tuple}
use Rattle.isle_meaning.specs.Sites.{Sites, no_sites, more_sites}
use Rattle.isle_meaning.specs.Numbered.{Row, bool_row, int_row, prim_row, argument_row, extractor_row, constructor_row, iterator_row}
use Rattle.isle_meaning.specs.Numbered.{make_variant_row, match_variant_row, make_struct_row, extract_struct_row, make_some_row}
use Rattle.isle_meaning.specs.Numbered.{match_some_row, match_tuple_row, At, AtAll}
use Rattle.isle_types.specs.declared.ids.VariantId.{VariantId}
use Rattle.isle_blocks.specs.declared.ids.BindingId.{BindingId}
use Rattle.isle_blocks.specs.declared.ids.TupleIndex.{TupleIndex}
use Rattle.isle_blocks.specs.declared.binding.Binding.{Binding}
use Rattle.isle_blocks.specs.declared.binding.Binding.TheVariants as sites
use Rattle.isle_blocks.specs.Tables.{sources_of}
use Rattle.isle_blocks.specs.Rows.{IsInjective, numbers_of, row_of, rows_of}
use Rattle.isle_blocks.specs.Inside.ClosureFields.{field_binding, field_site}
use Rattle.isle_blocks.specs.Tables.{IsTable}
use Rattle.isle_blocks.proofs.Rows.RowsInjective.{row-injective}

pub field_parts : (kind : Option ℕ) (s i : ℕ) (other : Option ℕ) (t j : ℕ) → field_binding kind s i ≡ field_binding other t j
    → (s ≡ t) × (kind ≡ other) × (i ≡ j)
field_parts (Some v) s i (Some w) t j e =
    let p : ◌≡◌ {A = BindingId} (record { 0 = s }) (record { 0 = t }) = cc in let q : ◌≡◌ {A = VariantId}
    (record { 0 = v }) (record { 0 = w }) = cc in
    let r : ◌≡◌ {A = TupleIndex} (record { 0 = i }) (record { 0 = j }) = cc in
    (ap (λ (x : BindingId). x.0) p, ap (λ (x : VariantId). Some x.0) q, ap (λ (x : TupleIndex). x.0) r)
field_parts (Some v) s i None t j e = absurd cc
field_parts None s i (Some w) t j e = absurd cc
field_parts None s i None t j e =
    let p : ◌≡◌ {A = BindingId} (record { 0 = s }) (record { 0 = t }) = cc in let r : ◌≡◌ {A = TupleIndex}
    (record { 0 = i }) (record { 0 = j }) = cc in
    (ap (λ (x : BindingId). x.0) p, refl, ap (λ (x : TupleIndex). x.0) r)

pub field_source : (kind : Option ℕ) (s i : ℕ) → Contains (sources_of (field_binding kind s i)) (record { 0 = s })
field_source (Some v) s i = (0, omega arith, refl)
field_source None s i = (0, omega arith, refl)

module _ (name : Sym → List ℕ) (table : List Binding) where
  abbrev rows : List Row
  rows = rows_of name table

  pub row_get : (k : ℕ) (b : Binding) → slice_get table k ≡ Some b → slice_get rows k ≡ Some (row_of name b)
  row_get k b e = slice_get-map (row_of name) table k ∙ ap (option_map (row_of name)) e

  pub get_row : (k : ℕ) (row : Row) → slice_get rows k ≡ Some row → (b : Binding) × (slice_get table k ≡ Some b) × (row_of name b ≡ row)
  get_row k row e = go (slice_get table k) refl
    where
      go : (o : Option Binding) → slice_get table k ≡ o → (b : Binding) × (slice_get table k ≡ Some b) × (row_of name b ≡ row)
      go None q = absurd (none-some row (sym (slice_get-map (row_of name) table k ∙ ap (option_map (row_of name)) q) ∙ e))
      go (Some b) q = (b, q, same_Some _ _ (sym (slice_get-map (row_of name) table k ∙ ap (option_map (row_of name)) q) ∙ e))

  -- a number that stands for a site is a place of the table
  pub at_row : (s : Site) (k : ℕ) → At rows s k → (row : Row) × (slice_get rows k ≡ Some row)
  at_row (bool_site b ty) k p = (bool_row b ty, p)
  at_row (int_site n ty) k p = (int_row n ty, p)
  at_row (prim_site n) k p = (prim_row n, p)
  at_row (argument i) k p = (argument_row i, p)
  at_row (extractor_call t s) k (j, p, x) = (extractor_row t j, p)
  at_row (constructor_call t ss i) k (j, p, x) = (constructor_row t j i, p)
  at_row (iterator s) k (j, p, x) = (iterator_row j, p)
  at_row (make_variant ty v ss) k (j, p, x) = (make_variant_row ty v j, p)
  at_row (match_variant s v i) k (j, p, x) = (match_variant_row j v i, p)
  at_row (make_struct ty ss) k (j, p, x) = (make_struct_row ty j, p)
  at_row (extract_struct s i) k (j, p, x) = (extract_struct_row j i, p)
  at_row (make_some s) k (j, p, x) = (make_some_row j, p)
  at_row (match_some s) k (j, p, x) = (match_some_row j, p)
  at_row (match_tuple s i) k (j, p, x) = (match_tuple_row j i, p)

  pub at_below : (s : Site) (k : ℕ) → At rows s k → k < length table
  at_below s k p = let (row, e) = at_row s k p in let (b, q, r) = get_row k row e in slice_get_within table k b q

  pub field_at : (kind : Option ℕ) (a i f : ℕ) (t : Site) → slice_get table f ≡ Some (field_binding kind a i)
      → At rows t a → At rows (field_site kind t i) f
  field_at (Some v) a i f t e p = (a, row_get f _ e, p)
  field_at None a i f t e p = (a, row_get f _ e, p)

  module _ (injective : IsInjective name) where
    pub at_field : (kind : Option ℕ) (t : Site) (i f : ℕ) → At rows (field_site kind t i) f
        → (a : ℕ) × (slice_get table f ≡ Some (field_binding kind a i)) × At rows t a
    at_field (Some v) t i f (a, e, p) = let (b, q, r) = get_row f _ e in
        (a, q ∙ ap Some (row-injective name injective b (field_binding (Some v) a i) r), p)
    at_field None t i f (a, e, p) = let (b, q, r) = get_row f _ e in (a, q ∙ ap Some (row-injective name injective b (field_binding None a i) r), p)

    module _ (ok : IsTable table) where
      once : (j k : ℕ) (row : Row) → slice_get rows j ≡ Some row → slice_get rows k ≡ Some row → j ≡ k
      once j k row p q =
          let (a, e, r) = get_row j row p in let (b, f, s) = get_row k row q in
          ok.once a j k e (f ∙ ap Some (row-injective name injective b a (s ∙ sym r)))

      mutual
        -- a site has one number
        pub one_number : (s : Site) (j k : ℕ) → At rows s j → At rows s k → j ≡ k
        one_number (bool_site b ty) j k p q = once j k _ p q
        one_number (int_site n ty) j k p q = once j k _ p q
        one_number (prim_site n) j k p q = once j k _ p q
        one_number (argument i) j k p q = once j k _ p q
        one_number (extractor_call t s) j k (a, p, x) (b, q, y) = let e : b ≡ a = one_number s b a y x in
            once j k (extractor_row t a) p (subst (λ (z : ℕ). slice_get rows k ≡ Some (extractor_row t z)) e q)
        one_number (constructor_call t ss i) j k (a, p, x) (b, q, y) = let e : b ≡ a = all_numbers ss b a y x in
            once j k (constructor_row t a i) p (subst (λ (z : List ℕ). slice_get rows k ≡ Some (constructor_row t z i)) e q)
        one_number (iterator s) j k (a, p, x) (b, q, y) = let e : b ≡ a = one_number s b a y x in
            once j k (iterator_row a) p (subst (λ (z : ℕ). slice_get rows k ≡ Some (iterator_row z)) e q)
        one_number (make_variant t v ss) j k (a, p, x) (b, q, y) = let e : b ≡ a = all_numbers ss b a y x in
            once j k (make_variant_row t v a) p (subst (λ (z : List ℕ). slice_get rows k ≡ Some (make_variant_row t v z)) e q)
        one_number (match_variant s v i) j k (a, p, x) (b, q, y) = let e : b ≡ a = one_number s b a y x in
            once j k (match_variant_row a v i) p (subst (λ (z : ℕ). slice_get rows k ≡ Some (match_variant_row z v i)) e q)
        one_number (make_struct t ss) j k (a, p, x) (b, q, y) = let e : b ≡ a = all_numbers ss b a y x in
            once j k (make_struct_row t a) p (subst (λ (z : List ℕ). slice_get rows k ≡ Some (make_struct_row t z)) e q)
        one_number (extract_struct s i) j k (a, p, x) (b, q, y) = let e : b ≡ a = one_number s b a y x in
            once j k (extract_struct_row a i) p (subst (λ (z : ℕ). slice_get rows k ≡ Some (extract_struct_row z i)) e q)
        one_number (make_some s) j k (a, p, x) (b, q, y) = let e : b ≡ a = one_number s b a y x in
            once j k (make_some_row a) p (subst (λ (z : ℕ). slice_get rows k ≡ Some (make_some_row z)) e q)
        one_number (match_some s) j k (a, p, x) (b, q, y) = let e : b ≡ a = one_number s b a y x in
            once j k (match_some_row a) p (subst (λ (z : ℕ). slice_get rows k ≡ Some (match_some_row z)) e q)
        one_number (match_tuple s i) j k (a, p, x) (b, q, y) = let e : b ≡ a = one_number s b a y x in
            once j k (match_tuple_row a i) p (subst (λ (z : ℕ). slice_get rows k ≡ Some (match_tuple_row z i)) e q)

        all_numbers : (ss : Sites) (js ks : List ℕ) → AtAll rows ss js → AtAll rows ss ks → js ≡ ks
        all_numbers no_sites [] [] x y = refl
        all_numbers no_sites [] (k ∷ ks) x y = absurd y
        all_numbers no_sites (j ∷ js) ks x y = absurd x
        all_numbers (more_sites s ss) [] ks x y = absurd x
        all_numbers (more_sites s ss) (j ∷ js) [] x y = absurd y
        all_numbers (more_sites s ss) (j ∷ js) (k ∷ ks) x y =
            let p = one_number s j k x.0 y.0 in let q = all_numbers ss js ks x.1 y.1 in λ i. p i ∷ q i

  module _ (ok : IsTable table) where
    abbrev Standing : ℕ → Type 0
    Standing a = (s : Site) × At rows s a

    -- sites for a list of parts
    all_stand : (parts : List BindingId) → ((part : BindingId) → Contains parts part → Standing part.0) → (ss : Sites)
        × AtAll rows ss (numbers_of parts)
    all_stand [] each = (no_sites, tt)
    all_stand (x ∷ xs) each =
        let (s, p) = each x (0, omega arith, refl) in
        let (ss, q) = all_stand xs (λ y h. each y (suc h.0, omega (arith, h.1), h.2)) in (more_sites s ss, (p, q))

    of_binding : (k : ℕ) (b : Binding) → slice_get table k ≡ Some b → ((part : BindingId) → Contains (sources_of b) part → Standing part.0)
        → Standing k
    of_binding k (sites.ConstBool v t) e each = (bool_site v t.0, row_get k _ e)
    of_binding k (sites.ConstInt v t) e each = (int_site v t.0, row_get k _ e)
    of_binding k (sites.ConstPrim v) e each = (prim_site (name v), row_get k _ e)
    of_binding k (sites.Argument i) e each = (argument i.0, row_get k _ e)
    of_binding k (sites.Extractor t a) e each = let (s, p) = each a (0, omega arith, refl) in (extractor_call t.0 s, (a.0, row_get k _ e, p))
    of_binding k (sites.Constructor t cs n) e each = let (ss, p) = all_stand cs each in (constructor_call t.0 ss n, (numbers_of cs, row_get k _ e, p))
    of_binding k (sites.Iterator a) e each = let (s, p) = each a (0, omega arith, refl) in (iterator s, (a.0, row_get k _ e, p))
    of_binding k (sites.MakeVariant t v cs) e each = let (ss, p) = all_stand cs each in (make_variant t.0 v.0 ss, (numbers_of cs, row_get k _ e, p))
    of_binding k (sites.MatchVariant a v i) e each = let (s, p) = each a (0, omega arith, refl) in (match_variant s v.0 i.0, (a.0, row_get k _ e, p))
    of_binding k (sites.MakeStruct t cs) e each = let (ss, p) = all_stand cs each in (make_struct t.0 ss, (numbers_of cs, row_get k _ e, p))
    of_binding k (sites.ExtractStruct a i) e each = let (s, p) = each a (0, omega arith, refl) in (extract_struct s i.0, (a.0, row_get k _ e, p))
    of_binding k (sites.MakeSome a) e each = let (s, p) = each a (0, omega arith, refl) in (make_some s, (a.0, row_get k _ e, p))
    of_binding k (sites.MatchSome a) e each = let (s, p) = each a (0, omega arith, refl) in (match_some s, (a.0, row_get k _ e, p))
    of_binding k (sites.MatchTuple a i) e each = let (s, p) = each a (0, omega arith, refl) in (match_tuple s i.0, (a.0, row_get k _ e, p))

    -- each number stands for a site
    stands_below : (n a : ℕ) → a < n → a < length table → Standing a
    stands_below zero a h l = absurd (omega arith)
    stands_below (suc n) a h l = elim (slice_get_cases table a).1 [
      | inl (b, q, e, g) ↦ of_binding a b e (λ part inside. let low = ok.earlier a b part e inside in
          stands_below n part.0 (omega arith) (omega arith))
      | inr (q, e) ↦ absurd (omega arith)
    ]

    pub stands : (a : ℕ) → a < length table → Standing a
    stands a h = stands_below (suc (length table)) a (omega arith) h
