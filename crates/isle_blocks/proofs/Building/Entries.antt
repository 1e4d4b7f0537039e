-- Tables as they grow.
use Rattle.std.proofs.Common.{◌≡◌, ℕ, List, [], ◌∷◌, ◌++◌, Some, slice_get, refl, sym, ap, ◌∙◌, subst, inl, inr, append_assoc}
use Rattle.std.proofs.lemmas.List.{append-nil, map-append, length-map}
use Rattle.std.proofs.lemmas.Option.{slice_get-map, none-some, same_Some}
use Rattle.std.specs.Option.{option_map}
use Rattle.std.proofs.Common.{Option, None}
use Rattle.isle_containers.proofs.Lists.{slice_get-kept, slice_get-last}
use Rattle.isle_types.specs.declared.ids.Sym.{Sym}
use Rattle.isle_meaning.specs.Sites.{Site, bool_site, int_site, prim_site, argument, extractor_call, constructor_call, iterator}
use Rattle.isle_meaning.specs.Sites.{make_variant, match_variant, make_struct, extract_struct, make_some, match_some, match_tuple}
use Rattle.isle_meaning.specs.Sites.{Sites, no_sites, more_sites}
use Rattle.isle_meaning.specs.Demands.{Constraint, Demand, constrained, equal, Among}
use Rattle.isle_meaning.specs.Numbered.{Row, At, AtAll, AreRecorded}
use Rattle.std.proofs.Common.{◌⊎◌}
use Rattle.std.proofs.lemmas.List.Elements.{Contains-append_left, Contains-append_right, Contains-append_cases}
use Rattle.isle_blocks.specs.declared.ids.BindingId.{BindingId}
use Rattle.isle_blocks.specs.declared.binding.Binding.{Binding}
use Rattle.isle_blocks.specs.Rows.{IsInjective, row_of, rows_of}
use Rattle.isle_blocks.specs.Tables.{IsAbsent, IsInterned}
use Rattle.isle_blocks.specs.Building.Standing.{IsEntryOf, IsPut, Adds, begin, next}
use Rattle.isle_blocks.proofs.Rows.RowsInjective.{row-injective}

-- each entry is still there
abbrev pub Grown : List Row → List Row → Type 0
Grown rows new = (k : ℕ) (row : Row) → slice_get rows k ≡ Some row → slice_get new k ≡ Some row

module _ (rows new : List Row) (g : Grown rows new) where
  mutual
    pub at_grown : (s : Site) (k : ℕ) → At rows s k → At new s k
    at_grown (bool_site b ty) k h = g k _ h
    at_grown (int_site n ty) k h = g k _ h
    at_grown (prim_site n) k h = g k _ h
    at_grown (argument i) k h = g k _ h
    at_grown (extractor_call t s) k h = (h.0, g k _ h.1, at_grown s h.0 h.2)
    at_grown (constructor_call t ss i) k h = (h.0, g k _ h.1, all_grown ss h.0 h.2)
    at_grown (iterator s) k h = (h.0, g k _ h.1, at_grown s h.0 h.2)
    at_grown (make_variant ty v ss) k h = (h.0, g k _ h.1, all_grown ss h.0 h.2)
    at_grown (match_variant s v i) k h = (h.0, g k _ h.1, at_grown s h.0 h.2)
    at_grown (make_struct ty ss) k h = (h.0, g k _ h.1, all_grown ss h.0 h.2)
    at_grown (extract_struct s i) k h = (h.0, g k _ h.1, at_grown s h.0 h.2)
    at_grown (make_some s) k h = (h.0, g k _ h.1, at_grown s h.0 h.2)
    at_grown (match_some s) k h = (h.0, g k _ h.1, at_grown s h.0 h.2)
    at_grown (match_tuple s i) k h = (h.0, g k _ h.1, at_grown s h.0 h.2)

    pub all_grown : (ss : Sites) (ks : List ℕ) → AtAll rows ss ks → AtAll new ss ks
    all_grown no_sites [] h = h
    all_grown no_sites (k ∷ ks) h = h
    all_grown (more_sites s ss) [] h = h
    all_grown (more_sites s ss) (k ∷ ks) h = (at_grown s k h.0, all_grown ss ks h.1)

  -- an entry that is there is its site's number
  pub entry_at : (s : Site) (row : Row) (k : ℕ) → IsEntryOf rows s row → slice_get new k ≡ Some row → At new s k
  entry_at (bool_site b ty) row k h e = e ∙ ap (λ r. Some r) h
  entry_at (int_site n ty) row k h e = e ∙ ap (λ r. Some r) h
  entry_at (prim_site n) row k h e = e ∙ ap (λ r. Some r) h
  entry_at (argument i) row k h e = e ∙ ap (λ r. Some r) h
  entry_at (extractor_call t s) row k h e = (h.0, e ∙ ap (λ r. Some r) h.1, at_grown s h.0 h.2)
  entry_at (constructor_call t ss i) row k h e = (h.0, e ∙ ap (λ r. Some r) h.1, all_grown ss h.0 h.2)
  entry_at (iterator s) row k h e = (h.0, e ∙ ap (λ r. Some r) h.1, at_grown s h.0 h.2)
  entry_at (make_variant ty v ss) row k h e = (h.0, e ∙ ap (λ r. Some r) h.1, all_grown ss h.0 h.2)
  entry_at (match_variant s v i) row k h e = (h.0, e ∙ ap (λ r. Some r) h.1, at_grown s h.0 h.2)
  entry_at (make_struct ty ss) row k h e = (h.0, e ∙ ap (λ r. Some r) h.1, all_grown ss h.0 h.2)
  entry_at (extract_struct s i) row k h e = (h.0, e ∙ ap (λ r. Some r) h.1, at_grown s h.0 h.2)
  entry_at (make_some s) row k h e = (h.0, e ∙ ap (λ r. Some r) h.1, at_grown s h.0 h.2)
  entry_at (match_some s) row k h e = (h.0, e ∙ ap (λ r. Some r) h.1, at_grown s h.0 h.2)
  entry_at (match_tuple s i) row k h e = (h.0, e ∙ ap (λ r. Some r) h.1, at_grown s h.0 h.2)

-- what is put leaves all that was there, and is there
pub put_grown : (rows : List Row) (row : Row) (k : ℕ) (new : List Row) → IsPut rows row k new → Grown rows new
put_grown rows row k new (inl h) j r e = subst (λ x. slice_get x j ≡ Some r) (sym h.1) e
put_grown rows row k new (inr h) j r e = subst (λ x. slice_get x j ≡ Some r) (sym h.2) (slice_get-kept rows (row ∷ []) j r e)

pub put_there : (rows : List Row) (row : Row) (k : ℕ) (new : List Row) → IsPut rows row k new → slice_get new k ≡ Some row
put_there rows row k new (inl h) = subst (λ x. slice_get x k ≡ Some row) (sym h.1) h.0
put_there rows row k new (inr h) =
    subst (λ x. slice_get x k ≡ Some row) (sym h.2) (subst (λ j. slice_get (rows ++ row ∷ []) j ≡ Some row) (sym h.1) (slice_get-last rows row))

pub adds_grown : (base : List Row) (needed : List Site) (rows : List Row) → Adds base needed rows → Grown base rows
adds_grown base needed rows begin k row e = e
adds_grown base needed rows (next {needed = sites} {old} new site row j before is put) k r e =
    put_grown old row j rows put k r (adds_grown base sites old before k r e)

-- more is needed after what was needed
pub adds_then : (a b c : List Row) (xs ys : List Site) → Adds a xs b → Adds b ys c → Adds a (xs ++ ys) c
adds_then a b c xs ys h begin = subst (λ zs. Adds a zs c) (sym (append-nil xs)) h
adds_then a b c xs ys h (next {needed = sites} {old} new site row j before is put) =
    subst (λ zs. Adds a zs c) (append_assoc xs sites (site ∷ [])) (next new site row j (adds_then a b old xs sites h before) is put)

module _ (name : Sym → List ℕ) (injective : IsInjective name) where
  row_read : (bs : List Binding) (k : ℕ) (row : Row) → slice_get (rows_of name bs) k ≡ Some row
      → (b : Binding) × (slice_get bs k ≡ Some b) × (row_of name b ≡ row)
  row_read bs k row e = go (slice_get bs k) refl (sym (slice_get-map (row_of name) bs k) ∙ e)
    where
      go : (o : Option Binding) → slice_get bs k ≡ o → option_map (row_of name) (slice_get bs k) ≡ Some row
          → (b : Binding) × (slice_get bs k ≡ Some b) × (row_of name b ≡ row)
      go None q e = absurd (none-some row (rw q at e))
      go (Some b) q e = (b, q, same_Some _ _ (rw q at e))

  -- where a site stands nowhere, its entry stands nowhere
  pub absent_of : (bs : List Binding) (b : Binding) → IsAbsent bs b → IsAbsent (rows_of name bs) (row_of name b)
  absent_of bs b absent k e =
      let r = row_read bs k (row_of name b) e in absent k (r.1 ∙ ap (λ z. Some z) (row-injective name injective r.0 b r.2))

  -- a site's number is its entry's
  pub put_of : (bs : List Binding) (b : Binding) (id : BindingId) (new : List Binding) → IsInterned bs b id new
      → IsPut (rows_of name bs) (row_of name b) id.0 (rows_of name new)
  put_of bs b id new (inl h) = inl (slice_get-map (row_of name) bs id.0 ∙ ap (option_map (row_of name)) h.0, ap (rows_of name) h.1)
  put_of bs b id new (inr h) =
      inr (absent_of bs b h.0, h.1 ∙ sym (length-map bs (row_of name)), ap (rows_of name) h.2 ∙ map-append (row_of name) bs (b ∷ []))

-- some demands, and more
pub among_left : (xs ys : List Demand) (d : Demand) → Among xs d → Among (xs ++ ys) d
among_left [] ys d h = absurd h
among_left (x ∷ xs) ys d (inl e) = inl e
among_left (x ∷ xs) ys d (inr h) = inr (among_left xs ys d h)

pub among_right : (xs ys : List Demand) (d : Demand) → Among ys d → Among (xs ++ ys) d
among_right [] ys d h = h
among_right (x ∷ xs) ys d h = inr (among_right xs ys d h)

pub among_cases : (xs ys : List Demand) (d : Demand) → Among (xs ++ ys) d → Among xs d ⊎ Among ys d
among_cases [] ys d h = inr h
among_cases (x ∷ xs) ys d (inl e) = inl (inl e)
among_cases (x ∷ xs) ys d (inr h) = elim (among_cases xs ys d h) [ inl k ↦ inl (inr k) | inr k ↦ inr k ]

pub recorded_grown : (rows new : List Row) (has : List (ℕ × Constraint)) (same : List (ℕ × ℕ)) (ds : List Demand) → Grown rows new
    → AreRecorded rows has same ds → AreRecorded new has same ds
recorded_grown rows new has same ds g h = record {
  constraint = λ k c m. let r = h.constraint k c m in (r.0, at_grown rows new g r.0 k r.1, r.2);
  equality = λ a b m. let r = h.equality a b m in (r.0, r.1, at_grown rows new g r.0 a r.2, at_grown rows new g r.1 b r.3, r.4);
  all_constraints = λ s c m. let r = h.all_constraints s c m in (r.0, at_grown rows new g s r.0 r.1, r.2);
  all_equalities = λ s u m. let r = h.all_equalities s u m in (r.0, r.1, at_grown rows new g s r.0 r.2, at_grown rows new g u r.1 r.3, r.4);
}

pub recorded_both : (rows : List Row) (has more : List (ℕ × Constraint)) (same others : List (ℕ × ℕ)) (ds es : List Demand)
    → AreRecorded rows has same ds → AreRecorded rows more others es → AreRecorded rows (has ++ more) (same ++ others) (ds ++ es)
recorded_both rows has more same others ds es h k = record {
  constraint = λ j c m. elim (Contains-append_cases has more (j, c) m) [
    | inl x ↦ let r = h.constraint j c x in (r.0, r.1, among_left ds es (constrained r.0 c) r.2)
    | inr x ↦ let r = k.constraint j c x in (r.0, r.1, among_right ds es (constrained r.0 c) r.2)
  ];
  equality = λ a b m. elim (Contains-append_cases same others (a, b) m) [
    | inl x ↦ let r = h.equality a b x in (r.0, r.1, r.2, r.3, among_left ds es (equal r.0 r.1) r.4)
    | inr x ↦ let r = k.equality a b x in (r.0, r.1, r.2, r.3, among_right ds es (equal r.0 r.1) r.4)
  ];
  all_constraints = λ s c m. elim (among_cases ds es (constrained s c) m) [
    | inl x ↦ let r = h.all_constraints s c x in (r.0, r.1, Contains-append_left has more (r.0, c) r.2)
    | inr x ↦ let r = k.all_constraints s c x in (r.0, r.1, Contains-append_right has more (r.0, c) r.2)
  ];
  all_equalities = λ s u m. elim (among_cases ds es (equal s u) m) [
    | inl x ↦ let r = h.all_equalities s u x in (r.0, r.1, r.2, r.3, λ d. Contains-append_left same others (r.0, r.1) (r.4 d))
    | inr x ↦ let r = k.all_equalities s u x in (r.0, r.1, r.2, r.3, λ d. Contains-append_right same others (r.0, r.1) (r.4 d))
  ];
}
