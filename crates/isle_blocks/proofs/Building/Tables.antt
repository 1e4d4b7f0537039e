-- The table that is left: each entry's parts stand before it, each entry stands once, and each site has one number.
use Rattle.std.proofs.Common.{◌≡◌, ◌<◌, ◌⊎◌, ℕ, zero, suc, List, [], ◌∷◌, ◌++◌, Some, length, slice_get, Contains}
use Rattle.std.proofs.Common.{refl, sym, ap, ◌∙◌, subst, inl, inr}
use Rattle.std.proofs.lemmas.Option.{slice_get-map, slice_get_within}
use Rattle.std.specs.Option.{option_map}
use Rattle.isle_containers.proofs.RootedTables.{Contains-map}
use Rattle.isle_types.specs.declared.ids.Sym.{Sym}
use Rattle.isle_meaning.specs.Sites.{Site, bool_site, int_site, prim_site, argument, extractor_call, constructor_call, iterator}
use Rattle.isle_meaning.specs.Sites.{make_variant, match_variant, make_struct, extract_struct, make_some, match_some, match_tuple}
use Rattle.isle_meaning.specs.Sites.{Sites, no_sites, more_sites}
use Rattle.isle_meaning.specs.Numbered.{Row, bool_row, int_row, prim_row, argument_row, extractor_row, constructor_row, iterator_row}
use Rattle.isle_meaning.specs.Numbered.{make_variant_row, match_variant_row, make_struct_row, extract_struct_row, make_some_row}
use Rattle.isle_meaning.specs.Numbered.{match_some_row, match_tuple_row, At, AtAll}
use Rattle.isle_blocks.specs.declared.ids.BindingId.{BindingId}
use Rattle.isle_blocks.specs.declared.binding.Binding.{Binding}
use Rattle.isle_blocks.specs.Tables.{sources_of}
use Rattle.isle_blocks.specs.Rows.{row_of, rows_of}
use Rattle.isle_blocks.specs.Tables.{IsAbsent}
use Rattle.isle_blocks.specs.Inside.Building.Contents.{PartsAreBefore}
use Rattle.isle_blocks.specs.Building.Standing.{IsEntryOf, IsPut, Adds, begin, next}
use Rattle.isle_blocks.proofs.Building.Walking.{cons_cases, none_there}
use Rattle.isle_blocks.proofs.Building.Asking.{row_parts, parts_named}

-- each entry's parts stand before it
abbrev pub StandBefore : List Row → Type 0
StandBefore rows = (k j : ℕ) (row : Row) → slice_get rows k ≡ Some row → Contains (row_parts row) j → j < k

-- each entry stands once
abbrev pub StandOnce : List Row → Type 0
StandOnce rows = (j k : ℕ) (row : Row) → slice_get rows j ≡ Some row → slice_get rows k ≡ Some row → j ≡ k

module _ (rows : List Row) where
  -- what has a number is in the table
  pub at_within : (s : Site) (k : ℕ) → At rows s k → k < length rows
  at_within (bool_site b ty) k h = slice_get_within rows k _ h
  at_within (int_site n ty) k h = slice_get_within rows k _ h
  at_within (prim_site n) k h = slice_get_within rows k _ h
  at_within (argument i) k h = slice_get_within rows k _ h
  at_within (extractor_call t s) k h = slice_get_within rows k _ h.1
  at_within (constructor_call t ss i) k h = slice_get_within rows k _ h.1
  at_within (iterator s) k h = slice_get_within rows k _ h.1
  at_within (make_variant ty v ss) k h = slice_get_within rows k _ h.1
  at_within (match_variant s v i) k h = slice_get_within rows k _ h.1
  at_within (make_struct ty ss) k h = slice_get_within rows k _ h.1
  at_within (extract_struct s i) k h = slice_get_within rows k _ h.1
  at_within (make_some s) k h = slice_get_within rows k _ h.1
  at_within (match_some s) k h = slice_get_within rows k _ h.1
  at_within (match_tuple s i) k h = slice_get_within rows k _ h.1

  all_within : (ss : Sites) (js : List ℕ) (j : ℕ) → AtAll rows ss js → Contains js j → j < length rows
  all_within no_sites [] j h c = none_there j c
  all_within no_sites (k ∷ js) j h c = absurd h
  all_within (more_sites s ss) [] j h c = absurd h
  all_within (more_sites s ss) (k ∷ js) j h c = elim (cons_cases k js j c) [
    | inl e ↦ subst (λ z. z < length rows) e (at_within s k h.0)
    | inr m ↦ all_within ss js j h.1 m
  ]

  none_within : (row other : Row) (j : ℕ) → row ≡ other → row_parts other ≡ [] → Contains (row_parts row) j → j < length rows
  none_within row other j is none c = none_there j (subst (λ l. Contains l j) (ap row_parts is ∙ none) c)

  one_within : (s : Site) (row other : Row) (j k : ℕ) → row ≡ other → row_parts other ≡ k ∷ [] → At rows s k → Contains (row_parts row) j
      → j < length rows
  one_within s row other j k is only at c = elim (cons_cases k [] j (subst (λ l. Contains l j) (ap row_parts is ∙ only) c)) [
    | inl e ↦ subst (λ z. z < length rows) e (at_within s k at)
    | inr m ↦ none_there j m
  ]

  -- the parts of a site's entry are in the table
  entry_within : (s : Site) (row : Row) (j : ℕ) → IsEntryOf rows s row → Contains (row_parts row) j → j < length rows
  entry_within (bool_site b ty) row j h c = none_within row (bool_row b ty) j h refl c
  entry_within (int_site n ty) row j h c = none_within row (int_row n ty) j h refl c
  entry_within (prim_site n) row j h c = none_within row (prim_row n) j h refl c
  entry_within (argument i) row j h c = none_within row (argument_row i) j h refl c
  entry_within (extractor_call t s) row j h c = one_within s row (extractor_row t h.0) j h.0 h.1 refl h.2 c
  entry_within (constructor_call t ss i) row j h c = all_within ss h.0 j h.2 (subst (λ r. Contains (row_parts r) j) h.1 c)
  entry_within (iterator s) row j h c = one_within s row (iterator_row h.0) j h.0 h.1 refl h.2 c
  entry_within (make_variant ty v ss) row j h c = all_within ss h.0 j h.2 (subst (λ r. Contains (row_parts r) j) h.1 c)
  entry_within (match_variant s v i) row j h c = one_within s row (match_variant_row h.0 v i) j h.0 h.1 refl h.2 c
  entry_within (make_struct ty ss) row j h c = all_within ss h.0 j h.2 (subst (λ r. Contains (row_parts r) j) h.1 c)
  entry_within (extract_struct s i) row j h c = one_within s row (extract_struct_row h.0 i) j h.0 h.1 refl h.2 c
  entry_within (make_some s) row j h c = one_within s row (make_some_row h.0) j h.0 h.1 refl h.2 c
  entry_within (match_some s) row j h c = one_within s row (match_some_row h.0) j h.0 h.1 refl h.2 c
  entry_within (match_tuple s i) row j h c = one_within s row (match_tuple_row h.0 i) j h.0 h.1 refl h.2 c

-- an entry of a table with one more at its end
pushed_cases : (rows : List Row) (row : Row) (k : ℕ) (r : Row) → slice_get (rows ++ row ∷ []) k ≡ Some r
    → (slice_get rows k ≡ Some r) ⊎ ((k ≡ length rows) × (r ≡ row))
pushed_cases [] row zero r e = inr (refl, cc)
pushed_cases [] row (suc k) r e = absurd cc
pushed_cases (x ∷ rows) row zero r e = inl e
pushed_cases (x ∷ rows) row (suc k) r e = elim (pushed_cases rows row k r e) [ inl h ↦ inl h | inr h ↦ inr (ap suc h.0, h.1) ]

before_pushed : (rows : List Row) (row : Row) → StandBefore rows → ((j : ℕ) → Contains (row_parts row) j → j < length rows)
    → StandBefore (rows ++ row ∷ [])
before_pushed rows row h within k j r e c = elim (pushed_cases rows row k r e) [
  | inl g ↦ h k j r g c
  | inr g ↦ subst (λ z. j < z) (sym g.0) (within j (subst (λ y. Contains (row_parts y) j) g.1 c))
]

once_pushed : (rows : List Row) (row : Row) → StandOnce rows → IsAbsent rows row → StandOnce (rows ++ row ∷ [])
once_pushed rows row h absent j k r e f = elim (pushed_cases rows row j r e) [
  | inl x ↦ elim (pushed_cases rows row k r f) [
    | inl y ↦ h j k r x y
    | inr y ↦ absurd (absent j (subst (λ z. slice_get rows j ≡ Some z) y.1 x))
  ]
  | inr x ↦ elim (pushed_cases rows row k r f) [
    | inl y ↦ absurd (absent k (subst (λ z. slice_get rows k ≡ Some z) x.1 y))
    | inr y ↦ x.0 ∙ sym y.0
  ]
]

before_put : (rows : List Row) (row : Row) (k : ℕ) (new : List Row) → StandBefore rows → ((j : ℕ) → Contains (row_parts row) j → j < length rows)
    → IsPut rows row k new → StandBefore new
before_put rows row k new h within (inl e) = subst StandBefore (sym e.1) h
before_put rows row k new h within (inr e) = subst StandBefore (sym e.2) (before_pushed rows row h within)

once_put : (rows : List Row) (row : Row) (k : ℕ) (new : List Row) → StandOnce rows → IsPut rows row k new → StandOnce new
once_put rows row k new h (inl e) = subst StandOnce (sym e.1) h
once_put rows row k new h (inr e) = subst StandOnce (sym e.2) (once_pushed rows row h e.0)

-- what sites need leaves parts before what is made of them
pub added_before : (base : List Row) (needed : List Site) (rows : List Row) → StandBefore base → Adds base needed rows → StandBefore rows
added_before base needed rows h begin = h
added_before base needed rows h (next {needed = sites} {old} new site row k before is put) =
    before_put old row k rows (added_before base sites old h before) (λ j c. entry_within old site row j is c) put

pub added_once : (base : List Row) (needed : List Site) (rows : List Row) → StandOnce base → Adds base needed rows → StandOnce rows
added_once base needed rows h begin = h
added_once base needed rows h (next {needed = sites} {old} new site row k before is put) =
    once_put old row k rows (added_once base sites old h before) put

-- a table that was begun with nothing
pub stands_before : (needed : List Site) (rows : List Row) → Adds [] needed rows → StandBefore rows
stands_before needed rows h = added_before [] needed rows (λ k j row e c. absurd cc) h

pub stands_once : (needed : List Site) (rows : List Row) → Adds [] needed rows → StandOnce rows
stands_once needed rows h = added_once [] needed rows (λ j k row e f. absurd cc) h

-- so of the sites of the code
pub parts_before : (name : Sym → List ℕ) (table : List Binding) → StandBefore (rows_of name table) → PartsAreBefore table
parts_before name table h k site part e c =
    h k part.0 (row_of name site) (slice_get-map (row_of name) table k ∙ ap (option_map (row_of name)) e)
    (subst (λ l. Contains l part.0) (sym (parts_named name table site)) (Contains-map (λ (id : BindingId). id.0) (sources_of site) part c))

module _ (rows : List Row) (once : StandOnce rows) where
  same_number : (j k : ℕ) (row other : Row) → slice_get rows j ≡ Some row → slice_get rows k ≡ Some other → row ≡ other → j ≡ k
  same_number j k row other e f same = once j k row e (f ∙ ap (λ r. Some r) (sym same))

  mutual
    -- each site has one number
    pub site_once : (s : Site) (j k : ℕ) → At rows s j → At rows s k → j ≡ k
    site_once (bool_site b ty) j k h g = once j k _ h g
    site_once (int_site n ty) j k h g = once j k _ h g
    site_once (prim_site n) j k h g = once j k _ h g
    site_once (argument i) j k h g = once j k _ h g
    site_once (extractor_call t s) j k h g = same_number j k _ _ h.1 g.1 (ap (λ x. extractor_row t x) (site_once s h.0 g.0 h.2 g.2))
    site_once (constructor_call t ss i) j k h g = same_number j k _ _ h.1 g.1 (ap (λ xs. constructor_row t xs i) (sites_once ss h.0 g.0 h.2 g.2))
    site_once (iterator s) j k h g = same_number j k _ _ h.1 g.1 (ap (λ x. iterator_row x) (site_once s h.0 g.0 h.2 g.2))
    site_once (make_variant ty v ss) j k h g = same_number j k _ _ h.1 g.1 (ap (λ xs. make_variant_row ty v xs) (sites_once ss h.0 g.0 h.2 g.2))
    site_once (match_variant s v i) j k h g = same_number j k _ _ h.1 g.1 (ap (λ x. match_variant_row x v i) (site_once s h.0 g.0 h.2 g.2))
    site_once (make_struct ty ss) j k h g = same_number j k _ _ h.1 g.1 (ap (λ xs. make_struct_row ty xs) (sites_once ss h.0 g.0 h.2 g.2))
    site_once (extract_struct s i) j k h g = same_number j k _ _ h.1 g.1 (ap (λ x. extract_struct_row x i) (site_once s h.0 g.0 h.2 g.2))
    site_once (make_some s) j k h g = same_number j k _ _ h.1 g.1 (ap (λ x. make_some_row x) (site_once s h.0 g.0 h.2 g.2))
    site_once (match_some s) j k h g = same_number j k _ _ h.1 g.1 (ap (λ x. match_some_row x) (site_once s h.0 g.0 h.2 g.2))
    site_once (match_tuple s i) j k h g = same_number j k _ _ h.1 g.1 (ap (λ x. match_tuple_row x i) (site_once s h.0 g.0 h.2 g.2))

    sites_once : (ss : Sites) (js ks : List ℕ) → AtAll rows ss js → AtAll rows ss ks → js ≡ ks
    sites_once no_sites [] [] h g = refl
    sites_once no_sites [] (k ∷ ks) h g = absurd g
    sites_once no_sites (j ∷ js) ks h g = absurd h
    sites_once (more_sites s ss) [] ks h g = absurd h
    sites_once (more_sites s ss) (j ∷ js) [] h g = absurd g
    sites_once (more_sites s ss) (j ∷ js) (k ∷ ks) h g =
        let first = site_once s j k h.0 g.0 in
        let rest = sites_once ss js ks h.1 g.1 in
        λ i. first i ∷ rest i
