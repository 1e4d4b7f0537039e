-- Numbers of a table stand for their trees.
use Rattle.std.proofs.Common.{◌≡◌, inl, inr, ℕ, zero, suc, ◌<◌, List, [], ◌∷◌, Option, Some, slice_get, refl, ap, sym, subst, ◌∙◌}
use Rattle.std.proofs.Common.{arith, Contains}
use Rattle.std.proofs.lemmas.Option.{slice_get_within, slice_get_cases}
use Rattle.isle_types.specs.declared.ids.Sym.{Sym}
use Rattle.isle_meaning.specs.Sites.{Site, bool_site, int_site, prim_site, argument, extractor_call, constructor_call, iterator}
use Rattle.isle_meaning.specs.Sites.{make_variant, match_variant, make_struct, extract_struct, make_some, match_some, match_tuple}
use Rattle.isle_meaning.specs.Sites.{Sites, no_sites, more_sites}
use Rattle.isle_meaning.specs.Numbered.{Row, bool_row, int_row, prim_row, argument_row, extractor_row, constructor_row, iterator_row}
use Rattle.isle_meaning.specs.Numbered.{make_variant_row, match_variant_row, make_struct_row, extract_struct_row, make_some_row}
use Rattle.isle_meaning.specs.Numbered.{match_some_row, match_tuple_row, At, AtAll}
use Rattle.isle_meaning.proofs.Matching.Numbering.{one_site}
use Rattle.isle_blocks.specs.declared.ids.BindingId.{BindingId}
use Rattle.isle_blocks.specs.declared.binding.Binding.{Binding}
use Rattle.isle_blocks.specs.declared.binding.Binding.TheVariants as sites
use Rattle.isle_blocks.specs.Tables.{sources_of}
use Rattle.isle_blocks.specs.Tables.{IsTable}
use Rattle.isle_blocks.specs.Rows.{numbers_of, row_of, rows_of}
use Rattle.isle_blocks.proofs.Closure.Trees.{row_get, get_row, at_below}
use Rattle.isle_trees.specs.Rules.{Elem}
use Rattle.isle_blocks.specs.Trees.View.{read_or}
use Rattle.isle_meaning.specs.AboutSites.Parts.{parts_of, IsOneOf}
use Rattle.isle_blocks.specs.Trees.SiteTrees.{trees_of, tree_from, tree_to, tree_of}

-- the parts of an entry
abbrev pub row_parts : Row → List ℕ
row_parts (bool_row b ty) = []
row_parts (int_row n ty) = []
row_parts (prim_row n) = []
row_parts (argument_row i) = []
row_parts (extractor_row t j) = j ∷ []
row_parts (constructor_row t js i) = js
row_parts (iterator_row j) = j ∷ []
row_parts (make_variant_row ty v js) = js
row_parts (match_variant_row j v i) = j ∷ []
row_parts (make_struct_row ty js) = js
row_parts (extract_struct_row j i) = j ∷ []
row_parts (make_some_row j) = j ∷ []
row_parts (match_some_row j) = j ∷ []
row_parts (match_tuple_row j i) = j ∷ []

-- they are the site's
same_parts : (name : Sym → List ℕ) (b : Binding) → row_parts (row_of name b) ≡ numbers_of (sources_of b)
same_parts name (sites.ConstBool v t) = refl
same_parts name (sites.ConstInt v t) = refl
same_parts name (sites.ConstPrim v) = refl
same_parts name (sites.Argument i) = refl
same_parts name (sites.Extractor t a) = refl
same_parts name (sites.Constructor t cs n) = refl
same_parts name (sites.Iterator a) = refl
same_parts name (sites.MakeVariant t v cs) = refl
same_parts name (sites.MatchVariant a v i) = refl
same_parts name (sites.MakeStruct t cs) = refl
same_parts name (sites.ExtractStruct a i) = refl
same_parts name (sites.MakeSome a) = refl
same_parts name (sites.MatchSome a) = refl
same_parts name (sites.MatchTuple a i) = refl

-- Each of some numbers stands for one of the sites.
pub in_all : (table : List Row) (ss : Sites) (ks : List ℕ) (p : ℕ) → AtAll table ss ks → Elem p ks → (u : Site) × IsOneOf ss u × At table u p
in_all table no_sites [] p h m = absurd m
in_all table no_sites (k ∷ ks) p h m = absurd h
in_all table (more_sites s ss) [] p h m = absurd m
in_all table (more_sites s ss) (k ∷ ks) p h (inl e) = (s, inl refl, subst (At table s) (sym e) (h.0))
in_all table (more_sites s ss) (k ∷ ks) p h (inr m) = let (u, i, q) = in_all table ss ks p (h.1) m in (u, inr i, q)

module _ (name : Sym → List ℕ) (table : List Binding) where
  -- the table's entries
  abbrev rows : List Row
  rows = rows_of name table

  -- the parts of a number
  abbrev parts_at : ℕ → List ℕ
  parts_at k = read_or [] (λ (b : Binding). numbers_of (sources_of b)) (slice_get table k)

  -- they are its entry's
  parts_by : (k : ℕ) (row : Row) → slice_get rows k ≡ Some row → parts_at k ≡ row_parts row
  parts_by k row e = let (b, at, is) = get_row name table k row e in rw at (sym (same_parts name b) ∙ ap row_parts is)

  -- the parts of a number stand for the parts of its site
  pub parts_stand : (s : Site) (k : ℕ) → At rows s k → AtAll rows (parts_of s) (parts_at k)
  parts_stand (bool_site b ty) k e = rw (parts_by k _ e) tt
  parts_stand (int_site n ty) k e = rw (parts_by k _ e) tt
  parts_stand (prim_site n) k e = rw (parts_by k _ e) tt
  parts_stand (argument i) k e = rw (parts_by k _ e) tt
  parts_stand (extractor_call t s) k (j, e, x) = rw (parts_by k _ e) (x, tt)
  parts_stand (constructor_call t ss i) k (js, e, x) = rw (parts_by k _ e) x
  parts_stand (iterator s) k (j, e, x) = rw (parts_by k _ e) (x, tt)
  parts_stand (make_variant ty v ss) k (js, e, x) = rw (parts_by k _ e) x
  parts_stand (match_variant s v i) k (j, e, x) = rw (parts_by k _ e) (x, tt)
  parts_stand (make_struct ty ss) k (js, e, x) = rw (parts_by k _ e) x
  parts_stand (extract_struct s i) k (j, e, x) = rw (parts_by k _ e) (x, tt)
  parts_stand (make_some s) k (j, e, x) = rw (parts_by k _ e) (x, tt)
  parts_stand (match_some s) k (j, e, x) = rw (parts_by k _ e) (x, tt)
  parts_stand (match_tuple s i) k (j, e, x) = rw (parts_by k _ e) (x, tt)

  -- what passes on to parts
  pub pass_on : (P : Site → Type 0) → ((s u : Site) → P s → IsOneOf (parts_of s) u → P u) → (k p : ℕ) → (s : Site) × At rows s k × P s
      → Elem p (parts_at k) → (u : Site) × At rows u p × P u
  pass_on P f k p h m =
      let (s, at, ok) = h in let (u, i, there) = in_all rows (parts_of s) (parts_at k) p (parts_stand s k at) m in (u, there, f s u ok i)

  module _ (tree : ℕ → Site) where
    -- numbers stand for the trees of parts that do
    all_at : (parts : List BindingId) → ((part : BindingId) → Contains parts part → At rows (tree part.0) part.0)
        → AtAll rows (trees_of tree parts) (numbers_of parts)
    all_at [] each = tt
    all_at (x ∷ xs) each = (each x (0, omega arith, refl), all_at xs (λ y h. each y (suc h.0, omega (arith, h.1), h.2)))

    -- A number stands for the tree of its entry, of its parts' trees.
    pub from_at : (k : ℕ) (b : Binding) → slice_get table k ≡ Some b
        → ((part : BindingId) → Contains (sources_of b) part → At rows (tree part.0) part.0)
        → At rows (tree_from name tree (Some b)) k
    from_at k (sites.ConstBool v t) e each = row_get name table k _ e
    from_at k (sites.ConstInt v t) e each = row_get name table k _ e
    from_at k (sites.ConstPrim v) e each = row_get name table k _ e
    from_at k (sites.Argument i) e each = row_get name table k _ e
    from_at k (sites.Extractor t a) e each = (a.0, row_get name table k _ e, each a (0, omega arith, refl))
    from_at k (sites.Constructor t cs n) e each = (numbers_of cs, row_get name table k _ e, all_at cs each)
    from_at k (sites.Iterator a) e each = (a.0, row_get name table k _ e, each a (0, omega arith, refl))
    from_at k (sites.MakeVariant t v cs) e each = (numbers_of cs, row_get name table k _ e, all_at cs each)
    from_at k (sites.MatchVariant a v i) e each = (a.0, row_get name table k _ e, each a (0, omega arith, refl))
    from_at k (sites.MakeStruct t cs) e each = (numbers_of cs, row_get name table k _ e, all_at cs each)
    from_at k (sites.ExtractStruct a i) e each = (a.0, row_get name table k _ e, each a (0, omega arith, refl))
    from_at k (sites.MakeSome a) e each = (a.0, row_get name table k _ e, each a (0, omega arith, refl))
    from_at k (sites.MatchSome a) e each = (a.0, row_get name table k _ e, each a (0, omega arith, refl))
    from_at k (sites.MatchTuple a i) e each = (a.0, row_get name table k _ e, each a (0, omega arith, refl))

  module _ (ok : IsTable table) where
    -- a number stands for its tree, to a depth
    tree_stands : (n k : ℕ) (b : Binding) → k < n → slice_get table k ≡ Some b → At rows (tree_to name table n k) k
    tree_stands zero k b l e = absurd (omega arith)
    tree_stands (suc n) k b l e =
        let here = from_at (tree_to name table n) k b e (λ part inside.
        let low = ok.earlier k b part e inside in
        let within = slice_get_within table k b e in
        elim (slice_get_cases table part.0).1 [
          | inl (c, q, f, g) ↦ tree_stands n part.0 c (omega arith) f
          | inr (q, f) ↦ absurd (omega arith)
        ]) in
        subst (λ (o : Option Binding). At rows (tree_from name (tree_to name table n) o) k) (sym e) here

    -- A number stands for its tree.
    pub tree_at : (k : ℕ) (b : Binding) → slice_get table k ≡ Some b → At rows (tree_of name table k) k
    tree_at k b e = tree_stands (suc k) k b (omega arith) e

    -- So does each part.
    pub part_at : (k : ℕ) (b : Binding) (part : BindingId) → slice_get table k ≡ Some b → Contains (sources_of b) part
        → At rows (tree_of name table part.0) part.0
    part_at k b part e inside =
        let low = ok.earlier k b part e inside in
        let within = slice_get_within table k b e in
        elim (slice_get_cases table part.0).1 [
          | inl (c, q, f, g) ↦ tree_at part.0 c f
          | inr (q, f) ↦ absurd (omega arith)
        ]

    -- a number's tree is that of its entry, of its parts' trees
    pub tree_is : (k : ℕ) (b : Binding) → slice_get table k ≡ Some b → tree_of name table k ≡ tree_from name (tree_of name table) (Some b)
    tree_is k b e =
        one_site rows (tree_of name table k) (tree_from name (tree_of name table) (Some b)) k (tree_at k b e)
        (from_at (tree_of name table) k b e (λ part inside. part_at k b part e inside))

    -- It stands for no other site.
    pub tree_one : (s : Site) (k : ℕ) → At rows s k → tree_of name table k ≡ s
    tree_one s k at =
        let l = at_below name table s k at in
        elim (slice_get_cases table k).1 [
          | inl (b, q, e, g) ↦ one_site rows (tree_of name table k) s k (tree_at k b e) at
          | inr (q, e) ↦ absurd (omega arith)
        ]
