-- Sites keep their numbers in a longer table.
use Rattle.std.proofs.Common.{◌≡◌, ◌<◌, ℕ, List, [], ◌∷◌, length, Some, slice_get, subst}
use Rattle.isle_types.specs.declared.ids.Sym.{Sym}
use Rattle.isle_meaning.specs.Sites.{Site, bool_site, int_site, prim_site, argument, extractor_call, constructor_call, iterator}
use Rattle.isle_meaning.specs.Sites.{make_variant, match_variant, make_struct, extract_struct, make_some, match_some, match_tuple}
use Rattle.isle_meaning.specs.Sites.{Sites, no_sites, more_sites}
use Rattle.isle_meaning.specs.Numbered.{Row, At, AtAll}
use Rattle.isle_meaning.proofs.Matching.Numbering.{one_site}
use Rattle.isle_blocks.specs.declared.binding.Binding.{Binding}
use Rattle.isle_blocks.specs.Rows.{rows_of}
use Rattle.isle_blocks.specs.Tables.{IsTable}
use Rattle.isle_blocks.proofs.Closure.Trees.{row_get, get_row, stands}

module _ (short long : List Row) (longer : (k : ℕ) (row : Row) → slice_get short k ≡ Some row → slice_get long k ≡ Some row) where
  mutual
    pub at_longer : (s : Site) (k : ℕ) → At short s k → At long s k
    at_longer (bool_site b ty) k p = longer k _ p
    at_longer (int_site n ty) k p = longer k _ p
    at_longer (prim_site n) k p = longer k _ p
    at_longer (argument i) k p = longer k _ p
    at_longer (extractor_call t s) k (j, p, x) = (j, longer k _ p, at_longer s j x)
    at_longer (constructor_call t ss i) k (j, p, x) = (j, longer k _ p, all_longer ss j x)
    at_longer (iterator s) k (j, p, x) = (j, longer k _ p, at_longer s j x)
    at_longer (make_variant ty v ss) k (j, p, x) = (j, longer k _ p, all_longer ss j x)
    at_longer (match_variant s v i) k (j, p, x) = (j, longer k _ p, at_longer s j x)
    at_longer (make_struct ty ss) k (j, p, x) = (j, longer k _ p, all_longer ss j x)
    at_longer (extract_struct s i) k (j, p, x) = (j, longer k _ p, at_longer s j x)
    at_longer (make_some s) k (j, p, x) = (j, longer k _ p, at_longer s j x)
    at_longer (match_some s) k (j, p, x) = (j, longer k _ p, at_longer s j x)
    at_longer (match_tuple s i) k (j, p, x) = (j, longer k _ p, at_longer s j x)

    all_longer : (ss : Sites) (js : List ℕ) → AtAll short ss js → AtAll long ss js
    all_longer no_sites [] x = tt
    all_longer no_sites (j ∷ js) x = absurd x
    all_longer (more_sites s ss) [] x = absurd x
    all_longer (more_sites s ss) (j ∷ js) x = (at_longer s j x.0, all_longer ss js x.1)

module _ (name : Sym → List ℕ) (table long : List Binding) (longer : (k : ℕ) (b : Binding) → slice_get table k ≡ Some b
    → slice_get long k ≡ Some b) where
  rows_longer : (k : ℕ) (row : Row) → slice_get (rows_of name table) k ≡ Some row → slice_get (rows_of name long) k ≡ Some row
  rows_longer k row e =
      let (b, p, q) = get_row name table k row e in
      subst (λ (r : Row). slice_get (rows_of name long) k ≡ Some r) q (row_get name long k b (longer k b p))

  -- a site keeps its number
  pub stays : (s : Site) (k : ℕ) → At (rows_of name table) s k → At (rows_of name long) s k
  stays = at_longer (rows_of name table) (rows_of name long) rows_longer

  -- and a number of the shorter table stood for its site there
  pub stood : IsTable table → (s : Site) (k : ℕ) → At (rows_of name long) s k → k < length table → At (rows_of name table) s k
  stood ok s k p l =
      let (t, q) = stands name table ok k l in
      subst (λ (z : Site). At (rows_of name table) z k) (one_site (rows_of name long) t s k (stays t k q) p) q
