-- Sites as numbers of a table, and what is recorded of the numbers.
use Rattle.std.specs.Prelude.{◌≡◌, ◌≢◌, ℕ, ℤ, Bool, List, [], ◌∷◌, Some, slice_get, Contains}
use Rattle.isle_meaning.specs.Sites.{Site, bool_site, int_site, prim_site, argument, extractor_call, constructor_call, iterator}
use Rattle.isle_meaning.specs.Sites.{make_variant, match_variant, make_struct, extract_struct, make_some, match_some, match_tuple}
use Rattle.isle_meaning.specs.Sites.{Sites, no_sites, more_sites}
use Rattle.isle_meaning.specs.Demands.{Constraint, Demand, constrained, equal, Among}

-- an entry of a table, whose parts are numbers
pub data Row : Type 0 where
  bool_row : Bool → ℕ → Row
  int_row : ℤ → ℕ → Row
  prim_row : List ℕ → Row
  argument_row : ℕ → Row
  extractor_row : ℕ → ℕ → Row
  constructor_row : ℕ → List ℕ → ℕ → Row
  iterator_row : ℕ → Row
  make_variant_row : ℕ → ℕ → List ℕ → Row
  match_variant_row : ℕ → ℕ → ℕ → Row
  make_struct_row : ℕ → List ℕ → Row
  extract_struct_row : ℕ → ℕ → Row
  make_some_row : ℕ → Row
  match_some_row : ℕ → Row
  match_tuple_row : ℕ → ℕ → Row

-- the number stands for the site
abbrev mutual
  pub At : List Row → Site → ℕ → Type 0
  At table (bool_site b ty) k = slice_get table k ≡ Some (bool_row b ty)
  At table (int_site n ty) k = slice_get table k ≡ Some (int_row n ty)
  At table (prim_site n) k = slice_get table k ≡ Some (prim_row n)
  At table (argument i) k = slice_get table k ≡ Some (argument_row i)
  At table (extractor_call t s) k = (j : ℕ) × (slice_get table k ≡ Some (extractor_row t j)) × At table s j
  At table (constructor_call t ss i) k = (js : List ℕ) × (slice_get table k ≡ Some (constructor_row t js i)) × AtAll table ss js
  At table (iterator s) k = (j : ℕ) × (slice_get table k ≡ Some (iterator_row j)) × At table s j
  At table (make_variant ty v ss) k = (js : List ℕ) × (slice_get table k ≡ Some (make_variant_row ty v js)) × AtAll table ss js
  At table (match_variant s v i) k = (j : ℕ) × (slice_get table k ≡ Some (match_variant_row j v i)) × At table s j
  At table (make_struct ty ss) k = (js : List ℕ) × (slice_get table k ≡ Some (make_struct_row ty js)) × AtAll table ss js
  At table (extract_struct s i) k = (j : ℕ) × (slice_get table k ≡ Some (extract_struct_row j i)) × At table s j
  At table (make_some s) k = (j : ℕ) × (slice_get table k ≡ Some (make_some_row j)) × At table s j
  At table (match_some s) k = (j : ℕ) × (slice_get table k ≡ Some (match_some_row j)) × At table s j
  At table (match_tuple s i) k = (j : ℕ) × (slice_get table k ≡ Some (match_tuple_row j i)) × At table s j

  pub AtAll : List Row → Sites → List ℕ → Type 0
  AtAll table no_sites [] = Unit {0}
  AtAll table no_sites (j ∷ js) = ⊥
  AtAll table (more_sites s ss) [] = ⊥
  AtAll table (more_sites s ss) (j ∷ js) = At table s j × AtAll table ss js

-- what is recorded of the numbers, as demands of the sites that they stand for
abbrev pub Recorded : List Row → List (ℕ × Constraint) → List (ℕ × ℕ) → Demand → Type 0
Recorded table has same (constrained s c) = (k : ℕ) × Contains has (k, c) × At table s k
Recorded table has same (equal s u) = (a : ℕ) × (b : ℕ) × Contains same (a, b) × At table s a × At table u b

-- The demands were recorded: each constraint, and each equality of different numbers.
pub record AreRecorded (table : List Row) (has : List (ℕ × Constraint)) (same : List (ℕ × ℕ)) (ds : List Demand) : Type 0 where
  pub constraint : (k : ℕ) (c : Constraint) → Contains has (k, c) → (s : Site) × At table s k × Among ds (constrained s c)
  pub equality : (a b : ℕ) → Contains same (a, b) → (s : Site) × (u : Site) × At table s a × At table u b × Among ds (equal s u)
  pub all_constraints : (s : Site) (c : Constraint) → Among ds (constrained s c) → (k : ℕ) × At table s k × Contains has (k, c)
  pub all_equalities : (s u : Site) → Among ds (equal s u) → (a : ℕ) × (b : ℕ) × At table s a × At table u b
      × (a ≢ b → Contains same (a, b))
