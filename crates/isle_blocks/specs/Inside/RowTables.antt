-- Tables of entries: parts before, each entry once.
use Rattle.std.specs.Prelude.{◌≡◌, ◌<◌, ◌⊎◌, ℕ, List, [], ◌∷◌, ◌++◌, length, Contains, Some, slice_get}
use Rattle.isle_meaning.specs.Numbered.{Row, bool_row, int_row, prim_row, argument_row, extractor_row, constructor_row, iterator_row}
use Rattle.isle_meaning.specs.Numbered.{make_variant_row, match_variant_row, make_struct_row, extract_struct_row, make_some_row}
use Rattle.isle_meaning.specs.Numbered.{match_some_row, match_tuple_row}

-- the parts of an entry
abbrev pub sources : Row → List ℕ
sources (bool_row b ty) = []
sources (int_row n ty) = []
sources (prim_row n) = []
sources (argument_row i) = []
sources (extractor_row t s) = s ∷ []
sources (constructor_row t ss i) = ss
sources (iterator_row s) = s ∷ []
sources (make_variant_row ty v ss) = ss
sources (match_variant_row s v i) = s ∷ []
sources (make_struct_row ty ss) = ss
sources (extract_struct_row s i) = s ∷ []
sources (make_some_row s) = s ∷ []
sources (match_some_row s) = s ∷ []
sources (match_tuple_row s i) = s ∷ []

-- sources before, each entry once
pub record IsTable (rows : List Row) : Type 0 where
  pub earlier : (k s : ℕ) (row : Row) → slice_get rows k ≡ Some row → Contains (sources row) s → s < k
  pub once : (j k : ℕ) (row : Row) → slice_get rows j ≡ Some row → slice_get rows k ≡ Some row → j ≡ k

-- no number has the entry
abbrev pub IsMissing : List Row → Row → Type 0
IsMissing rows row = (k : ℕ) → slice_get rows k ≡ Some row → ⊥

-- the entry's number, where it is put behind the others if the table lacks it
abbrev pub IsEntered : List Row → Row → ℕ → List Row → Type 0
IsEntered rows row k after = ((slice_get rows k ≡ Some row) × (after ≡ rows)) ⊎ (IsMissing rows row × (k ≡ length rows) × (after ≡ rows ++ row ∷ []))
