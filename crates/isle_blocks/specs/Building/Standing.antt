-- The table that a rule's visit leaves: each site that is needed, in the order in which it is first needed.
use Rattle.std.specs.Prelude.{◌≡◌, ◌<◌, ◌≤◌, ◌⊎◌, ℕ, List, [], ◌∷◌, ◌++◌, length, slice_get, Some}
use Rattle.isle_meaning.specs.Sites.{Site, bool_site, int_site, prim_site, argument, extractor_call, constructor_call, iterator}
use Rattle.isle_meaning.specs.Sites.{make_variant, match_variant, make_struct, extract_struct, make_some, match_some, match_tuple}
use Rattle.isle_meaning.specs.Numbered.{Row, bool_row, int_row, prim_row, argument_row, extractor_row, constructor_row, iterator_row}
use Rattle.isle_meaning.specs.Numbered.{make_variant_row, match_variant_row, make_struct_row, extract_struct_row, make_some_row}
use Rattle.isle_meaning.specs.Numbered.{match_some_row, match_tuple_row, At, AtAll}
use Rattle.isle_blocks.specs.declared.ids.BindingId.{BindingId}
use Rattle.isle_blocks.specs.Tables.{IsAbsent}
use Rattle.isle_blocks.specs.Closure.{AreInOrder}
use Rattle.isle_meaning.specs.Demands.{Demand}
use Rattle.isle_meaning.specs.Derived.{FieldOf}
use Rattle.isle_blocks.specs.Closure.{HasAllFields}

-- the entry is that of the site, whose parts have their numbers in the table
abbrev pub IsEntryOf : List Row → Site → Row → Type 0
IsEntryOf rows (bool_site b ty) row = row ≡ bool_row b ty
IsEntryOf rows (int_site n ty) row = row ≡ int_row n ty
IsEntryOf rows (prim_site n) row = row ≡ prim_row n
IsEntryOf rows (argument i) row = row ≡ argument_row i
IsEntryOf rows (extractor_call t s) row = (j : ℕ) × (row ≡ extractor_row t j) × At rows s j
IsEntryOf rows (constructor_call t ss i) row = (js : List ℕ) × (row ≡ constructor_row t js i) × AtAll rows ss js
IsEntryOf rows (iterator s) row = (j : ℕ) × (row ≡ iterator_row j) × At rows s j
IsEntryOf rows (make_variant ty v ss) row = (js : List ℕ) × (row ≡ make_variant_row ty v js) × AtAll rows ss js
IsEntryOf rows (match_variant s v i) row = (j : ℕ) × (row ≡ match_variant_row j v i) × At rows s j
IsEntryOf rows (make_struct ty ss) row = (js : List ℕ) × (row ≡ make_struct_row ty js) × AtAll rows ss js
IsEntryOf rows (extract_struct s i) row = (j : ℕ) × (row ≡ extract_struct_row j i) × At rows s j
IsEntryOf rows (make_some s) row = (j : ℕ) × (row ≡ make_some_row j) × At rows s j
IsEntryOf rows (match_some s) row = (j : ℕ) × (row ≡ match_some_row j) × At rows s j
IsEntryOf rows (match_tuple s i) row = (j : ℕ) × (row ≡ match_tuple_row j i) × At rows s j

-- an entry has its number: it was there, or is put behind the others
abbrev pub IsPut : List Row → Row → ℕ → List Row → Type 0
IsPut rows row k new = ((slice_get rows k ≡ Some row) × (new ≡ rows)) ⊎ (IsAbsent rows row × (k ≡ length rows) × (new ≡ rows ++ row ∷ []))

-- the table after the entries that sites need, each put behind the others in turn where it is lacking
pub data Adds (rows : List Row) : List Site → List Row → Type 0 where
  begin : Adds rows [] rows
  next : {needed : List Site} {old : List Row} (new : List Row) (site : Site) (row : Row) (k : ℕ) → Adds rows needed old
      → IsEntryOf old site row → IsPut old row k new → Adds rows (needed ++ site ∷ []) new

-- a table that goes on from another
abbrev pub GoesOn : List Row → List Row → Type 0
GoesOn rows longer = (k : ℕ) (row : Row) → slice_get rows k ≡ Some row → slice_get longer k ≡ Some row

-- the number stands for the entry of a field
abbrev pub IsFieldRow : List Row → ℕ → ℕ → ℕ → Type 0
IsFieldRow rows k site index = ((variant : ℕ) × (slice_get rows k ≡ Some (match_variant_row site variant index)))
    ⊎ (slice_get rows k ≡ Some (extract_struct_row site index))

-- Sites are numbered in turn behind a table, each that is lacking, and behind them all fields that demands open, each that is lacking,
-- those of the least site first.
pub record NumbersBehind (base : List Row) (needed : List Site) (D : Demand → Type 0) (table : List Row) : Type 0 where
  pub mid : List Row
  pub added : Adds base needed mid
  pub goes_on : GoesOn mid table
  pub opened : (k : ℕ) → length mid ≤ k → k < length table → (t : Site) × (s : Site) × FieldOf D t s × At table s k
  pub all : HasAllFields D table
  pub fields : AreInOrder (IsFieldRow table) (length mid) (length table)

-- numbers that stand for sites in order
abbrev pub StandEach : List Row → List BindingId → List Site → Type 0
StandEach rows [] [] = Unit {0}
StandEach rows [] (t ∷ ts) = ⊥
StandEach rows (id ∷ ids) [] = ⊥
StandEach rows (id ∷ ids) (t ∷ ts) = At rows t id.0 × StandEach rows ids ts
