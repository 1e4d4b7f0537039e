-- A list of names and the table from a name to its place.
use Rattle.std.specs.Prelude.{◌≡◌, ℕ, List, String, Option, IsSome, ◌==◌, slice_get}
use Rattle.std.specs.Option.{option_map}
use Rattle.isle_types.specs.declared.ids.Sym.{Sym}
use Rattle.isle_types.specs.declared.ids.TypeId.{TypeId}
use Rattle.isle_types.specs.Names.{position_of, AreDistinct}
use Rattle.isle_containers.specs.StableMaps.{value_at, value_at_text}

-- each name stands once, and the table has exactly its place
pub record IsInterned {A : Type 0} (names : List (List ℕ)) (table : List (String A × Sym)) : Type 0 where
  pub once : AreDistinct names
  pub placed : (name : List ℕ) → option_map (λ (sym : Sym). sym.0) (value_at_text table name) ≡ position_of names name

-- what a table from symbols has at a symbol
abbrev pub entry_of : List (Sym × TypeId) → Sym → Option TypeId
entry_of table sym = value_at (λ (a b : Sym). a.0 == b.0) table sym

-- the symbols of a table are those of names
abbrev pub AreInterned : List (List ℕ) → List (Sym × TypeId) → Type 0
AreInterned names table = (sym : Sym) → IsSome (entry_of table sym) → IsSome (slice_get names sym.0)
