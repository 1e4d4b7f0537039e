-- The value of an environment of types: its tables, by name.
use Rattle.std.specs.Prelude.{ℕ, List, [], map, slice_get, unwrap_or}
use Rattle.isle_ast.specs.declared.error.Error.{Error}
use Rattle.isle_types.specs.declared.ids.Sym.{Sym}
use Rattle.isle_types.specs.declared.ids.TypeId.{TypeId}
use Rattle.isle_types.specs.declared.types.«Type».{«Type» as KnownType}
use Rattle.isle_types.specs.Names.{AreDistinct}
use Rattle.isle_types.specs.Interned.{AreInterned}

-- what an environment of types holds
pub record TypeTables : Type 0 where
  -- the interned names, each at the place of its symbol
  pub names : List (List ℕ)
  -- the types, each at the place of its id
  pub types : List KnownType
  -- each type's name with the type's id
  pub numbers : List (List ℕ × TypeId)
  -- each constant's name with the id of its type
  pub constants : List (List ℕ × TypeId)
  -- the errors that were kept, in order
  pub errors : List Error

-- nothing at all
abbrev pub no_tables : TypeTables
no_tables = record { names = []; types = []; numbers = []; constants = []; errors = [] }

-- the name at the place of a symbol; empty where there is none
abbrev pub name_at : List (List ℕ) → Sym → List ℕ
name_at names sym = unwrap_or (slice_get names sym.0) []

-- a table from symbols, with each symbol's name in the symbol's stead
abbrev pub by_name : List (List ℕ) → List (Sym × TypeId) → List (List ℕ × TypeId)
by_name names table = map (λ (entry : Sym × TypeId). (name_at names entry.0, entry.1)) table

-- names stand once each, and the symbols of two tables are theirs
pub record AreTablesOf (names : List (List ℕ)) (numbers constants : List (Sym × TypeId)) : Type 0 where
  pub once : AreDistinct names
  pub types_named : AreInterned names numbers
  pub constants_named : AreInterned names constants
