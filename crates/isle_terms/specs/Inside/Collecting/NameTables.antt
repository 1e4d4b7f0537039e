-- Tables of the first places of names.
use Rattle.std.specs.Prelude.{◌≡◌, ℕ, List}
use Rattle.isle_types.specs.Names.{position_of}
use Rattle.isle_containers.specs.StableMaps.{value_at_text}
use Rattle.isle_terms.specs.declared.env.name_table.NameTable.{NameTable}

-- a table has the first place of each of these names, and of no other
pub record IsTableOf (names : List (List ℕ)) (table : NameTable) : Type 0 where
  pub placed : (name : List ℕ) → value_at_text table.places name ≡ position_of names name
