-- How converters are read, and what the table of their terms shows.
use Rattle.std.specs.Prelude.{◌≡◌, ℕ, true, List, None, Some, is_some}
use Rattle.std.specs.Option.{option_map, option_and_then}
use Rattle.isle_ast.specs.declared.ast.Converter.{Converter as ConverterTree}
use Rattle.isle_ast.specs.declared.ast.Def.{Def}
use Rattle.isle_ast.specs.declared.pos.Pos.{Pos}
use Rattle.isle_types.specs.declared.ids.TypeId.{TypeId}
use Rattle.isle_types.specs.declared.ids.TermId.{TermId}
use Rattle.isle_types.specs.Names.{position_of}
use Rattle.isle_containers.specs.StableMaps.{value_at}
use Rattle.isle_types.specs.Environment.{Environment}
use Rattle.isle_types.specs.TypeEnvs.{type_at}
use Rattle.isle_rules.specs.Signatures.{Signature, Conversion, converter_in}
use Rattle.isle_rules.specs.Elaboration.{type_named}
use Rattle.isle_rules.specs.Definitions.{IsTypeNumber, AreConversions, names_of_terms}
use Rattle.isle_rules.specs.Shown.TermTables.{same_types}
use Rattle.isle_rules.specs.Shown.ShownTerms.{term_at}

-- a converter is read as its inner and outer type and its term, where these are the names of terms
pub record IsReadAs (types : Environment) (names : List (List ℕ)) (tree : ConverterTree) (read : (TypeId × TypeId) × TermId) : Type 0 where
  pub inner : IsTypeNumber types tree.inner_ty read.0.0.0
  pub outer : IsTypeNumber types tree.outer_ty read.0.1.0
  pub term : position_of names tree.term.0 ≡ Some read.1.0

-- a converter is ill at a position: a name of it is not known, or a table has its pair of types already
pub data IsIllConverter (types : Environment) (names : List (List ℕ)) (table : List ((TypeId × TypeId) × TermId)) (tree : ConverterTree)
    : Pos → Type 0 where
  unknown_inner : type_named types tree.inner_ty.0 ≡ None → IsIllConverter types names table tree tree.inner_ty.1
  unknown_outer : type_named types tree.outer_ty.0 ≡ None → IsIllConverter types names table tree tree.outer_ty.1
  unknown_term : position_of names tree.term.0 ≡ None → IsIllConverter types names table tree tree.term.1
  second_of_types : (inner outer : ℕ) → IsTypeNumber types tree.inner_ty inner → IsTypeNumber types tree.outer_ty outer
      → is_some (value_at same_types table (type_at inner, type_at outer)) ≡ true → IsIllConverter types names table tree tree.pos

-- a table has the term of the conversion of each pair of types, and of no other pair
abbrev pub IsTableOfConversions : List Signature → List Conversion → List ((TypeId × TypeId) × TermId) → Type 0
IsTableOfConversions signatures conversions table = (inner outer : ℕ) → value_at same_types table (type_at inner, type_at outer)
    ≡ option_map term_at (option_and_then (position_of (names_of_terms signatures)) (converter_in conversions inner outer))

-- a table is that of the conversions that definitions make
pub record AreReadConverters (types : Environment) (defs : List Def) (signatures : List Signature) (table : List ((TypeId × TypeId) × TermId))
    : Type 0 where
  pub conversions : List Conversion
  pub made : AreConversions types defs signatures conversions
  pub shown : IsTableOfConversions signatures conversions table
