-- A rule's own sites moved into the table of its rule set, where they have other numbers.
use Rattle.std.specs.Prelude.{◌≡◌, ℕ, List, [], ◌∷◌, ◌++◌, map, Some, slice_get, take, unwrap_or}
use Rattle.isle_meaning.specs.Numbered.{Row, bool_row, int_row, prim_row, argument_row, extractor_row, constructor_row, iterator_row}
use Rattle.isle_meaning.specs.Numbered.{make_variant_row, match_variant_row, make_struct_row, extract_struct_row, make_some_row}
use Rattle.isle_meaning.specs.Numbered.{match_some_row, match_tuple_row}
use Rattle.isle_blocks.specs.declared.ids.BindingId.{BindingId}
use Rattle.isle_blocks.specs.declared.binding.Binding.{Binding}
use Rattle.isle_blocks.specs.declared.binding.Binding.TheVariants.{ConstBool, ConstInt, ConstPrim, Argument, Extractor, Constructor, Iterator}
use Rattle.isle_blocks.specs.declared.binding.Binding.TheVariants.{MakeVariant, MatchVariant, MakeStruct, ExtractStruct, MakeSome, MatchSome}
use Rattle.isle_blocks.specs.declared.binding.Binding.TheVariants.{MatchTuple}
use Rattle.isle_blocks.specs.declared.constraint.Constraint.{Constraint}
use Rattle.isle_blocks.specs.Tables.{IsInterned, IsFull}
use Rattle.isle_blocks.specs.Inside.RowTables.{IsEntered}

-- the number that a site has got, or its own where it has got none
abbrev pub new_number : List BindingId → BindingId → BindingId
new_number numbers id = unwrap_or (slice_get numbers id.0) id

-- a site whose parts have other numbers
abbrev pub renumbered : (BindingId → BindingId) → Binding → Binding
renumbered to (ConstBool val ty) = ConstBool val ty
renumbered to (ConstInt val ty) = ConstInt val ty
renumbered to (ConstPrim val) = ConstPrim val
renumbered to (Argument index) = Argument index
renumbered to (Extractor term parameter) = Extractor term (to parameter)
renumbered to (Constructor term parameters instance) = Constructor term (map to parameters) instance
renumbered to (Iterator source) = Iterator (to source)
renumbered to (MakeVariant ty variant fields) = MakeVariant ty variant (map to fields)
renumbered to (MatchVariant source variant field) = MatchVariant (to source) variant field
renumbered to (MakeStruct ty fields) = MakeStruct ty (map to fields)
renumbered to (ExtractStruct source field) = ExtractStruct (to source) field
renumbered to (MakeSome inner) = MakeSome (to inner)
renumbered to (MatchSome source) = MatchSome (to source)
renumbered to (MatchTuple source field) = MatchTuple (to source) field

-- a test, and a pair, of sites with other numbers
abbrev pub moved_test : (BindingId → BindingId) → BindingId × Constraint → BindingId × Constraint
moved_test to p = (to p.0, p.1)

abbrev pub moved_pair : (BindingId → BindingId) → BindingId × BindingId → BindingId × BindingId
moved_pair to p = (to p.0, to p.1)

-- Sites put into a table in turn, each there already or behind it, and their numbers there.
pub data MovesSites (base : List Binding) : List Binding → List BindingId → List Binding → Type 0 where
  no_sites_moved : MovesSites base [] [] base
  next_site_moved : {own : List Binding} {numbers : List BindingId} {table : List Binding} (site : Binding) (id : BindingId)
      (after : List Binding)
      → MovesSites base own numbers table → IsInterned table (renumbered (new_number numbers) site) id after
      → MovesSites base (own ++ site ∷ []) (numbers ++ id ∷ []) after

-- the first sites are moved, and for the next there is no number left
pub record EndsFull (base own after : List Binding) : Type 0 where
  pub place : ℕ
  pub site : Binding
  pub numbers : List BindingId
  pub at : slice_get own place ≡ Some site
  pub moved : MovesSites base (take place own) numbers after
  pub full : IsFull after (renumbered (new_number numbers) site)

-- the same of an entry
abbrev pub moved_row : (ℕ → ℕ) → Row → Row
moved_row to (bool_row b ty) = bool_row b ty
moved_row to (int_row n ty) = int_row n ty
moved_row to (prim_row n) = prim_row n
moved_row to (argument_row i) = argument_row i
moved_row to (extractor_row t s) = extractor_row t (to s)
moved_row to (constructor_row t ss i) = constructor_row t (map to ss) i
moved_row to (iterator_row s) = iterator_row (to s)
moved_row to (make_variant_row ty v ss) = make_variant_row ty v (map to ss)
moved_row to (match_variant_row s v i) = match_variant_row (to s) v i
moved_row to (make_struct_row ty ss) = make_struct_row ty (map to ss)
moved_row to (extract_struct_row s i) = extract_struct_row (to s) i
moved_row to (make_some_row s) = make_some_row (to s)
moved_row to (match_some_row s) = match_some_row (to s)
moved_row to (match_tuple_row s i) = match_tuple_row (to s) i

-- the number that a site has got, or its own where it has got none
abbrev pub place_in : List ℕ → ℕ → ℕ
place_in numbers k = unwrap_or (slice_get numbers k) k

-- Entries of one table put into another in turn, each there already or behind it, and their numbers there.
pub data Moves (base : List Row) : List Row → List ℕ → List Row → Type 0 where
  none_moved : Moves base [] [] base
  next_moved : {own : List Row} {numbers : List ℕ} {table : List Row} (row : Row) (k : ℕ) (after : List Row)
      → Moves base own numbers table → IsEntered table (moved_row (place_in numbers) row) k after
      → Moves base (own ++ row ∷ []) (numbers ++ k ∷ []) after
