-- A rule's demands put into the table of its rule set, and closed there.
use Rattle.std.specs.Prelude.{◌≡◌, ◌≤◌, ◌⊎◌, ℕ, List, Option, Some, None, length, slice_get}
use Rattle.isle_types.specs.Names.{AreDistinct}
use Rattle.isle_types.specs.declared.ids.Sym.{Sym}
use Rattle.isle_meaning.specs.Sites.{Site}
use Rattle.isle_meaning.specs.Demands.{Demand, Among}
use Rattle.isle_meaning.specs.Derived.{FieldOf}
use Rattle.isle_meaning.specs.Faults.{IsUnreachable}
use Rattle.isle_meaning.specs.Numbered.{Row, AreRecorded}
use Rattle.isle_blocks.specs.declared.ids.BindingId.{BindingId}
use Rattle.isle_blocks.specs.declared.binding.Binding.{Binding}
use Rattle.isle_blocks.specs.declared.constraint.Constraint.{Constraint}
use Rattle.isle_blocks.specs.declared.placing.PlacedRule.{PlacedRule}
use Rattle.isle_blocks.specs.Rows.{IsInjective, rows_of, constraints_of, pairs_of}
use Rattle.isle_blocks.specs.Tables.{IsTable}
use Rattle.isle_blocks.specs.Inside.ClosureStates.{AreClasses, demanded_in}
use Rattle.isle_blocks.specs.Inside.NormalRules.{HaveClassTests}
use Rattle.isle_blocks.specs.Closure.{Stands, HasAllFields, IsClosure}
use Rattle.isle_blocks.specs.Inside.FieldOrder.{AreFieldsInOrder}
use Rattle.isle_blocks.specs.Inside.MovedSites.{MovesSites}

-- what holds of the demands that are recorded of a rule's own sites, by whatever names
abbrev pub ForDemandsOf : List Binding → List (BindingId × Constraint) → List (BindingId × BindingId)
    → ((Sym → List ℕ) → List Demand → Type 0) → Type 0
ForDemandsOf own has same P =
    (name : Sym → List ℕ) → IsInjective name → (ds : List Demand)
    → AreRecorded (rows_of name own) (constraints_of name has) (pairs_of same) ds → P name ds

-- a site of the table was there, is one of the rule's own, or is a field that the rule's demands open
abbrev pub IsExplained : (Sym → List ℕ) → List Demand → List Binding → List Binding → Site → Type 0
IsExplained name ds base own s = Stands (rows_of name base) s ⊎ Stands (rows_of name own) s ⊎ ((t : Site) × FieldOf (Among ds) t s)

-- The table has grown by sites of a rule and by fields that its demands open, and by nothing else.
pub record GrowsFor (name : Sym → List ℕ) (ds : List Demand) (base own table : List Binding) : Type 0 where
  pub sites : IsTable table
  pub kept : (k : ℕ) (site : Binding) → slice_get base k ≡ Some site → slice_get table k ≡ Some site
  pub explained : (s : Site) → Stands (rows_of name table) s → IsExplained name ds base own s

-- The first sites were put into the table, and behind them it went on by fields, those of the least site first.
pub record IsPutFirst (base first table : List Binding) : Type 0 where
  pub ids : List BindingId
  pub mid : List Binding
  pub moved : MovesSites base first ids mid
  pub kept : (k : ℕ) (site : Binding) → slice_get mid k ≡ Some site → slice_get table k ≡ Some site
  pub fields : AreFieldsInOrder (length mid) table

-- Some values meet the demands; the rule's own sites are closed, and then put behind those of the table where they are lacking.
pub record IsPlacedRule (name : Sym → List ℕ) (ds : List Demand) (base own grown table : List Binding) (placed : PlacedRule) : Type 0 where
  pub reachable : IsUnreachable (Among ds) → ⊥
  pub has : List (BindingId × Constraint)
  pub same : List (BindingId × BindingId)
  pub recorded : AreRecorded (rows_of name own) (constraints_of name has) (pairs_of same) ds
  pub closure : IsClosure name (demanded_in name own has (pairs_of same)) own grown placed.closed.each.items placed.closed.class.items
  pub between : List Binding
  pub opened : GrowsFor name ds base own between
  pub moved : MovesSites between grown placed.numbers.items table
  pub order : IsPutFirst base own table

-- No values meet the demands, and the table stays; or the rule is placed.
abbrev pub IsPlaced : (Sym → List ℕ) → List Demand → List Binding → List Binding → List Binding → List Binding → Option PlacedRule → Type 0
IsPlaced name ds base own grown table None = IsUnreachable (Among ds) × (table ≡ base)
IsPlaced name ds base own grown table (Some placed) = IsPlacedRule name ds base own grown table placed

-- No table that has room has the sites of the table, the rule's own, and all fields of derived variants and structs.
abbrev pub HasNoRoomFor : (Sym → List ℕ) → List Demand → List Binding → List Binding → Type 0
HasNoRoomFor name ds base own =
    (table : List Row) → length table ≤ 65536 → ((s : Site) → Stands (rows_of name base) s → Stands table s)
    → ((s : Site) → Stands (rows_of name own) s → Stands table s) → HasAllFields (Among ds) table → ⊥

-- each site has got a number of its own, its test, and its representative, which has the same test
pub record AreSettled (numbers : List BindingId) (each : List (Option Constraint)) (class : List ℕ) : Type 0 where
  pub once : AreDistinct numbers
  pub fits : length each ≡ length numbers
  pub classes : AreClasses (length numbers) class
  pub tests : HaveClassTests each class
