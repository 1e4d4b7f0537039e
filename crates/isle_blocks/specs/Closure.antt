-- What the closure of a rule's demands is.
use Rattle.std.specs.Prelude.{◌≡◌, ◌<◌, ◌≤◌, ◌↔◌, ℕ, List, Option, Some, None, length, slice_get, slice_index, ◌⊎◌}
use Rattle.isle_types.specs.declared.ids.Sym.{Sym}
use Rattle.isle_meaning.specs.Sites.{Site}
use Rattle.isle_meaning.specs.Demands as meaning
use Rattle.isle_meaning.specs.Demands.{Demand, constrained, equal}
use Rattle.isle_meaning.specs.Derived.{Derived, AreEqual, FieldOf}
use Rattle.isle_meaning.specs.Faults.{IsUnreachable}
use Rattle.isle_meaning.specs.Numbered.{Row, At}
use Rattle.isle_blocks.specs.declared.binding.Binding.{Binding}
use Rattle.isle_blocks.specs.declared.constraint.Constraint.{Constraint}
use Rattle.isle_blocks.specs.declared.ids.BindingId.{BindingId}
use Rattle.isle_blocks.specs.declared.close.Closed.{Closed}
use Rattle.isle_blocks.specs.Rows.{IsInjective, rows_of, test_of, pairs_of}
use Rattle.isle_blocks.specs.Tables.{IsTable}
use Rattle.isle_blocks.specs.Inside.ClosureStates.{HasOwn, AreClasses, demanded_in}
use Rattle.isle_blocks.specs.Inside.NormalRules.{HaveClassTests}

-- a field before another: of a lesser site, or of the same site, with a lesser index
abbrev pub ComesBefore : ℕ → ℕ → ℕ → ℕ → Type 0
ComesBefore site index other next = (site < other) ⊎ ((site ≡ other) × (index < next))

-- The numbers from the first to the end stand for fields: those of the least site first, and those of one site in order.
pub record AreInOrder (IsField : ℕ → ℕ → ℕ → Type 0) (first end : ℕ) : Type 0 where
  pub fields : (k : ℕ) → first ≤ k → k < end → (site : ℕ) × (index : ℕ) × IsField k site index
  pub order : (k l site index other next : ℕ) → first ≤ k → k < l → IsField k site index → IsField l other next → ComesBefore site index other next

-- the site has a number
abbrev pub Stands : List Row → Site → Type 0
Stands table s = (k : ℕ) × At table s k

-- all fields of derived variants and structs have numbers
abbrev pub HasAllFields : (Demand → Type 0) → List Row → Type 0
HasAllFields D table = (s u : Site) → FieldOf D s u → Stands table u

-- No table that has room has what stood in the old one and all fields of derived variants and structs.
abbrev pub HasNoRoom : (Demand → Type 0) → List Row → Type 0
HasNoRoom D old = (table : List Row) → length table ≤ 65536 → ((s : Site) → Stands old s → Stands table s) → HasAllFields D table → ⊥

-- The closed table, with each site's test and each site's representative.
pub record IsClosure (name : Sym → List ℕ) (D : Demand → Type 0) (old table : List Binding) (each : List (Option Constraint))
    (class : List ℕ) : Type 0 where
  pub reachable : IsUnreachable D → ⊥
  pub sites : IsTable table
  pub kept : (k : ℕ) (site : Binding) → slice_get old k ≡ Some site → slice_get table k ≡ Some site
  pub added : (k : ℕ) → length old ≤ k → k < length table → (s : Site) × (u : Site) × FieldOf D s u × At (rows_of name table) u k
  pub fields : HasAllFields D (rows_of name table)
  pub each_fits : length each ≡ length table
  pub classes : AreClasses (length table) class
  pub class_tests : HaveClassTests each class
  pub tested : (a : ℕ) (s : Site) (d : meaning.Constraint) → At (rows_of name table) s a
      → ((c : Constraint) × HasOwn each a c × (test_of name c ≡ d)) ↔ Derived D (constrained s d)
  pub same : (a b : ℕ) (s u : Site) → At (rows_of name table) s a → At (rows_of name table) u b
      → (slice_index class a ≡ slice_index class b) ↔ AreEqual D s u
  pub all_tested : (s : Site) (d : meaning.Constraint) → Derived D (constrained s d) → Stands (rows_of name table) s
  pub all_same : (s u : Site) → Derived D (equal s u) → Stands (rows_of name table) s × Stands (rows_of name table) u

-- what holds of what is recorded of the table's sites, by whatever names
abbrev pub ForRecorded : List Binding → List (BindingId × Constraint) → List (BindingId × BindingId)
    → ((Sym → List ℕ) → (Demand → Type 0) → Type 0) → Type 0
ForRecorded table has same P = (name : Sym → List ℕ) → IsInjective name → P name (demanded_in name table has (pairs_of same))

-- The demands come to nothing, as no values meet them, and the table stays; or to their closure.
abbrev pub ClosesTo : List Binding → List (BindingId × Constraint) → List (BindingId × BindingId) → List Binding → Option Closed → Type 0
ClosesTo old has same table None = ForRecorded old has same (λ name D. IsUnreachable D) × (table ≡ old)
ClosesTo old has same table (Some closed) = ForRecorded old has same (λ name D. IsClosure name D old table closed.each.items closed.class.items)

-- Some values meet the demands, but no table has room for all fields.
abbrev pub LacksRoom : List Binding → List (BindingId × Constraint) → List (BindingId × BindingId) → Type 0
LacksRoom old has same = ForRecorded old has same (λ name D. (IsUnreachable D → ⊥) × HasNoRoom D (rows_of name old))
