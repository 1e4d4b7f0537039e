-- The rules of a rule set as what follows from their demands: their tests are the derived constraints, and their equalities
-- are those left.
use Rattle.std.specs.Prelude.{◌≡◌, ◌≢◌, ◌+◌, ◌↔◌, ℕ, Bool, List, [], length, Contains, IsTrue, nat_eq}
use Rattle.std.specs.List.Sorted.{IsStrictlySortedBy}
use Rattle.std.specs.Map.{keys_of}
use Rattle.isle_containers.specs.JoinedSets.{AreDisjoint, are_joined, members}
use Rattle.isle_types.specs.declared.ids.Sym.{Sym}
use Rattle.isle_meaning.specs.Sites.{Site}
use Rattle.isle_meaning.specs.Demands.{Demand, constrained, equal, Among}
use Rattle.isle_meaning.specs.Demands as meaning
use Rattle.isle_meaning.specs.Derived.{Derived, Closed}
use Rattle.isle_meaning.specs.Faults as faults
use Rattle.isle_meaning.specs.Numbered.{Row, At}
use Rattle.isle_blocks.specs.declared.ids.BindingId.{BindingId}
use Rattle.isle_blocks.specs.declared.constraint.Constraint.{Constraint}
use Rattle.isle_blocks.specs.Rows.{IsInjective, test_of}
use Rattle.isle_blocks.specs.declared.rule.Rule.{Rule}
use Rattle.isle_blocks.specs.Rules.{Tests, AreApart, AreWithin, site_cmp}
use Rattle.isle_blocks.specs.Rules as rules

-- no site has two numbers
abbrev pub StandOnce : List Row → Type 0
StandOnce rows = (s : Site) (k l : ℕ) → At rows s k → At rows s l → k ≡ l

-- the numbers are those of the sites with P, each once, ascending
pub record AreNumbersOf (rows : List Row) (P : Site → Type 0) (ids : List BindingId) : Type 0 where
  pub numbered : (id : BindingId) → Contains ids id → (s : Site) × P s × At rows s id.0
  pub all : (s : Site) → P s → (id : BindingId) × Contains ids id × At rows s id.0
  pub ascending : IsStrictlySortedBy site_cmp ids

-- the tests are the constraints that follow from the demands
pub record AreDerived (name : Sym → List ℕ) (rows : List Row) (D : Demand → Type 0) (tests : Tests) : Type 0 where
  pub derived : (id : BindingId) (test : Constraint) → Contains tests (id, test)
      → (s : Site) × At rows s id.0 × Derived D (constrained s (test_of name test))
  pub all : (s : Site) (c : meaning.Constraint) → Derived D (constrained s c)
      → (id : BindingId) × (test : Constraint) × Contains tests (id, test) × At rows s id.0 × (test_of name test ≡ c)

-- Rules have different tests of a number exactly where their demands have different constraints on a site.
abbrev pub NumbersSayDiffer : Type 0
NumbersSayDiffer = (name : Sym → List ℕ) → IsInjective name → (rows : List Row) → StandOnce rows
    → (ds es : List Demand) (first second : Tests) → AreDerived name rows (Among ds) first → AreDerived name rows (Among es) second
    → AreApart first second ↔ faults.Differ (Among ds) (Among es)

-- The tests of a rule stand in another exactly where its constraints follow from the other's demands.
abbrev pub NumbersSayWithin : Type 0
NumbersSayWithin = (name : Sym → List ℕ) → IsInjective name → (rows : List Row) → StandOnce rows
    → (ds es : List Demand) (first second : Tests) → AreDerived name rows (Among ds) first → AreDerived name rows (Among es) second
    → AreWithin first second ↔ faults.IsWithin (Among ds) (Among es)

-- whether two numbers are one
abbrev pub same_site : BindingId → BindingId → Bool
same_site a b = nat_eq a.0 b.0

-- two different numbers stand in one set where an equality of their sites is left, and each site of such an equality has a number
pub record AreLeftEqual (rows : List Row) (D : Demand → Type 0) (equals : List (List BindingId)) : Type 0 where
  pub left : (x y : BindingId) → x ≢ y → IsTrue (are_joined same_site equals x y)
      → (s : Site) × (u : Site) × At rows s x.0 × At rows u y.0 × Closed D (equal s u)
  pub all : (s u : Site) → Closed D (equal s u)
      → (x : BindingId) × (y : BindingId) × At rows s x.0 × At rows u y.0 × IsTrue (are_joined same_site equals x y)

-- The rule is what follows from the demands. Its tests and equalities are well formed, as `rules_are_well_formed` says.
pub record IsClosedRule (name : Sym → List ℕ) (rows : List Row) (D : Demand → Type 0) (rule : Rule) : Type 0 where
  pub tests : AreDerived name rows D rule.constraints
  pub ascending : IsStrictlySortedBy site_cmp (keys_of rule.constraints)
  pub equalities : AreLeftEqual rows D rule.equals
  pub disjoint : AreDisjoint same_site rule.equals

-- what holds of each rule that follows from demands
abbrev pub OfEach : ((Demand → Type 0) → Rule → Type 0) → Type 0
OfEach P = (name : Sym → List ℕ) → IsInjective name → (rows : List Row) → StandOnce rows
    → (ds : List Demand) (rule : Rule) → IsClosedRule name rows (Among ds) rule → P (Among ds) rule

-- what holds of each two such rules of one table
abbrev pub OfEachTwo : ((Demand → Type 0) → Rule → (Demand → Type 0) → Rule → Type 0) → Type 0
OfEachTwo P = (name : Sym → List ℕ) → IsInjective name → (rows : List Row) → StandOnce rows → (ds es : List Demand) (a b : Rule)
    → IsClosedRule name rows (Among ds) a → IsClosedRule name rows (Among es) b → P (Among ds) a (Among es) b

-- A rule has no equalities exactly where its demands leave none.
abbrev pub NumbersSayFree : Type 0
NumbersSayFree = OfEach (λ D rule. (rule.equals ≡ []) ↔ faults.IsFree D)

-- A rule has as many tests as its demands constrain sites.
abbrev pub NumbersSayCount : Type 0
NumbersSayCount = OfEach (λ D rule. (n : ℕ) → (length rule.constraints ≡ n) ↔ faults.HasConstraints D n)

-- It has as many tests and members of equalities as its demands constrain sites or leave them equal to others.
abbrev pub NumbersSayTotal : Type 0
NumbersSayTotal = OfEach (λ D rule. (n : ℕ) → (length rule.constraints + length (members rule.equals) ≡ n) ↔ faults.HasTotal D n)

-- The rule with fewer tests matches whatever the other does exactly where their demands say so.
abbrev pub NumbersSaySubset : Type 0
NumbersSaySubset = OfEachTwo (λ D a E b. (n m : ℕ) → faults.HasConstraints D n → faults.HasConstraints E m
    → rules.IsSubset a b ↔ faults.IsSubset D n E m)

-- Rules overlap exactly where their demands and priorities do.
abbrev pub NumbersSayOverlaps : Type 0
NumbersSayOverlaps = OfEachTwo (λ D a E b. rules.Overlaps a b ↔ faults.Overlaps D a.prio E b.prio)

-- A rule shadows another exactly where its demands and priority do.
abbrev pub NumbersSayShadows : Type 0
NumbersSayShadows = OfEachTwo (λ D a E b. rules.Shadows a b ↔ faults.Shadows D E a.prio b.prio)
