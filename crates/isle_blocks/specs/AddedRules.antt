-- A rule of definitions, added to the rule set of its term.
use Rattle.std.specs.Prelude.{◌≡◌, ◌≤◌, ◌⊎◌, ◌++◌, ◌∷◌, [], ℕ, Bool, true, false, List, Option, Some, None, length, slice_get}
use Rattle.isle_ast.specs.declared.ast.Def.{Def}
use Rattle.isle_types.specs.declared.ids.Sym.{Sym}
use Rattle.isle_types.specs.Names.{AreDistinct}
use Rattle.isle_types.specs.TypeTables.{TypeTables}
use Rattle.isle_types.specs.Environment.{Environment}
use Rattle.isle_rules.specs.declared.rules.Rule as source
use Rattle.isle_rules.specs.TypedRules.{TypedRule}
use Rattle.isle_rules.specs.Definitions.{declared_by}
use Rattle.isle_rules.specs.Shown.TermTables.{TermTables}
use Rattle.isle_rules.specs.Shown.RulesShown.{ShowsTerms}
use Rattle.isle_meaning.specs.Facts.{TermFacts, facts_of}
use Rattle.isle_meaning.specs.Sites.{Site, iterator}
use Rattle.isle_meaning.specs.Demands.{demands_of, result_of, impure_of}
use Rattle.isle_meaning.specs.Derived.{FieldOf}
use Rattle.isle_meaning.specs.Faults.{IsUnreachable}
use Rattle.isle_meaning.specs.Demands.{DemandOf}
use Rattle.isle_meaning.specs.Needs.{needs_of, IsNeeded}
use Rattle.isle_meaning.specs.Numbered.{Row, At, AreRecorded}
use Rattle.isle_blocks.specs.declared.binding.Binding.{Binding}
use Rattle.isle_blocks.specs.declared.rule.Rule.{Rule}
use Rattle.isle_blocks.specs.declared.ids.BindingId.{BindingId}
use Rattle.isle_blocks.specs.declared.constraint.Constraint.{Constraint}
use Rattle.isle_blocks.specs.declared.builder.BuiltRule.{BuiltRule}
use Rattle.isle_blocks.specs.Rows.{rows_of, constraints_of, pairs_of}
use Rattle.isle_blocks.specs.Inside.ClosureStates.{IsReady}
use Rattle.isle_blocks.specs.Closure.{Stands, HasAllFields}
use Rattle.isle_blocks.specs.ClosedRules.{IsClosedRule, AreNumbersOf}
use Rattle.isle_blocks.specs.Building.Naming.{name_by, HaveFewArguments}
use Rattle.isle_blocks.specs.Building.Standing.{StandEach, Adds, NumbersBehind}

-- a rule that definitions make, and what it stands for
pub record IsDefinedRule (env : TermTables) (rule : source.Rule) : Type 0 where
  pub tyenv : TypeTables
  pub types : Environment
  pub levels : ℕ
  pub max : ℕ
  pub defs : List Def
  pub once : AreDistinct tyenv.names
  pub shows : ShowsTerms tyenv env types levels max defs
  pub few : HaveFewArguments env.terms
  pub place : ℕ
  pub typed : TypedRule
  pub at : slice_get env.rules place ≡ Some rule
  pub typed_at : slice_get shows.environment.rules place ≡ Some typed

abbrev pub name_in : (env : TermTables) (rule : source.Rule) → IsDefinedRule env rule → Sym → List ℕ
name_in env rule d = name_by d.tyenv.names

abbrev pub facts_in : (env : TermTables) (rule : source.Rule) → IsDefinedRule env rule → TermFacts
facts_in env rule d = facts_of (declared_by d.types env.expands d.shows.environment)

-- the sites that a rule needs, in the order in which it first needs them; in a term that may fail its result's last
abbrev pub needs_in_order : TermFacts → Bool → TypedRule → List Site
needs_in_order facts true typed = needs_of facts typed ++ result_of facts true typed ∷ []
needs_in_order facts false typed = needs_of facts typed

-- A rule's own sites with that of its result.
pub record IsOwnOf (name : Sym → List ℕ) (facts : TermFacts) (partial : Bool) (typed : TypedRule) (own : List Binding)
    (has : List (BindingId × Constraint)) (same : List (BindingId × BindingId)) (impure : List BindingId) (result : BindingId) : Type 0 where
  pub ready : IsReady own has same
  pub recorded : AreRecorded (rows_of name own) (constraints_of name has) (pairs_of same) (demands_of facts typed)
  pub needed : (s : Site) → IsNeeded (needs_of facts typed) s → Stands (rows_of name own) s
  pub only : (s : Site) → Stands (rows_of name own) s → IsNeeded (needs_of facts typed) s ⊎ (s ≡ result_of facts partial typed)
  pub value : At (rows_of name own) (result_of facts partial typed) result.0
  pub effects : StandEach (rows_of name own) impure (impure_of facts typed)
  pub order : Adds [] (needs_in_order facts partial typed) (rows_of name own)

-- a site of the table was there, is needed by the rule, is its result, or is a field that its demands open
abbrev pub IsOfRule : (Sym → List ℕ) → TermFacts → Bool → TypedRule → List Binding → Site → Type 0
IsOfRule name facts partial typed base s =
    Stands (rows_of name base) s ⊎ IsNeeded (needs_of facts typed) s ⊎ (s ≡ result_of facts partial typed) ⊎
    ((t : Site) × FieldOf (DemandOf facts typed) t s)

-- a multi call of a rule: the rule needs one value of it, or its result is one
abbrev pub IsMultiCall : TermFacts → Bool → TypedRule → Site → Type 0
IsMultiCall facts partial typed s = IsNeeded (needs_of facts typed) (iterator s) ⊎ (iterator s ≡ result_of facts partial typed)

-- The rule, with what follows from its demands, over the old sites, those that it needs, its result's, and all fields that it opens.
pub record IsAddedRule (name : Sym → List ℕ) (facts : TermFacts) (partial : Bool) (typed : TypedRule) (base table : List Binding) (made : Rule)
    : Type 0 where
  pub reachable : IsUnreachable (DemandOf facts typed) → ⊥
  pub closed : IsClosedRule name (rows_of name table) (DemandOf facts typed) made
  pub calls : AreNumbersOf (rows_of name table) (IsMultiCall facts partial typed) made.iterators
  pub kept : (s : Site) (k : ℕ) → At (rows_of name base) s k → At (rows_of name table) s k
  pub needed : (s : Site) → IsNeeded (needs_of facts typed) s → Stands (rows_of name table) s
  pub fields : HasAllFields (DemandOf facts typed) (rows_of name table)
  pub explained : (s : Site) → Stands (rows_of name table) s → IsOfRule name facts partial typed base s
  pub value : At (rows_of name table) (result_of facts partial typed) made.result.0
  pub effects : StandEach (rows_of name table) made.impure (impure_of facts typed)
  pub order : NumbersBehind (rows_of name base) (needs_in_order facts partial typed) (DemandOf facts typed) (rows_of name table)

-- a table that has a number for each of its entries has all sites that a rule needs and that of its result
pub record HasRoomAlone (facts : TermFacts) (partial : Bool) (typed : TypedRule) : Type 0 where
  pub table : List Row
  pub few : length table ≤ 65536
  pub needed : (s : Site) → IsNeeded (needs_of facts typed) s → Stands table s
  pub result : Stands table (result_of facts partial typed)

-- No values meet the demands of the rule, which has room alone, and the table stays; or the rule is added.
abbrev pub IsAdded : (Sym → List ℕ) → TermFacts → Bool → TypedRule → List Binding → List Binding → Option Rule → Type 0
IsAdded name facts partial typed base table None = IsUnreachable (DemandOf facts typed) × HasRoomAlone facts partial typed × (table ≡ base)
IsAdded name facts partial typed base table (Some made) = IsAddedRule name facts partial typed base table made

-- a visit left the own sites of the rule that definitions make
abbrev pub IsOwnRule : TermTables → source.Rule → Bool → BuiltRule → Type 0
IsOwnRule env rule partial built = (d : IsDefinedRule env rule)
    → IsOwnOf (name_in env rule d) (facts_in env rule d) partial d.typed built.sites built.has.items built.same.items built.impure.items built.result

-- a rule that definitions make is added to a table, or is unreachable
abbrev pub AddsRule : TermTables → source.Rule → Bool → List Binding → List Binding → Option Rule → Type 0
AddsRule env rule partial base table made = (d : IsDefinedRule env rule)
    → IsAdded (name_in env rule d) (facts_in env rule d) partial d.typed base table made

-- no such table has them
abbrev pub HasNoRoomAlone : TermFacts → Bool → TypedRule → Type 0
HasNoRoomAlone facts partial typed = HasRoomAlone facts partial typed → ⊥

-- none has those, the sites of a table, and all fields that the rule's demands open
abbrev pub HasNoRoomBeside : (Sym → List ℕ) → TermFacts → Bool → TypedRule → List Binding → Type 0
HasNoRoomBeside name facts partial typed base =
    (table : List Row) → length table ≤ 65536 → ((s : Site) → Stands (rows_of name base) s → Stands table s)
    → ((s : Site) → IsNeeded (needs_of facts typed) s → Stands table s) → Stands table (result_of facts partial typed)
    → HasAllFields (DemandOf facts typed) table → ⊥

-- a rule that definitions make has no room alone
abbrev pub LacksRoomAlone : TermTables → source.Rule → Bool → Type 0
LacksRoomAlone env rule partial = (d : IsDefinedRule env rule) → HasNoRoomAlone (facts_in env rule d) partial d.typed

-- a rule that definitions make has no room alone, or is reachable and has none beside a table's sites
abbrev pub LacksRoomFor : TermTables → source.Rule → Bool → List Binding → Type 0
LacksRoomFor env rule partial base = (d : IsDefinedRule env rule)
    → HasNoRoomAlone (facts_in env rule d) partial d.typed
    ⊎ ((IsUnreachable (DemandOf (facts_in env rule d) d.typed) → ⊥)
    × HasNoRoomBeside (name_in env rule d) (facts_in env rule d) partial d.typed base)
