-- The names of symbols, and what definitions make of a rule that is built.
use Rattle.std.specs.Prelude.{◌≡◌, ◌≢◌, ◌≤◌, ℕ, ◌+◌, List, map, length, replicate, Some, slice_get, unwrap_or}
use Rattle.isle_ast.specs.declared.ast.Def.{Def}
use Rattle.isle_types.specs.declared.ids.Sym.{Sym}
use Rattle.isle_types.specs.Environment.{Environment}
use Rattle.isle_types.specs.Names.{AreDistinct}
use Rattle.isle_types.specs.TypeTables.{TypeTables}
use Rattle.isle_rules.specs.declared.rules.Rule.{Rule}
use Rattle.isle_rules.specs.declared.terms.Term.{Term}
use Rattle.isle_rules.specs.declared.visit.fault.VisitFault.{VisitFault}
use Rattle.isle_rules.specs.declared.visit.fault.VisitFault.TheVariants.{Undefined}
use Rattle.isle_rules.specs.TypedRules.{TypedRule}
use Rattle.isle_rules.specs.Definitions.{declared_by}
use Rattle.isle_meaning.specs.Facts.{TermFacts, facts_of}
use Rattle.isle_meaning.specs.Needs.{needs_of, IsNeeded}
use Rattle.isle_meaning.specs.Numbered.{Row}
use Rattle.isle_meaning.specs.Sites.{Site}
use Rattle.isle_rules.specs.Shown.ShownRules.{greatest}
use Rattle.isle_rules.specs.Shown.TermTables.{TermTables}
use Rattle.isle_rules.specs.Shown.RulesShown.{ShowsTerms}
use Rattle.isle_blocks.specs.declared.builder.BuiltRule.{BuiltRule}
use Rattle.isle_blocks.specs.Closure.{Stands}
use Rattle.isle_blocks.specs.Inside.Building.Building.{gathered_in}
use Rattle.isle_blocks.specs.Inside.Building.Built.{IsBuiltOf}

-- the length of the longest name
abbrev pub longest_of : List (List ℕ) → ℕ
longest_of names = greatest (map (λ (name : List ℕ). length name) names)

-- a text of a symbol's own, longer than each name
abbrev pub text_beyond : List (List ℕ) → Sym → List ℕ
text_beyond names symbol = replicate (longest_of names + 1 + symbol.0) 0

-- the name of a symbol; a text of its own where there is none
abbrev pub name_by : List (List ℕ) → Sym → List ℕ
name_by names symbol = unwrap_or (slice_get names symbol.0) (text_beyond names symbol)

-- whatever definitions an environment shows, a rule of it is built as the typed rule at its place needs and demands
abbrev pub BuiltAsDefined : TermTables → Rule → BuiltRule → Type 0
BuiltAsDefined env rule built = (tyenv : TypeTables) (types : Environment) (levels max : ℕ) (defs : List Def) → AreDistinct tyenv.names
    → (shows : ShowsTerms tyenv env types levels max defs) → (place : ℕ) (typed : TypedRule) → slice_get env.rules place ≡ Some rule
    → slice_get shows.environment.rules place ≡ Some typed
    → IsBuiltOf (name_by tyenv.names) (facts_of (declared_by types env.expands shows.environment)) typed (gathered_in built) built.result

-- a rule of an environment that shows definitions uses nothing that isn't defined
abbrev pub UsesWhatIsDefined : TermTables → Rule → VisitFault → Type 0
UsesWhatIsDefined env rule fault = (tyenv : TypeTables) (types : Environment) (levels max : ℕ) (defs : List Def)
    → ShowsTerms tyenv env types levels max defs → (place : ℕ) → slice_get env.rules place ≡ Some rule → fault ≢ Undefined

-- no term has more arguments than there are numbers for fields and places
abbrev pub HaveFewArguments : List Term → Type 0
HaveFewArguments terms = (number : ℕ) (term : Term) → slice_get terms number ≡ Some term → length term.arg_tys ≤ 255

-- no table that has a number for each of its entries has all sites that a rule needs
abbrev pub NeedsTooMany : TermFacts → TypedRule → Type 0
NeedsTooMany facts typed =
    (table : List Row) → length table ≤ 65536 → ((s : Site) → IsNeeded (needs_of facts typed) s → Stands table s) → ⊥

-- whatever definitions an environment shows whose terms have few arguments, its typed rule needs more sites than there are numbers
abbrev pub HasTooManySites : TermTables → Rule → Type 0
HasTooManySites env rule = (tyenv : TypeTables) (types : Environment) (levels max : ℕ) (defs : List Def) → AreDistinct tyenv.names
    → (shows : ShowsTerms tyenv env types levels max defs) → HaveFewArguments env.terms → (place : ℕ) (typed : TypedRule)
    → slice_get env.rules place ≡ Some rule → slice_get shows.environment.rules place ≡ Some typed
    → NeedsTooMany (facts_of (declared_by types env.expands shows.environment)) typed
