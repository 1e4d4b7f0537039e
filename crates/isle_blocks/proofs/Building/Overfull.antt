-- A rule for which the builder finds no more numbers needs more sites than there are numbers.
use Rattle.std.proofs.Common.{◌≡◌, ℕ, ◌≤◌, ◌<◌, inl, inr, List, [], length, Some, Ok, Err, slice_get, refl, subst, arith}
use Rattle.std.specs.Prelude.{Result, IfErr}
use Rattle.std.proofs.lemmas.List.{length-map}
use Rattle.isle_ast.specs.declared.ast.Def.{Def}
use Rattle.isle_types.specs.Names.{AreDistinct}
use Rattle.isle_types.specs.Environment.{Environment}
use Rattle.isle_types.specs.TypeTables.{TypeTables}
use Rattle.isle_types.specs.declared.ids.Sym.{Sym}
use Rattle.isle_rules.specs.declared.rules.Rule.{Rule}
use Rattle.isle_rules.specs.declared.visit.fault.VisitFault.{VisitFault}
use Rattle.isle_rules.specs.declared.visit.fault.VisitFault.TheVariants.{Size, Undefined, Memory}
use Rattle.isle_rules.specs.TypedRules.{TypedRule}
use Rattle.isle_rules.specs.Definitions.{declared_by}
use Rattle.isle_meaning.specs.Facts.{facts_of}
use Rattle.isle_meaning.specs.Needs.{needs_of, IsNeeded}
use Rattle.isle_meaning.specs.Numbered.{Row, At}
use Rattle.isle_meaning.specs.Sites.{Site}
use Rattle.isle_rules.specs.Shown.RulesShown.{ShowsTerms}
use Rattle.isle_rules.specs.Shown.TermTables.{TermTables}
use Rattle.isle_meaning.proofs.Matching.Numbering.{one_site}
use Rattle.isle_blocks.specs.declared.builder.BuiltRule.{BuiltRule}
use Rattle.isle_blocks.specs.declared.binding.Binding.{Binding}
use Rattle.isle_blocks.specs.Closure.{Stands}
use Rattle.isle_blocks.specs.Rows.{row_of, rows_of}
use Rattle.isle_blocks.specs.Inside.Building.Building.{gathers, BuildsRule}
use Rattle.isle_blocks.specs.Inside.Building.Gathering.{Gathered, nothing_gathered}
use Rattle.isle_blocks.specs.Building.Naming.{name_by, HaveFewArguments, NeedsTooMany, HasTooManySites}
use Rattle.isle_blocks.specs.Building.Standing.{Adds}
use Rattle.isle_blocks.proofs.AddedRules.{stands_for}
use Rattle.isle_blocks.proofs.Pigeonhole.{too_few_places}
use Rattle.isle_blocks.proofs.Building.Defined.{built_defined, built_of_defined}
use Rattle.isle_blocks.proofs.Building.GoingOn.{goes_rule}
use Rattle.isle_blocks.proofs.Building.Tables.{at_within, stands_once, site_once}

-- a shorter table has not all sites that a table is made of
crowded : (needed : List Site) (rows : List Row) → Adds [] needed rows → (n : ℕ) → n < length rows → (table : List Row) → length table ≤ n
    → ((s : Site) → IsNeeded needed s → Stands table s) → ⊥
crowded needed rows adds n more table small all =
    let once = stands_once needed rows adds in
    too_few_places n (λ i k. (s : Site) × At rows s i × At table s k)
    (λ i h.
    let (s, is, at) = stands_for needed rows adds i (omega arith) in
    let (k, there) = all s is in (k, let l = at_within table s k there in omega arith, (s, at, there)))
    (λ i j k hi hj (s, at, there) (t, at', there').
    let same : s ≡ t = one_site table s t k there there' in
    site_once rows once t i j (subst (λ (z : Site). At rows z i) same at) at')

-- the sites of a rule are as many as its table's
rows_many : (name : Sym → List ℕ) (sites : List Binding) → length (rows_of name sites) ≡ length sites
rows_many name sites = length-map sites (row_of name)

module _ (tyenv : TypeTables) (env : TermTables) (types : Environment) (levels max : ℕ) (defs : List Def)
    (shows : ShowsTerms tyenv env types levels max defs) (rule : Rule) (place : ℕ) (here : slice_get env.rules place ≡ Some rule) where
  -- a rule for which no number is left needs more sites than there are numbers
  pub too_many : AreDistinct tyenv.names → HaveFewArguments env.terms → (typed : TypedRule)
      → slice_get shows.environment.rules place ≡ Some typed → (left : Gathered) → gathers env.terms rule nothing_gathered (Err Size) left
      → NeedsTooMany (facts_of (declared_by types env.expands shows.environment)) typed
  too_many distinct few typed there left run = elim ((goes_rule env.terms few rule).past nothing_gathered left run) [
    | inl (value, end, goes, more) ↦
        let name = name_by tyenv.names in let facts = facts_of (declared_by types env.expands shows.environment) in
        let built = built_defined tyenv env types levels max defs shows rule place here distinct typed there end value goes in
        let many = rows_many name end.sites in
        λ table small all. crowded (needs_of facts typed) (rows_of name end.sites) built.sites 65536 (omega arith) table small all
    | inr (end, breaks) ↦ absurd (built_of_defined tyenv env types levels max defs shows rule place here Undefined end breaks refl)
  ]

-- how building a rule ends where no number is left
pub builds_too_many : (env : TermTables) (rule : Rule) (result : Result BuiltRule VisitFault) → BuildsRule env.terms rule result
    → IfErr result (λ fault. fault ≡ Size → HasTooManySites env rule)
builds_too_many env rule (Ok built) run = tt
builds_too_many env rule (Err Size) run = λ size tyenv types levels max defs distinct shows few place typed here there.
    too_many tyenv env types levels max defs shows rule place here distinct few typed there run.0 run.1
builds_too_many env rule (Err Undefined) run = λ e. cc
builds_too_many env rule (Err Memory) run = λ e. cc
