-- What holds of each rule set that `check` gives.
use Rattle.std.specs.Prelude.{◌<◌, ℕ, All, List, length}
use Rattle.isle_types.specs.declared.ids.TermId.{TermId}
use Rattle.isle_rules.specs.Shown.TermTables.{TermTables}
use Rattle.isle_meaning.specs.Sites.{Site}
use Rattle.isle_meaning.specs.Numbered.{At}
use Rattle.isle_blocks.specs.Bindings.{MakesKnownVariant}
use Rattle.isle_blocks.specs.ClosedRules.{StandOnce}
use Rattle.isle_blocks.specs.DefinedSets.{AreDefined, name_of, AreSetsOf}
use Rattle.isle_blocks.specs.RuleSets.{RulesOverSites}
use Rattle.isle_blocks.specs.Rows.{rows_of}

-- what holds of each rule set of definitions
abbrev pub OfEachSet : ((env : TermTables) → AreDefined env → RulesOverSites → Type 0) → Type 0
OfEachSet P = (env : TermTables) (d : AreDefined env) (sets : List (TermId × RulesOverSites)) → AreSetsOf env d sets
    → All (λ pair. P env d pair.1) sets

-- each number of its table stands for a site
abbrev pub EachNumberStands : (env : TermTables) → AreDefined env → RulesOverSites → Type 0
EachNumberStands env d set = (k : ℕ) → k < length set.sites → (s : Site) × At (rows_of (name_of env d) set.sites) s k

-- no site has two numbers in it
abbrev pub EachSiteOnce : (env : TermTables) → AreDefined env → RulesOverSites → Type 0
EachSiteOnce env d set = StandOnce (rows_of (name_of env d) set.sites)

-- a variant that a site makes is one of its type, and has a term
abbrev pub EachVariantKnown : (env : TermTables) → AreDefined env → RulesOverSites → Type 0
EachVariantKnown env d set = All (MakesKnownVariant d.tyenv env) set.sites
