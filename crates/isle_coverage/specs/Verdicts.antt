-- What is told of a term's rules.
use Rattle.std.specs.Prelude.{◌≡◌, ℕ, List, [], ◌∷◌, Contains}
use Rattle.isle_types.specs.declared.ids.Sym.{Sym}
use Rattle.isle_types.specs.declared.ids.TermId.{TermId}
use Rattle.isle_meaning.specs.Answers.{Completion}
use Rattle.isle_meaning.specs.Got.{gives}
use Rattle.isle_meaning.specs.GroundValues.{AreValuesOf}
use Rattle.isle_meaning.specs.Held.{Held, Meets}
use Rattle.isle_meaning.specs.Values.{Values}
use Rattle.isle_trees.specs.Answers.{Answers}
use Rattle.isle_blocks.specs.Building.Naming.{name_by}
use Rattle.isle_blocks.specs.RuleSets.{RulesOverSites}
use Rattle.isle_blocks.specs.Rows.{test_of}
use Rattle.isle_blocks.specs.Trees.SiteTrees.{held_by}
use Rattle.isle_program.specs.declared.program.Program.{Program}
use Rattle.isle_program.specs.Meanings.{checked}
use Rattle.isle_program.specs.Programs.{rule_sets_of, types_of}
use Rattle.isle_coverage.specs.Covered.{IsCovered, MayAnswer, SomeRuleMatches}
use Rattle.isle_coverage.specs.declared.verdict.Told.{Told}
use Rattle.isle_coverage.specs.declared.verdict.Told.TheVariants.{Passes, Fails, Differ}
use Rattle.isle_coverage.specs.declared.verdict.Verdict.{Verdict}
use Rattle.isle_coverage.specs.declared.verdict.Verdict.TheVariants.{Covered, Missing, Undecided}

-- what is told is so of what sites hold: a test is passed, or isn't, or two sites don't hold the same
abbrev pub IsSo : (Sym → List ℕ) → Answers Held → Told → Type 0
IsSo name held (Passes site test) = (h : Held) × (held site.0 ≡ gives h) × Meets (test_of name test) h
IsSo name held (Fails site test) = (h : Held) → held site.0 ≡ gives h → Meets (test_of name test) h → ⊥
IsSo name held (Differ first second) = (h : Held) → held first.0 ≡ gives h → held second.0 ≡ gives h → ⊥

-- all of it is
abbrev pub AreSo : (Sym → List ℕ) → Answers Held → List Told → Type 0
AreSo name held [] = Unit {0}
AreSo name held (told ∷ others) = IsSo name held told × AreSo name held others

-- No rule of a term matches arguments of its types where all of this is so of its rule set's sites, whatever calls answer.
abbrev pub MissesWhere : Program → ℕ → RulesOverSites → List Told → Type 0
MissesWhere program t set told = (c : Completion) (args : Values) → MayAnswer (checked program) c t args
    → AreValuesOf (checked program).values args ((checked program).terms.inputs t)
    → AreSo (name_by (types_of program).names) (held_by (name_by (types_of program).names) set.sites (checked program).terms c args []) told
    → SomeRuleMatches (checked program) c t args → ⊥

-- What is told of a term: some rule matches each call, or none matches those of which something is so.
abbrev pub IsVerdict : Program → ℕ → Verdict → Type 0
IsVerdict program t Covered = IsCovered (checked program) t
IsVerdict program t (Missing told) =
    (own : TermId × RulesOverSites) × Contains (rule_sets_of program) own × (own.0.0 ≡ t) × MissesWhere program t own.1 told.items
IsVerdict program t Undecided = Unit {0}
