-- Which files are compiled, and which faults the others have.
use Rattle.std.specs.Prelude.{◌≡◌, ℕ, suc, true, List, [], ◌∷◌, ◌++◌, Some, slice_get, take}
use Rattle.isle_ast.specs.declared.ast.Def.{Def}
use Rattle.isle_ast.specs.declared.error.Error.{Error}
use Rattle.isle_syntax.specs.Errors.{Report}
use Rattle.isle_ast.specs.Positions.Files.{SourceFile}
use Rattle.isle_syntax.specs.Grammar.Verdict.{Spells, IsFaultIn}
use Rattle.isle_types.specs.Environment.{Environment, Makes, AreWithinSizes, HaveEnvironment}
use Rattle.isle_types.specs.Names.{AreDistinct}
use Rattle.isle_types.specs.TypeFaults.{AreFaultsOf}
use Rattle.isle_rules.specs.Definitions.{HaveTerms, TermEnvironment, MakesTerms, declared_by}
use Rattle.isle_rules.specs.TypedRules.{TypedRule}
use Rattle.isle_terms.specs.TypingFaults.{AreTypingFaults}
use Rattle.isle_rules.specs.Shown.RulesShown.{ShowsTerms}
use Rattle.isle_meaning.specs.Facts.{TermFacts, facts_of}
use Rattle.isle_blocks.specs.Building.Naming.{HaveFewArguments}
use Rattle.isle_blocks.specs.DefinedSets.{AreSetsOf}
use Rattle.isle_blocks.specs.RuleFaults.{AreFaultless, AreRuleErrors}
use Rattle.isle_program.specs.declared.program.Program.{Program}
use Rattle.isle_program.specs.declared.compiler.Refused.{Refused}
use Rattle.isle_program.specs.declared.compiler.Refused.TheVariants.{Faults, Memory}
use Rattle.isle_program.specs.Programs.{types_of, terms_of, rule_sets_of, set_trees_of}
use Rattle.isle_program.specs.Trees.{AreSetTrees}

-- the texts of files, which are numbered from `first`, spell these definitions, joined in the order of the files
abbrev pub AreSpelt : (first : ℕ) → List SourceFile → List Def → Type 0
AreSpelt first [] defs = defs ≡ []
AreSpelt first (file ∷ others) defs = (these rest : List Def) × Spells first file.text these
    × AreSpelt (suc first) others rest × (defs ≡ these ++ rest)

-- how many levels a rule's trees may nest
abbrev pub max_levels : ℕ
max_levels = 4096

-- how many nodes a rule may have, templates put in
abbrev pub max_nodes : ℕ
max_nodes = 1048576

-- definitions make terms, converters and typed rules over these types, within the sizes, with internal extractors put in
abbrev pub AreTyped : Environment → List Def → Type 0
AreTyped types defs = HaveTerms types true max_levels max_nodes defs

-- typed files: their texts are spelt, and the definitions make an environment of types and one of terms over it
pub record AreTypedFiles (files : List SourceFile) : Type 0 where
  pub defs : List Def
  pub types : Environment
  pub environment : TermEnvironment
  pub spelt : AreSpelt 0 files defs
  pub made : Makes defs types
  pub within : AreWithinSizes defs
  pub makes : MakesTerms types true max_levels max_nodes defs environment

-- what the declarations of typed files say of terms
abbrev pub facts_in : (files : List SourceFile) → AreTypedFiles files → TermFacts
facts_in files typed = facts_of (declared_by typed.types true typed.environment)

-- their typed rules, in the order of the texts
abbrev pub rules_of : (files : List SourceFile) → AreTypedFiles files → List TypedRule
rules_of files typed = typed.environment.rules

-- accepted files: they are typed, each rule may match, no two overlap, none is shadowed, and those of a term fit in one table
pub record AreAccepted (files : List SourceFile) : Type 0 where
  pub typed : AreTypedFiles files
  pub faultless : AreFaultless (facts_in files typed) (rules_of files typed)

-- the program of files: their texts are spelt, the definitions make an environment of types and one of terms over it, and the
-- program's tables show both, with internal extractors put in; each name is interned once, and no rule has a fault; the program has
-- the rule set of each term with rules, and its tree
pub record IsProgramOf (files : List SourceFile) (program : Program) : Type 0 where
  pub defs : List Def
  pub types : Environment
  pub spelt : AreSpelt 0 files defs
  pub made : Makes defs types
  pub within : AreWithinSizes defs
  pub once : AreDistinct (types_of program).names
  pub terms : ShowsTerms (types_of program) (terms_of program) types max_levels max_nodes defs
  pub expands : (terms_of program).expands ≡ true
  pub faultless : AreFaultless (facts_of (declared_by types true terms.environment)) terms.environment.rules
  pub few : HaveFewArguments (terms_of program).terms
  pub sets : AreSetsOf (terms_of program) (record {
    tyenv = types_of program;
    types = types;
    levels = max_levels;
    max = max_nodes;
    defs = defs;
    once = once;
    shows = terms;
    few = few;
  }) (rule_sets_of program)
  pub trees : AreSetTrees (rule_sets_of program) (set_trees_of program)

-- an error is the fault of the first text that isn't spelt
pub record IsFirstFault (files : List SourceFile) (error : Error) : Type 0 where
  pub place : ℕ
  pub file : SourceFile
  pub defs : List Def
  pub among : slice_get files place ≡ Some file
  pub before : AreSpelt 0 (take place files) defs
  pub fault : IsFaultIn place file.text error

-- the faults of files, those of the first layer that has any: the first text that isn't spelt, the types, the terms with the rules'
-- typing, or the rules of typed files
pub data AreFaults (files : List SourceFile) (errors : List Error) : Type 0 where
  of_a_text : (error : Error) → errors ≡ error ∷ [] → IsFirstFault files error → AreFaults files errors
  of_types : (defs : List Def) → AreSpelt 0 files defs → AreFaultsOf defs errors → ¬ HaveEnvironment defs → AreFaults files errors
  of_terms : (defs : List Def) (types : Environment) → AreSpelt 0 files defs → Makes defs types → AreWithinSizes defs
      → AreTypingFaults types true max_levels max_nodes defs errors → ¬ AreTyped types defs → AreFaults files errors
  of_rules : (typed : AreTypedFiles files) → AreRuleErrors (facts_in files typed) (rules_of files typed) errors → AreFaults files errors

-- a fact of the faults of a refusal, if it has some
abbrev pub IfFaults : Refused → (Report → Type 0) → Type 0
IfFaults (Faults report) P = P report
IfFaults Memory P = Unit {0}
