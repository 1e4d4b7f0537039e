-- What a program holds.
use Rattle.std.specs.Prelude.{unwrap_or, ℕ, Bool, List, [], map, Option, Some, None, slice_get}
use Rattle.isle_types.specs.declared.ids.TermId.{TermId}
use Rattle.isle_types.specs.declared.ids.TypeId.{TypeId}
use Rattle.isle_rules.specs.declared.terms.Term.{Term}
use Rattle.isle_meaning.specs.ValueTypes.{ValueFacts}
use Rattle.isle_types.specs.TypeTables.{TypeTables}
use Rattle.isle_types.specs.TypeEnvs.{name_of}
use Rattle.isle_rules.specs.declared.rules.Rule.{Rule}
use Rattle.isle_rules.specs.Shown.TermTables.{TermTables}
use Rattle.isle_blocks.specs.RuleSets.{RulesOverSites}
use Rattle.isle_blocks.specs.Trees.Shown.{BlockShown}
use Rattle.isle_program.specs.declared.program.Program.{Program}
use Rattle.isle_program.specs.Facts.Reach.{is_root}
use Rattle.isle_program.specs.Tables.{term_called, value_facts_by, IsDataNamed}
pub use Rattle.isle_program.specs.Tables.{kind_of_type, data_made, number_of, types_of_term, data_of_term, shape_made, shape_of_term}

-- its types and names
abbrev pub types_of : Program → TypeTables
types_of program = program.tyenv

-- its terms, converters and rules
abbrev pub terms_of : Program → TermTables
terms_of program = program.termenv

-- its rules, in the order of the texts
abbrev pub rules_in : Program → List Rule
rules_in program = program.termenv.rules

-- the rule sets of its terms with rules, ascending by the term
abbrev pub rule_sets_of : Program → List (TermId × RulesOverSites)
rule_sets_of program = program.rule_sets.items

-- the trees of these rule sets, in their order
abbrev pub set_trees_of : Program → List BlockShown
set_trees_of program = program.trees.items

-- the term of a name
abbrev pub program_term : Program → List ℕ → Option TermId
program_term program name = term_called (types_of program) (terms_of program) name

-- the name of a term; empty where there is no such term
abbrev pub name_in : Program → Option Term → List ℕ
name_in program None = []
name_in program (Some term) = unwrap_or (name_of program.tyenv term.name) []

abbrev pub term_name : Program → TermId → List ℕ
term_name program term = name_in program (slice_get program.termenv.terms term.0)

-- whether a term is the root of a rule
abbrev pub has_rules : Program → TermId → Bool
has_rules program term = is_root (terms_of program) term.0

-- the types of the arguments of a term, if there is one
abbrev pub types_of_arguments : Option Term → List TypeId
types_of_arguments None = []
types_of_arguments (Some term) = term.arg_tys

-- what a program says of the types of values
abbrev pub value_facts : Program → ValueFacts
value_facts program = value_facts_by (types_of program) (terms_of program)

-- the types of a term's arguments; none where there is no such term
abbrev pub types_taken : Program → TermId → List ℕ
types_taken program term = map number_of (types_of_arguments (slice_get program.termenv.terms term.0))

-- data is named by its type
abbrev pub HasNamedData : Program → Type 0
HasNamedData program = IsDataNamed (types_of program) (terms_of program)
