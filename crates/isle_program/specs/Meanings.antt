-- What the tables of a program say of its terms, types and rules, for the meaning of its calls.
use Rattle.std.specs.Prelude.{ℕ, List}
use Rattle.isle_rules.specs.Values.{ValueTree, value_list}
use Rattle.isle_meaning.specs.GroundValues.{values_of}
use Rattle.isle_meaning.specs.Values.{Values}
use Rattle.isle_meaning.specs.ValueTypes.{AreOfTypes}
use Rattle.isle_meaning.specs.Worlds.{CheckedProgram}
use Rattle.isle_program.specs.declared.program.Program.{Program}
use Rattle.isle_program.specs.Programs.{types_of, terms_of}
use Rattle.isle_program.specs.Facts.Reach.{IsRunnable}
use Rattle.isle_program.specs.Tables.{checked_by}
pub use Rattle.isle_program.specs.Laws.Terms.{signature_at, fields_of_variant, variant_types, struct_types, term_facts}
pub use Rattle.isle_program.specs.Tables.{rule_shown}

-- what is meant by calls of a program's terms
abbrev pub checked : Program → CheckedProgram
checked program = checked_by (types_of program) (terms_of program)

-- terms that can be run
abbrev pub may_run : Program → ℕ → Type 0
may_run program t = IsRunnable (types_of program) (terms_of program) t

-- values are of the types that a term takes, as many
abbrev pub AreArguments : Program → ℕ → List ValueTree → Type 0
AreArguments program term args = AreOfTypes (checked program).values (value_list args) ((checked program).terms.inputs term)

-- arguments, as the meaning has values
abbrev pub arguments_of : Program → List ValueTree → Values
arguments_of program args = values_of (checked program).values (value_list args)
