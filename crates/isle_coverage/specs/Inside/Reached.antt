-- Marks of terms that some term reaches.
use Rattle.std.specs.Prelude.{ℕ, Bool, IsTrue, false, List, All, slice_index_or}
use Rattle.isle_types.specs.declared.ids.TermId.{TermId}
use Rattle.isle_rules.specs.declared.rules.Rule.{Rule}
use Rattle.isle_program.specs.declared.program.Program.{Program}
use Rattle.isle_program.specs.Facts.Reach.{terms_made_by}
use Rattle.isle_program.specs.Meanings.{checked, may_run}
use Rattle.isle_coverage.specs.Covered.{IsNeverStuck}

-- a number is marked
abbrev pub IsMarked : List Bool → ℕ → Type 0
IsMarked marks n = IsTrue (slice_index_or marks n false)

-- where the term of a rule is marked, those by which the rule makes values are
abbrev pub KeepsMarks : List Bool → Rule → Type 0
KeepsMarks marks rule = IsMarked marks rule.root_term.0 → (names : List (List ℕ)) → All (IsMarked marks) (terms_made_by names rule)

-- where a term is marked and can be run, it is never stuck
abbrev pub IsFine : Program → List Bool → TermId → Type 0
IsFine program marks term = IsMarked marks term.0 → may_run program term.0 → IsNeverStuck (checked program) term.0
