-- What a check writes of a program.
use Rattle.std.specs.Prelude.{◌≡◌, ◌++◌, ℕ, Bool, true, false, List, [], ◌∷◌, codes, decimal}
use Rattle.isle_ast.specs.Positions.Files.{SourceFile}
use Rattle.isle_types.specs.declared.ids.TermId.{TermId}
use Rattle.isle_program.specs.declared.program.Program.{Program}
use Rattle.isle_program.specs.Programs.{term_name, types_of, terms_of, rule_sets_of}
use Rattle.isle_program.specs.Facts.Asked.{AreRoots}
use Rattle.isle_program.specs.Facts.Inhabited.{AreAllInhabited}
use Rattle.isle_program.specs.Facts.Reach.{IsRunnable}
use Rattle.isle_program.specs.Facts.Steps.{steps_in}
use Rattle.islec.specs.Missing.{TellsMissing}
use Rattle.islec.specs.Reasons.{IsReason}
use Rattle.islec.specs.declared.terms.Telling.{Telling}

-- the word for whether a term can be run
pub record TellsRuns (program : Program) (term : TermId) (word : List ℕ) : Type 0 where
  pub runs : IsRunnable (types_of program) (terms_of program) term.0 → word ≡ codes " runnable "
  pub runs_not : ¬ IsRunnable (types_of program) (terms_of program) term.0 → word ≡ codes " not-runnable "

-- below the line of a term that can't be run the reason, where reasons are asked for
pub record TellsReason (asked : Bool) (program : Program) (term : TermId) (told : List ℕ) : Type 0 where
  pub reason : IsReason asked told
  pub runs : IsRunnable (types_of program) (terms_of program) term.0 → told ≡ []

-- the line of a term: its name, whether it can be run, and how many steps its rules take at most; and its reason below it
pub record IsTermLine (asked : Bool) (program : Program) (term : TermId) (line : List ℕ) : Type 0 where
  pub word : List ℕ
  pub runs : TellsRuns program term word
  pub told : List ℕ
  pub reason : TellsReason asked program term told
  pub is : line ≡ term_name program term ++ (word ++ (decimal (steps_in (rule_sets_of program) term.0) ++ (codes "\n" ++ told)))

-- the lines of terms, one behind the other
pub data AreTermLines (asked : Bool) (program : Program) : List TermId → List ℕ → Type 0 where
  no_lines : AreTermLines asked program [] []
  more_lines : {term : TermId} {terms : List TermId} {line lines : List ℕ} → IsTermLine asked program term line
      → AreTermLines asked program terms lines
      → AreTermLines asked program (term ∷ terms) (line ++ lines)

-- the note on types without values: nothing where each type has one
pub record NotesTypes (program : Program) (note : List ℕ) : Type 0 where
  pub inhabited : AreAllInhabited (types_of program).types → note ≡ []
  pub uninhabited : ¬ AreAllInhabited (types_of program).types → note ≡ codes "some type has no value\n"

-- the lines of the terms with rules, ascending, where they are asked for
abbrev pub TellsTerms : Program → (asked explained : Bool) → List ℕ → Type 0
TellsTerms program true explained lines = (terms : List TermId) × AreRoots (terms_of program) terms × AreTermLines explained program terms lines
TellsTerms program false explained lines = lines ≡ []

-- what a check writes of an accepted program: that it is accepted, whether some type has no value, the lines of its terms, and calls that no
-- rule matches
pub record TellsProgram (files : List SourceFile) (program : Program) (telling : Telling) (text : List ℕ) : Type 0 where
  pub note : List ℕ
  pub lines : List ℕ
  pub calls : List ℕ
  pub is : text ≡ codes "accepted\n" ++ (note ++ (lines ++ calls))
  pub types : NotesTypes program note
  pub terms : TellsTerms program telling.terms telling.explain lines
  pub missing : TellsMissing files program telling.missing calls
