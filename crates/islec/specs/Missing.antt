-- What a check tells of calls that no rule matches.
use Rattle.std.specs.Prelude.{◌≡◌, ◌⊎◌, ◌++◌, ◌&&◌, ◌||◌, not, ℕ, Bool, true, false, List, [], ◌∷◌, Option, Some, None, codes, decimal}
use Rattle.std.specs.Prelude.{slice_get}
use Rattle.std.specs.Option.{option_map_or}
use Rattle.isle_ast.specs.Positions.Files.{SourceFile}
use Rattle.isle_types.specs.declared.ids.TermId.{TermId}
use Rattle.isle_rules.specs.declared.terms.Term.{Term}
use Rattle.isle_rules.specs.Shown.TermTables.{is_multi_in}
use Rattle.isle_program.specs.declared.program.Program.{Program}
use Rattle.isle_program.specs.Facts.Asked.{AreRoots}
use Rattle.isle_program.specs.Facts.Inhabited.{AreAllInhabited}
use Rattle.isle_program.specs.Meanings.{checked, may_run}
use Rattle.isle_program.specs.Programs.{term_name, terms_of, types_of}
use Rattle.isle_coverage.specs.Covered.{IsCovered, IsNeverStuck}
use Rattle.isle_tell.specs.TreeTexts.Names.{pos_text}
use Rattle.islec.specs.declared.missing.Judging.{Judging}

-- whether a term is judged: it isn't multi, and it isn't partial unless partial terms are judged too
abbrev pub is_judged : Program → Judging → TermId → Bool
is_judged program judging term = not (is_multi_in (terms_of program) term.0) && (judging.partial || not ((checked program).terms.partial term.0))

-- the line of a term of which it isn't decided within so many steps whether each call has a rule
abbrev pub undecided_line : Program → (steps : ℕ) → TermId → List ℕ
undecided_line program steps term = term_name program term ++ (codes ": not decided within " ++ (decimal steps ++ codes " steps\n"))

-- where a term is declared, as `FILE:LINE:COLUMN`
abbrev pub place_of : List SourceFile → Program → TermId → List ℕ
place_of files program term = option_map_or (λ (known : Term). pos_text files known.decl_pos) (slice_get (terms_of program).terms term.0) []

-- a line that says `: missing` behind the place of a term, and lines below it
abbrev pub TellsPlaced : List SourceFile → Program → TermId → List ℕ → Type 0
TellsPlaced files program term text = (lines : List ℕ) × (text ≡ place_of files program term ++ (codes ": missing\n" ++ lines))

-- what is told of the calls of a term that is judged within so many steps: nothing only where each of them has a rule, if it can be run
pub record TellsCalls (files : List SourceFile) (program : Program) (steps : ℕ) (term : TermId) (text : List ℕ) : Type 0 where
  pub is : (text ≡ []) ⊎ (TellsPlaced files program term text ⊎ (text ≡ undecided_line program steps term))
  pub covered : text ≡ [] → may_run program term.0 → IsCovered (checked program) term.0

-- what is told of a term: of one that isn't judged nothing
pub record TellsTerm (files : List SourceFile) (program : Program) (judging : Judging) (term : TermId) (text : List ℕ) : Type 0 where
  pub judged : is_judged program judging term ≡ true → TellsCalls files program judging.steps term text
  pub passed_over : is_judged program judging term ≡ false → text ≡ []

-- what is told of terms, one behind the other
pub data AreCallsTold (files : List SourceFile) (program : Program) (judging : Judging) : List TermId → List ℕ → Type 0 where
  no_terms : AreCallsTold files program judging [] []
  more_terms : {term : TermId} {terms : List TermId} {text texts : List ℕ} → TellsTerm files program judging term text
      → AreCallsTold files program judging terms texts
      → AreCallsTold files program judging (term ∷ terms) (text ++ texts)

-- a term is covered or partial, if it can be run
abbrev pub IsNeverStuckTerm : Program → TermId → Type 0
IsNeverStuckTerm program term = may_run program term.0 → IsNeverStuck (checked program) term.0

-- no call is ever stuck: each type has a value, and each term that can be run is covered or partial
pub record IsNeverStuckProgram (program : Program) : Type 0 where
  pub inhabited : AreAllInhabited (types_of program).types
  pub terms : (t : ℕ) → may_run program t → IsNeverStuck (checked program) t

-- the line that no call is ever stuck
abbrev pub never_stuck_line : List ℕ
never_stuck_line = codes "no call is ever stuck\n"

-- nothing, or that no call is ever stuck, only where that is so
abbrev pub IsLastLine : Program → List ℕ → Type 0
IsLastLine program line = (line ≡ []) ⊎ ((line ≡ never_stuck_line) × IsNeverStuckProgram program)

-- the last line behind what is told of terms: that no call is ever stuck stands there only where that is so, and it does where nothing is told
-- and each type has a value
pub record EndsCalls (program : Program) (texts line : List ℕ) : Type 0 where
  pub is : IsLastLine program line
  pub stands : texts ≡ [] → AreAllInhabited (types_of program).types → line ≡ never_stuck_line

-- what is told of the calls of the terms with rules, ascending, and the last line behind it
pub record TellsAllCalls (files : List SourceFile) (program : Program) (judging : Judging) (text : List ℕ) : Type 0 where
  pub terms : List TermId
  pub roots : AreRoots (terms_of program) terms
  pub texts : List ℕ
  pub told : AreCallsTold files program judging terms texts
  pub last : List ℕ
  pub ends : EndsCalls program texts last
  pub is : text ≡ texts ++ last

-- what is told of calls that no rule matches, where that is asked for
abbrev pub TellsMissing : List SourceFile → Program → Option Judging → List ℕ → Type 0
TellsMissing files program (Some judging) text = TellsAllCalls files program judging text
TellsMissing files program None text = text ≡ []
