-- One call of a compiled program has one meaning.
use Rattle.std.specs.Prelude.{◌≡◌, ◌≤◌, ℕ, Bool, true, false, List, Option, length}
use Rattle.isle_ast.specs.Positions.Files.{SourceFile}
use Rattle.isle_meaning.specs.Values.{Value, Values}
use Rattle.isle_meaning.specs.Worlds.{CheckedProgram, Answers, Event}
use Rattle.isle_types.specs.declared.ids.TermId.{TermId}
use Rattle.isle_meaning.specs.Answers.{Completion}
use Rattle.isle_meaning.specs.Calls.{Agrees, CoversAll, Means}
use Rattle.isle_meaning.specs.Asking.{spent}
use Rattle.isle_meaning.specs.Outcomes.{ended}
use Rattle.isle_meaning.specs.PlainRuns.{PlainRun}
use Rattle.isle_blocks.specs.RuleFaults.{AreFaultless}
use Rattle.isle_program.specs.declared.program.Program.{Program}
use Rattle.isle_meaning.specs.Laws.Calls.{AreOne, HasNoTies, HasValues, Surely}
use Rattle.isle_program.specs.Compiled.{IsProgramOf}
use Rattle.isle_program.specs.Facts.Asked.{AreRoots}
use Rattle.isle_program.specs.Facts.Inhabited.{AreAllInhabited}
use Rattle.isle_program.specs.Facts.Reach.{Reaches, is_root}
use Rattle.isle_program.specs.Meanings.{checked}
use Rattle.isle_program.specs.Programs.{types_of, terms_of}
use Rattle.isle_run.specs.Laws.Sound.{RunsIn}
use Rattle.isle_meaning.specs.SoundPrograms.{IsSound}

-- any term
abbrev pub every_term : ℕ → Type 0
every_term t = Unit {0}

-- Where rules are faultless, those of terms without `multi` have no ties.
abbrev pub FaultlessRulesHaveNoTies : Type 0
FaultlessRulesHaveNoTies = (p : CheckedProgram) (run : ℕ → Bool) → IsSound p (λ t. run t ≡ true) → AreFaultless p.terms p.rules
    → ((t : ℕ) → run t ≡ true → p.terms.multi t ≡ false) → HasNoTies p (λ t. run t ≡ true)

-- Where each type of a compiled program is inhabited, each of its terms has values to give.
abbrev pub InhabitedProgramsHaveValues : Type 0
InhabitedProgramsHaveValues = (files : List SourceFile) (program : Program) → IsProgramOf files program
    → AreAllInhabited (types_of program).types → HasValues (checked program) every_term

-- Two meanings of one call of a term that can be run are one, or their effects first differ in the world's answer to the same call, in
-- a compiled program each of whose types is inhabited.
abbrev pub CompiledMeaningsAreOne : Type 0
CompiledMeaningsAreOne = (files : List SourceFile) (program : Program) → IsProgramOf files program
    → AreAllInhabited (types_of program).types
    → (w : Answers) (n t : ℕ) (args : Values) (one other : List Event) (x y : Option Value) → RunsIn program t
    → Means (checked program) w n t args one x → Means (checked program) w n t args other y → AreOne one x other y

-- In a compiled program each of whose types is inhabited, for a call of a term that can be run there can't but be a completion that agrees
-- one depth lower and answers what the call's rules ask.
abbrev pub PremisesCanBeMet : Type 0
PremisesCanBeMet = (files : List SourceFile) (program : Program) → IsProgramOf files program → AreAllInhabited (types_of program).types
    → (w : Answers) (n t : ℕ) (args : Values) → RunsIn program t
    → Surely ((c : Completion) × Agrees (checked program) w (Means (checked program) w n) c × CoversAll (checked program) c t args)

-- Where no term of a program reaches itself, no plain run of a term with rules is spent at a depth of at least the number of such terms.
abbrev pub AcyclicProgramsAreNotSpent : Type 0
AcyclicProgramsAreNotSpent = (program : Program) → ((t : ℕ) → Reaches (types_of program) (terms_of program) t t → ⊥)
    → (roots : List TermId) → AreRoots (terms_of program) roots
    → (w : Answers) (n t : ℕ) (args : Values) (steps : ℕ) (trace : List Event) → length roots ≤ n → is_root (terms_of program) t ≡ true
    → PlainRun (checked program) w n t args steps trace (ended spent) → ⊥
