-- Runs of covered terms, and of calls that no rule matches, by trees and by rules.
use Rattle.std.specs.Prelude.{◌≡◌, ◌≤◌, ℕ, Bool, true, false, List, Option, length, Contains}
use Rattle.isle_types.specs.declared.ids.TermId.{TermId}
use Rattle.isle_rules.specs.Values.{ValueTree, ValueTrees}
use Rattle.isle_rules.specs.TypedRules.{TypedRule}
use Rattle.isle_meaning.specs.Asking.{Ended, stuck}
use Rattle.isle_meaning.specs.Calls.{IsRuleAt}
use Rattle.isle_meaning.specs.GroundValues.{AreValuesOf}
use Rattle.isle_meaning.specs.Machine.Runs.{MachineRun}
use Rattle.isle_meaning.specs.Outcomes.{Outcome, given, ended, outcome_of}
use Rattle.isle_meaning.specs.PlainRuns.{PlainRun}
use Rattle.isle_meaning.specs.Reaching.{IsCalledInRule}
use Rattle.isle_meaning.specs.Values.{Value, Values}
use Rattle.isle_meaning.specs.ValueTypes.{IsOfType, AreOfTypes}
use Rattle.isle_meaning.specs.Worlds.{CheckedProgram, Answers, AllowsValue, AllowsOutputs, Event}
use Rattle.isle_program.specs.declared.program.Program.{Program}
use Rattle.isle_program.specs.Facts.Asked.{AreRoots}
use Rattle.isle_program.specs.Facts.Inhabited.{AreAllInhabited}
use Rattle.isle_program.specs.Facts.Reach.{Reaches}
use Rattle.isle_program.specs.Meanings.{checked}
use Rattle.isle_program.specs.Programs.{types_of, terms_of}
use Rattle.isle_coverage.specs.Covered.{IsCovered, IsMissed}
use Rattle.isle_coverage.specs.Stuck.{AreNeverStuck}
use Rattle.isle_calls.specs.TreeCalls.{IsCompiled, term_trees}
use Rattle.isle_run.specs.Laws.Sound.{RunsIn}

-- runs of calls in a world, at depths: of a term on arguments, with their steps, effects and outcomes
abbrev pub WorldRuns : Type 1
WorldRuns = Answers → ℕ → ℕ → Values → ℕ → List Event → Outcome Value → Type 0

-- those by a program's trees
abbrev pub runs_by_trees : Program → WorldRuns
runs_by_trees program w n t args steps trace r = MachineRun (checked program) (term_trees program) w n t args steps trace r

-- those by its rules
abbrev pub runs_by_rules : Program → WorldRuns
runs_by_rules program w n t args steps trace r = PlainRun (checked program) w n t args steps trace r

-- a compiled program each of whose types is inhabited
pub record IsInhabitedProgram (program : Program) : Type 0 where
  pub compiled : IsCompiled program
  pub inhabited : AreAllInhabited (types_of program).types

-- a call of a term that can be run, on arguments of its types
pub record IsRunnableCall (program : Program) (t : ℕ) (args : Values) : Type 0 where
  pub runs : RunsIn program t
  pub typed : AreValuesOf (checked program).values args ((checked program).terms.inputs t)

-- No run of any call ends as stuck at a covered term, in any world, at any depth.
abbrev pub CoveredTermsAreNotStuck : (Program → WorldRuns) → Type 0
CoveredTermsAreNotStuck runs = (program : Program) → IsInhabitedProgram program → (t : ℕ) → IsCovered (checked program) t
    → (w : Answers) (n u : ℕ) (args : Values) (steps : ℕ) (trace : List Event) (vs : Values) → IsRunnableCall program u args
    → runs program w n u args steps trace (ended (stuck t vs)) → ⊥

-- No run of a call ends as stuck, in any world, at any depth, where each term to which it may come is never stuck.
abbrev pub CoveredCallsAreNeverStuck : (Program → WorldRuns) → Type 0
CoveredCallsAreNeverStuck runs = (program : Program) → IsInhabitedProgram program → (t : ℕ) → AreNeverStuck program t
    → (w : Answers) (n : ℕ) (args : Values) (steps : ℕ) (trace : List Event) (u : ℕ) (vs : Values) → IsRunnableCall program t args
    → runs program w n t args steps trace (ended (stuck u vs)) → ⊥

-- a rule of a term writes a call of a term, with rules or without
pub record WritesCall (p : CheckedProgram) (from to : ℕ) : Type 0 where
  pub place : ℕ
  pub rule : TypedRule
  pub at : IsRuleAt p from place rule
  pub called : IsCalledInRule p.terms rule to

-- The world answers as the declarations allow: pure constructors without rules that rules call, and extractors, on arguments of their types,
-- and the calls that are these effects.
pub record AnswersAsAllowed (p : CheckedProgram) (w : Answers) (trace : List Event) : Type 0 where
  pub constructs : (from t : ℕ) (args : ValueTrees) → WritesCall p from t → p.has_rules t ≡ false → p.terms.pure t ≡ true
      → AreOfTypes p.values args (p.terms.inputs t) → AllowsValue p t (w.construct t args)
  pub extracts : (t : ℕ) (arg : ValueTree) → IsOfType p.values arg (p.terms.type_of t) → AllowsOutputs p t (w.extract t arg)
  pub effects : (event : Event) → Contains trace event → AllowsValue p event.term event.answer

-- Each run of such a call is answered, with a value or none, where no term reaches itself, the depth is at least the number of terms with
-- rules, and the world answers as the declarations allow.
abbrev pub CoveredCallsAreAnswered : (Program → WorldRuns) → Type 0
CoveredCallsAreAnswered runs = (program : Program) → IsInhabitedProgram program → ((t : ℕ) → Reaches (types_of program) (terms_of program) t t → ⊥)
    → (roots : List TermId) → AreRoots (terms_of program) roots → (t : ℕ) → AreNeverStuck program t
    → (w : Answers) (n : ℕ) (args : Values) (steps : ℕ) (trace : List Event) (r : Outcome Value) → length roots ≤ n → IsRunnableCall program t args
    → AnswersAsAllowed (checked program) w trace → runs program w n t args steps trace r → (answer : Option Value) × (r ≡ outcome_of answer)

-- an outcome is no value, and it is an end where the term may not fail
pub record IsNoAnswer (partial : Bool) (r : Outcome Value) : Type 0 where
  pub no_value : (v : Value) → r ≡ given v → ⊥
  pub ends : partial ≡ false → (e : Ended) × (r ≡ ended e)

-- No run of a call that no rule matches gives a value, in any world, at any depth, and where its term may not fail each ends unanswered.
abbrev pub MissedCallsAreNotAnswered : (Program → WorldRuns) → Type 0
MissedCallsAreNotAnswered runs = (program : Program) → IsInhabitedProgram program → (t : ℕ) (args : Values) → IsRunnableCall program t args
    → IsMissed (checked program) t args → (w : Answers) (n steps : ℕ) (trace : List Event) (r : Outcome Value)
    → runs program w n t args steps trace r → IsNoAnswer ((checked program).terms.partial t) r
