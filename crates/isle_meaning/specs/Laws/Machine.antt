-- What a machine's run means, and how it stands to a plain run. `C` is the type of tests of a site.
use Rattle.std.specs.Prelude.{◌≡◌, ◌≢◌, ◌≤◌, ℕ, Bool, true, List, [], length, Contains, Option}
use Rattle.isle_trees.specs.Counting.{steps_at_most}
use Rattle.isle_meaning.specs.Values.{Value, Values}
use Rattle.isle_meaning.specs.GroundValues.{AreValuesOf}
use Rattle.isle_meaning.specs.Worlds.{CheckedProgram, Answers, Event}
use Rattle.isle_meaning.specs.Asking.{asks_value, Ended, spent, EndsAt}
use Rattle.isle_meaning.specs.Outcomes.{Outcome, ended, IsMeant, outcome_of}
use Rattle.isle_meaning.specs.PlainRuns.{PlainRun}
use Rattle.isle_meaning.specs.Reaching.{Reaches}
use Rattle.isle_meaning.specs.SoundPrograms.{HasSoundData, IsSound}
use Rattle.isle_meaning.specs.Machine.Runs.{TermTree, MachineRun}
use Rattle.isle_meaning.specs.Machine.Beginnings.{MachineBegins}
use Rattle.isle_meaning.specs.Machine.Trees.{HasTermTrees}
use Rattle.isle_meaning.specs.Machine.Asking.{machine_links}
use Rattle.isle_meaning.specs.Laws.Calls.{AreOne, AreOneRun, IsWhole}

-- Where a machine's run of a term on arguments of its types answers, that is the call's meaning.
abbrev pub MachineRunsAreMeant : Type 0 → Type 0
MachineRunsAreMeant C = (p : CheckedProgram) (w : Answers) (runs : ℕ → Bool) (trees : ℕ → TermTree C) → IsSound p (λ t. runs t ≡ true)
    → HasTermTrees p (λ t. runs t ≡ true) trees
    → (n t : ℕ) (args : Values) (steps : ℕ) (trace : List Event) (r : Outcome Value) → runs t ≡ true
    → AreValuesOf p.values args (p.terms.inputs t) → MachineRun p trees w n t args steps trace r → IsMeant p w n t args trace r

-- Where it ends unanswered, a chain of asking ends so.
abbrev pub MachineEndsAreAsked : Type 0 → Type 0
MachineEndsAreAsked C = (p : CheckedProgram) (w : Answers) (runs : ℕ → Bool) (trees : ℕ → TermTree C) → IsSound p (λ t. runs t ≡ true)
    → HasTermTrees p (λ t. runs t ≡ true) trees
    → (n t : ℕ) (args : Values) (steps : ℕ) (trace : List Event) (e : Ended) → runs t ≡ true
    → AreValuesOf p.values args (p.terms.inputs t) → MachineRun p trees w n t args steps trace (ended e)
    → EndsAt p w (machine_links p w) n (asks_value t args) trace e

-- A call itself reaches no more steps than its term's rules have constraints and sites made equal, and one for each rule.
abbrev pub MachineRunsAreShort : Type 0 → Type 0
MachineRunsAreShort C = (p : CheckedProgram) (w : Answers) (runs : ℕ → Bool) (trees : ℕ → TermTree C)
    (H : HasTermTrees p (λ t. runs t ≡ true) trees)
    → (n t : ℕ) (args : Values) (steps : ℕ) (trace : List Event) (r : Outcome Value) → (h : runs t ≡ true)
    → MachineRun p trees w n t args steps trace r → steps ≤ steps_at_most (H.of_term t h).set (H.of_term t h).left

-- A machine's run that isn't spent is the run at every greater depth, with the same steps, effects and outcome.
abbrev pub MachineRunsStay : Type 0 → Type 0
MachineRunsStay C = (p : CheckedProgram) (w : Answers) (trees : ℕ → TermTree C) (n m t : ℕ) (args : Values) (steps : ℕ) (trace : List Event)
    (r : Outcome Value) → n ≤ m → r ≢ ended spent → MachineRun p trees w n t args steps trace r → MachineRun p trees w m t args steps trace r

-- Two runs of one call at one depth are one, or their effects first differ in the world's answer to the same call.
abbrev pub MachineRunsAreOne : Type 0 → Type 0
MachineRunsAreOne C = (p : CheckedProgram) (w : Answers) (trees : ℕ → TermTree C) → HasSoundData p → (depth t : ℕ) (args : Values) (m n : ℕ)
    (one other : List Event) (r q : Outcome Value) → MachineRun p trees w depth t args m one r → MachineRun p trees w depth t args n other q
    → AreOneRun m one r n other q

-- A machine's run begins with its effects.
abbrev pub MachineRunsBeginSo : Type 0 → Type 0
MachineRunsBeginSo C = (p : CheckedProgram) (w : Answers) (trees : ℕ → TermTree C) (n t : ℕ) (args : Values) (steps : ℕ) (trace : List Event)
    (r : Outcome Value) → MachineRun p trees w n t args steps trace r → MachineBegins p trees w n t args trace

-- It may stop before it has made any.
abbrev pub MachineMayStop : Type 0 → Type 0
MachineMayStop C = (p : CheckedProgram) (w : Answers) (trees : ℕ → TermTree C) (n t : ℕ) (args : Values) → MachineBegins p trees w n t args []

-- One of a pure term begins with none.
abbrev pub PureMachineRunsAreSilent : Type 0 → Type 0
PureMachineRunsAreSilent C = (p : CheckedProgram) (w : Answers) (runs : ℕ → Bool) (trees : ℕ → TermTree C) → IsSound p (λ t. runs t ≡ true)
    → HasTermTrees p (λ t. runs t ≡ true) trees → (n t : ℕ) (args : Values) (made : List Event) → runs t ≡ true → p.terms.pure t ≡ true
    → MachineBegins p trees w n t args made → made ≡ []

-- Where no term reaches itself, no machine's run is spent at a depth of at least the number of terms with rules.
abbrev pub NoMachineRunSpent : Type 0 → Type 0
NoMachineRunSpent C = (p : CheckedProgram) (w : Answers) (runs : ℕ → Bool) (trees : ℕ → TermTree C) → IsSound p (λ t. runs t ≡ true)
    → HasTermTrees p (λ t. runs t ≡ true) trees → ((t : ℕ) → Reaches p t t → ⊥) → (terms : List ℕ)
    → ((t : ℕ) → p.has_rules t ≡ true → Contains terms t) → (n t : ℕ) (args : Values) (steps : ℕ) (trace : List Event) → length terms ≤ n
    → runs t ≡ true → MachineRun p trees w n t args steps trace (ended spent) → ⊥

-- Where a machine's run and a plain run of one call answer, at whatever depths, their answers and effects are one, or the effects first
-- differ in the world's answer to the same call.
abbrev pub RoadsAgree : Type 0 → Type 0
RoadsAgree C = (p : CheckedProgram) (w : Answers) (runs called : ℕ → Bool) (trees : ℕ → TermTree C)
    → IsWhole p (λ t. runs t ≡ true) (λ t. called t ≡ true) → HasTermTrees p (λ t. runs t ≡ true) trees
    → (n m t : ℕ) (args : Values) (steps tried : ℕ) (one other : List Event) (x y : Option Value) → runs t ≡ true
    → AreValuesOf p.values args (p.terms.inputs t) → MachineRun p trees w n t args steps one (outcome_of x)
    → PlainRun p w m t args tried other (outcome_of y) → AreOne one x other y
