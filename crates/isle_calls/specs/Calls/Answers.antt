-- What a call tells: which effects were made, and of which outcome its answer is.
use Rattle.std.specs.Prelude.{◌≡◌, ℕ, List, [], ◌∷◌, ◌++◌, Option, slice_get, string_bytes}
use Rattle.std.specs.List.{AllZip}
use Rattle.isle_types.specs.declared.ids.TermId.{TermId}
use Rattle.isle_rules.specs.Values.{ValueTree, ValueTrees, value_list}
use Rattle.isle_meaning.specs.Values.{Value, Values, no_values, more_values}
use Rattle.isle_meaning.specs.ValueTypes.{ValueFacts, IsOfType, AreOfTypes}
use Rattle.isle_meaning.specs.GroundValues.{values_of, value_of}
use Rattle.isle_meaning.specs.Worlds.{CheckedProgram, Answers, Event}
use Rattle.isle_meaning.specs.Asking.{Asked, asks_value, asks_outputs, ill_typed, Ended, stuck, spent}
use Rattle.isle_calls.specs.declared.answer.Effect.{Effect}
use Rattle.isle_program.specs.declared.program.Program.{Program}
use Rattle.isle_program.specs.Programs.{name_in}
use Rattle.isle_meaning.specs.Outcomes.{Outcome, given, missing, ended}
use Rattle.isle_program.specs.Meanings.{checked}
use Rattle.isle_calls.specs.declared.answer.Answer.{Answer}
use Rattle.isle_calls.specs.declared.answer.Answer.TheVariants.{Value as ValueAnswer, None as NoneAnswer, Stuck, Spent, IllTyped}

-- the name of the term of a number; empty where there is no such term
abbrev pub name_of_term : Program → ℕ → List ℕ
name_of_term program t = name_in program (slice_get program.termenv.terms t)

-- what a world answers, by the numbers of a program's terms
abbrev pub answers_in : Program → (List ℕ → ValueTrees → Option ValueTree) → (List ℕ → ValueTree → Option ValueTrees) → Answers
answers_in program constructs extracts = record {
  construct = λ t trees. constructs (name_of_term program t) trees;
  extract = λ t tree. extracts (name_of_term program t) tree;
}

-- these are the values, written at the types
pub record AreWritten (facts : ValueFacts) (vs : Values) (types : List ℕ) (trees : ValueTrees) : Type 0 where
  pub typed : AreOfTypes facts trees types
  pub stand : values_of facts trees ≡ vs

-- it is the call of this term on these values, each written at the type that the term takes there
abbrev pub IsCalledOn : CheckedProgram → Asked → TermId → ValueTrees → Type 0
IsCalledOn p (asks_value t vs) term trees = (term.0 ≡ t) × AreWritten p.values vs (p.terms.inputs t) trees
IsCalledOn p (asks_outputs t v) term trees = (term.0 ≡ t) × AreWritten p.values (more_values v no_values) (p.terms.type_of t ∷ []) trees

-- an effect, by its term's name
pub record IsEventOf (program : Program) (effect : Effect) (event : Event) : Type 0 where
  pub term : string_bytes effect.term ≡ name_of_term program event.term
  pub args : value_list effect.args.items ≡ event.args
  pub answer : effect.answer ≡ event.answer

-- the effects lead in steps from one world to another
abbrev pub LeadsThrough : {W : Type 0} → (W → List ℕ → ValueTrees → Option ValueTree → W → Type 0) → (ℕ → List ℕ) → W → List Event → W
    → Type 0
LeadsThrough step name world [] next = next ≡ world
LeadsThrough {W} step name world (e ∷ es) next =
    (middle : W) × step world (name e.term) e.args e.answer middle × LeadsThrough step name middle es next

-- just these effects were made: they are behind those of before, and lead from the old world to the new one
pub record HasMade {W : Type 0} (step : W → List ℕ → ValueTrees → Option ValueTree → W → Type 0) (program : Program) (before : W)
    (old : List Effect)
    (after : W) (new : List Effect) (made : List Event) : Type 0 where
  pub more : List Effect
  pub joined : new ≡ old ++ more
  pub shown : AllZip (IsEventOf program) more made
  pub steps : LeadsThrough step (name_of_term program) before made after

-- an answer that tells how a call ended
abbrev pub IsEnd : Program → Answer → Ended → Type 0
IsEnd program (ValueAnswer v) e = ⊥
IsEnd program NoneAnswer e = ⊥
IsEnd program (Stuck term args) e = (vs : Values) × (e ≡ stuck term.0 vs)
    × AreWritten (checked program).values vs ((checked program).terms.inputs term.0) (value_list args.items)
IsEnd program Spent e = e ≡ spent
IsEnd program (IllTyped term args) e = (q : Asked) × (e ≡ ill_typed q) × IsCalledOn (checked program) q term (value_list args.items)

-- the answer tells the outcome of a call of a term: a value of the term's type, none, or how the call ended
abbrev pub TellsOutcome : Program → ℕ → Answer → Outcome Value → Type 0
TellsOutcome program t (ValueAnswer v) r =
    (r ≡ given (value_of (checked program).values v)) × IsOfType (checked program).values v ((checked program).terms.type_of t)
TellsOutcome program t NoneAnswer r = r ≡ missing
TellsOutcome program t (Stuck term args) r = (e : Ended) × (r ≡ ended e) × IsEnd program (Stuck term args) e
TellsOutcome program t Spent r = (e : Ended) × (r ≡ ended e) × IsEnd program Spent e
TellsOutcome program t (IllTyped term args) r = (e : Ended) × (r ≡ ended e) × IsEnd program (IllTyped term args) e
