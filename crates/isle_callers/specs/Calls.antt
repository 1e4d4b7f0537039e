-- What a query is answered.
use Rattle.std.specs.Prelude.{◌≡◌, ◌⊎◌, ℕ, List, Option, Some, None}
use Rattle.std.specs.List.{AllZip}
use Rattle.isle_types.specs.declared.ids.TermId.{TermId}
use Rattle.isle_meaning.specs.GroundValues.{values_of}
use Rattle.isle_meaning.specs.Worlds.{Event}
use Rattle.isle_rules.specs.Values.{ValueTree, ValueTrees}
use Rattle.isle_callers.specs.declared.example.query.Reply.{Reply}
use Rattle.isle_callers.specs.declared.example.query.Reply.TheVariants.{Refused, Answered}
use Rattle.isle_calls.specs.declared.answer.Answer.{Answer}
use Rattle.isle_calls.specs.declared.answer.Effect.{Effect}
use Rattle.isle_program.specs.declared.program.Program.{Program}
use Rattle.isle_values.specs.declared.queries.QueryFault.{QueryFault}
use Rattle.isle_values.specs.declared.queries.QueryFault.TheVariants.{Q1, Q2, Q3, Q4, Memory}
use Rattle.isle_calls.specs.Calls.Answers.{answers_in, name_of_term, IsEventOf, LeadsThrough}
use Rattle.isle_program.specs.Meanings.{checked}
use Rattle.isle_calls.specs.TreeCalls.{TellsByTree, BeginsByTree}
use Rattle.isle_values.specs.Queries.{IsCallIn, RefusesText}

-- what a host answers a constructor and an extractor that make no effects
abbrev pub Constructs : Type 0
Constructs = List ℕ → ValueTrees → Option ValueTree

abbrev pub Extracts : Type 0
Extracts = List ℕ → ValueTree → Option ValueTrees

-- what a host may answer a constructor that makes an effect, and the host that is left
abbrev pub Steps : Type 0 → Type 1
Steps W = W → List ℕ → ValueTrees → Option ValueTree → W → Type 0

-- a host: what it answers and how it steps, as it is before and after
pub record Hosted (W : Type 0) : Type 1 where
  pub constructs : Constructs
  pub extracts : Extracts
  pub step : Steps W
  pub before : W
  pub after : W

-- the host of a world, of which these are what is answered and how it steps
abbrev pub hosted : {W : Type 0} → (W → Constructs) → (W → Extracts) → Steps W → W → W → Hosted W
hosted constructs extracts step before after =
    record { constructs = constructs before; extracts = extracts before; step = step; before = before; after = after }

-- A call is run with at most 100 calls open at once, makes just these effects, in order, and comes to this answer; the effects lead from the host
-- before to the one after.
pub record IsAnswerOf {W : Type 0} (program : Program) (host : Hosted W) (term : TermId) (args : ValueTrees) (effects : List Effect)
    (answer : Answer) : Type 0 where
  pub made : List Event
  pub shown : AllZip (IsEventOf program) effects made
  pub leads : LeadsThrough host.step (name_of_term program) host.before made host.after
  pub steps : ℕ
  pub told : TellsByTree program (answers_in program host.constructs host.extracts) 100 term.0 (values_of (checked program).values args)
      (record { answer = answer; steps = steps }) made

-- A call is begun, and its answer lost: the effects so far lead from the host before to the one after.
pub record IsBegun {W : Type 0} (program : Program) (host : Hosted W) (term : TermId) (args : ValueTrees) : Type 0 where
  pub made : List Event
  pub leads : LeadsThrough host.step (name_of_term program) host.before made host.after
  pub begins : BeginsByTree program (answers_in program host.constructs host.extracts) 100 term.0 (values_of (checked program).values args) made

-- the number of a cause for which a query is refused
abbrev pub cause_number : QueryFault → Option ℕ
cause_number Q1 = Some 1
cause_number Q2 = Some 2
cause_number Q3 = Some 3
cause_number Q4 = Some 4
cause_number (Memory e) = None

-- What a query is answered: the effects and the answer of the call that it spells, or the number of the cause for which it is refused. A query that
-- is refused leaves the host as it is.
abbrev pub IsAnswered : {W : Type 0} → Program → Hosted W → List ℕ → Reply → Type 0
IsAnswered program host text (Answered effects answer) =
    (term : TermId) × (args : ValueTrees) × IsCallIn program text term args × IsAnswerOf program host term args effects.items answer
IsAnswered program host text (Refused cause) =
    (fault : QueryFault) × (cause_number fault ≡ Some cause) × RefusesText program text fault × (host.after ≡ host.before)

-- What a query has done whose reply is lost, where memory ran out: nothing, or the call that it spells is begun.
abbrev pub IsLost : {W : Type 0} → Program → Hosted W → List ℕ → Type 0
IsLost program host text =
    (host.after ≡ host.before) ⊎ ((term : TermId) × (args : ValueTrees) × IsCallIn program text term args × IsBegun program host term args)
