-- Calls of the plain road, as far as they have come.
use Rattle.std.specs.Prelude.{◌≡◌, ◌⊎◌, ◌+◌, ◌^◌, ◌<◌, ◌≤◌, ℕ, zero, suc, true, false, List, [], ◌∷◌, ◌++◌, Option, Some, None, length, slice_get}
use Rattle.std.specs.Prelude.{slice_index_or, drop, Contains}
use Rattle.isle_types.specs.declared.ids.TermId.{TermId}
use Rattle.isle_rules.specs.declared.rules.Rule.{Rule}
use Rattle.isle_rules.specs.TypedRules.{TypedIfLet, TypedRule}
use Rattle.isle_meaning.specs.Values.{Value, Values}
use Rattle.isle_meaning.specs.GroundValues.{AreValuesOf}
use Rattle.isle_meaning.specs.Typing.{IsTyped}
use Rattle.isle_meaning.specs.Scopes.{scope, scope_all, none}
use Rattle.isle_meaning.specs.Words.{Word, call_word, Step, word_of, steps_of}
use Rattle.isle_meaning.specs.Worlds.{Event}
use Rattle.isle_meaning.specs.Asking.{Ended}
use Rattle.isle_program.specs.declared.program.Program.{Program}
use Rattle.isle_calls.specs.declared.answer.Answer.{Answer}
use Rattle.isle_calls.specs.declared.answer.Answer.TheVariants.{IllTyped}
use Rattle.isle_calls.specs.declared.answer.Effect.{Effect}
use Rattle.isle_calls.specs.declared.frames.Advanced.{Advanced}
use Rattle.isle_calls.specs.declared.frames.Advanced.TheVariants.{Is, Missing, Ends, Calls}
use Rattle.isle_calls.specs.declared.plain.frame.current.At.{At}
use Rattle.isle_calls.specs.declared.plain.frame.current.At.TheVariants.{IfLet, Right, Left, Missed}
use Rattle.isle_calls.specs.declared.plain.frame.current.Current.{Current}
use Rattle.isle_calls.specs.declared.plain.frame.Driver.{Driver}
use Rattle.isle_calls.specs.declared.plain.frame.Ending.{Ending}
use Rattle.isle_calls.specs.declared.plain.frame.Ending.TheVariants.{On, Leaves, Comes}
use Rattle.isle_calls.specs.declared.plain.frame.Frame.{Frame}
use Rattle.isle_calls.specs.declared.plain.evaluation.Evaluation.{Evaluation}
use Rattle.isle_program.specs.declared.laid.Laid.{Laid}
use Rattle.isle_calls.specs.declared.host.Told.{Told}
use Rattle.isle_calls.specs.declared.host.Told.TheVariants.{Gives, Missing as NotTold, IllTyped as IllTypedTold}
use Rattle.isle_program.specs.declared.laid.LaidRule.{LaidRule}
use Rattle.isle_program.specs.declared.laid.Part.TheVariants.{Impure}
use Rattle.isle_calls.specs.declared.store.Stored.{Stored}
use Rattle.isle_calls.specs.declared.plain.variables.Variables.{Variables}
use Rattle.isle_meaning.specs.Calls.{IsRuleAt}
use Rattle.isle_program.specs.Meanings.{checked, rule_shown, may_run}
use Rattle.isle_program.specs.Plain.Laid.{IsLaidRule}
use Rattle.isle_calls.specs.Calls.States.{State, state}
use Rattle.isle_meaning.specs.Outcomes.{Outcome, given, missing, ended, ImpureRuns}
use Rattle.isle_meaning.specs.PlainRuns.{RuleRuns, RightRuns, RulesRun, IfLetsRun, Tried, PlainRun}
use Rattle.isle_meaning.specs.PlainBeginnings.{ImpureBegins, RightBegins, TriedBegins, RulesBegin, PlainBegins}
use Rattle.isle_program.specs.Programs.{types_of}
use Rattle.isle_calls.specs.Stores.Values.{Stands, StandEach}
use Rattle.isle_meaning.specs.SoundPrograms.{IsSoundRule}
use Rattle.isle_calls.specs.Calls.Answers.{IsEnd}
use Rattle.isle_calls.specs.Inside.Plain.Fitting.{HoldVariables}
use Rattle.isle_meaning.specs.Inside.TypedWords.{AreTypedVariables, AreTypedAnswers, AreTypedSteps}
use Rattle.isle_calls.specs.Inside.Plain.Underway.{Surroundings, runs_below, HasTypedValue, IsPart, IsUnderway, IsAnswered, IsKnown, WaitsFor, known_at}
use Rattle.isle_calls.specs.Inside.Plain.Asked.{IsAskedFor}
use Rattle.isle_calls.specs.Calls.Open.{CallOf}
use Rattle.isle_calls.specs.Calls.Ways.{Way, AdvancesBy}

-- it tries so many rules, makes these effects, and comes to this
abbrev pub CallComes : CallOf → ℕ → List Event → Outcome Value → Type 0
CallComes k tried trace r = PlainRun (checked k.program) k.answers (suc k.depth) k.term k.args tried trace r

-- its plain run begins with these effects
abbrev pub CallBegins : CallOf → List Event → Type 0
CallBegins k made = PlainBegins (checked k.program) k.answers (suc k.depth) k.term k.args made

-- it ends so
abbrev pub CallEnds : CallOf → ℕ → List Event → Answer → Type 0
CallEnds k tried trace answer = (e : Ended) × IsEnd k.program answer e × CallComes k tried trace (ended e)

-- what the calls below it come to
abbrev pub below_call : CallOf → ℕ → Values → List Event → Outcome Value → Type 0
below_call k = runs_below (checked k.program) k.answers k.depth

-- with which effects the calls below it begin
abbrev pub begins_below : CallOf → ℕ → Values → List Event → Type 0
begins_below k = PlainBegins (checked k.program) k.answers k.depth

-- what an impure call that it makes comes to
abbrev pub ImpureComes : CallOf → ℕ → Values → List Event → Outcome Value → Type 0
ImpureComes k t args effects r = ImpureRuns (checked k.program) (below_call k) t args effects r

-- its arguments are of its term's types
abbrev pub HasTypedArgs : CallOf → Type 0
HasTypedArgs k = AreValuesOf (checked k.program).values k.args ((checked k.program).terms.inputs k.term)

-- rules begin with these effects
abbrev pub OthersBegin : CallOf → List ℕ → List Event → Type 0
OthersBegin k others made = RulesBegin (checked k.program) k.answers (below_call k) (begins_below k) k.args others made

-- the rules of these places are left to be tried, after so many
pub record RulesLead (k : CallOf) (others : List ℕ) (tried : ℕ) : Type 0 where
  pub comes : (more : ℕ) (trace : List Event) (r : Outcome Value)
      → RulesRun (checked k.program) k.answers (below_call k) k.term k.args others more trace r → CallComes k (tried + more) trace r
  pub begins : (made : List Event) → OthersBegin k others made → CallBegins k made

-- a rule of a call that is tried: as it is known and laid out, the places of the rules that are left, and how many were tried with it
pub record RuleTried : Type 0 where
  pub call : CallOf
  pub known : Rule
  pub laid : LaidRule
  pub others : List ℕ
  pub tried : ℕ

-- the rule as definitions see it
abbrev pub rule_of : RuleTried → TypedRule
rule_of t = rule_shown (types_of t.call.program).names t.known

-- what its patterns and conditions come to
abbrev pub RuleComes : RuleTried → Outcome (ℕ → Value) → Type 0
RuleComes t s = RuleRuns (checked t.call.program) t.call.answers (below_call t.call) t.call.args (rule_of t) s

-- what conditions of it come to, where the variables have these values
abbrev pub ConditionsCome : RuleTried → (ℕ → Value) → List TypedIfLet → Outcome (ℕ → Value) → Type 0
ConditionsCome t a iflets s = IfLetsRun (checked t.call.program) t.call.answers (below_call t.call) a iflets s

-- what the conditions from a place on come to the rule comes to
abbrev pub ConditionsLead : RuleTried → (ℕ → Value) → ℕ → Type 0
ConditionsLead t a place = (s : Outcome (ℕ → Value)) → ConditionsCome t a (drop place (rule_of t).iflets) s → RuleComes t s

-- the impure calls of its right side
abbrev pub right_steps : RuleTried → List Step
right_steps t = steps_of (checked t.call.program).terms (rule_of t).right

-- and what its right side gives behind them
abbrev pub right_word : RuleTried → Word
right_word t = word_of (checked t.call.program).terms (rule_of t).right

-- what impure calls of its right side, and then the right side, come to, where those before them had these answers
abbrev pub StepsCome : RuleTried → (ℕ → Value) → List (Option Value) → List Step → List Event → Outcome Value → Type 0
StepsCome t a done steps trace r = RightRuns (checked t.call.program) t.call.answers (below_call t.call) a done steps (right_word t) trace r

-- the right side comes to this
abbrev pub RightComes : RuleTried → (ℕ → Value) → List Event → Outcome Value → Type 0
RightComes t a trace r = StepsCome t a [] (right_steps t) trace r

-- with these effects its impure calls begin, where those before them had these answers
abbrev pub StepsBegin : RuleTried → (ℕ → Value) → List (Option Value) → List Step → List Event → Type 0
StepsBegin t a done steps made = RightBegins (checked t.call.program) t.call.answers (below_call t.call) (begins_below t.call) a done steps made

-- so does its right side
abbrev pub RuleBegins : RuleTried → (ℕ → Value) → List Event → Type 0
RuleBegins t a made = StepsBegin t a [] (right_steps t) made

-- what the rule comes to, after so many, and then the others, the call comes to
pub record RuleLeads (t : RuleTried) (before : ℕ) : Type 0 where
  pub comes : (s : Outcome (ℕ → Value)) → RuleComes t s → (more : ℕ) (trace : List Event) (r : Outcome Value)
      → Tried s (RightComes t) (RulesRun (checked t.call.program) t.call.answers (below_call t.call) t.call.term t.call.args t.others) more trace r
      → CallComes t.call (before + more) trace r
  pub begins : (s : Outcome (ℕ → Value)) → RuleComes t s → (made : List Event)
      → TriedBegins s (RuleBegins t) (OthersBegin t.call t.others) made → CallBegins t.call made

-- it is a rule of the call's term, laid out, and leads on after those that were tried before
pub record IsTried (t : RuleTried) : Type 0 where
  pub place : ℕ
  pub laid_out : IsLaidRule t.call.program place t.known t.laid
  pub root : (rule_of t).root ≡ t.call.term
  pub sound : IsSoundRule (checked t.call.program) (may_run t.call.program) (rule_of t)
  pub args_typed : HasTypedArgs t.call
  pub before : ℕ
  pub counts : t.tried ≡ suc before
  pub leads : RuleLeads t before

-- how far it has come: the values that were met, its variables, and what is evaluated
pub record Progress : Type 0 where
  pub stored : List Stored
  pub variables : Variables
  pub evaluation : Evaluation

-- later: more values were met, and more is evaluated
abbrev pub later : Progress → List Stored → Evaluation → Progress
later s new after = record { stored = new; variables = s.variables; evaluation = after }

-- an expression of the rule, where the variables have these values and the impure calls so far these answers, of these types
abbrev pub around : {t : RuleTried} → IsTried t → (ℕ → Value) → List (Option Value) → (ℕ → ℕ) → Laid → Surroundings
around {t = t} is a done answer_types laid = record {
  program = t.call.program;
  answers = t.call.answers;
  depth = t.call.depth;
  variables = a;
  done = done;
  types = is.sound.var_types;
  answer_types = answer_types;
  parts = laid.parts.items;
}

-- the variables that are bound before the condition of a place
abbrev pub scope_before : List TypedIfLet → ℕ → (ℕ → Type 0) → ℕ → Type 0
scope_before [] place S = S
scope_before (x ∷ xs) zero S = S
scope_before (x ∷ xs) (suc place) S = scope_before xs place (scope x.pattern S)

-- of a rule, they have values of their types
abbrev pub HasTypedBefore : {t : RuleTried} → IsTried t → ℕ → (ℕ → Value) → Type 0
HasTypedBefore {t = t} is place a =
    AreTypedVariables (checked t.call.program) (scope_before (rule_of t).iflets place (scope_all (rule_of t).args none)) is.sound.var_types a

-- the condition of a place, where the variables have these values: what it and the conditions behind it come to the rule comes to
pub record ConditionAt (t : RuleTried) (is : IsTried t) (place : ℕ) : Type 0 where
  pub iflet : TypedIfLet
  pub others : List TypedIfLet
  pub left : drop place (rule_of t).iflets ≡ iflet ∷ others
  pub expr : Laid
  pub there : slice_get t.laid.iflets.items place ≡ Some expr
  pub pure : (n j : ℕ) (term : TermId) (ns : List ℕ) → slice_get expr.parts.items n ≡ Some (Impure term ns j) → ⊥
  pub a : ℕ → Value
  pub typed : HasTypedBefore is place a
  pub answer_types : ℕ → ℕ
  pub type : ℕ
  pub part : IsPart (around is a [] answer_types expr) (word_of (checked t.call.program).terms iflet.value) type expr.result
  pub fits : IsTyped (checked t.call.program).terms is.sound.var_types iflet.pattern type
  pub onward : (s : Outcome (ℕ → Value)) → ConditionsCome t a (iflet ∷ others) s → RuleComes t s

-- the surroundings of its expression
abbrev pub around_condition : {t : RuleTried} {is : IsTried t} {place : ℕ} → ConditionAt t is place → Surroundings
around_condition {is = is} c = around is c.a [] c.answer_types c.expr

-- and its expression
abbrev pub condition_word : {t : RuleTried} {is : IsTried t} {place : ℕ} → ConditionAt t is place → Word
condition_word {t = t} c = word_of (checked t.call.program).terms c.iflet.value

-- the condition of a place is evaluated
pub record IsAtIfLet (t : RuleTried) (is : IsTried t) (s : Progress) (place : ℕ) : Type 0 where
  pub condition : ConditionAt t is place
  pub hold : HoldVariables s.stored s.variables condition.a
  pub asked : IsAskedFor condition.expr.result s.evaluation
  pub missed : s.evaluation.missed ≡ false
  pub underway : IsUnderway (around_condition condition) s.stored (condition_word condition) s.evaluation

-- what is evaluated of a right side at a place: the impure call there, or, past the last, the result
abbrev pub word_at : List Step → Word → ℕ → Word
word_at [] result place = result
word_at (s ∷ steps) result zero = call_word s.term s.args (suc s.place)
word_at (s ∷ steps) result (suc place) = word_at steps result place

-- the same of a rule
abbrev pub word_needed : RuleTried → ℕ → Word
word_needed t place = word_at (right_steps t) (right_word t) place

-- the part that is needed at a place
abbrev pub root_at : Laid → ℕ → ℕ
root_at laid place = slice_index_or laid.calls.items place laid.result

-- the right side of the chosen rule, after these effects: its impure calls had these answers, and what is done from here on is what the
-- whole does
pub record RightSoFar (t : RuleTried) (is : IsTried t) (since : List Event) : Type 0 where
  pub a : ℕ → Value
  pub chosen : RuleComes t (given a)
  pub answer_types : ℕ → ℕ
  pub done : List (Option Value)
  pub steps_typed : AreTypedSteps (checked t.call.program) (may_run t.call.program) (HasTypedValue (around is a done answer_types t.laid.right))
      is.sound.var_types answer_types 0 (right_steps t)
  pub type : ℕ
  pub result : IsPart (around is a done answer_types t.laid.right) (right_word t) type t.laid.right.result
  pub typed : AreTypedAnswers (checked t.call.program) answer_types done
  pub onward : (rest : List Event) (r : Outcome Value) → StepsCome t a done (drop (length done) (right_steps t)) rest r
      → RightComes t a (since ++ rest) r
  pub begins : (rest : List Event) → StepsBegin t a done (drop (length done) (right_steps t)) rest → RuleBegins t a (since ++ rest)

-- the surroundings of its expression
abbrev pub around_right : {t : RuleTried} {is : IsTried t} {since : List Event} → RightSoFar t is since → Surroundings
around_right {t = t} {is = is} right = around is right.a right.done right.answer_types t.laid.right

-- the right side is evaluated up to a place
pub record IsAtRight (t : RuleTried) (is : IsTried t) (s : Progress) (place : ℕ) (since : List Event) : Type 0 where
  pub right : RightSoFar t is since
  pub hold : HoldVariables s.stored s.variables right.a
  -- one more call may have been answered, after which nothing was asked for
  pub stage : (length right.done ≡ place) ⊎ ((length right.done ≡ suc place) × (place < length t.laid.right.calls.items))
  pub known : (i n : ℕ) → i < length right.done → slice_get t.laid.right.calls.items i ≡ Some n → IsKnown s.evaluation n
  pub asked : IsAskedFor (root_at t.laid.right place) s.evaluation
  pub missed : s.evaluation.missed ≡ false
  pub underway : IsUnderway (around_right right) s.stored (word_needed t (length right.done)) s.evaluation

-- the rule is at a place, after these effects; it is left, or answers the call none
abbrev pub IsAt : (t : RuleTried) → IsTried t → Progress → At → List Event → Type 0
IsAt t is s (IfLet place) since = (since ≡ []) × IsAtIfLet t is s place
IsAt t is s (Right place) since = IsAtRight t is s place since
IsAt t is s Left since = (since ≡ []) × RuleComes t missing
IsAt t is s Missed since = CallComes t.call t.tried since missing

-- a rule is being tried, or was chosen
pub record IsTryingRule (t : RuleTried) (s : Progress) (place : At) (since : List Event) : Type 0 where
  pub is : IsTried t
  pub at : IsAt t is s place since

-- the rule that a frame tries
abbrev pub rule_tried : CallOf → Current → List ℕ → ℕ → RuleTried
rule_tried k current others tried = record {
  call = k;
  known = current.rule.now;
  laid = current.laid.now;
  others = others;
  tried = tried;
}

-- how far it has come
abbrev pub progress : List Stored → Current → Progress
progress stored current = record { stored = stored; variables = current.variables; evaluation = current.evaluation }

-- it is being tried, or was chosen
abbrev pub IsTrying : CallOf → List Stored → Current → List ℕ → ℕ → List Event → Type 0
IsTrying k stored current others tried since = IsTryingRule (rule_tried k current others tried) (progress stored current) current.at since

-- a frame has no rule yet, and these are left; or it tries one
abbrev pub Goes : CallOf → List Stored → Option Current → List ℕ → ℕ → List Event → Type 0
Goes k stored None others tried since = (since ≡ []) × RulesLead k others tried
Goes k stored (Some current) others tried since = IsTrying k stored current others tried since

-- a frame is one for a call; the count of its rules doesn't wrap
pub record IsFrameFor (k : CallOf) (stored : List Stored) (frame : Frame) : Type 0 where
  pub depth : frame.depth ≡ k.depth
  pub term : frame.term.0 ≡ k.term
  pub stand : StandEach stored k.args frame.args.items
  pub typed : HasTypedArgs k
  pub may : may_run k.program k.term
  pub few : frame.tried + length frame.others.now < 2 ^ 64
  pub listed : (i : ℕ) → Contains frame.others.now i → (rule : TypedRule) × IsRuleAt (checked k.program) k.term i rule

-- a frame is that of a call, which has made these effects since it began
pub record IsFrameOf (k : CallOf) (stored : List Stored) (frame : Frame) (since : List Event) : Type 0 where
  pub for_call : IsFrameFor k stored frame
  pub goes : Goes k stored frame.current frame.others.now frame.tried since

-- a call that is waited for: its term, and its arguments, by their numbers and as values
pub record Awaited : Type 0 where
  pub term : TermId
  pub numbers : List ℕ
  pub args : Values

-- one of this term, on these arguments
abbrev pub awaited : TermId → List ℕ → Values → Awaited
awaited term numbers args = record { term = term; numbers = numbers; args = args }

-- what it comes to one depth lower
abbrev pub AwaitedRuns : RuleTried → Awaited → List Event → Outcome Value → Type 0
AwaitedRuns t call effects r = below_call t.call call.term.0 call.args effects r

-- with these effects it begins, where it may be the world's
abbrev pub AwaitedBegins : RuleTried → Awaited → List Event → Type 0
AwaitedBegins t call made = ImpureBegins (checked t.call.program) (begins_below t.call) call.term.0 call.args made

-- what it comes to, where it may be the world's
abbrev pub AwaitedComes : RuleTried → Awaited → List Event → Outcome Value → Type 0
AwaitedComes t call effects r = ImpureComes t.call call.term.0 call.args effects r

-- the expression of a condition waits for a call
pub record WaitsAtIfLet (t : RuleTried) (is : IsTried t) (s : Progress) (place : ℕ) (call : Awaited) : Type 0 where
  pub at : IsAtIfLet t is s place
  pub waits : WaitsFor (around_condition at.condition) s.stored s.evaluation call.term call.numbers call.args

-- so does a right side
pub record WaitsAtRight (t : RuleTried) (is : IsTried t) (s : Progress) (place : ℕ) (since : List Event) (call : Awaited) : Type 0 where
  pub at : IsAtRight t is s place since
  pub waits : WaitsFor (around_right at.right) s.stored s.evaluation call.term call.numbers call.args

-- so does a rule, at a place
abbrev pub WaitsAt : (t : RuleTried) → IsTried t → Progress → At → List Event → Awaited → Type 0
WaitsAt t is s (IfLet place) since call = (since ≡ []) × WaitsAtIfLet t is s place call
WaitsAt t is s (Right place) since call = WaitsAtRight t is s place since call
WaitsAt t is s Left since call = ⊥
WaitsAt t is s Missed since call = ⊥

-- a rule waits for a call
pub record IsRuleHeldUp (t : RuleTried) (s : Progress) (at : At) (since : List Event) (call : Awaited) : Type 0 where
  pub is : IsTried t
  pub waits : WaitsAt t is s at since call
  pub args_stand : StandEach s.stored call.args call.numbers
  pub args_typed : AreValuesOf (checked t.call.program).values call.args ((checked t.call.program).terms.inputs call.term.0)
  pub may_call : (checked t.call.program).has_rules call.term.0 ≡ true → may_run t.call.program call.term.0

-- so does the rule of a frame
abbrev pub IsHeldUp : CallOf → List Stored → Current → List ℕ → ℕ → List Event → Awaited → Type 0
IsHeldUp k stored current others tried since call =
    IsRuleHeldUp (rule_tried k current others tried) (progress stored current) current.at since call

-- a frame waits for the call of a term with rules on these values
pub record IsWaitingFor (k : CallOf) (stored : List Stored) (frame : Frame) (since : List Event) (term : TermId) (args : Values) : Type 0 where
  pub for_call : IsFrameFor k stored frame
  pub current : Current
  pub there : frame.current ≡ Some current
  pub numbers : List ℕ
  pub held : IsHeldUp k stored current frame.others.now frame.tried since (awaited term numbers args)
  pub ruled : (checked k.program).has_rules term.0 ≡ true
  pub may_call : may_run k.program term.0

-- it asks nothing of a program
abbrev pub AnyProgram : Program → Type 0
AnyProgram program = Unit {0}

-- what the plain road says of calls: they come to what their plain runs do, and the steps are the rules tried
abbrev pub plain_way : Way Frame
plain_way = record {
  holds = AnyProgram;
  run = λ program. PlainRun (checked program);
  begins = λ program. PlainBegins (checked program);
  is_frame = IsFrameOf;
  is_waiting = IsWaitingFor;
  steps_of = λ frame. frame.tried;
  depth_of = λ frame. frame.depth;
}

-- what a frame has come to
abbrev pub AdvancesTo : CallOf → List Stored → Frame → List Event → Advanced → Type 0
AdvancesTo k stored frame since advanced = AdvancesBy plain_way k stored frame since advanced

-- the same, of a frame that goes on or leaves its rule
abbrev pub FrameEnds : CallOf → List Stored → Frame → List Event → Ending → Type 0
FrameEnds k stored frame since On = IsFrameOf k stored frame since
FrameEnds k stored frame since Leaves = IsFrameOf k stored (record frame { current = None }) since
FrameEnds k stored frame since (Comes advanced) = AdvancesTo k stored frame since advanced

-- what a rule has come to
abbrev pub RuleAdvances : CallOf → List Stored → Current → List ℕ → ℕ → List Event → Advanced → Type 0
RuleAdvances k stored current others tried since (Is n) = (v : Value) × Stands stored v n × CallComes k tried since (given v)
RuleAdvances k stored current others tried since Missing = CallComes k tried since missing
RuleAdvances k stored current others tried since (Ends answer) = CallEnds k tried since answer
RuleAdvances k stored current others tried since (Calls term numbers) =
    (args : Values) × IsHeldUp k stored current others tried since (awaited term numbers.items args) × ((checked k.program).has_rules term.0 ≡ true)

-- the same, of a rule that goes on or is left
abbrev pub RuleEnds : CallOf → List Stored → Current → List ℕ → ℕ → List Event → Ending → Type 0
RuleEnds k stored current others tried since On = IsTrying k stored current others tried since
RuleEnds k stored current others tried since Leaves = (since ≡ []) × RulesLead k others tried
RuleEnds k stored current others tried since (Comes advanced) = RuleAdvances k stored current others tried since advanced

-- the program of a driver and the values that it met, in a world, after these effects
abbrev pub driven : {W : Type 0} → Driver → W → List Effect → State W
driven driver world effects = state driver.program.now world effects driver.store

-- the expression that is evaluated at a place
abbrev pub laid_at : LaidRule → At → Laid
laid_at laid (IfLet place) = slice_index_or laid.iflets.items place laid.right
laid_at laid (Right place) = laid.right
laid_at laid Left = laid.right
laid_at laid Missed = laid.right

-- the part that is needed there
abbrev pub root_there : LaidRule → At → ℕ
root_there laid (IfLet place) = (slice_index_or laid.iflets.items place laid.right).result
root_there laid (Right place) = root_at laid.right place
root_there laid Left = laid.right.result
root_there laid Missed = laid.right.result

-- where a call goes on that is answered none
abbrev pub at_missing : At → At
at_missing (IfLet place) = Left
at_missing (Right place) = Missed
at_missing Left = Left
at_missing Missed = Missed

-- a condition or a right side is evaluated
abbrev pub IsOnWay : At → Type 0
IsOnWay (IfLet place) = Unit {0}
IsOnWay (Right place) = Unit {0}
IsOnWay Left = ⊥
IsOnWay Missed = ⊥

-- the condition of a place, or, past the last, the right side
pub record IsFirstAt (place : ℕ) (laid : LaidRule) (at : At) : Type 0 where
  pub condition : place < length laid.iflets.items → at ≡ IfLet place
  pub past : length laid.iflets.items ≤ place → at ≡ Right 0

-- nothing of an expression is evaluated, and this part is asked for
pub record IsBegun (laid : Laid) (root : ℕ) (evaluation : Evaluation) : Type 0 where
  pub unknown : (k : ℕ) → known_at evaluation k ≡ None
  pub sized : length evaluation.known.items ≡ length laid.parts.items
  pub asked : evaluation.todo.items ≡ root ∷ []
  pub missed : evaluation.missed ≡ false

-- what comes first from a place on is begun
abbrev pub IsBegunAt : ℕ → LaidRule → At → Evaluation → Type 0
IsBegunAt place laid at evaluation = IsFirstAt place laid at × IsBegun (laid_at laid at) (root_there laid at) evaluation

-- no value comes of a condition's expression, or of what a right side needs
abbrev pub ending_missing : At → Ending
ending_missing (IfLet place) = Leaves
ending_missing (Right place) = Comes Missing
ending_missing Left = Leaves
ending_missing Missed = Comes Missing

-- what an effect comes to the rule comes to, or it is answered
abbrev pub IsEndingOf : Told ℕ → Evaluation → Evaluation → Ending → Type 0
IsEndingOf (Gives number) before after ending = (ending ≡ On) × IsAnswered before number after
IsEndingOf NotTold before after ending = ending ≡ Comes Missing
IsEndingOf (IllTypedTold term args) before after ending = ending ≡ Comes (Ends (IllTyped term args))
