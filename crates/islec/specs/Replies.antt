-- What a line of input is answered.
use Rattle.isle_meaning.specs.Values.{Values}
use Rattle.std.specs.Prelude.{◌≡◌, ◌++◌, ◌-◌, min, ℕ, Bool, true, false, List, [], Option, Some, None, if◌then◌else◌, codes, decimal, string_bytes, IsUtf8, ◌⊎◌}
use Rattle.std.specs.List.{flat_map, AllZip}
use Rattle.isle_ast.specs.declared.pos.Pos.{Pos}
use Rattle.isle_ast.specs.Positions.Files.{SourceFile}
use Rattle.isle_types.specs.declared.ids.TermId.{TermId}
use Rattle.isle_meaning.specs.GroundValues.{values_of}
use Rattle.isle_meaning.specs.Worlds.{Answers, Event}
use Rattle.isle_rules.specs.Values.{ValueTree, ValueTrees, value_list}
use Rattle.isle_calls.specs.declared.answer.Answer.{Answer}
use Rattle.isle_calls.specs.declared.answer.Answer.TheVariants.{Value, None as NoAnswer, Stuck, Spent, IllTyped}
use Rattle.isle_calls.specs.declared.answer.Called.{Called}
use Rattle.isle_calls.specs.declared.answer.Effect.{Effect}
use Rattle.isle_calls.specs.declared.choices.Choice.{Choice}
use Rattle.isle_program.specs.declared.program.Program.{Program}
use Rattle.isle_values.specs.declared.queries.QueryFault.{QueryFault}
use Rattle.isle_values.specs.declared.queries.QueryFault.TheVariants.{Q1, Q2, Q3, Q4, Memory}
use Rattle.isle_program.specs.Meanings.{checked}
use Rattle.isle_calls.specs.PlainCalls.{TellsPlainly, BeginsPlainly}
use Rattle.isle_calls.specs.TreeCalls.{TellsByTree, BeginsByTree}
use Rattle.isle_tell.specs.TreeTexts.Names.{indent, pos_text}
use Rattle.isle_program.specs.Programs.{term_name}
use Rattle.isle_values.specs.Queries.{RefusesText, IsCallIn}
use Rattle.isle_calls.specs.Calls.Answers.{answers_in, name_of_term, IsEventOf, LeadsThrough}
use Rattle.isle_values.specs.Values.TextTokens.{AreTokensOf}
use Rattle.isle_values.specs.Values.Text.{value_text, fields_text}
use Rattle.islec.specs.declared.answer.Manner.{Manner}
use Rattle.islec.specs.declared.answer.Reply.{Reply}
use Rattle.islec.specs.Reasons.{IsReason, depth_line}

-- the line that tells for which of the four causes a query is refused
abbrev pub refused_line : ℕ → List ℕ
refused_line cause = codes "refused " ++ (decimal cause ++ codes "\n")

-- the lines are that one, and its reason below it
abbrev pub TellsRefused : (asked : Bool) → (cause : ℕ) → (lines : List ℕ) → Type 0
TellsRefused asked cause lines = (told : List ℕ) × IsReason asked told × (lines ≡ refused_line cause ++ told)

-- the reply is these lines
pub record Refuses (asked : Bool) (cause : ℕ) (reply : Reply) : Type 0 where
  pub lines : TellsRefused asked cause (string_bytes reply.lines)
  pub refused : reply.refused ≡ true

-- a call, as `(TERM ARG ..)`
abbrev pub call_text : List ℕ → List ValueTree → List ℕ
call_text name args = codes "(" ++ (name ++ (fields_text (value_list args) ++ codes ")"))

-- ---- rules that are chosen for calls

-- how many levels the line of a call is indented below which so many calls may be open: one for each call around it, but no more than 40
abbrev pub level_of : (depth below : ℕ) → ℕ
level_of depth below = min (depth - 1 - below) 40

-- where a rule stands, or `no rule`
abbrev pub chosen_text : List SourceFile → Option Pos → List ℕ
chosen_text files (Some pos) = pos_text files pos
chosen_text files None = codes "no rule"

-- the line of a choice, `. (TERM ARG ..) -> FILE:LINE:COLUMN`, two spaces deeper for each call around it
abbrev pub choice_line : Program → List SourceFile → (depth : ℕ) → Choice → List ℕ
choice_line program files depth choice = indent (level_of depth choice.depth) ++
    (codes ". " ++ (call_text (term_name program choice.term) choice.args.items
    ++ (codes " -> " ++ (chosen_text files choice.rule ++ codes "\n"))))

-- the lines of choices, or nothing where no trace is asked for
abbrev pub trace_lines : Program → List SourceFile → Manner → List Choice → List ℕ
trace_lines program files manner choices = if manner.trace then flat_map (choice_line program files manner.depth) choices else []

-- a value, or `none`
abbrev pub given_text : Option ValueTree → List ℕ
given_text None = codes "none"
given_text (Some v) = value_text v

-- the line of an effect, `! (TERM ARG ..) ANSWER`
abbrev pub effect_line : Effect → List ℕ
effect_line effect = codes "! " ++ (call_text (string_bytes effect.term) effect.args.items ++ (codes " " ++ (given_text effect.answer ++ codes "\n")))

-- an answer, with the call at which it was stuck or ill-typed
abbrev pub answer_text : Program → Answer → List ℕ
answer_text program (Value v) = value_text v
answer_text program NoAnswer = codes "none"
answer_text program (Stuck term args) = codes "stuck " ++ call_text (term_name program term) args.items
answer_text program Spent = codes "spent"
answer_text program (IllTyped term args) = codes "ill-typed " ++ call_text (term_name program term) args.items

-- the line of an answer
abbrev pub answer_line : Program → Answer → List ℕ
answer_line program answer = answer_text program answer ++ codes "\n"

-- whether an answer counts as refused: it is stuck, spent or ill-typed
abbrev pub counts_as_refused : Answer → Bool
counts_as_refused (Value v) = false
counts_as_refused NoAnswer = false
counts_as_refused (Stuck term args) = true
counts_as_refused Spent = true
counts_as_refused (IllTyped term args) = true

-- the line that tells how many steps a call took, where it is asked for
abbrev pub steps_line : Bool → ℕ → List ℕ
steps_line true steps = codes "# steps " ++ (decimal steps ++ codes "\n")
steps_line false steps = []

-- what queries are answered in: a program and its files, what a world answers its pure terms, what an effect makes of a world, and how they are
-- answered
pub record Setting (V : Type 0) : Type 1 where
  pub program : Program
  pub files : List SourceFile
  pub answers : Answers
  pub step : V → List ℕ → ValueTrees → Option ValueTree → V → Type 0
  pub manner : Manner

abbrev pub setting_in : {V : Type 0} → (V → List ℕ → ValueTrees → Option ValueTree → V → Type 0) → Program → List SourceFile
    → (List ℕ → ValueTrees → Option ValueTree) → (List ℕ → ValueTree → Option ValueTrees) → Manner → Setting V
setting_in step program files constructs extracts manner = record {
  program = program;
  files = files;
  answers = answers_in program constructs extracts;
  step = step;
  manner = manner;
}

-- these effects lead in steps from one world to another
abbrev pub Leads : {V : Type 0} → Setting V → V → List Event → V → Type 0
Leads setting before made after = LeadsThrough setting.step (name_of_term setting.program) before made after

-- what a call tells: on the plain road, where rules are tried one by one, or by the tree of its term
abbrev pub TellsBy : Bool → Program → Answers → (depth term : ℕ) → Values → Called → List Event → Type 0
TellsBy true program w depth term args called made = TellsPlainly program w depth term args called made
TellsBy false program w depth term args called made = TellsByTree program w depth term args called made

-- with which effects a call begins, on either road; one of a pure term with none
abbrev pub BeginsBy : Bool → Program → Answers → (depth term : ℕ) → Values → List Event → Type 0
BeginsBy true program w depth term args made = BeginsPlainly program w depth term args made
BeginsBy false program w depth term args made = BeginsByTree program w depth term args made

-- The effects and the answer of a call: just these effects are made in order, which lead in steps from the world before to the one after,
-- and the call comes to this answer, on the road that is asked for, after so many steps.
abbrev pub IsOutcome : {V : Type 0} → Setting V → V → TermId → ValueTrees → List Effect → Called → V → Type 0
IsOutcome setting before term args effects called after =
    (made : List Event) × AllZip (IsEventOf setting.program) effects made × Leads setting before made after
    × TellsBy setting.manner.plain setting.program setting.answers setting.manner.depth term.0
    (values_of (checked setting.program).values args) called made

-- a call that is begun and not answered: its effects so far lead in steps from the world before to the one after
abbrev pub BeginsCall : {V : Type 0} → Setting V → V → TermId → ValueTrees → V → Type 0
BeginsCall setting before term args after = (made : List Event) × Leads setting before made after
    × BeginsBy setting.manner.plain setting.program setting.answers setting.manner.depth term.0 (values_of (checked setting.program).values args) made

-- the lines of some choices, where a trace is asked for
abbrev pub AreTraced : {V : Type 0} → Setting V → List ℕ → Type 0
AreTraced setting told = (choices : List Choice) × (told ≡ trace_lines setting.program setting.files setting.manner choices)

-- the lines of a call's effects in order and that of its answer, behind those of the rules that were chosen where a trace is asked for, and with
-- that of its depth where it is spent and reasons are asked for, and that of its steps where it is asked for; and whether the answer counts as
-- refused
pub record AnswersCall {V : Type 0} (setting : Setting V) (before : V) (term : TermId) (args : ValueTrees)
    (lines : List ℕ) (refused : Bool) (after : V) : Type 0 where
  pub effects : List Effect
  pub called : Called
  pub outcome : IsOutcome setting before term args effects called after
  pub told : List ℕ
  pub traced : AreTraced setting told
  pub written : lines ≡ told ++ (flat_map effect_line effects ++ (answer_line setting.program called.answer
      ++ (depth_line setting.manner called.answer ++ steps_line setting.manner.steps called.steps)))
  pub counted : refused ≡ counts_as_refused called.answer

-- the number of a cause for which a query is refused
abbrev pub cause_number : QueryFault → Option ℕ
cause_number Q1 = Some 1
cause_number Q2 = Some 2
cause_number Q3 = Some 3
cause_number Q4 = Some 4
cause_number (Memory e) = None

-- what is written for a line, given without its newline, whether it counts as refused, and the world that is left: bytes that are no text are
-- refused, a text without tokens is passed over, and of the others a query is refused for its first cause or else answered; only an answered one
-- changes the world, by its effects
pub data IsReply {V : Type 0} (setting : Setting V) (before : V) (line lines : List ℕ) (refused : Bool) (after : V) : Type 0 where
  no_text : ¬ IsUtf8 line → TellsRefused setting.manner.explain 4 lines → refused ≡ true → after ≡ before
      → IsReply setting before line lines refused after
  blank : IsUtf8 line → AreTokensOf line [] → lines ≡ [] → refused ≡ false → after ≡ before → IsReply setting before line lines refused after
  no_call : IsUtf8 line → ¬ AreTokensOf line [] → (fault : QueryFault) (cause : ℕ) → RefusesText setting.program line fault
      → cause_number fault ≡ Some cause
      → TellsRefused setting.manner.explain cause lines → refused ≡ true → after ≡ before → IsReply setting before line lines refused after
  call : IsUtf8 line → (term : TermId) (args : ValueTrees) → IsCallIn setting.program line term args
      → AnswersCall setting before term args lines refused after
      → IsReply setting before line lines refused after

-- what a line whose reply is lost has done, where memory ran out: nothing, or its call is begun
abbrev pub LosesReply : {V : Type 0} → Setting V → V → (line : List ℕ) → V → Type 0
LosesReply setting before line after = (after ≡ before)
    ⊎ ((term : TermId) × (args : ValueTrees) × IsCallIn setting.program line term args × BeginsCall setting before term args after)
