-- The lines that tell what a query is answered.
use Rattle.std.specs.Prelude.{◌≡◌, ◌++◌, ℕ, List, Option, Some, None, codes, decimal, string_bytes, flat_map}
use Rattle.isle_rules.specs.Values.{ValueTree, value_list}
use Rattle.isle_callers.specs.declared.example.host.Registers.{Registers}
use Rattle.isle_callers.specs.declared.example.query.Reply.{Reply}
use Rattle.isle_callers.specs.declared.example.query.Reply.TheVariants.{Refused, Answered}
use Rattle.isle_callers.specs.Calls.{Hosted, IsAnswered, hosted}
use Rattle.isle_callers.specs.Registers.{constructed, extracted, Emits}
use Rattle.isle_calls.specs.declared.answer.Answer.{Answer}
use Rattle.isle_calls.specs.declared.answer.Answer.TheVariants.{Value, None as NoAnswer, Stuck, Spent, IllTyped}
use Rattle.isle_calls.specs.declared.answer.Effect.{Effect}
use Rattle.isle_program.specs.declared.program.Program.{Program}
use Rattle.isle_program.specs.Programs.{term_name}
use Rattle.isle_values.specs.Values.Text.{value_text, fields_text}

-- a call, as `(TERM ARG ..)`
abbrev pub call_text : List ℕ → List ValueTree → List ℕ
call_text name args = codes "(" ++ (name ++ (fields_text (value_list args) ++ codes ")"))

-- a value, or `none`
abbrev pub given_text : Option ValueTree → List ℕ
given_text None = codes "none"
given_text (Some v) = value_text v

-- the line of an effect, `! (TERM ARG ..) ANSWER`
abbrev pub effect_line : Effect → List ℕ
effect_line effect = codes "! " ++ (call_text (string_bytes effect.term) effect.args.items ++ (codes " " ++ (given_text effect.answer ++ codes "\n")))

-- an answer: a value, `none`, `spent`, or the call at which it is stuck or ill-typed
abbrev pub answer_text : Program → Answer → List ℕ
answer_text program (Value v) = value_text v
answer_text program NoAnswer = codes "none"
answer_text program (Stuck term args) = codes "stuck " ++ call_text (term_name program term) args.items
answer_text program Spent = codes "spent"
answer_text program (IllTyped term args) = codes "ill-typed " ++ call_text (term_name program term) args.items

-- the lines of a reply: `refused` with the number of its cause, or a line for each effect, in order, and one for the answer
abbrev pub reply_text : Program → Reply → List ℕ
reply_text program (Refused cause) = codes "refused " ++ (decimal cause ++ codes "\n")
reply_text program (Answered effects answer) = flat_map effect_line effects.items ++ (answer_text program answer ++ codes "\n")

-- the host of registers, as it is before and after
abbrev pub registers : Registers → Registers → Hosted Registers
registers before after = hosted (λ _. constructed) (λ _. extracted) Emits before after

-- the lines are those of what a query is answered by the host of registers
pub record TellsReply (program : Program) (before : Registers) (text lines : List ℕ) (after : Registers) : Type 0 where
  pub reply : Reply
  pub answered : IsAnswered program (registers before after) text reply
  pub written : lines ≡ reply_text program reply
