-- What is written of a call's parts, and what a refused or an answered query is written.
use Rattle.isle_meaning.proofs.Calls.Beginnings.{plain_begins}
use Rattle.isle_meaning.proofs.Machine.Beginnings.{machine_begins}
use Rattle.isle_calls.specs.TreeCalls.{term_trees}
use Rattle.isle_program.specs.Meanings.{checked}
use Rattle.isle_program.specs.declared.program.Program.{Program}
use Rattle.isle_calls.specs.declared.answer.Called.{Called}
use Rattle.isle_meaning.specs.Worlds.{Answers, Event}
use Rattle.isle_meaning.specs.Values.{Values}
use Rattle.std.proofs.Common.{◌≡◌, ◌<◌, ◌+◌, ◌++◌, ℕ, zero, suc, List, [], ◌∷◌, Some, Result, Ok, Err, IfOk, OnOk, length, take, get_or, refl, sym, subst, ap, ◌∙◌, append_assoc, append-nil, add-one, arith, string_bytes, Bool, true, false, inl, inr, OnErr}
use Rattle.std.specs.Prelude.{codes, IsUtf8}
use Rattle.std.specs.declared.alloc.AllocError.{AllocError}
use Rattle.isle_types.specs.declared.ids.TermId.{TermId}
use Rattle.isle_rules.specs.Values.{ValueTree, ValueTrees, value_list}
use Rattle.isle_values.specs.declared.queries.QueryFault.{QueryFault}
use Rattle.isle_values.specs.Queries.{RefusesText, IsCallIn}
use Rattle.isle_values.specs.Values.TextTokens.{AreTokensOf}
use Rattle.isle_values.specs.Values.Text.{value_text, fields_text}
use Rattle.islec.specs.declared.answer.Reply.{Reply}
use Rattle.islec.specs.Replies.{Setting, Refuses, IsReply, AnswersCall, call_text, cause_number, no_call, call, TellsBy, BeginsBy, BeginsCall, LosesReply, no_text, blank}

-- one argument more
fields_more : (args : List ValueTree) (i : ℕ) (v : ValueTree) → i < length args → v ≡ get_or args i v
    → fields_text (value_list (take (suc i) args)) ≡ fields_text (value_list (take i args)) ++ (codes " " ++ value_text v)
fields_more [] i v within is = absurd (omega (arith, within))
fields_more (a ∷ args) zero v within is = rw (sym is) (append-nil (codes " " ++ value_text v))
fields_more (a ∷ args) (suc i) v within is =
    let rest = fields_more args i v (omega arith) is in
    ap (λ l. codes " " ++ (value_text a ++ l)) rest
    ∙ ap (λ l. codes " " ++ l) (sym (append_assoc (value_text a) (fields_text (value_list (take i args))) (codes " " ++ value_text v)))

-- the same, as a loop goes on
pub next_argument : (old name : List ℕ) (args : List ValueTree) (i : ℕ) (v : ValueTree) (was spaced grown : List ℕ) → i < length args
    → v ≡ get_or args i v → was ≡ old ++ (codes "(" ++ (name ++ fields_text (value_list (take i args))))
    → spaced ≡ was ++ codes " " → grown ≡ spaced ++ value_text v
    → grown ≡ old ++ (codes "(" ++ (name ++ fields_text (value_list (take (i + 1) args))))
next_argument old name args i v was spaced grown within is written space text =
    rw (add-one i, fields_more args i v within is, text, space, written) (simp append_assoc)

-- a query that is refused
pub refused_query : {V : Type 0} (setting : Setting V) (world : V) (line text : List ℕ) (fault : QueryFault) (r : Result Reply AllocError)
    → text ≡ line → IsUtf8 line
    → ¬ AreTokensOf text [] → RefusesText setting.program text fault
    → IfOk r (λ reply. (cause : ℕ) × (cause_number fault ≡ Some cause) × Refuses setting.manner.explain cause reply)
    → IfOk r (λ reply. IsReply setting world line (string_bytes reply.lines) reply.refused world)
refused_query setting world line text fault (Err e) same utf8 some refuses told = tt
refused_query setting world line text fault (Ok reply) same utf8 some refuses (cause, number, told) =
    no_call utf8 (subst (λ l. ¬ AreTokensOf l []) same some) fault cause (subst (λ l. RefusesText setting.program l fault) same refuses) number
    told.lines told.refused refl

-- bytes that are no text are refused
pub refused_bytes : {V : Type 0} (setting : Setting V) (world : V) (line : List ℕ) (r : Result Reply AllocError) → ¬ IsUtf8 line
    → IfOk r (Refuses setting.manner.explain 4) → IfOk r (λ reply. IsReply setting world line (string_bytes reply.lines) reply.refused world)
refused_bytes setting world line (Err e) none told = tt
refused_bytes setting world line (Ok reply) none told = no_text none told.lines told.refused refl

-- a query that is answered
pub answered_query : {V : Type 0} (setting : Setting V) (before after : V) (line text : List ℕ) (term : TermId)
    (args : ValueTrees) (r : Result Reply AllocError) → text ≡ line → IsUtf8 line
    → IsCallIn setting.program text term args → IfOk r (λ reply. AnswersCall setting before term args (string_bytes reply.lines) reply.refused after)
    → IfOk r (λ reply. IsReply setting before line (string_bytes reply.lines) reply.refused after)
answered_query setting before after line text term args (Err e) same utf8 spelt told = tt
answered_query setting before after line text term args (Ok reply) same utf8 spelt told =
    call utf8 term args (subst (λ l. IsCallIn setting.program l term args) same spelt) told

-- a call behind a word
pub labelled : (r : Result (Unit {0}) AllocError) (old put new label name own : List ℕ) (args items : List ValueTree)
    → put ≡ old ++ label → name ≡ own
    → args ≡ items → OnOk r (new ≡ put ++ call_text name args) → OnOk r (new ≡ old ++ (label ++ call_text own items))
labelled (Err e) old put new label name own args items is named same wrote = tt
labelled (Ok u) old put new label name own args items is named same wrote =
    wrote ∙ ap (λ l. l ++ call_text name args) is ∙ append_assoc old label (call_text name args)
    ∙ ap (λ l. old ++ (label ++ call_text l args)) named ∙ ap (λ l. old ++ (label ++ call_text own l)) same

-- a call that is answered has begun with its effects
pub begins_with : (plain : Bool) (program : Program) (w : Answers) (depth term : ℕ) (args : Values) (called : Called) (made : List Event)
    → TellsBy plain program w depth term args called made → BeginsBy plain program w depth term args made
begins_with true program w depth term args called made tells = record {
  begins = plain_begins (checked program) w depth term args called.steps made tells.outcome tells.run;
  pure = tells.pure;
}
begins_with false program w depth term args called made tells = record {
  begins = machine_begins (checked program) w (term_trees program) depth term args called.steps made tells.outcome tells.run;
  pure = tells.pure;
}

pub answers_begin : {V : Type 0} (setting : Setting V) (before : V) (term : TermId) (args : ValueTrees) (lines : List ℕ) (refused : Bool) (after : V)
    → AnswersCall setting before term args lines refused after → BeginsCall setting before term args after
answers_begin setting before term args lines refused after answers =
    let (made, shown, leads, tells) = answers.outcome in
    (made, leads, begins_with setting.manner.plain setting.program setting.answers setting.manner.depth term.0 _ answers.called made tells)

-- a reply may be lost
pub reply_lost : {V : Type 0} (setting : Setting V) (before : V) (line lines : List ℕ) (refused : Bool) (after : V)
    → IsReply setting before line lines refused after → LosesReply setting before line after
reply_lost setting before line lines refused after (no_text text out counted same) = inl same
reply_lost setting before line lines refused after (blank utf8 none out counted same) = inl same
reply_lost setting before line lines refused after (no_call utf8 some fault cause refuses number out counted same) = inl same
reply_lost setting before line lines refused after (call utf8 term args is answers) =
    inr (term, args, is, answers_begin setting before term args lines refused after answers)

-- so may that of a query
pub lost_query : {V : Type 0} (setting : Setting V) (before after : V) (line text : List ℕ) (term : TermId) (args : ValueTrees)
    (r : Result Reply AllocError) → text ≡ line → IsCallIn setting.program text term args → OnErr r (BeginsCall setting before term args after)
    → OnErr r (LosesReply setting before line after)
lost_query setting before after line text term args (Ok reply) same spelt begun = tt
lost_query setting before after line text term args (Err e) same spelt begun =
    inr (term, args, subst (λ l. IsCallIn setting.program l term args) same spelt, begun)
