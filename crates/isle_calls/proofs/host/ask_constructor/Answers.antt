use Rattle.std.proofs.Common.{◌≡◌, List, ℕ, option_copied, sym, ap, ◌∙◌, subst, map}
use Rattle.std.proofs.lemmas.Result.{IfOk-weaker}
use Rattle.isle_rules.specs.Values.{ValueTree, value_list}
use Rattle.isle_meaning.specs.GroundValues.{AreValuesOf}
use Rattle.isle_meaning.specs.ValueTypes.{AreOfTypes}
use Rattle.isle_program.specs.Meanings.{checked}
use Rattle.isle_program.specs.Programs.{number_of}
use Rattle.isle_calls.specs.Calls.Answers.{name_of_term}
use Rattle.isle_calls.proofs.OpenCalls.Telling.{construct_told, inputs_taken}
use Rattle.isle_calls.proofs.host.ask_constructor.Goals as goal

pub returns-clause-asked : goal.returns-clause-asked
returns-clause-asked g c =
    let program = c.args.program.now in
    let facts = (checked program).values in
    let inputs : map number_of c.arg_types.result.now ≡ (checked program).terms.inputs c.args.term.0 =
    c.arg_types.ensures ∙ inputs_taken program c.args.term in
    let constructs = g.W.World.constructs c.args.world.now in
    let values = c.in_ok-values.values.items in
    let answered : option_copied c.as_ref.result ≡ constructs (name_of_term program c.args.term.0) (value_list values) =
    c.as_ref.ensures.value ∙ c.in_ok-answer.ensures ∙ ap (λ (n : List ℕ). constructs n (value_list c.as_slice.result.now)) c.name.ensures
    ∙ ap (λ (l : List ValueTree). constructs (name_of_term program c.args.term.0) (value_list l)) c.as_slice.ensures.value in
    IfOk-weaker c.judge_value.result _ _ (λ told judged vs stand of.
    let printed = c.in_ok-values.ensures vs stand (subst (AreValuesOf facts vs) (sym inputs) of) in
    construct_told program constructs (g.W.World.extracts c.args.world.now) c.judge_value.new.store c.args.term vs (value_list values)
    (option_copied c.as_ref.result) told (subst (AreOfTypes facts (value_list values)) inputs (printed.0)) (printed.1) answered judged)
    c.judge_value.ensures.judged
