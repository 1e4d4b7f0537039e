use Rattle.std.proofs.Common.{◌≡◌, List, ℕ, sym, ap, ◌∙◌, subst}
use Rattle.std.proofs.lemmas.Result.{IfOk-weaker}
use Rattle.isle_meaning.specs.GroundValues.{IsValueOf}
use Rattle.isle_meaning.specs.ValueTypes.{IsOfType}
use Rattle.isle_values.specs.Worlds.Entries.{part_shown}
use Rattle.isle_program.specs.Meanings.{checked}
use Rattle.isle_calls.specs.Calls.Answers.{name_of_term}
use Rattle.isle_calls.proofs.OpenCalls.Telling.{extract_told}
use Rattle.isle_calls.proofs.host.ask_extractor.Goals as goal

pub returns-clause-asked : goal.returns-clause-asked
returns-clause-asked g c =
    let program = c.args.program.now in
    let facts = (checked program).values in
    let type : c.type_of.result.0 ≡ (checked program).terms.type_of c.args.term.0 = c.type_of.ensures in
    let extracts = g.W.World.extracts c.args.world.now in
    let answered : part_shown c.in_ok-answer.answer ≡ extracts (name_of_term program c.args.term.0) c.in_ok-value.value =
    c.in_ok-answer.ensures ∙ ap (λ (n : List ℕ). extracts n c.in_ok-value.value) c.name.ensures in
    IfOk-weaker c.judge_outputs.result _ _ (λ told judged v stands of.
    let printed = c.in_ok-value.ensures v stands (subst (IsValueOf facts v) (sym type) of) in
    extract_told program (g.W.World.constructs c.args.world.now) extracts c.judge_outputs.new.store c.args.term v c.in_ok-value.value
    (part_shown c.in_ok-answer.answer) told (subst (IsOfType facts c.in_ok-value.value) type (printed.0)) (printed.1) answered judged)
    c.judge_outputs.ensures.judged
