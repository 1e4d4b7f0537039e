use Rattle.isle_calls.proofs.OpenCalls.Made.{on_err, made_none}
use Rattle.std.proofs.Common.{◌≡◌, List, option_copied, sym, ◌∙◌, subst, map, [], ◌∷◌, inl, inr, refl, subst₂}
use Rattle.std.proofs.lemmas.Result.{IfOk-weaker}
use Rattle.isle_rules.specs.Values.{ValueTree, value_list}
use Rattle.isle_meaning.specs.GroundValues.{AreValuesOf, values_of}
use Rattle.isle_meaning.specs.ValueTypes.{AreOfTypes}
use Rattle.isle_calls.specs.declared.answer.Effect.{Effect}
use Rattle.isle_program.specs.Meanings.{checked}
use Rattle.isle_program.specs.Programs.{number_of}
use Rattle.isle_calls.specs.Calls.Answers.{IsCalledOn, HasMade}
use Rattle.isle_calls.specs.Calls.Host.{HasLast}
use Rattle.isle_calls.proofs.OpenCalls.Telling.{effect_told, inputs_taken}
use Rattle.isle_calls.proofs.host.make_effect.Goals as goal

pub returns-clause-asked : goal.returns-clause-asked
returns-clause-asked g c =
    let program = c.args.program.now in
    let facts = (checked program).values in
    let inputs : map number_of c.arg_types.result.now ≡ (checked program).terms.inputs c.args.term.0 =
    c.arg_types.ensures ∙ inputs_taken program c.args.term in
    let values = c.as_slice.result.now in
    let same : c.in_ok-values.values.items ≡ values = sym c.as_slice.ensures.value in
    let called = c.in_ok-call_effect.ensures.called in
    let answer = called.0 in
    let answered : option_copied c.last_answer.result ≡ answer = c.last_answer.ensures answer
    (subst (λ (l : List Effect). HasLast l answer) (sym c.as_slice-2.ensures.value) (called.1)) in
    IfOk-weaker c.judge_value.result _ _ (λ told judged vs stand of.
    let printed = c.in_ok-values.ensures vs stand (subst (AreValuesOf facts vs) (sym inputs) of) in
    let typed = subst (λ (l : List ValueTree). AreOfTypes facts (value_list l) (map number_of c.arg_types.result.now)) same (printed.0) in
    let stood = subst (λ (l : List ValueTree). values_of facts (value_list l) ≡ vs) same (printed.1) in (
      record { term = c.args.term.0; args = value_list values; answer = answer },
      called.2,
      effect_told program (g.W.World.constructs c.args.world.now) (g.W.World.extracts c.args.world.now) c.judge_value.new.store
          c.args.term vs
          (value_list values) (option_copied c.last_answer.result) answer told (subst (AreOfTypes facts (value_list values)) inputs
          typed) stood answered
          (λ q is. judged q (subst (λ (l : List ValueTree). IsCalledOn (checked c.args.program.now) q c.args.term (value_list l)) (sym same) is)),
    ))
    c.judge_value.ensures.judged

pub returns-in_err-values-clause-lost : goal.returns-in_err-values-clause-lost
returns-in_err-values-clause-lost g c = on_err c.from_residual.result (λ vs stand of. ([], made_none _ _ _ _, inl refl))

pub returns-in_err-call_effect-clause-lost : goal.returns-in_err-call_effect-clause-lost
returns-in_err-call_effect-clause-lost g c = on_err c.from_residual-in_err-call_effect.result (λ vs stand of.
    let (world, effects) = c.in_err-call_effect.ensures.refused in (
      [],
      subst₂ (λ w e. HasMade g.W.World.step c.args.program.now c.args.world.now c.args.effects.now.items w e [])
          (sym world) (sym effects) (made_none _ _ _ _),
      inl refl,
    ))

pub returns-clause-lost : goal.returns-clause-lost
returns-clause-lost g c = on_err c.judge_value.result (λ vs stand of.
    let program = c.args.program.now in
    let facts = (checked program).values in
    let inputs : map number_of c.arg_types.result.now ≡ (checked program).terms.inputs c.args.term.0 =
    c.arg_types.ensures ∙ inputs_taken program c.args.term in
    let values = c.as_slice.result.now in
    let same : c.in_ok-values.values.items ≡ values = sym c.as_slice.ensures.value in
    let printed = c.in_ok-values.ensures vs stand (subst (AreValuesOf facts vs) (sym inputs) of) in
    let typed = subst (λ (l : List ValueTree). AreOfTypes facts (value_list l) (map number_of c.arg_types.result.now)) same (printed.0) in
    let stood = subst (λ (l : List ValueTree). values_of facts (value_list l) ≡ vs) same (printed.1) in
    let (answer, last, made) = c.in_ok-call_effect.ensures.called in (
      record { term = c.args.term.0; args = value_list values; answer = answer } ∷ [],
      made,
      inr (record {
        args = value_list values;
        typed = subst (AreOfTypes facts (value_list values)) inputs typed;
        stand =
            stood;
        answer = answer;
        alone = refl;
      }),
    ))
