use Rattle.std.proofs.Common.{◌++◌, ◌∷◌, [], length, map, take, slice_get, get_or, unwrap_or, sym, ap, ◌∙◌, append_assoc, arith}
use Rattle.std.proofs.lemmas.List.{take_all}
use Rattle.std.proofs.lemmas.Option.{slice_get-get_or}
use Rattle.isle_containers.proofs.Lists.{taken_more}
use Rattle.isle_types.specs.TypeEnvs.{type_at}
use Rattle.isle_calls.specs.declared.store.printing.Step.TheVariants.{Number, Data}
use Rattle.isle_program.specs.Programs.{number_of}
use Rattle.isle_calls.specs.Inside.Stores.Printing.{field_steps}
use Rattle.isle_calls.proofs.Stores.Steps.{step_at, many_steps}
use Rattle.isle_calls.proofs.store.printing.put_off.Goals as goal

pub loop-i-preserved : goal.loop-i-preserved
loop-i-preserved c =
    let fields = c.args.fields.now in
    let types = c.types_of_fields-types.result.now in
    let steps = field_steps fields (map number_of types) in
    let start = c.push.new.self.items in
    let n = get_or fields c.loop-i.i 0 in
    let at = step_at fields types c.loop-i.i n (slice_get-get_or fields c.loop-i.i 0 c.loop-i-test.true) in
    c.in_ok-push-2.ensures.items ∙ ap (λ l. l ++ Number n c.type_or_first.result ∷ []) c.loop-i.invariant
    ∙ append_assoc start (take c.loop-i.i steps) (Number n c.type_or_first.result ∷ [])
    ∙ ap (λ t. start ++ (take c.loop-i.i steps ++ Number n t ∷ [])) c.type_or_first.ensures
    ∙ ap (λ l. start ++ l) (sym (taken_more steps c.loop-i.i (Number n (unwrap_or (slice_get types c.loop-i.i) (type_at 0))) at))

pub returns : goal.returns
returns c =
    let fields = c.args.fields.now in
    let types = map number_of c.types_of_fields-types.result.now in
    let steps = field_steps fields types in
    let old = c.args.left.now.items in
    c.loop-i.invariant ∙ ap (λ l. c.push.new.self.items ++ l) (take_all c.loop-i.i steps (omega (arith, many_steps fields types)))
    ∙ ap (λ l. l ++ steps) (c.in_ok-push.ensures.items ∙ ap (λ name. old ++ Data name (length fields) ∷ []) c.in_ok-from_str.ensures)
    ∙ append_assoc old (Data c.args.name.now (length fields) ∷ []) steps
    ∙ ap (λ ts. old ++ Data c.args.name.now (length fields) ∷ field_steps fields ts) c.types_of_fields-types.ensures
