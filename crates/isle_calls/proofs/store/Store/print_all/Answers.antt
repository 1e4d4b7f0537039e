use Rattle.std.proofs.Common.{◌≡◌, ◌≤◌, ◌++◌, ◌∷◌, [], length, map, take, get_or, refl, sym, ap, subst, ◌∙◌, arith}
use Rattle.std.proofs.lemmas.List.{take_all}
use Rattle.std.proofs.lemmas.Option.{slice_get-get_or}
use Rattle.isle_containers.proofs.Lists.{taken_more}
use Rattle.isle_types.specs.declared.ids.TypeId.{TypeId}
use Rattle.isle_rules.specs.Values.{value_list}
use Rattle.isle_meaning.specs.ValueTypes.{IsOfType, AreOfTypes}
use Rattle.isle_meaning.specs.GroundValues.{value_of, values_of}
use Rattle.isle_program.specs.Programs.{value_facts, types_of, number_of}
use Rattle.isle_calls.specs.Stores.Values.{StandEach}
use Rattle.isle_calls.specs.Inside.Stores.Printing.{printed}
use Rattle.isle_program.proofs.SoundPrograms.Known.{sound_of}
use Rattle.isle_calls.proofs.Stores.Steps.{next_typed, as_many, trees_listed}
use Rattle.isle_calls.proofs.Stores.Printing.{tree_printed}
use Rattle.isle_calls.proofs.store.Store.print_all.Goals as goal

pub loop-i-preserved : goal.loop-i-preserved
loop-i-preserved c = λ trees typed each.
    let named = (sound_of c.args.program.now).known.printed in
    let facts = value_facts c.args.program.now in
    let env = types_of c.args.program.now in
    let ty = c.type_or_first.result.0 in
    let i = c.loop-i.i in
    let value = c.in_ok-print.field-0 in
    let n = get_or c.args.numbers.now i 0 in
    let (t, at, of, is) = next_typed facts env c.args.self.now trees c.args.types.now c.args.numbers.now i n typed each
    (slice_get-get_or c.args.numbers.now i 0 c.loop-i-test.true) in
    let here : IsOfType facts t ty = subst (λ (u : TypeId). IsOfType facts t u.0) (sym c.type_or_first.ensures) of in
    let out = c.in_ok-print.ensures (value_of facts t) is (record { tree = t; typed = here; stands = refl }) in
    let same : value ≡ t =
    sym (tree_printed c.args.program.now named value ty out.0) ∙ ap (λ w. printed facts env w ty) out.1
    ∙ tree_printed c.args.program.now named t ty here in
    c.in_ok-push.ensures.items ∙ ap (λ l. l ++ value ∷ []) (c.loop-i.invariant trees typed each)
    ∙ ap (λ w. take i trees ++ w ∷ []) same
    ∙ sym (taken_more trees i t at)

pub returns : goal.returns
returns c = λ vs each are.
    let facts = value_facts c.args.program.now in
    let types = map number_of c.args.types.now in
    let numbers = c.args.numbers.now in
    let (list, listed) = trees_listed are.trees in
    let typed : AreOfTypes facts (value_list list) types = subst (λ t. AreOfTypes facts t types) (sym listed) are.typed in
    let stand : StandEach c.args.self.now (values_of facts (value_list list)) numbers =
    subst (λ ws. StandEach c.args.self.now ws numbers) (sym (ap (values_of facts) listed ∙ are.stand)) each in
    let many = as_many facts (types_of c.args.program.now) c.args.self.now list numbers stand in
    let all : c.loop-i.values.items ≡ list =
    c.loop-i.invariant list typed stand ∙ take_all c.loop-i.i list (let e : length list ≤ c.loop-i.i = omega (arith, many) in e) in (
      subst (λ l. AreOfTypes facts (value_list l) types) (sym all) typed,
      ap (λ l. values_of facts (value_list l)) all ∙ ap (values_of facts) listed ∙ are.stand,
    )
