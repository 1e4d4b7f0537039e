use Rattle.std.proofs.Common.{rules, ◌≡◌, Some, sym, ◌∙◌, ap, subst}
use Rattle.std.specs.Prelude.{FitsSigned}
use Rattle.std.specs.Int.{w128, cast_signed, cast_unsigned}
use Rattle.std.proofs.lemmas.Int.{to_z-of_z}
use Rattle.std.proofs.lemmas.Result.{IfOk-weaker}
use Rattle.isle_types.specs.TypeTables.{name_at}
use Rattle.isle_program.specs.Programs.{types_of}
use Rattle.isle_program.specs.Plain.LaidOut.Words.{made_of}
use Rattle.isle_calls.specs.Inside.Plain.Underway.{HasValueAt, AreKnown}
use Rattle.isle_calls.specs.declared.store.Stored.TheVariants.{Bool, Int, Const, Variant, Struct}
use Rattle.isle_calls.proofs.PlainRoad.Evaluations.Kinds.{var_comes, bool_comes, int_comes, const_comes, variant_comes, struct_comes, impure_reached}
use Rattle.isle_calls.proofs.PlainRoad.Evaluations.Walk.{put_told}
use Rattle.isle_calls.proofs.plain.evaluation.Evaluating.compute.Goals as goal

pub returns-in-Var-clause-computed : goal.returns-in-Var-clause-computed
returns-in-Var-clause-computed g c = λ s place around hold there known.
    subst (λ z. HasValueAt s c.args.store.now place z) (sym c.get.ensures)
    (var_comes s place c.args.store.now c.in-Var.var c.args.variables.now (there ∙ ap Some c.in-Var.is) hold)

pub returns-in-Impure-clause-computed : goal.returns-in-Impure-clause-computed
returns-in-Impure-clause-computed g c = λ s place around hold there known.
    impure_reached s place c.args.store.now c.in-Impure.term c.in-Impure.field-1 c.args.args.items c.in-Impure.field-2 around.typed
    (there ∙ ap Some c.in-Impure.is)
    (subst (λ z. AreKnown s c.args.store.now z c.args.args.items) (ap made_of c.in-Impure.is) known)

pub returns-in-Bool-clause-computed : goal.returns-in-Bool-clause-computed
returns-in-Bool-clause-computed g c = put_told c.put.result c.put.new.store (Bool c.in-Bool.val) _ c.put.ensures.told
    (λ n here s place around hold there known. bool_comes s place c.put.new.store n c.in-Bool.val
    (there ∙ ap Some c.in-Bool.is) here)

pub returns-in-Int-clause-computed : goal.returns-in-Int-clause-computed
returns-in-Int-clause-computed g c =
    let fits : FitsSigned w128 c.in-Int.val = search rules in
    let node = Int (cast_signed w128 (cast_unsigned w128 c.in-Int.val)) in
    put_told c.put-in-Int.result c.put-in-Int.new.store node _ c.put-in-Int.ensures.told
    (λ n here s place around hold there known. int_comes s place c.put-in-Int.new.store n c.in-Int.val (there ∙ ap Some c.in-Int.is)
    (here ∙ ap (λ z. Some (Int z)) (to_z-of_z w128 c.in-Int.val fits)))

pub returns-in_ok-text-in-Const-clause-computed : goal.returns-in_ok-text-in-Const-clause-computed
returns-in_ok-text-in-Const-clause-computed g c =
    let name = c.in-Const.name in let text = c.in_ok-text-in-Const.text in
    put_told c.put-in-Const.result c.put-in-Const.new.store (Const text) _ c.put-in-Const.ensures.told
    (λ n here s place around hold there known.
    let same : text ≡ name_at (types_of s.program).names name = c.in_ok-text-in-Const.ensures ∙ c.sym_name.ensures
    ∙ ap (λ z. name_at z.names name) c.types.ensures ∙ sym (ap (λ z. name_at (types_of z).names name) around.of_program) in
    const_comes s place c.put-in-Const.new.store n name (there ∙ ap Some c.in-Const.is) (here ∙ ap (λ z. Some (Const z)) same))

pub returns-in-Variant-clause-computed : goal.returns-in-Variant-clause-computed
returns-in-Variant-clause-computed g c =
    let ty = c.in-Variant.ty in let variant = c.in-Variant.variant in let old = c.args.store.now in
    put_told c.put-in-Variant.result c.put-in-Variant.new.store (Variant ty variant c.new.result) _ c.put-in-Variant.ensures.told
    (λ n here s place around hold there known.
    variant_comes s place old c.put-in-Variant.new.store n ty variant c.in-Variant.field-2 c.args.args.items c.put-in-Variant.ensures.kept
    (there ∙ ap Some c.in-Variant.is) (subst (λ z. AreKnown s old z c.args.args.items) (ap made_of c.in-Variant.is) known)
    (here ∙ ap (λ z. Some (Variant ty variant z)) c.new.ensures))

pub returns-in-Struct-clause-computed : goal.returns-in-Struct-clause-computed
returns-in-Struct-clause-computed g c =
    let ty = c.in-Struct.ty in let old = c.args.store.now in
    put_told c.put-in-Struct.result c.put-in-Struct.new.store (Struct ty c.new-in-Struct.result) _ c.put-in-Struct.ensures.told
    (λ n here s place around hold there known.
    struct_comes s place old c.put-in-Struct.new.store n ty c.in-Struct.field-1 c.args.args.items c.put-in-Struct.ensures.kept
    (there ∙ ap Some c.in-Struct.is) (subst (λ z. AreKnown s old z c.args.args.items) (ap made_of c.in-Struct.is) known)
    (here ∙ ap (λ z. Some (Struct ty z)) c.new-in-Struct.ensures))

pub returns-in-Call-clause-computed : goal.returns-in-Call-clause-computed
returns-in-Call-clause-computed g c =
    IfOk-weaker c.call.result _ _ (λ step computed s place around hold there known.
    computed s place c.in-Call.field-1 around (there ∙ ap Some c.in-Call.is)
    (subst (λ z. AreKnown s c.args.store.now z c.args.args.items) (ap made_of c.in-Call.is) known)) c.call.ensures.computed
