use Rattle.std.proofs.Common.{length, refl, ap, subst, ◌∙◌}
use Rattle.std.proofs.lemmas.Result.{err_from_is_err_and}
use Rattle.std.proofs.lemmas.Option.{slice_get_read, slice_get-map}
use Rattle.std.proofs.lemmas.List.{take_all}
use Rattle.std.specs.Option.{option_map}
use Rattle.isle_ast.specs.declared.ast.TupleField.{TupleField as TupleFieldTree}
use Rattle.isle_types.specs.TypeFaults.{FieldsBreak, unknown_field_type}
use Rattle.isle_types.specs.Inside.Readings.{ReadsTupleFields}
use Rattle.isle_types.proofs.ReportedFaults.{reported_then}
use Rattle.isle_types.proofs.FieldReadings.{tuple_field_more, known_place, unknown_place, fault_at}
use Rattle.isle_types.proofs.env.TypeEnv.tuple_fields_from_ast.Goals as goal

pub returns-in_err-ty-clause-fault : goal.returns-in_err-ty-clause-fault
returns-in_err-ty-clause-fault c = λ known named.
    let e = err_from_is_err_and c.from_residual.result c.from_residual.ensures.1 in
    let at = slice_get_read c.args.fields.now
    (length c.args.fields.now) c.loop-field.field-index c.field-item.result refl c.loop-field-test.true c.field-item.is in
    let type = slice_get-map (λ (tree : TupleFieldTree). tree.ty) c.args.fields.now c.loop-field.field-index
    ∙ ap (option_map (λ (tree : TupleFieldTree). tree.ty)) at in
    rw (e.1, e.2) (reported_then c.in_err-ty.field-0.0 _ _
    (λ error here. fault_at (FieldsBreak known _) c.field-item.result.ty.1
    (unknown_field_type c.loop-field.field-index c.field-item.result.ty type
    (unknown_place c.args.self.now known c.field-item.result.ty.0 named here.1)) error here.0) c.in_err-ty.ensures.fault)

pub loop-field-preserved : goal.loop-field-preserved
loop-field-preserved c = record {
  read = λ known named.
      let at = slice_get_read c.args.fields.now
      (length c.args.fields.now) c.loop-field.field-index c.field-item.result refl c.loop-field-test.true c.field-item.is in
      rw c.in_ok-push.ensures.items
      (tuple_field_more known c.args.fields.now c.loop-field.made.items c.loop-field.field-index c.field-item.result _
      (c.loop-field.invariant.read known named) at
      (known_place c.args.self.now known c.field-item.result.ty.0 c.in_ok-ty.ty named c.in_ok-ty.ensures.ok)
      (c.len.ensures ∙ c.loop-field.made.ok.0));
}

pub returns-clause-read : goal.returns-clause-read
returns-clause-read c = λ known named.
    subst (λ ts. ReadsTupleFields known ts c.loop-field.made.items) (take_all c.loop-field.field-index c.args.fields.now c.loop-field-test.false)
    (c.loop-field.invariant.read known named)
