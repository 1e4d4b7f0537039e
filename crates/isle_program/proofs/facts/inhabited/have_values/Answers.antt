use Rattle.std.proofs.Common.{sym, ap, ◌∙◌}
use Rattle.std.specs.List.{list_all}
use Rattle.std.proofs.lemmas.List.Folds.{list_all-map}
use Rattle.isle_types.specs.declared.types.StructField.{StructField}
use Rattle.isle_types.specs.declared.types.TupleField.{TupleField}
use Rattle.isle_types.specs.declared.types.Fields.{Fields}
use Rattle.isle_types.specs.Types.{field_types}
use Rattle.isle_program.specs.Facts.Inhabited.{mark_of}
use Rattle.isle_program.proofs.facts.inhabited.have_values.Goals as goal

pub returns-in-Struct : goal.returns-in-Struct
returns-in-Struct c =
    let test = mark_of c.args.marks.now in
    c.named_have_values.ensures ∙ ap (list_all (λ (field : StructField). test field.ty)) c.as_slice.ensures
    ∙ sym (list_all-map test (λ (field : StructField). field.ty) c.in-Struct.fields.fields)
    ∙ ap (λ (f : Fields). list_all test (field_types f)) (sym c.in-Struct.is)

pub returns-in-Tuple : goal.returns-in-Tuple
returns-in-Tuple c =
    let test = mark_of c.args.marks.now in
    c.unnamed_have_values.ensures ∙ ap (list_all (λ (field : TupleField). test field.ty)) c.as_slice-in-Tuple.ensures
    ∙ sym (list_all-map test (λ (field : TupleField). field.ty) c.in-Tuple.fields.fields)
    ∙ ap (λ (f : Fields). list_all test (field_types f)) (sym c.in-Tuple.is)
