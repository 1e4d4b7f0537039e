use Rattle.std.proofs.Common.{◌≡◌, ℕ, List, length, Some, refl, ap, sym, subst, ◌∙◌, slice_get}
use Rattle.std.specs.List.{AllZip}
use Rattle.std.specs.Option.{option_map}
use Rattle.std.proofs.lemmas.Result.{err_from_is_err_and}
use Rattle.std.proofs.lemmas.Option.{slice_get_read, slice_get-map}
use Rattle.std.proofs.lemmas.List.{take_all}
use Rattle.isle_ast.specs.declared.ast.StructField.{StructField as StructFieldTree}
use Rattle.isle_types.specs.declared.types.StructField.{StructField}
use Rattle.isle_types.specs.TypeFaults.{FieldsBreak, field_twice, unknown_field_type}
use Rattle.isle_types.specs.Inside.Readings.{ReadsFields}
use Rattle.isle_types.proofs.ReportedFaults.{reported_then}
use Rattle.isle_types.proofs.Tables.{more_then}
use Rattle.isle_types.proofs.NamedItems.{named_more}
use Rattle.isle_types.proofs.FieldReadings.{field_more, known_place, unknown_place, fault_at, named_kept}
use Rattle.isle_types.proofs.env.TypeEnv.struct_fields_from_ast.Goals as goal

abbrev tree_name : StructFieldTree → List ℕ
tree_name tree = tree.name.0

abbrev field_name : StructField → Rattle.isle_types.specs.declared.ids.Sym.Sym
field_name field = field.name

pub returns-in_err-name-clause-same : goal.returns-in_err-name-clause-same
returns-in_err-name-clause-same c = more_then _ _ _ c.loop-field.invariant.same c.intern_mut.ensures.same

pub returns-in_err-ty-clause-same : goal.returns-in_err-ty-clause-same
returns-in_err-ty-clause-same c = more_then _ _ _ c.loop-field.invariant.same c.intern_mut.ensures.same

pub returns-in_err-push-clause-same : goal.returns-in_err-push-clause-same
returns-in_err-push-clause-same c = more_then _ _ _ c.loop-field.invariant.same c.intern_mut.ensures.same

pub returns-in_err-ty-clause-fault : goal.returns-in_err-ty-clause-fault
returns-in_err-ty-clause-fault c = λ known named.
    let e = err_from_is_err_and c.from_residual-in_err-ty.result c.from_residual-in_err-ty.ensures.1 in
    let at = slice_get_read c.args.fields.now
    (length c.args.fields.now) c.loop-field.field-index c.field-item.result refl c.loop-field-test.true c.field-item.is in
    let type = slice_get-map (λ (tree : StructFieldTree). tree.ty) c.args.fields.now c.loop-field.field-index
    ∙ ap (option_map (λ (tree : StructFieldTree). tree.ty)) at in
    let same = more_then _ _ _ c.loop-field.invariant.same c.intern_mut.ensures.same in
    rw (e.1, e.2) (reported_then c.in_err-ty.field-0.0 _ _
    (λ error here. fault_at (FieldsBreak known _) c.field-item.result.ty.1
    (unknown_field_type c.loop-field.field-index c.field-item.result.ty type
    (unknown_place c.intern_mut.new.self known c.field-item.result.ty.0
    (named_kept _ _ known same named) here.1)) error here.0) c.in_err-ty.ensures.fault)

pub loop-field-preserved : goal.loop-field-preserved
loop-field-preserved c =
    let at = slice_get_read c.args.fields.now
    (length c.args.fields.now) c.loop-field.field-index c.field-item.result refl c.loop-field-test.true c.field-item.is in
    let same = more_then _ _ _ c.loop-field.invariant.same c.intern_mut.ensures.same in
    let keeps = c.intern_mut.ensures.same.kept in
    record {
      same = same;
      named = rw c.in_ok-push.ensures.items
          (named_more tree_name field_name c.loop-field.self.names c.intern_mut.new.self.names c.args.fields.now c.loop-field.made.items
          c.loop-field.field-index c.field-item.result _ keeps c.loop-field.invariant.named at c.in_ok-name.ensures.symbol);
      read = λ known named.
          rw c.in_ok-push.ensures.items
          (field_more known c.loop-field.self.names c.intern_mut.new.self.names c.args.fields.now c.loop-field.made.items
          c.loop-field.field-index c.field-item.result _ keeps (c.loop-field.invariant.read known named) at c.in_ok-name.ensures.symbol
          (known_place c.intern_mut.new.self known c.field-item.result.ty.0 c.in_ok-ty.ty (named_kept _ _ known same named)
          c.in_ok-ty.ensures.ok) (c.len.ensures ∙ c.loop-field.made.ok.0));
    }

pub check_fields-requires : goal.check_fields-requires
check_fields-requires c =
    let R : StructFieldTree → StructField → Type 0 = λ tree field. slice_get c.loop-field.self.names field.name.0 ≡ Some tree.name.0 in
    subst (λ ts. AllZip R ts c.as_slice.result.now) (take_all c.loop-field.field-index c.args.fields.now c.loop-field-test.false)
    (subst (AllZip R _) (sym c.as_slice.ensures.value) c.loop-field.invariant.named)

pub returns-in_err-check_fields-clause-fault : goal.returns-in_err-check_fields-clause-fault
returns-in_err-check_fields-clause-fault c = λ known named.
    let e = err_from_is_err_and c.from_residual-in_err-check_fields.result c.from_residual-in_err-check_fields.ensures.1 in
    rw (e.1, e.2) (reported_then c.in_err-check_fields.field-0.0 _ _
    (λ error here. fault_at (FieldsBreak known _) here.1.0.pos
    (field_twice c.args.fields.now here.0 here.1.0 refl here.1.1.0 here.1.1.1) error here.1.1.2) c.in_err-check_fields.ensures.fault)

pub returns-clause-read : goal.returns-clause-read
returns-clause-read c = λ known named.
    subst (λ ts. ReadsFields known c.loop-field.self.names ts c.loop-field.made.items)
    (take_all c.loop-field.field-index c.args.fields.now c.loop-field-test.false) (c.loop-field.invariant.read known named)
