use Rattle.std.proofs.Common.{refl, ap, sym, subst, ◌∙◌, arith}
use Rattle.std.proofs.lemmas.Result.{err_from_is_err_and}
use Rattle.isle_types.specs.Environment.{primitive, enum, struct, IsShape, HasAllowedSize}
use Rattle.isle_ast.specs.declared.ast.TypeValue.TheVariants.{Enum}
use Rattle.isle_types.specs.TypeFaults.{TypeBreaks, marks_not_allowed, variants_break, fields_break}
use Rattle.isle_types.proofs.Tables.{more_then}
use Rattle.isle_types.proofs.ReportedFaults.{reported_then}
use Rattle.isle_types.proofs.FieldReadings.{fault_at, named_kept}
use Rattle.isle_types.proofs.TypeReadings.{reading_then, type_fault_reads, type_read, variants_once}
use Rattle.isle_types.proofs.env.TypeEnv.type_from_ast.Goals as goal

pub returns-in_err-check_marks-clause-fault : goal.returns-in_err-check_marks-clause-fault
returns-in_err-check_marks-clause-fault c = λ known named.
    let e = err_from_is_err_and c.from_residual.result c.from_residual.ensures.1 in
    rw (e.1, e.2) (reported_then c.in_err-check_marks.field-0.0 _ _
    (λ error here. type_fault_reads _ _ error
    (fault_at (TypeBreaks known c.args.ty.now) c.args.ty.now.pos (marks_not_allowed here.1) error here.0)) c.in_err-check_marks.ensures.fault)

pub returns-in_err-variants-in-Enum-clause-fault : goal.returns-in_err-variants-in-Enum-clause-fault
returns-in_err-variants-in-Enum-clause-fault c = λ known named.
    let e = err_from_is_err_and c.from_residual-in_err-variants-in-Enum.result c.from_residual-in_err-variants-in-Enum.ensures.1 in
    let here = c.in-Enum.is ∙ ap (λ vs. Enum vs c.in-Enum.field-1) (sym c.as_slice.ensures) in
    rw (e.1, e.2) (reported_then c.in_err-variants-in-Enum.field-0.0 _ _
    (reading_then _ _ _ _ (λ pos breaks. variants_break c.as_slice.result.now c.in-Enum.field-1 pos here breaks)
    (λ pos passed. (passed.0, λ allowed. passed.1 (subst HasAllowedSize here allowed))))
    (c.in_err-variants-in-Enum.ensures.fault known (named_kept _ _ known c.intern_mut.ensures.same named)))

pub returns-in_err-fields-in-Struct-clause-fault : goal.returns-in_err-fields-in-Struct-clause-fault
returns-in_err-fields-in-Struct-clause-fault c = λ known named.
    let e = err_from_is_err_and c.from_residual-in_err-fields-in-Struct.result c.from_residual-in_err-fields-in-Struct.ensures.1 in
    rw (e.1, e.2) (reported_then c.in_err-fields-in-Struct.field-0.0 _ _
    (reading_then _ _ _ _ (λ pos breaks. fields_break c.in-Struct.fields c.in-Struct.field-1 pos c.in-Struct.is breaks)
    (λ pos passed. (
      passed.0,
      λ allowed. let few = subst HasAllowedSize c.in-Struct.is allowed in let many = passed.1 in
          omega (arith, few, many),
    ))) (c.in_err-fields-in-Struct.ensures.fault known (named_kept _ _ known c.intern_mut.ensures.same named)))

pub returns-in_ok-host-in-Primitive-clause-read : goal.returns-in_ok-host-in-Primitive-clause-read
returns-in_ok-host-in-Primitive-clause-read c = λ known named.
    type_read known _ c.args.ty.now (primitive c.in-Primitive.host.0) _ c.in_ok-check_marks.ensures.ok
    (subst (λ t. IsShape known t (primitive c.in-Primitive.host.0)) (sym c.in-Primitive.is) refl) c.in_ok-host-in-Primitive.ensures.symbol refl

pub returns-in_ok-variants-in-Enum-clause-read : goal.returns-in_ok-variants-in-Enum-clause-read
returns-in_ok-variants-in-Enum-clause-read c = λ known named.
    let read = c.in_ok-variants-in-Enum.ensures.read known (named_kept _ _ known c.intern_mut.ensures.same named) in
    let here = c.in-Enum.is ∙ ap (λ vs. Enum vs c.in-Enum.field-1) (sym c.as_slice.ensures) in
    rw c.new.ensures (type_read known _ c.args.ty.now (enum read.variants) _ c.in_ok-check_marks.ensures.ok
    (subst (λ t. IsShape known t (enum read.variants)) (sym here)
    (read.meant, variants_once known c.as_slice.result.now read.variants read.meant c.in_ok-variants-in-Enum.ensures.once)) (
      record { name = c.variants_from_ast.ensures.same.kept _ _ c.in_ok-name.ensures.symbol; is_extern = refl; is_nodebug = refl },
      (read.shown, read.counted),
    ) refl)

pub returns-in_ok-fields-in-Struct-clause-read : goal.returns-in_ok-fields-in-Struct-clause-read
returns-in_ok-fields-in-Struct-clause-read c = λ known named.
    let read = c.in_ok-fields-in-Struct.ensures.read known (named_kept _ _ known c.intern_mut.ensures.same named) in
    type_read known _ c.args.ty.now (struct read.fields) _ c.in_ok-check_marks.ensures.ok
    (subst (λ t. IsShape known t (struct read.fields)) (sym c.in-Struct.is) read.meant)
    (record { name = c.fields_from_ast.ensures.same.kept _ _ c.in_ok-name.ensures.symbol; is_extern = refl; is_nodebug = refl }, read.shown) refl

pub returns-in_err-host-in-Primitive-clause-same : goal.returns-in_err-host-in-Primitive-clause-same
returns-in_err-host-in-Primitive-clause-same c = more_then _ _ _ c.intern_mut.ensures.same c.intern_mut-in-Primitive.ensures.same

pub returns-in_ok-host-in-Primitive-clause-same : goal.returns-in_ok-host-in-Primitive-clause-same
returns-in_ok-host-in-Primitive-clause-same c = more_then _ _ _ c.intern_mut.ensures.same c.intern_mut-in-Primitive.ensures.same

pub returns-in_err-variants-in-Enum-clause-same : goal.returns-in_err-variants-in-Enum-clause-same
returns-in_err-variants-in-Enum-clause-same c = more_then _ _ _ c.intern_mut.ensures.same c.variants_from_ast.ensures.same

pub returns-in_ok-variants-in-Enum-clause-same : goal.returns-in_ok-variants-in-Enum-clause-same
returns-in_ok-variants-in-Enum-clause-same c = more_then _ _ _ c.intern_mut.ensures.same c.variants_from_ast.ensures.same

pub returns-in_err-fields-in-Struct-clause-same : goal.returns-in_err-fields-in-Struct-clause-same
returns-in_err-fields-in-Struct-clause-same c = more_then _ _ _ c.intern_mut.ensures.same c.fields_from_ast.ensures.same

pub returns-in_ok-fields-in-Struct-clause-same : goal.returns-in_ok-fields-in-Struct-clause-same
returns-in_ok-fields-in-Struct-clause-same c = more_then _ _ _ c.intern_mut.ensures.same c.fields_from_ast.ensures.same
