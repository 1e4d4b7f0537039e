use Rattle.std.proofs.Common.{map, subst}
use Rattle.isle_ast.specs.declared.ast.StructField.{StructField as StructFieldTree}
use Rattle.isle_types.specs.Names.{AreDistinct}
use Rattle.isle_ast.specs.Errors.{IfFault}
use Rattle.std.proofs.lemmas.Result.{err_from_is_err_and}
use Rattle.isle_types.specs.Inside.Readings.{ReadsFields, ReadsTupleFields, IsStructFieldsFault, IsTupleFieldsFault}
use Rattle.isle_types.proofs.ReportedFaults.{reported_then}
use Rattle.isle_types.proofs.TypeReadings.{struct_list, tuple_list, type_fault_reads}
use Rattle.isle_types.proofs.env.TypeEnv.fields_from_ast.Goals as goal

pub returns-in_err-fields-in-Struct-clause-fault : goal.returns-in_err-fields-in-Struct-clause-fault
returns-in_err-fields-in-Struct-clause-fault c = λ known named.
    let e = err_from_is_err_and c.from_residual-in_err-fields-in-Struct.result c.from_residual-in_err-fields-in-Struct.ensures.1 in
    let fault = subst (λ ts. IfFault c.in_err-fields-in-Struct.field-0.0 (IsStructFieldsFault known ts)) c.as_slice-trees.ensures
    (c.in_err-fields-in-Struct.ensures.fault known named) in
    rw (e.1, e.2, c.in-Struct.is) (reported_then c.in_err-fields-in-Struct.field-0.0 _ _ (λ error here. type_fault_reads _ _ error here) fault)

pub returns-in_err-fields-in-Tuple-clause-fault : goal.returns-in_err-fields-in-Tuple-clause-fault
returns-in_err-fields-in-Tuple-clause-fault c = λ known named.
    let e = err_from_is_err_and c.from_residual-in_err-fields-in-Tuple.result c.from_residual-in_err-fields-in-Tuple.ensures.1 in
    let fault = subst (λ ts. IfFault c.in_err-fields-in-Tuple.field-0.0 (IsTupleFieldsFault known ts)) c.as_slice-trees-in-Tuple.ensures
    (c.in_err-fields-in-Tuple.ensures.fault known named) in
    rw (e.1, e.2, c.in-Tuple.is) (reported_then c.in_err-fields-in-Tuple.field-0.0 _ _ (λ error here. type_fault_reads _ _ error here) fault)

pub returns-in_ok-fields-in-Struct-clause-read : goal.returns-in_ok-fields-in-Struct-clause-read
returns-in_ok-fields-in-Struct-clause-read c = λ known named.
    let read = c.in_ok-fields-in-Struct.ensures.read known named in
    rw (c.in-Struct.is, c.new.ensures)
    (struct_list known _ c.in-Struct.fields _
    (subst (λ ts. ReadsFields known c.struct_fields_from_ast.new.self.names ts c.in_ok-fields-in-Struct.fields.items) c.as_slice-trees.ensures
    read) (subst (λ ts. AreDistinct (map (λ (tree : StructFieldTree). tree.name.0) ts)) c.as_slice-trees.ensures
    c.in_ok-fields-in-Struct.ensures.once))

pub returns-in_ok-fields-in-Tuple-clause-read : goal.returns-in_ok-fields-in-Tuple-clause-read
returns-in_ok-fields-in-Tuple-clause-read c = λ known named.
    let read = c.in_ok-fields-in-Tuple.ensures.read known named in
    rw (c.in-Tuple.is, c.new-in-Tuple.ensures)
    (tuple_list known _ c.in-Tuple.fields _
    (subst (λ ts. ReadsTupleFields known ts c.in_ok-fields-in-Tuple.fields.items) c.as_slice-trees-in-Tuple.ensures read))
