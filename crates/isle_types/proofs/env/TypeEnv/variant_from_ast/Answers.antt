use Rattle.std.proofs.Common.{Some, refl, ap, ◌∙◌}
use Rattle.std.proofs.lemmas.Result.{err_from_is_err_and}
use Rattle.isle_ast.specs.declared.ast.Ident.{Ident}
use Rattle.isle_types.proofs.Tables.{more_then}
use Rattle.isle_types.proofs.FieldReadings.{named_kept}
use Rattle.isle_types.proofs.TypeReadings.{variant_read}
use Rattle.isle_types.proofs.env.TypeEnv.variant_from_ast.Goals as goal

pub returns-in_err-fields-clause-fault : goal.returns-in_err-fields-clause-fault
returns-in_err-fields-clause-fault c = λ known named.
    let e = err_from_is_err_and c.from_residual-in_err-fields.result c.from_residual-in_err-fields.ensures.1 in
    let same = more_then _ _ _ c.intern_mut.ensures.same c.intern_mut-2.ensures.same in
    rw (e.1, e.2) (c.in_err-fields.ensures.fault known (named_kept _ _ known same named))

pub returns-clause-read : goal.returns-clause-read
returns-clause-read c = λ known named.
    let same = more_then _ _ _ c.intern_mut.ensures.same c.intern_mut-2.ensures.same in
    let last = c.fields_from_ast.ensures.same.kept in
    let full = c.in_ok-fullname.ensures.symbol ∙ ap (λ (name : Ident). Some name.0) c.in_ok-full_name.ensures in
    variant_read known c.fields_from_ast.new.self.names c.args.ty.now.name.0 c.args.variant.now _
    (last _ _ (c.intern_mut-2.ensures.same.kept _ _ c.in_ok-name.ensures.symbol)) (last _ _ full) refl
    (c.in_ok-fields.ensures.read known (named_kept _ _ known same named))

pub returns-in_err-fullname-clause-same : goal.returns-in_err-fullname-clause-same
returns-in_err-fullname-clause-same c = more_then _ _ _ c.intern_mut.ensures.same c.intern_mut-2.ensures.same

pub returns-in_err-fields-clause-same : goal.returns-in_err-fields-clause-same
returns-in_err-fields-clause-same c =
    let named = more_then _ _ _ c.intern_mut.ensures.same c.intern_mut-2.ensures.same in
    more_then _ _ _ named c.fields_from_ast.ensures.same

pub returns-clause-same : goal.returns-clause-same
returns-clause-same c =
    let named = more_then _ _ _ c.intern_mut.ensures.same c.intern_mut-2.ensures.same in
    more_then _ _ _ named c.fields_from_ast.ensures.same
