use Rattle.std.proofs.Common.{ℕ, List, length, refl, ap, ◌∙◌}
use Rattle.std.proofs.lemmas.Result.{err_from_is_err_and}
use Rattle.std.proofs.lemmas.Option.{slice_get_read}
use Rattle.isle_ast.specs.declared.ast.Variant.{Variant as VariantTree}
use Rattle.isle_types.specs.declared.ids.Sym.{Sym}
use Rattle.isle_types.specs.declared.ids.VariantId.{VariantId}
use Rattle.isle_types.specs.declared.types.Variant.{Variant}
use Rattle.isle_types.specs.TypeFaults.{VariantsBreak, variant_twice, variant_fields_break}
use Rattle.isle_types.proofs.ReportedFaults.{reported_then}
use Rattle.isle_types.proofs.Tables.{more_then}
use Rattle.isle_types.proofs.NamedItems.{named_more}
use Rattle.isle_types.proofs.FieldReadings.{fault_at, named_kept}
use Rattle.isle_types.proofs.TypeReadings.{reading_then, type_fault_reads, variant_more, allowed_more, not_allowed}
use Rattle.isle_types.proofs.env.TypeEnv.variants_from_ast.Goals as goal

abbrev tree_name : VariantTree → List ℕ
tree_name tree = tree.name.0

abbrev variant_name : Variant → Sym
variant_name variant = variant.name

pub returns-in_err-variant_from_ast-clause-fault : goal.returns-in_err-variant_from_ast-clause-fault
returns-in_err-variant_from_ast-clause-fault c = λ known named.
    let e = err_from_is_err_and c.from_residual.result c.from_residual.ensures.1 in
    let at = slice_get_read c.args.variants.now
    (length c.args.variants.now) c.loop-variant.variant-index c.variant-item.result refl c.loop-variant-test.true c.variant-item.is in
    rw (e.1, e.2) (reported_then c.in_err-variant_from_ast.field-0.0 _ _
    (reading_then _ _ _ _ (λ pos breaks. variant_fields_break c.loop-variant.variant-index c.variant-item.result pos at breaks)
    (λ pos passed. (passed.0, not_allowed c.args.variants.now c.loop-variant.variant-index c.variant-item.result at passed.1)))
    (c.in_err-variant_from_ast.ensures.fault known (named_kept _ _ known c.loop-variant.invariant.same named)))

pub loop-variant-preserved : goal.loop-variant-preserved
loop-variant-preserved c =
    let at = slice_get_read c.args.variants.now
    (length c.args.variants.now) c.loop-variant.variant-index c.variant-item.result refl c.loop-variant-test.true c.variant-item.is in
    let keeps = c.variant_from_ast.ensures.same.kept in
    let id = ap (λ (i : VariantId). i.0) c.in_ok-variant_from_ast.ensures.id ∙ c.len.ensures ∙ c.loop-variant.made.ok.0 in
    record {
      same = more_then _ _ _ c.loop-variant.invariant.same c.variant_from_ast.ensures.same;
      sizes = allowed_more c.args.variants.now c.loop-variant.variant-index c.variant-item.result c.loop-variant.invariant.sizes at
          c.in_ok-variant_from_ast.ensures.size;
      named = rw c.in_ok-push.ensures.items
          (named_more tree_name variant_name c.loop-variant.self.names c.variant_from_ast.new.self.names c.args.variants.now
          c.loop-variant.made.items c.loop-variant.variant-index c.variant-item.result c.in_ok-variant_from_ast.field-0 keeps
          c.loop-variant.invariant.named at c.in_ok-variant_from_ast.ensures.name);
      read = λ known named.
          rw c.in_ok-push.ensures.items
          (variant_more known c.loop-variant.self.names c.variant_from_ast.new.self.names c.args.ty.now.name.0 c.args.variants.now
          c.loop-variant.made.items c.loop-variant.variant-index c.variant-item.result c.in_ok-variant_from_ast.field-0 keeps
          (c.loop-variant.invariant.read known named) at
          (c.in_ok-variant_from_ast.ensures.read known (named_kept _ _ known c.loop-variant.invariant.same named)) id);
    }

pub returns-in_err-check_variants-clause-fault : goal.returns-in_err-check_variants-clause-fault
returns-in_err-check_variants-clause-fault c = λ known named.
    let e = err_from_is_err_and c.from_residual-in_err-check_variants.result c.from_residual-in_err-check_variants.ensures.1 in
    rw (e.1, e.2) (reported_then c.in_err-check_variants.field-0.0 _ _
    (λ error here. type_fault_reads _ _ error
    (fault_at (VariantsBreak known c.args.variants.now) here.1.0.pos
    (variant_twice here.0 here.1.0 here.1.1.0 here.1.1.1) error here.1.1.2)) c.in_err-check_variants.ensures.fault)

pub returns-in_err-variant_from_ast-clause-same : goal.returns-in_err-variant_from_ast-clause-same
returns-in_err-variant_from_ast-clause-same c = more_then _ _ _ c.loop-variant.invariant.same c.variant_from_ast.ensures.same

pub returns-in_err-push-clause-same : goal.returns-in_err-push-clause-same
returns-in_err-push-clause-same c = more_then _ _ _ c.loop-variant.invariant.same c.variant_from_ast.ensures.same
