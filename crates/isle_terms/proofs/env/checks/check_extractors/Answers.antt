use Rattle.std.proofs.Common.{map, sym, ap, ◌∙◌, refl}
use Rattle.isle_ast.specs.declared.ast.Extractor.{Extractor as ExtractorTree}
use Rattle.isle_terms.specs.Inside.Collecting.DefinitionChecks.{is_ill_extractor}
use Rattle.isle_terms.proofs.Collections.Checking.{item_at, each_ill, each_well, each_done, past_mapped}
use Rattle.isle_terms.proofs.env.checks.check_extractors.Goals as goal
use Rattle.isle_terms.proofs.env.checks.check_extractors.Goals.{then-is_ill_extractor+in_ok-report, else-is_ill_extractor}

pub loop-extractor-preserved : goal.loop-extractor-preserved
loop-extractor-preserved c = λ names is_names.
    let items = map (λ extractor. extractor.now) c.args.extractors.now in
    let i = c.loop-extractor.extractor-index in
    let here = item_at (λ extractor. extractor.now) c.args.extractors.now i c.extractor-item.result c.loop-extractor-test.true c.extractor-item.is in
    elim c.if-is_ill_extractor.branch [
      | then-is_ill_extractor+in_ok-report w ↦ each_ill items (is_ill_extractor names (map (λ decl. decl.now) c.args.decls.now)) (λ (extractor :
          ExtractorTree). extractor.pos) i _ c.if-is_ill_extractor.errors.items _ _ here
          (ap (λ v. v.items) w.errors-is ∙ w.in_ok-report.ensures.1) (sym (c.is_ill_extractor.ensures names is_names)
          ∙ w.if-is_ill_extractor.true) refl (c.loop-extractor.invariant names is_names)
      | else-is_ill_extractor w ↦ each_well items (is_ill_extractor names (map (λ decl. decl.now) c.args.decls.now)) (λ (extractor :
          ExtractorTree). extractor.pos) i _ c.if-is_ill_extractor.errors.items here (ap (λ v. v.items) w.errors-is)
          (sym (c.is_ill_extractor.ensures names is_names) ∙ w.if-is_ill_extractor.false) (c.loop-extractor.invariant names is_names)
    ]

pub returns : goal.returns
returns c = λ names is_names. each_done (map (λ extractor. extractor.now) c.args.extractors.now) (is_ill_extractor names (map (λ decl. decl.now)
    c.args.decls.now)) (λ (extractor : ExtractorTree). extractor.pos) c.loop-extractor.extractor-index
    (past_mapped (λ extractor. extractor.now) c.args.extractors.now c.loop-extractor.extractor-index c.loop-extractor-test.false)
    (c.loop-extractor.invariant names is_names)
