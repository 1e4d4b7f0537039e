use Rattle.std.proofs.Common.{map, sym, ap, ◌∙◌, refl}
use Rattle.isle_ast.specs.declared.ast.Decl.{Decl as DeclTree}
use Rattle.isle_terms.specs.Inside.Collecting.DefinitionChecks.{is_unused}
use Rattle.isle_terms.proofs.Collections.Checking.{item_at, each_ill, each_well, each_done, past_mapped}
use Rattle.isle_terms.proofs.env.checks.check_defined.Goals as goal
use Rattle.isle_terms.proofs.env.checks.check_defined.Goals.{then-is_unused+in_ok-report, else-is_unused}

pub loop-decl-preserved : goal.loop-decl-preserved
loop-decl-preserved c = λ ruled hosted extracted is_ruled is_hosted is_extracted.
    let items = map (λ decl. decl.now) c.args.decls.now in
    let i = c.loop-decl.decl-index in
    let here = item_at (λ decl. decl.now) c.args.decls.now i c.decl-item.result c.loop-decl-test.true c.decl-item.is in
    elim c.if-is_unused.branch [
      | then-is_unused+in_ok-report w ↦ each_ill items (is_unused ruled hosted extracted) (λ (decl : DeclTree). decl.pos) i _
          c.if-is_unused.errors.items _ _ here
          (ap (λ v. v.items) w.errors-is ∙ w.in_ok-report.ensures.1) (sym (c.is_unused.ensures ruled hosted extracted is_ruled is_hosted
          is_extracted) ∙ w.if-is_unused.true) refl (c.loop-decl.invariant ruled hosted extracted is_ruled is_hosted is_extracted)
      | else-is_unused w ↦ each_well items (is_unused ruled hosted extracted) (λ (decl : DeclTree). decl.pos) i _ c.if-is_unused.errors.items here
          (ap (λ v. v.items) w.errors-is)
          (sym (c.is_unused.ensures ruled hosted extracted is_ruled is_hosted is_extracted)
          ∙ w.if-is_unused.false) (c.loop-decl.invariant ruled hosted extracted is_ruled is_hosted is_extracted)
    ]

pub returns : goal.returns
returns c = λ ruled hosted extracted is_ruled is_hosted is_extracted. each_done (map (λ decl. decl.now) c.args.decls.now) (is_unused ruled hosted
    extracted) (λ (decl : DeclTree). decl.pos) c.loop-decl.decl-index
    (past_mapped (λ decl. decl.now) c.args.decls.now c.loop-decl.decl-index c.loop-decl-test.false) (c.loop-decl.invariant ruled hosted extracted
    is_ruled is_hosted is_extracted)
