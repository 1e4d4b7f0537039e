use Rattle.std.proofs.Common.{map, sym, ap, ◌∙◌, refl}
use Rattle.isle_ast.specs.declared.ast.Decl.{Decl as DeclTree}
use Rattle.isle_terms.specs.Inside.Collecting.DefinitionChecks.{is_ill_marked}
use Rattle.isle_terms.proofs.Collections.Checking.{item_at, each_ill, each_well, each_done, past_mapped}
use Rattle.isle_terms.proofs.env.checks.check_marks.Goals as goal
use Rattle.isle_terms.proofs.env.checks.check_marks.Goals.{then-is_ill_marked+in_ok-report, else-is_ill_marked}

pub loop-decl-preserved : goal.loop-decl-preserved
loop-decl-preserved c =
    let items = map (λ decl. decl.now) c.args.decls.now in
    let i = c.loop-decl.decl-index in
    let here = item_at (λ decl. decl.now) c.args.decls.now i c.decl-item.result c.loop-decl-test.true c.decl-item.is in
    elim c.if-is_ill_marked.branch [
      | then-is_ill_marked+in_ok-report w ↦ each_ill items (is_ill_marked) (λ (decl : DeclTree). decl.pos) i _ c.if-is_ill_marked.errors.items _ _
          here
          (ap (λ v. v.items) w.errors-is ∙ w.in_ok-report.ensures.1) (sym (c.is_ill_marked.ensures)
          ∙ w.if-is_ill_marked.true) refl c.loop-decl.invariant
      | else-is_ill_marked w ↦ each_well items (is_ill_marked) (λ (decl : DeclTree). decl.pos) i _ c.if-is_ill_marked.errors.items here (ap (λ v.
          v.items) w.errors-is)
          (sym (c.is_ill_marked.ensures) ∙ w.if-is_ill_marked.false) c.loop-decl.invariant
    ]

pub returns : goal.returns
returns c = each_done (map (λ decl. decl.now) c.args.decls.now) (is_ill_marked) (λ (decl : DeclTree). decl.pos) c.loop-decl.decl-index
    (past_mapped (λ decl. decl.now) c.args.decls.now c.loop-decl.decl-index c.loop-decl-test.false) c.loop-decl.invariant
