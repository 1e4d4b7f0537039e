use Rattle.std.proofs.Common.{map}
use Rattle.isle_types.proofs.Tables.{more_then}
use Rattle.isle_types.proofs.ShownTypes.{shows_with_names}
use Rattle.isle_terms.proofs.Collections.Checking.{item_at, past_mapped}
use Rattle.isle_terms.proofs.Collections.DeclaredTerms.{declared_turn, declared_done, one_alone}
use Rattle.isle_terms.proofs.env.terms.Forms.declared_terms.Goals as goal

pub loop-decl-preserved : goal.loop-decl-preserved
loop-decl-preserved c =
    let decls = map (λ decl. decl.now) c.args.decls.now in
    let i = c.loop-decl.decl-index in
    let here = item_at (λ decl. decl.now) c.args.decls.now i c.decl-item.result c.loop-decl-test.true c.decl-item.is in (
      λ types defs shows forms.
          declared_turn types defs c.loop-decl.tyenv.names c.add_declared.new.tyenv.names decls i c.decl-item.result.now c.loop-decl.terms.items
          c.add_declared.new.terms.items c.args.errors.now.items c.loop-decl.errors.items c.add_declared.new.errors.items here
          c.in-Ok.ensures.more.kept (c.loop-decl.invariant.0 types defs shows forms)
          (c.in-Ok.ensures.added types defs (shows_with_names c.args.tyenv.now c.loop-decl.tyenv types c.loop-decl.invariant.1 shows) forms),
      more_then c.args.tyenv.now c.loop-decl.tyenv c.add_declared.new.tyenv c.loop-decl.invariant.1 c.in-Ok.ensures.more,
      c.in-Ok.ensures.needs c.loop-decl.invariant.2,
    )

pub returns-in-Err-clause-large : goal.returns-in-Err-clause-large
returns-in-Err-clause-large c = λ types shows.
    let i = c.loop-decl.decl-index in
    let here = item_at (λ decl. decl.now) c.args.decls.now i c.decl-item.result c.loop-decl-test.true c.decl-item.is in
    one_alone (map (λ decl. decl.now) c.args.decls.now) c.decl-item.result.now c.in-Err.refusal (i, here)
    (c.in-Err.ensures.large types (shows_with_names c.args.tyenv.now c.loop-decl.tyenv types c.loop-decl.invariant.1 shows))

pub returns-in-Err-clause-more : goal.returns-in-Err-clause-more
returns-in-Err-clause-more c =
    more_then c.args.tyenv.now c.loop-decl.tyenv c.add_declared.new.tyenv c.loop-decl.invariant.1 c.in-Err.ensures.more

pub returns-in-Err-clause-shown : goal.returns-in-Err-clause-shown
returns-in-Err-clause-shown c = λ types shows.
    c.in-Err.ensures.shown types (shows_with_names c.args.tyenv.now c.loop-decl.tyenv types c.loop-decl.invariant.1 shows)

pub returns-clause-made : goal.returns-clause-made
returns-clause-made c = λ types defs shows forms.
    declared_done types defs c.loop-decl.tyenv.names (map (λ decl. decl.now) c.args.decls.now) c.loop-decl.decl-index c.loop-decl.terms.items
    c.args.errors.now.items c.loop-decl.errors.items
    (past_mapped (λ decl. decl.now) c.args.decls.now c.loop-decl.decl-index c.loop-decl-test.false) (c.loop-decl.invariant.0 types defs shows forms)

pub returns-clause-more : goal.returns-clause-more
returns-clause-more c = c.loop-decl.invariant.1

pub returns-clause-shown : goal.returns-clause-shown
returns-clause-shown c = λ types shows. shows_with_names c.args.tyenv.now c.loop-decl.tyenv types c.loop-decl.invariant.1 shows

pub returns-clause-needs : goal.returns-clause-needs
returns-clause-needs c = c.loop-decl.invariant.2
