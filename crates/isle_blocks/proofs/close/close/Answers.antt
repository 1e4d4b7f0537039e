use Rattle.std.proofs.Common.{Option, subst}
use Rattle.std.specs.Prelude.{IfSome}
use Rattle.std.proofs.lemmas.Result.{err_from_is_err_and}
use Rattle.isle_blocks.specs.declared.close.Reduced.{Reduced}
use Rattle.isle_blocks.specs.Rows.{pairs_of}
use Rattle.isle_blocks.specs.Inside.ClosureStates.{IsReduced}
use Rattle.isle_blocks.proofs.Closure.Whole.{state_of, is_reachable, no_room, whole}
use Rattle.isle_blocks.proofs.Closure.FieldOrder.{none_added}
use Rattle.isle_blocks.proofs.close.close.Goals as goal

pub finish-requires : goal.finish-requires
finish-requires c =
    let table = c.args.sites.now in let has = c.args.has.now in let same = c.args.same.now in
    let r = subst (λ (q : Option Reduced). IfSome q (λ r. IsReduced table has same r.own.items r.class.items))
    c.in-Some.is c.in_ok-reduced.ensures.reduced in (
      pairs_of same,
      state_of table has same c.requires c.in-Some.reduced.own.items r.tests c.in-Some.reduced.class.items
          r.classes.classes r.classes.closed,
    )

pub returns-in_err-finish-clause-full : goal.returns-in_err-finish-clause-full
returns-in_err-finish-clause-full c =
    let table = c.args.sites.now in let has = c.args.has.now in let same = c.args.same.now in
    let own = c.in-Some.reduced.own.items in let first = c.in-Some.reduced.class.items in
    let r = subst (λ (q : Option Reduced). IfSome q (λ r. IsReduced table has same r.own.items r.class.items))
    c.in-Some.is c.in_ok-reduced.ensures.reduced in
    let e = err_from_is_err_and c.from_residual-in_err-finish.result c.from_residual-in_err-finish.ensures.1 in
    rw (e.1, e.2) (λ size name injective.
    let (class, out) = c.in_err-finish.ensures.full size in
    let sound = r.classes.sound name injective has r.tests in (
      is_reachable name injective table has same c.requires own r.tests first r.classes.classes r.classes.closed sound r.classes.ranked,
      no_room name injective table has same c.requires own r.tests first r.classes.classes r.classes.closed sound c.finish.new.sites class out.grows
          out.full out.need,
    ))

pub returns-clause-closed : goal.returns-clause-closed
returns-clause-closed c = λ name injective.
    let table = c.args.sites.now in let has = c.args.has.now in let same = c.args.same.now in
    let own = c.in-Some.reduced.own.items in let first = c.in-Some.reduced.class.items in
    let r = subst (λ (q : Option Reduced). IfSome q (λ r. IsReduced table has same r.own.items r.class.items))
    c.in-Some.is c.in_ok-reduced.ensures.reduced in
    let f = c.in_ok-finish.ensures.finished in
    whole name injective table has same c.requires own r.tests first r.classes.classes r.classes.closed (r.classes.sound name injective has r.tests)
    c.finish.new.sites c.in_ok-finish.field-0.class.items f.grows f.full c.in_ok-finish.field-0.each.items f.each_fits f.tested r.classes.ranked

pub returns-in_default-clause-ordered : goal.returns-in_default-clause-ordered
returns-in_default-clause-ordered c = none_added c.args.sites.now
