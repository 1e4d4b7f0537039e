use Rattle.std.proofs.Common.{arith}
use Rattle.std.proofs.lemmas.Option.{slice_get_within}
use Rattle.std.proofs.lemmas.Result.{err_from_is_err_and}
use Rattle.isle_blocks.specs.Inside.ClosureFields.{kind_of}
use Rattle.isle_blocks.specs.Inside.ClosureStates.{Still}
use Rattle.isle_blocks.proofs.Closure.Full.{no_room, now_there, grows_one}
use Rattle.isle_blocks.proofs.Closure.FieldOrder.{to_next, interned}
use Rattle.isle_blocks.proofs.close.complete.add_field.Goals as goal

pub returns-in-Some-clause-grows : goal.returns-in-Some-clause-grows
returns-in-Some-clause-grows c = λ own opened. Still

pub index-root-requires : goal.index-root-requires
index-root-requires c =
    let within = slice_get_within c.args.sites.now c.in-Some-find_field.like _ c.in-Some-find_field.ensures in
    let fits = c.requires.classes.fits in omega arith

pub returns-in_err-intern-clause-full : goal.returns-in_err-intern-clause-full
returns-in_err-intern-clause-full c =
    let e = err_from_is_err_and c.from_residual.result c.from_residual.ensures.1 in
    rw (e.1, e.2) (λ size. no_room c.args.sites.now c.args.class.now.items c.args.site (kind_of c.args.variant)
    c.args.index c.requires.site_in c.in_default.ensures
    c.intern.new.self c.in_err-intern.ensures.err c.field.result c.field.ensures (c.in_err-intern.ensures.full size) c.requires.like)

pub returns-in_ok-push-clause-grows : goal.returns-in_ok-push-clause-grows
returns-in_ok-push-clause-grows c =
    grows_one c.args.sites.now c.args.class.now.items c.args.site (kind_of c.args.variant) c.args.index c.requires.site_in c.in_default.ensures
    c.requires.classes c.intern.new.self c.in_ok-intern.field-0 c.field.result c.field.ensures c.in_ok-intern.ensures.ok
    c.index-base.result.now c.in-Some-find_field.like c.index-root.result.now c.push.new.self.items c.index-base.ensures c.in-Some-find_field.ensures
    c.index-root.ensures c.in_ok-push.ensures.items

pub returns-in_ok-push-clause-added : goal.returns-in_ok-push-clause-added
returns-in_ok-push-clause-added c =
    now_there c.args.sites.now c.args.class.now.items c.args.site (kind_of c.args.variant) c.args.index c.requires.site_in c.in_default.ensures
    c.intern.new.self c.in_ok-intern.field-0 c.field.result c.field.ensures c.in_ok-intern.ensures.ok

pub returns-in-Some-clause-ordered : goal.returns-in-Some-clause-ordered
returns-in-Some-clause-ordered c = λ first h. to_next first c.args.sites.now c.args.site c.args.index h

pub returns-in_ok-push-clause-ordered : goal.returns-in_ok-push-clause-ordered
returns-in_ok-push-clause-ordered c = λ first h.
    interned first c.args.sites.now c.args.site c.args.index (kind_of c.args.variant) c.field.result c.in_ok-intern.field-0 c.intern.new.self
    c.field.ensures c.in_ok-intern.ensures.ok h
