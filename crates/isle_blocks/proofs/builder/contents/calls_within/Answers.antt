use Rattle.std.proofs.Common.{◌≡◌, ◌+◌, ◌-◌, arith}
use Rattle.isle_blocks.proofs.Building.Walking.{walk_start, walk_turn, walk_asked}
use Rattle.isle_blocks.proofs.builder.contents.calls_within.Goals as goal

pub loop-n-init : goal.loop-n-init
loop-n-init c =
    let site = c.index-site.result in
    let e : site + 1 - 0 ≡ site + 1 = omega arith in
    rw (e, c.new-calls.ensures.items) (walk_start c.args.bindings.now site c.in_ok-marks.marks.items c.in_ok-marks.ensures)

pub loop-n-preserved : goal.loop-n-preserved
loop-n-preserved c =
    let sites = c.args.bindings.now in
    let site = c.index-site.result in
    let k = site - c.loop-n.n in
    let now : site + 1 - c.loop-n.n ≡ k + 1 = omega arith in
    let next : site + 1 - (c.loop-n.n + 1) ≡ k = omega arith in
    rw next (walk_turn sites site k c.loop-n.marks.items c.walk.new.marks.items c.loop-n.calls.items c.walk.new.calls.items (omega arith)
    (rw now at c.loop-n.invariant) c.in_ok-walk.ensures)

pub returns : goal.returns
returns c =
    let site = c.index-site.result in
    let e : site + 1 - c.loop-n.n ≡ 0 = omega arith in
    rw (c.index-site.ensures) at (walk_asked c.args.bindings.now site c.loop-n.marks.items c.loop-n.calls.items (rw e at c.loop-n.invariant))
