use Rattle.std.proofs.Common.{◌≡◌, ◌+◌, [], drop, get_or, drop_of_length-le, arith}
use Rattle.isle_blocks.proofs.Building.Walking.{marks_none, marks_cons, cut_id}
use Rattle.isle_blocks.proofs.builder.contents.mark.Goals as goal

pub loop-i-preserved : goal.loop-i-preserved
loop-i-preserved c = λ new rest.
    let parts = c.args.parts.now in
    let i = c.loop-i.i in
    c.loop-i.invariant new (rw (cut_id parts i c.loop-i-test.true)
    (marks_cons (get_or parts i (record { 0 = 0 })) (drop (i + 1) parts) c.loop-i.marks.items c.mark_one.new.marks.items new c.mark_one.ensures rest))

pub returns : goal.returns
returns c =
    let past : drop c.loop-i.i c.args.parts.now ≡ [] = drop_of_length-le c.args.parts.now {i = c.loop-i.i} (omega arith) in
    c.loop-i.invariant c.loop-i.marks.items (rw past (marks_none c.loop-i.marks.items))
