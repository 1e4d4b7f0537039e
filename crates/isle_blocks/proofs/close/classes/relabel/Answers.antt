use Rattle.std.proofs.Common.{◌<◌, length, get_or, rules, arith}
use Rattle.std.proofs.lemmas.List.Elements.{Contains-get_or}
use Rattle.isle_blocks.proofs.Closure.Members.{IsRelabeled, relabeled_done, relabeled_same, relabeled}
use Rattle.isle_blocks.proofs.close.classes.relabel.Goals as goal

pub bounds-class-member : goal.bounds-class-member
bounds-class-member c =
    let here = c.requires.inside _ (Contains-get_or c.args.members.now c.loop-member.member-index 0 c.loop-member-test.true) in
    let low = here.0 in let same = c.loop-member.auto.class in omega arith

pub offset_bounds-class-member : goal.offset_bounds-class-member
offset_bounds-class-member c =
    let here = c.requires.inside _ (Contains-get_or c.args.members.now c.loop-member.member-index 0 c.loop-member-test.true) in
    let low : get_or c.args.members.now c.loop-member.member-index 0 < length c.args.class.now = here.0 in search rules

pub loop-member-preserved : goal.loop-member-preserved
loop-member-preserved c =
    let here = c.requires.inside _ (Contains-get_or c.args.members.now c.loop-member.member-index 0 c.loop-member-test.true) in
    let low = here.0 in let same = c.loop-member.auto.class in
    let before : IsRelabeled c.args.class.now c.loop-member.class c.args.members.now c.args.keep c.loop-member.member-index =
    (c.loop-member.invariant.done, c.loop-member.invariant.same) in
    record {
      done = relabeled_done c.args.class.now c.loop-member.class c.args.members.now c.args.keep c.loop-member.member-index c.loop-member-test.true
          (omega arith) before;
      same = relabeled_same c.args.class.now c.loop-member.class c.args.members.now c.args.keep c.loop-member.member-index c.loop-member-test.true
          (omega arith) before;
    }

pub returns : goal.returns
returns c =
    let end = c.loop-member-test.false in
    relabeled c.args.class.now c.loop-member.class c.args.members.now c.args.drop c.args.keep c.requires
    ((λ k low. c.loop-member.invariant.done k (omega arith)), c.loop-member.invariant.same)
