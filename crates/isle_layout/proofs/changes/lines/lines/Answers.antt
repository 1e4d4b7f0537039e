use Rattle.std.proofs.Common.{◌<◌, ap, arith, length, length-drop, rules}
use Rattle.isle_layout.specs.Inside.Changes.{line_length}
use Rattle.isle_layout.proofs.ChangesLemmas.LinesOf.{line_length-some, one_line_pushed}
use Rattle.isle_layout.proofs.changes.lines.lines.Goals as goal

pub loop-rest-smaller : goal.loop-rest-smaller
loop-rest-smaller c =
    let rest = c.loop-rest.rest.now in
    let some : 0 < length rest = search rules in
    omega (arith, line_length-some rest some, length-drop (line_length rest) rest, ap length c.split_line.ensures.rest)

pub loop-rest-preserved : goal.loop-rest-preserved
loop-rest-preserved c =
    let some : 0 < length c.loop-rest.rest.now = search rules in
    record {
      text = search rules;
      so_far = one_line_pushed c.loop-rest.lines.items c.push.new.self.items _ c.args.text.now c.loop-rest.rest.now c.split_line.result.1.now
          c.in_ok-push.ensures.items c.split_line.ensures.line c.split_line.ensures.rest some c.loop-rest.invariant.so_far;
    }
