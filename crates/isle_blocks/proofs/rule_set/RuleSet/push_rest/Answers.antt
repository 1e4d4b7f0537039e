use Rattle.std.proofs.Common.{◌<◌, length, rules}
use Rattle.isle_blocks.proofs.Trees.Working.{wants_copied}
use Rattle.isle_blocks.proofs.rule_set.RuleSet.push_rest.Goals as goal

pub returns-in_ok-push_task-2 : goal.returns-in_ok-push_task-2
returns-in_ok-push_task-2 c =
    let l : 0 < length c.args.left.items = search rules in
    wants_copied c.args.self.now (record {
      left = c.args.left;
      known = c.in_ok-known.known;
      marks = c.in_ok-marks.marks;
      ready =
          c.in_ok-ready.ready;
    }) c.block_task.result
    c.args.known.now c.args.marks.now c.args.ready.now.items c.args.work.now.items c.push_task-else-is_empty.new.work.items
    c.block_task.ensures c.in_ok-known.ensures
    c.in_ok-marks.ensures c.in_ok-ready.ensures c.requires.fit c.requires.order c.requires.rules c.requires.size
    c.requires.marked c.requires.ready l c.in_ok-push_task-2.ensures
