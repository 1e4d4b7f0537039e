use Rattle.std.proofs.Common.{◌<◌, length, refl, rules}
use Rattle.isle_blocks.proofs.Trees.Working.{wants_more}
use Rattle.isle_blocks.proofs.rule_set.RuleSet.push_more.Goals as goal

pub returns-in_ok-push_task : goal.returns-in_ok-push_task
returns-in_ok-push_task c =
    let l : c.args.start < length c.args.group.items = search rules in
    wants_more c.args.self.now c.args.site.0 c.args.start c.args.site
    (record { left = c.args.group; known = c.in_ok-known.known; marks = c.in_ok-marks.marks; ready = c.in_ok-ready.ready })
    c.arms_from.result c.args.known.now c.args.marks.now c.args.ready.now.items
    c.args.work.now.items c.push_task.new.work.items refl c.arms_from.ensures c.in_ok-known.ensures c.in_ok-marks.ensures
    c.in_ok-ready.ensures c.requires l
    c.in_ok-push_task.ensures
