use Rattle.isle_blocks.proofs.RuleFaults.FaultKeys.{adds_pair}
use Rattle.isle_blocks.proofs.faults.push_pair.Goals as goal

pub returns-in_ok-push : goal.returns-in_ok-push
returns-in_ok-push c =
    adds_pair c.args.rules.now c.args.fault c.args.first c.args.second c.args.found.now.items c.push.new.self.items c.in_ok-push.ensures.items
    (c.has_fault.ensures.0 c.if-has_fault.true)
