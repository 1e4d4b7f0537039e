use Rattle.std.proofs.Common.{sym, subst}
use Rattle.isle_calls.specs.declared.machine.holding.Holding.{Holding}
use Rattle.isle_calls.specs.Inside.Blocks.Holdings.{Holds}
use Rattle.isle_calls.proofs.TreeRoad.Held.{holds_one, holds_once}
use Rattle.isle_calls.proofs.machine.reading.Machine.is_same.Goals as goal

pub returns : goal.returns
returns c = λ h j one other.
    let stored = c.args.self.now.store in (
      λ yes. holds_one stored c.args.second.now h j (subst (λ (x : Holding). Holds stored x h) (c.is_one.ensures.0 yes) one) other,
      λ same. c.is_one.ensures.1 (holds_once stored c.len-count.ensures.once c.args.first.now c.args.second.now h one
          (subst (Holds stored c.args.second.now) (sym same) other)),
    )
