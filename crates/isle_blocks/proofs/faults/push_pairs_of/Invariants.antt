use Rattle.isle_blocks.specs.declared.ids.BindingId.{BindingId}
use Rattle.isle_blocks.specs.Inside.FaultKeys.{AreKeys, FindsFaults, IsEarlier}
use Rattle.isle_blocks.proofs.RuleFaults.FaultKeys.{IsCompared}
use Rattle.isle_blocks.proofs.faults.push_pairs_of.Given as goal

abbrev pub invariant-loop-second : goal.invariant-loop-second
invariant-loop-second l = (site : BindingId) → AreKeys site l.rules l.keys
    → FindsFaults l.rules l.fault l.keys (IsEarlier l.first) l.fn.found.items
    → FindsFaults l.rules l.fault l.keys (IsCompared l.first l.second) l.found.items
