use Rattle.isle_blocks.specs.declared.ids.BindingId.{BindingId}
use Rattle.isle_blocks.specs.Inside.FaultKeys.{AreKeys, FindsFaults, IsEarlier}
use Rattle.isle_blocks.proofs.faults.pairs_with.Given as goal

abbrev pub invariant-loop-first : goal.invariant-loop-first
invariant-loop-first l = (site : BindingId) → AreKeys site l.rules l.keys
    → FindsFaults l.rules l.fault l.keys (IsEarlier l.first) l.found.items
