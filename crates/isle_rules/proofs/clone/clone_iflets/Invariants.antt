use Rattle.std.proofs.Common.{◌≡◌, take}
use Rattle.isle_rules.proofs.clone.clone_iflets.Given as goal

abbrev pub invariant-loop-iflet : goal.invariant-loop-iflet
invariant-loop-iflet l = l.all.items ≡ take l.iflet-index l.iflets
