use Rattle.std.proofs.Common.{◌≡◌, take}
use Rattle.isle_blocks.specs.Reports.{positions, partners}
use Rattle.isle_blocks.proofs.report.others_of.Given as goal

abbrev pub invariant-loop-pair : goal.invariant-loop-pair
invariant-loop-pair l = l.others.items ≡ positions l.rules (partners l.fault l.head (take l.pair-index l.pairs))
