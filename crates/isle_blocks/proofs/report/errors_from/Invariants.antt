use Rattle.std.proofs.Common.{◌≡◌, take, map}
use Rattle.isle_blocks.specs.Reports.{error_of}
use Rattle.isle_blocks.proofs.report.errors_from.Given as goal

abbrev pub invariant-loop-group : goal.invariant-loop-group
invariant-loop-group l = l.errors.items ≡ map error_of (take l.group-index l.groups)
