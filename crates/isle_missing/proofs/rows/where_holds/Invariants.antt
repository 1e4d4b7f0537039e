use Rattle.std.proofs.Common.{◌≡◌, ◌++◌, drop}
use Rattle.isle_missing.specs.Inside.Rows.{where_holds}
use Rattle.isle_missing.proofs.rows.where_holds.Given as goal

-- what is left of the rules so far, and of those to come, is what is left of all
abbrev pub invariant-loop-row : goal.invariant-loop-row
invariant-loop-row l = l.left.items ++ where_holds l.known (drop l.row-index l.rows) ≡ where_holds l.known l.rows
