use Rattle.std.proofs.Common.{◌-◌, List, length}
use Rattle.isle_values.specs.Inside.Values.Reading.{Level, IsReading}
use Rattle.isle_values.proofs.values.reading.read_front.Given as goal

-- a value is read up to this place
abbrev pub invariant-loop-at : goal.invariant-loop-at
invariant-loop-at l = (levels : List Level) × IsReading l.tokens l.at levels l.nodes.items l.opened.items

-- how many tokens are left
abbrev pub decreases-loop-at : goal.decreases-loop-at
decreases-loop-at l = length l.tokens - l.at
