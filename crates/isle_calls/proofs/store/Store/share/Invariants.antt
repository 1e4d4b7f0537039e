use Rattle.std.proofs.Common.{◌-◌, length, drop, reverse}
use Rattle.isle_meaning.specs.GroundValues.{values_of}
use Rattle.isle_values.specs.Values.Nodes.{values_in}
use Rattle.isle_program.specs.Programs.{value_facts}
use Rattle.isle_calls.specs.Stores.Values.{StandEach, Extends}
use Rattle.isle_calls.proofs.store.Store.share.Given as goal

-- the numbers from the last on stand for the values of the last nodes
abbrev pub invariant-loop-i : goal.invariant-loop-i
invariant-loop-i l = Extends l.initial.self l.self
    × StandEach l.self (values_of (value_facts l.program) (values_in (drop (length l.nodes - l.i) l.nodes))) (reverse l.done.items)
