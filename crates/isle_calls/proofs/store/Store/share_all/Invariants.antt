use Rattle.std.proofs.Common.{take}
use Rattle.isle_rules.specs.Values.{value_list}
use Rattle.isle_meaning.specs.GroundValues.{values_of}
use Rattle.isle_program.specs.Programs.{value_facts}
use Rattle.isle_calls.specs.Stores.Values.{StandEach, Extends}
use Rattle.isle_calls.proofs.store.Store.share_all.Given as goal

-- the numbers stand for the values so far
abbrev pub invariant-loop-value : goal.invariant-loop-value
invariant-loop-value l = Extends l.initial.self l.self
    × StandEach l.self (values_of (value_facts l.program) (value_list (take l.value-index l.values))) l.numbers.items
