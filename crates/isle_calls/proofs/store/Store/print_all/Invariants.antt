use Rattle.std.proofs.Common.{◌≡◌, List, take, map}
use Rattle.isle_rules.specs.Values.{ValueTree, value_list}
use Rattle.isle_meaning.specs.ValueTypes.{AreOfTypes}
use Rattle.isle_meaning.specs.GroundValues.{values_of}
use Rattle.isle_program.specs.Programs.{value_facts, number_of}
use Rattle.isle_calls.specs.Stores.Values.{StandEach}
use Rattle.isle_calls.proofs.store.Store.print_all.Given as goal

-- the values so far are the first of those of the types that the numbers stand for
abbrev pub invariant-loop-i : goal.invariant-loop-i
invariant-loop-i l = (trees : List ValueTree)
    → AreOfTypes (value_facts l.program) (value_list trees) (map number_of l.types)
    → StandEach l.self (values_of (value_facts l.program) (value_list trees)) l.numbers → l.values.items ≡ take l.i trees
