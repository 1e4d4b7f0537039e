use Rattle.std.proofs.Common.{reverse}
use Rattle.isle_rules.specs.Values.{more_trees, no_trees}
use Rattle.isle_meaning.specs.Values.{Value}
use Rattle.isle_program.specs.Programs.{value_facts, types_of}
use Rattle.isle_calls.specs.Stores.Values.{Stands}
use Rattle.isle_calls.specs.Inside.Stores.Printing.{Leads, printed}
use Rattle.isle_calls.proofs.store.Store.print.Given as goal

-- what is left leads to the value
abbrev pub invariant-loop-i : goal.invariant-loop-i
invariant-loop-i l = (v : Value) → Stands l.self v l.fn.number
    → Leads (value_facts l.program) (types_of l.program) l.self (reverse l.left.items) l.laid
    (more_trees (printed (value_facts l.program) (types_of l.program) v l.fn.ty.0) no_trees)
