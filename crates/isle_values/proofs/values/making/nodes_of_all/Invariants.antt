use Rattle.std.proofs.Common.{◌≡◌}
use Rattle.isle_rules.specs.Values.{value_list}
use Rattle.isle_values.specs.Values.Nodes.{nodes_all}
use Rattle.isle_values.proofs.values.making.nodes_of_all.Given as goal

-- the nodes of the values so far
abbrev pub invariant-loop-value : goal.invariant-loop-value
invariant-loop-value l = l.nodes.items ≡ nodes_all (value_list l.yielded)
