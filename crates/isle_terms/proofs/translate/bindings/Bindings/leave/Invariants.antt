use Rattle.std.proofs.Common.{◌≡◌, drop, map}
use Rattle.isle_terms.specs.Inside.Readings.Scopes.{variable_shown}
use Rattle.isle_terms.proofs.translate.bindings.Bindings.leave.Given as goal

abbrev pub invariant-loop : goal.invariant-loop
invariant-loop l = record {
  scope : l.self-inside.scope ≡ drop l.counter l.initial.self-inside.scope;
  variables : map variable_shown l.self-inside.vars.items ≡ map variable_shown l.initial.self-inside.vars.items;
  nodes : l.self-inside.nodes ≡ l.initial.self-inside.nodes;
}
