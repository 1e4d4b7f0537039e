use Rattle.std.proofs.Common.{map}
use Rattle.std.specs.List.{AllZip}
use Rattle.isle_types.specs.TypeEnvs.{HasMoreNames, CountUp}
use Rattle.isle_rules.specs.declared.rules.BoundVar.{BoundVar}
use Rattle.isle_terms.specs.Inside.Readings.Scopes.{variable_shown}
use Rattle.isle_rules.specs.Shown.RulesShown.{IsShownVariable}
use Rattle.isle_terms.proofs.env.rules.intern_variables.Given as goal

abbrev pub invariant-loop-variable : goal.invariant-loop-variable
invariant-loop-variable l = record {
  shown : AllZip (IsShownVariable l.tyenv.names) (map variable_shown l.yielded) l.made.items;
  numbers : CountUp (λ (variable : BoundVar). variable.id.0) 0 l.made.items;
  same : HasMoreNames l.initial.tyenv l.tyenv;
}
