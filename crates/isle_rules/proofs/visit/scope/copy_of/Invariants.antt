use Rattle.std.proofs.Common.{◌≡◌}
use Rattle.std.specs.Map.{update_all}
use Rattle.isle_types.specs.declared.ids.VarId.{VarId}
use Rattle.isle_rules.specs.Visits.VisitScopes.{scope_of}
use Rattle.isle_rules.proofs.Visiting.CopiedScopes.{same_var}
use Rattle.isle_rules.proofs.visit.scope.copy_of.Given as goal

abbrev pub invariant-loop-var : goal.invariant-loop-var
invariant-loop-var g l = (q : VarId) → update_all same_var (scope_of l.copy) l.var-iterator q ≡ scope_of l.vars q
