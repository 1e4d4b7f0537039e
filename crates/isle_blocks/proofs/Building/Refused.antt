-- A visit of a rule may lack memory before anything is told.
use Rattle.std.proofs.Common.{List, [], ◌∷◌, ℕ, Some, None, Err, refl, inl, inr, slice_get}
use Rattle.isle_types.specs.declared.ids.TypeId.{TypeId}
use Rattle.isle_rules.specs.declared.rules.Pattern.{Pattern}
use Rattle.isle_rules.specs.declared.rules.Rule.{Rule}
use Rattle.isle_rules.specs.declared.terms.Term.{Term}
use Rattle.isle_rules.specs.declared.visit.fault.VisitFault.TheVariants.{Memory}
use Rattle.isle_rules.specs.Visits.Runs.{on_some, in_turn, stuck}
use Rattle.isle_rules.specs.Visits.RuleEvents.{visits_args, visits_rest}
use Rattle.isle_rules.specs.Visits.VisitScopes.{VisitScope, no_values}
use Rattle.isle_blocks.specs.declared.ids.BindingId.{BindingId}
use Rattle.isle_blocks.specs.Inside.Building.Building.{gathers}
use Rattle.isle_blocks.specs.Inside.Building.Gathering.{Gathered}
use Rattle.isle_blocks.specs.Inside.Building.Steps.{pattern_adds, expr_adds, rule_adds}

-- before its arguments
args_refused : (terms : List Term) (args : List Pattern) (tys : List TypeId) (index : ℕ) (scope : VisitScope BindingId) (s : Gathered)
    → visits_args rule_adds pattern_adds terms args tys index scope s (Err Memory) s
args_refused terms [] tys index scope s = (refl, refl)
args_refused terms (p ∷ ps) [] index scope s = (inr refl, refl)
args_refused terms (p ∷ ps) (ty ∷ tys) index scope s = inl (inr (refl, refl))

pub visit_refused : (terms : List Term) (rule : Rule) (s : Gathered) → gathers terms rule s (Err Memory) s
visit_refused terms rule s = elim (slice_get terms rule.root_term.0) as
    (λ found. on_some found (λ root. in_turn (visits_args rule_adds pattern_adds terms rule.args root.arg_tys 0 no_values)
    (λ scope. visits_rest rule_adds pattern_adds expr_adds terms rule scope)) stuck s (Err Memory) s) [
      | None ↦ (inr refl, refl)
      | Some root ↦ inl (args_refused terms rule.args root.arg_tys 0 no_values s)
    ]
