-- The whole visit of a rule.
use Rattle.std.specs.Prelude.{List, Result, Ok, Err}
use Rattle.isle_rules.specs.declared.rules.Rule.{Rule}
use Rattle.isle_rules.specs.declared.terms.Term.{Term}
use Rattle.isle_rules.specs.declared.visit.fault.VisitFault.{VisitFault}
use Rattle.isle_rules.specs.Visits.Runs.{Run}
use Rattle.isle_rules.specs.Visits.RuleEvents.{visits_rule}
use Rattle.isle_blocks.specs.declared.ids.BindingId.{BindingId}
use Rattle.isle_blocks.specs.declared.builder.BuiltRule.{BuiltRule}
use Rattle.isle_blocks.specs.Inside.Building.Gathering.{Gathered, nothing_gathered}
use Rattle.isle_blocks.specs.Inside.Building.Steps.{pattern_adds, expr_adds, rule_adds}

-- what is told of a rule, and gathered of it
abbrev pub gathers : List Term → Rule → Run Gathered BindingId
gathers terms rule = visits_rule rule_adds pattern_adds expr_adds terms rule

abbrev pub gathered_in : BuiltRule → Gathered
gathered_in built = record { sites = built.sites; has = built.has.items; same = built.same.items; impure = built.impure.items }

-- a rule is built from nothing
abbrev pub BuildsRule : List Term → Rule → Result BuiltRule VisitFault → Type 0
BuildsRule terms rule (Ok built) = gathers terms rule nothing_gathered (Ok built.result) (gathered_in built)
BuildsRule terms rule (Err f) = (left : Gathered) × gathers terms rule nothing_gathered (Err f) left
