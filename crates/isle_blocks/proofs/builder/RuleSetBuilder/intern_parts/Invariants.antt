use Rattle.std.proofs.Common.{Result, List, [], ◌-◌}
use Rattle.isle_rules.specs.declared.visit.fault.VisitFault.{VisitFault}
use Rattle.isle_blocks.specs.declared.ids.BindingId.{BindingId}
use Rattle.isle_blocks.specs.Inside.Building.Gathering.{Gathered, interns_each, sites_from}
use Rattle.isle_blocks.specs.Inside.Building.Parts.{part_site}
use Rattle.isle_blocks.proofs.builder.RuleSetBuilder.intern_parts.Given as goal

abbrev pub invariant-loop-field : goal.invariant-loop-field
invariant-loop-field l = (o : Result (List BindingId) VisitFault) (s : Gathered)
    → interns_each (sites_from (part_site l.parts l.source) l.field (l.fn.count.0 - l.field)) l.ids.items l.self o s
    → interns_each (sites_from (part_site l.parts l.source) 0 l.fn.count.0) [] l.initial.self o s
