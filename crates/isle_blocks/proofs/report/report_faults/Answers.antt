use Rattle.std.proofs.Common.{List, Result, Ok, Err, IfOk, map, subst, ap, ◌∙◌}
use Rattle.isle_blocks.specs.declared.faults.Fault.TheVariants.{Overlap}
use Rattle.isle_blocks.specs.declared.report.Group.{Group}
use Rattle.isle_blocks.specs.Reports.{AddsGroups, error_of}
use Rattle.isle_blocks.proofs.RuleFaults.SortedGroups.{report_is}
use Rattle.isle_blocks.proofs.report.report_faults.Goals as goal

if_ok : {T E : Type 0} {P Q : T → Type 0} (r : Result T E) → ((v : T) → P v → Q v) → IfOk r P → IfOk r Q
if_ok (Ok v) f h = f v h
if_ok (Err e) f h = h

pub returns : goal.returns
returns c = if_ok c.errors_from.result (λ errors are.
    let rules = c.args.rules.now in let overlaps = c.args.overlaps.now in
    let first = c.push_groups.new.groups.items in let both = c.push_groups-2.new.groups.items in let sorted = c.sort_groups.new.groups.items in
    report_is rules overlaps c.args.shadows.now first both sorted errors.items
    (subst (λ (none : List Group). AddsGroups Overlap rules overlaps none first) c.new-groups.ensures.items c.in_ok-push_groups.ensures)
    c.in_ok-push_groups-2.ensures c.sort_groups.ensures.moved c.in_ok-sort_groups.ensures.ascending c.sort_groups.ensures.stable
    (are ∙ ap (map error_of) c.as_slice.ensures.value)) c.errors_from.ensures
