use Rattle.std.proofs.Common.{◌<◌, arith}
use Rattle.isle_blocks.specs.Reports.{partner_count, IsGreatest, IsGroup}
use Rattle.isle_blocks.proofs.RuleFaults.Grouping.{fewer_without, grouping_step, grouping_end, none_left}
use Rattle.isle_blocks.proofs.report.push_groups.Goals as goal

pub groups-smaller : goal.groups-smaller
groups-smaller c =
    let some : 0 < partner_count c.args.fault c.in_ok-head.head c.groups.left.items = rw (← c.as_slice.ensures.value) c.in_ok-head.ensures.heads in
    rw c.take_out.ensures (fewer_without c.args.fault c.in_ok-head.head c.groups.left.items some)

pub groups-preserved : goal.groups-preserved
groups-preserved c =
    let some : 0 < partner_count c.args.fault c.in_ok-head.head c.groups.left.items = rw (← c.as_slice.ensures.value) c.in_ok-head.ensures.heads in
    let most : IsGreatest c.args.rules.now (λ j. partner_count c.args.fault j c.groups.left.items) c.in_ok-head.head =
    rw (← c.as_slice.ensures.value) c.in_ok-head.ensures.greatest in
    let is_group : IsGroup c.args.fault c.args.rules.now c.in_ok-head.head c.groups.left.items c.in_ok-group_of.field-0 =
    rw (← c.as_slice-in-groups.ensures.value) c.in_ok-group_of.ensures in
    rw (c.take_out.ensures, c.in_ok-push.ensures.items)
    (grouping_step c.args.fault c.args.rules.now c.args.pairs.now c.groups.left.items c.args.groups.now.items c.groups.groups.items
    c.in_ok-head.head c.in_ok-group_of.field-0 c.groups.invariant some most is_group)

pub returns : goal.returns
returns c = grouping_end c.args.fault c.args.rules.now c.args.pairs.now c.groups.left.items c.args.groups.now.items c.groups.groups.items
    c.groups.invariant
    (none_left c.groups.left.items _ (omega (arith, c.groups.left.ok.0)) c.groups-test.ensures)
