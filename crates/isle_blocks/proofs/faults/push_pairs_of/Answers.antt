use Rattle.std.proofs.Common.{◌≡◌, ◌<◌, ℕ, None, length, get_or, subst, arith}
use Rattle.std.proofs.lemmas.Option.{slice_get-get_or}
use Rattle.isle_blocks.specs.Inside.FaultKeys.{FindsFaults}
use Rattle.isle_blocks.proofs.RuleFaults.FaultKeys.{IsCompared, compared_none, compared_more, compared_all}
use Rattle.isle_blocks.proofs.faults.push_pairs_of.Goals as goal

pub loop-second-init : goal.loop-second-init
loop-second-init c site are finds = compared_none c.args.rules.now c.args.fault c.args.keys.now c.args.first _ finds

pub loop-second-preserved : goal.loop-second-preserved
loop-second-preserved c site are finds =
    let keys = c.args.keys.now in
    let first_in = c.requires.first_in in
    let second_in : c.loop-second.second < length keys = omega (arith, c.loop-second-test.true, c.meeting_end-second-end.ensures.within) in
    compared_more c.args.rules.now c.args.fault keys c.args.first c.loop-second.second (get_or keys c.args.first (None, 0))
    (get_or keys c.loop-second.second (None, 0)) c.loop-second.found.items c.push_pair.new.found.items
    c.push_pair-in-loop-second.new.found.items (slice_get-get_or keys c.args.first (None, 0) first_in)
    (slice_get-get_or keys c.loop-second.second (None, 0) second_in) (c.loop-second.invariant site are finds) c.in_ok-push_pair.ensures
    c.in_ok-push_pair-2.ensures

pub returns : goal.returns
returns c site are finds =
    let rules = c.args.rules.now in
    let keys = c.args.keys.now in
    let end = c.meeting_end-second-end.result in
    let test = c.loop-second-test.false in
    let behind = c.meeting_end-second-end.ensures.behind in
    let bound = c.loop-second.auto.second-end in
    let last : c.loop-second.second ≡ end = omega arith in
    compared_all rules c.args.fault keys c.args.first site end c.loop-second.found.items are c.requires.first_in behind
    c.meeting_end-second-end.ensures.stops
    (subst (λ (n : ℕ). FindsFaults rules c.args.fault keys (IsCompared c.args.first n) c.loop-second.found.items) last
    (c.loop-second.invariant site are finds))
