use Rattle.std.proofs.Common.{sym, ap, subst, take, ◌∙◌}
use Rattle.isle_blocks.specs.Inside.MovedSites.{new_number, renumbered, MovesSites, no_sites_moved}
use Rattle.isle_blocks.proofs.Rows.MovingTurns.{moved_more, ends_full}
use Rattle.isle_blocks.proofs.moving.move_sites.Goals as goal

pub loop-binding-init : goal.loop-binding-init
loop-binding-init c =
    subst (λ numbers. MovesSites c.args.table.now (take 0 c.args.own.now) numbers c.args.table.now) (sym c.in_ok-numbers.ensures.items) no_sites_moved

pub returns-in-Err-clause-full : goal.returns-in-Err-clause-full
returns-in-Err-clause-full c = λ e. ends_full c.args.table.now c.args.own.now c.loop-binding.binding-index c.binding-item.result _ _ _ _
    c.loop-binding-test.true c.binding-item.is c.loop-binding.invariant
    (c.in_ok-moved.ensures ∙ ap (λ ns. renumbered (new_number ns) c.binding-item.result) c.as_slice.ensures.value) c.in-Err.ensures.err
    (c.in-Err.ensures.full e)

pub loop-binding-preserved : goal.loop-binding-preserved
loop-binding-preserved c = moved_more c.args.table.now c.args.own.now c.loop-binding.binding-index c.binding-item.result _ _ _ _ _ _
    c.loop-binding-test.true c.binding-item.is c.loop-binding.invariant
    (c.in_ok-moved.ensures ∙ ap (λ ns. renumbered (new_number ns) c.binding-item.result) c.as_slice.ensures.value) c.in-Ok.ensures.ok
    c.in_ok-push-in-Ok.ensures.items
