use Rattle.std.proofs.Common.{map, take}
use Rattle.std.proofs.lemmas.List.{get_or_default}
use Rattle.isle_types.specs.IntTypes.{builtin_types, builtin_name}
use Rattle.isle_types.proofs.BuiltinTurns.{builtin_at_start, builtin_counted, builtin_more, builtin_shown}
use Rattle.isle_types.proofs.env.TypeEnv.new.Goals as goal

pub loop-builtin-init : goal.loop-builtin-init
loop-builtin-init c = builtin_at_start builtin_types _ c.empty-env.ensures

pub loop-builtin-preserved : goal.loop-builtin-preserved
loop-builtin-preserved c =
    let i = c.loop-builtin.builtin-index in
    let old = c.loop-builtin.env in
    let so_far = c.loop-builtin.invariant in
    let counted = builtin_counted builtin_types i old so_far in
    builtin_more builtin_types i _ old c.add_builtin.new.self c.loop-builtin-test.true
    (get_or_default builtin_types i _ _ c.loop-builtin-test.true) so_far c.in_ok-add_builtin.ensures.types
    (c.in_ok-add_builtin.ensures.named (map builtin_name (take i builtin_types)) so_far.named counted) c.add_builtin.ensures.same

pub returns-clause-shown : goal.returns-clause-shown
returns-clause-shown c = builtin_shown c.loop-builtin.builtin-index c.loop-builtin.env c.loop-builtin-test.false c.loop-builtin.invariant
