use Rattle.std.proofs.Common.{◌+◌, sym, subst}
use Rattle.isle_types.proofs.ConstantTurns.{KeptSoFar, kept_passing, kept_more, kept_unknown, where_none}
use Rattle.isle_types.proofs.env.TypeEnv.collect_constants.Goals as goal
use Rattle.isle_types.proofs.env.TypeEnv.collect_constants.Goals.{in-Some+in-Some-get_type_by_name+in_ok-set_constant-in-Some-get_type_by_name}
use Rattle.isle_types.proofs.env.TypeEnv.collect_constants.Goals.{in-Some+in-None+in_ok-report_unknown-in-None, in_default}

pub loop-def-preserved : goal.loop-def-preserved
loop-def-preserved c =
    let defs = c.args.defs.now in
    let i = c.loop-def.def-index in
    let def = c.def-item.result in
    let start = c.args.self.now in
    let so_far = c.loop-def.invariant in
    let old = c.loop-def.self in
    elim c.match-constant.branch [
      | in-Some+in-Some-get_type_by_name+in_ok-set_constant-in-Some-get_type_by_name w ↦
          subst (KeptSoFar defs (i + 1) start) (sym w.self-is)
          (kept_more defs i def w.in-Some.name.now w.in-Some.ty.now w.in-Some-get_type_by_name.id start old w.set_constant.new.self
          c.loop-def-test.true c.def-item.is w.in-Some.ensures c.requires.named so_far (sym w.in-Some-get_type_by_name.ensures)
          w.in_ok-set_constant-in-Some-get_type_by_name.ensures.set w.set_constant.ensures.kept w.set_constant.ensures.same)
      | in-Some+in-None+in_ok-report_unknown-in-None w ↦
          subst (KeptSoFar defs (i + 1) start) (sym w.self-is)
          (kept_unknown defs i def w.in-Some.name.now w.in-Some.ty.now _ start old w.report_unknown.new.self c.loop-def-test.true c.def-item.is
          w.in-Some.ensures c.requires.named so_far (sym w.in-None.ensures) w.in_ok-report_unknown-in-None.ensures.ok.1)
      | in_default w ↦
          subst (KeptSoFar defs (i + 1) start) (sym w.self-is)
          (kept_passing defs i def start old c.loop-def-test.true c.def-item.is
          (where_none c.constant.result _ _ c.constant.ensures w.in_default.not-Some) so_far)
    ]
