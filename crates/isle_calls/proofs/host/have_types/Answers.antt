use Rattle.std.proofs.Common.{◌≤◌, length, arith}
use Rattle.std.proofs.lemmas.Bool.Decides.{Decides-eqb}
use Rattle.isle_program.specs.Programs.{value_facts}
use Rattle.isle_calls.proofs.OpenCalls.Telling.{types_short, types_ended}
use Rattle.isle_calls.proofs.host.have_types.Goals as goal

pub returns-in_default : goal.returns-in_default
returns-in_default c =
    let past : length c.args.types.now ≤ c.loop-i.i = c.in_default.ensures.lookup.3 in (
      λ t. absurd cc,
      λ h. absurd (types_short (value_facts c.args.program.now) c.args.values.now c.args.types.now c.loop-i.i c.loop-i-test.true past
          (c.loop-i.invariant.same.0 h)),
    )

pub returns : goal.returns
returns c =
    let both = Decides-eqb (length c.args.values.now) (length c.args.types.now) in
    let past : length c.args.values.now ≤ c.loop-i.i = c.loop-i-test.false in
    let ended = types_ended (value_facts c.args.program.now) c.args.values.now c.args.types.now c.loop-i.i past c.loop-i.invariant.within in (
      λ t. (let e = both.0 t in c.loop-i.invariant.same.1 (ended.1 (omega (arith, e)))),
      λ h. (let e = ended.0 (c.loop-i.invariant.same.0 h) in both.1 (omega (arith, e))),
    )
