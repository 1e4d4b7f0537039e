use Rattle.std.proofs.Common.{◌<◌, ℕ, List, Option, length, subst, sym, arith}
use Rattle.isle_calls.proofs.PlainRoad.Evaluations.Turns.{AreUnknown, unknown_first, unknown_next}
use Rattle.isle_calls.proofs.plain.evaluation.Evaluation.new.Goals as goal

pub loop-known-init : goal.loop-known-init
loop-known-init c =
    subst (λ (l : List (Option ℕ)). AreUnknown c.args.parts l) (sym c.in_ok-known.ensures.items) (unknown_first c.args.parts)

pub loop-known-preserved : goal.loop-known-preserved
loop-known-preserved c =
    let room : length c.loop-known.known.items < c.args.parts = (let below = c.loop-known-test.true in let len = c.len.ensures in
    let full = c.loop-known.known.ok in omega (arith, below, len, full)) in
    unknown_next c.args.parts c.loop-known.known.items c.push.new.self.items room c.in_ok-push.ensures.items c.loop-known.invariant

pub returns-clause-known : goal.returns-clause-known
returns-clause-known c = (
  (let past = c.loop-known-test.false in let len = c.len.ensures in let full = c.loop-known.known.ok in
      let within = c.loop-known.invariant.within in omega (arith, past, len, full, within)),
  c.loop-known.invariant.none,
)
