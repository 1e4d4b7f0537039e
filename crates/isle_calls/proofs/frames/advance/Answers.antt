use Rattle.std.proofs.Common.{◌++◌, subst}
use Rattle.isle_calls.specs.Calls.States.{host, state}
use Rattle.isle_calls.specs.Calls.Ways.{AdvancesBy, TurnsTo, Begins}
use Rattle.isle_calls.proofs.OpenCalls.Made.{gone_again, on_err}
use Rattle.isle_calls.proofs.OpenCalls.Running.{going_first, going_turn}
use Rattle.isle_calls.proofs.frames.advance.Goals as goal

pub loop-init : goal.loop-init
loop-init g c = going_first (host g.W.World.step g.W.World.constructs g.W.World.extracts) g.R.Road.way
    (state (g.R.Road.compiled c.args.road.now) c.args.world.now c.args.effects.now.items (g.R.Road.stored c.args.road.now)) c.args.frame.now

pub returns-in_err-go-clause-goes_on : goal.returns-in_err-go-clause-goes_on
returns-in_err-go-clause-goes_on g c = gone_again (host g.W.World.step g.W.World.constructs g.W.World.extracts)
    c.loop.invariant.gone c.in_err-go.ensures.goes_on

pub returns-in-Comes-clause-goes_on : goal.returns-in-Comes-clause-goes_on
returns-in-Comes-clause-goes_on g c = gone_again (host g.W.World.step g.W.World.constructs g.W.World.extracts)
    c.loop.invariant.gone c.in_ok-go.ensures.goes_on

pub returns-in-Comes-clause-advanced : goal.returns-in-Comes-clause-advanced
returns-in-Comes-clause-advanced g c =
    let way = g.R.Road.way in
    let u = state (g.R.Road.compiled c.go.new.self) c.go.new.world c.go.new.effects.items (g.R.Road.stored c.go.new.self) in
    going_turn (host g.W.World.step g.W.World.constructs g.W.World.extracts) way
    (state (g.R.Road.compiled c.args.road.now) c.args.world.now c.args.effects.now.items (g.R.Road.stored c.args.road.now)) c.args.frame.now
    (state (g.R.Road.compiled c.loop.road) c.loop.world c.loop.effects.items (g.R.Road.stored c.loop.road)) c.loop.frame c.loop.invariant u
    (λ k since. AdvancesBy way k u.stored c.go.new.frame since c.in-Comes.advanced)
    (λ k since open_in is. let (made, has, turns) = c.in_ok-go.ensures.turned k since open_in is in
    (made, has, subst (TurnsTo way k u.stored c.go.new.frame (since ++ made)) c.in-Comes.is turns))

pub loop-preserved : goal.loop-preserved
loop-preserved g c =
    let way = g.R.Road.way in
    let words = host g.W.World.step g.W.World.constructs g.W.World.extracts in
    let u = state (g.R.Road.compiled c.go.new.self) c.go.new.world c.go.new.effects.items (g.R.Road.stored c.go.new.self) in
    record {
      gone = gone_again words c.loop.invariant.gone c.in_ok-go.ensures.goes_on;
      goes = going_turn words way
          (state (g.R.Road.compiled c.args.road.now) c.args.world.now c.args.effects.now.items (g.R.Road.stored c.args.road.now)) c.args.frame.now
          (state (g.R.Road.compiled c.loop.road) c.loop.world c.loop.effects.items (g.R.Road.stored c.loop.road)) c.loop.frame c.loop.invariant u
          (λ k since. way.is_frame k u.stored c.go.new.frame since)
          (λ k since open_in is. let (made, has, turns) = c.in_ok-go.ensures.turned k since open_in is in
          (made, has, subst (TurnsTo way k u.stored c.go.new.frame (since ++ made)) c.in-On.is turns));
    }

pub returns-in_err-go-clause-lost : goal.returns-in_err-go-clause-lost
returns-in_err-go-clause-lost g c =
    let way = g.R.Road.way in
    let u = state (g.R.Road.compiled c.go.new.self) c.go.new.world c.go.new.effects.items (g.R.Road.stored c.go.new.self) in
    on_err c.from_residual.result (going_turn (host g.W.World.step g.W.World.constructs g.W.World.extracts) way
    (state (g.R.Road.compiled c.args.road.now) c.args.world.now c.args.effects.now.items (g.R.Road.stored c.args.road.now)) c.args.frame.now
    (state (g.R.Road.compiled c.loop.road) c.loop.world c.loop.effects.items (g.R.Road.stored c.loop.road)) c.loop.frame c.loop.invariant u
    (Begins way) c.in_err-go.ensures.lost)

pub returns-clause-lost : goal.returns-clause-lost
returns-clause-lost g c = λ k since open_in is.
    let way = g.R.Road.way in
    let words = host g.W.World.step g.W.World.constructs g.W.World.extracts in
    let t = state (g.R.Road.compiled c.loop.road) c.loop.world c.loop.effects.items (g.R.Road.stored c.loop.road) in
    let (made, has, frame) = c.loop.invariant.goes k since open_in is in
    (made, has, c.laws.ensures.begun k t.stored c.loop.frame (since ++ made) frame)
