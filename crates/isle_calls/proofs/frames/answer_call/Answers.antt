use Rattle.std.proofs.lemmas.List.{append-nil}
use Rattle.isle_calls.proofs.OpenCalls.Stacked.{advances_begun}
use Rattle.std.proofs.Common.{◌≡◌, ◌++◌, ◌-◌, ℕ, suc, [], refl, sym, ◌∙◌, subst, reverse, arith}
use Rattle.isle_meaning.specs.Asking.{spent}
use Rattle.isle_meaning.specs.Outcomes.{ended}
use Rattle.isle_meaning.specs.Values.{Values}
use Rattle.isle_calls.specs.Calls.Open.{CallOf}
use Rattle.isle_calls.specs.Inside.Calls.Stacks.{AreStacked, GoesOn}
use Rattle.isle_calls.specs.Calls.States.{host, state, answers_of}
use Rattle.isle_calls.specs.Calls.Ways.{IsReady, Begins}
use Rattle.isle_calls.specs.Stores.Values.{StandEach}
use Rattle.isle_calls.proofs.OpenCalls.Made.{makes_none, gone_none, gone_again, on_err}
use Rattle.isle_calls.proofs.OpenCalls.Running.{running_turn, running_next, running_begun}
use Rattle.isle_calls.proofs.frames.answer_call.Goals as goal

pub returns-then-depth-eq0-clause-ran : goal.returns-then-depth-eq0-clause-ran
returns-then-depth-eq0-clause-ran g c = λ vs stand ready.
    let words = host g.W.World.step g.W.World.constructs g.W.World.extracts in
    let first = state (g.R.Road.compiled c.args.road.now) c.args.world.now c.args.effects.now.items (g.R.Road.stored c.args.road.now) in (
      [],
      makes_none words first,
      ended spent,
      (spent, refl, refl),
      subst (λ (d : ℕ). g.R.Road.way.run first.program (answers_of words first) d c.args.term.0 vs 0 [] (ended spent)) (sym c.if-depth-eq0.true)
          (c.laws.ensures.spent_at_once first.program (answers_of words first) c.args.term.0 vs),
    )

pub returns-then-depth-eq0-clause-goes_on : goal.returns-then-depth-eq0-clause-goes_on
returns-then-depth-eq0-clause-goes_on g c = gone_none (host g.W.World.step g.W.World.constructs g.W.World.extracts)
    (state (g.R.Road.compiled c.args.road.now) c.args.world.now c.args.effects.now.items (g.R.Road.stored c.args.road.now))

pub loop-init : goal.loop-init
loop-init g c =
    let way = g.R.Road.way in
    let words = host g.W.World.step g.W.World.constructs g.W.World.extracts in
    let first = state (g.R.Road.compiled c.args.road.now) c.args.world.now c.args.effects.now.items (g.R.Road.stored c.args.road.now) in
    record {
      gone = gone_none words first;
      runs = λ vs ready.
          let goal : CallOf = record {
            program = first.program;
            answers = answers_of words first;
            depth = c.args.depth - 1;
            term = c.args.term.0;
            args = vs;
          } in (
            goal,
            [],
            [],
            makes_none words first,
            subst (λ l. AreStacked way goal first.stored (reverse l) goal []) (sym c.new-waiting.ensures.items) (refl, refl),
            c.begin-top.ensures goal first.stored refl refl refl ready.0 ready.1,
          );
    }

pub returns-in_err-advanced-clause-goes_on : goal.returns-in_err-advanced-clause-goes_on
returns-in_err-advanced-clause-goes_on g c =
    gone_again (host g.W.World.step g.W.World.constructs g.W.World.extracts) c.loop.invariant.gone c.in_err-advanced.ensures.goes_on

pub returns-in_err-frame-clause-goes_on : goal.returns-in_err-frame-clause-goes_on
returns-in_err-frame-clause-goes_on g c =
    gone_again (host g.W.World.step g.W.World.constructs g.W.World.extracts) c.loop.invariant.gone c.in_ok-advanced.ensures.goes_on

pub returns-in-Answers-clause-goes_on : goal.returns-in-Answers-clause-goes_on
returns-in-Answers-clause-goes_on g c =
    gone_again (host g.W.World.step g.W.World.constructs g.W.World.extracts) c.loop.invariant.gone c.in_ok-advanced.ensures.goes_on

pub returns-in-Answers-clause-ran : goal.returns-in-Answers-clause-ran
returns-in-Answers-clause-ran g c = λ vs stand ready.
    let way = g.R.Road.way in
    let words = host g.W.World.step g.W.World.constructs g.W.World.extracts in
    let first = state (g.R.Road.compiled c.args.road.now) c.args.world.now c.args.effects.now.items (g.R.Road.stored c.args.road.now) in
    let t = state (g.R.Road.compiled c.loop.road) c.loop.world c.loop.effects.items (g.R.Road.stored c.loop.road) in
    let u = state (g.R.Road.compiled c.advance.new.road) c.advance.new.world c.advance.new.effects.items (g.R.Road.stored c.advance.new.road) in
    let goal : Values → CallOf = λ vs. record {
      program = first.program;
      answers = answers_of words first;
      depth = c.args.depth - 1;
      term = c.args.term.0;
      args = vs;
    } in
    let may : Values → Type 0 = λ vs. StandEach first.stored vs c.args.args.items × IsReady g.R.Road.way.holds first.program c.args.term.0 vs in
    let still : first.program ≡ u.program = sym (c.in_ok-advanced.ensures.goes_on.program ∙ c.loop.invariant.gone.program) in
    let (made, has, goes) = running_turn words way first goal may t c.loop.waiting.items c.loop.top c.loop.invariant
    (λ vs. record { of_program = refl; in_world = refl }) u
    c.advance.new.frame c.in_ok-advanced.advanced c.in_ok-advanced.ensures.goes_on c.in_ok-advanced.ensures.advanced c.next_frame.new.waiting.items
    c.in_ok-frame.field-0 c.laws.ensures
    (λ vs k start since ready stacked advances. c.in_ok-frame.ensures (goal vs) k start since still refl ready.1 stacked advances) vs
    (stand, ready) in
    let (r, told, run) = subst (GoesOn way (goal vs) u.stored (reverse c.next_frame.new.waiting.items) made) c.in-Answers.is goes in
    let deep : suc (c.args.depth - 1) ≡ c.args.depth = let some = c.if-depth-eq0.false in omega (arith, some) in (
      made,
      has,
      r,
      told,
      subst (λ (d : ℕ). way.run first.program (answers_of words first) d c.args.term.0 vs c.in-Answers.called.steps made r)
          deep run,
    )

pub loop-preserved : goal.loop-preserved
loop-preserved g c =
    let way = g.R.Road.way in
    let words = host g.W.World.step g.W.World.constructs g.W.World.extracts in
    let first = state (g.R.Road.compiled c.args.road.now) c.args.world.now c.args.effects.now.items (g.R.Road.stored c.args.road.now) in
    let t = state (g.R.Road.compiled c.loop.road) c.loop.world c.loop.effects.items (g.R.Road.stored c.loop.road) in
    let u = state (g.R.Road.compiled c.advance.new.road) c.advance.new.world c.advance.new.effects.items (g.R.Road.stored c.advance.new.road) in
    let goal : Values → CallOf = λ vs. record {
      program = first.program;
      answers = answers_of words first;
      depth = c.args.depth - 1;
      term = c.args.term.0;
      args = vs;
    } in
    let may : Values → Type 0 = λ vs. StandEach first.stored vs c.args.args.items × IsReady g.R.Road.way.holds first.program c.args.term.0 vs in
    let still : first.program ≡ u.program = sym (c.in_ok-advanced.ensures.goes_on.program ∙ c.loop.invariant.gone.program) in
    running_next words way first goal may t c.loop.waiting.items c.loop.top c.loop.invariant (λ vs. record { of_program = refl; in_world = refl }) u
    c.advance.new.frame c.in_ok-advanced.advanced c.in_ok-advanced.ensures.goes_on c.in_ok-advanced.ensures.advanced c.next_frame.new.waiting.items
    c.in_ok-frame.field-0 c.laws.ensures
    (λ vs k start since ready stacked advances. c.in_ok-frame.ensures (goal vs) k start since still refl ready.1 stacked advances)
    c.in-Runs.frame c.in-Runs.is

pub returns-in_err-advanced-clause-lost : goal.returns-in_err-advanced-clause-lost
returns-in_err-advanced-clause-lost g c = on_err c.from_residual.result (λ vs stand ready.
    let way = g.R.Road.way in
    let words = host g.W.World.step g.W.World.constructs g.W.World.extracts in
    let first = state (g.R.Road.compiled c.args.road.now) c.args.world.now c.args.effects.now.items (g.R.Road.stored c.args.road.now) in
    let t = state (g.R.Road.compiled c.loop.road) c.loop.world c.loop.effects.items (g.R.Road.stored c.loop.road) in
    let u = state (g.R.Road.compiled c.advance.new.road) c.advance.new.world c.advance.new.effects.items (g.R.Road.stored c.advance.new.road) in
    let goal : Values → CallOf = λ vs. record {
      program = first.program;
      answers = answers_of words first;
      depth = c.args.depth - 1;
      term = c.args.term.0;
      args = vs;
    } in
    let may : Values → Type 0 = λ vs. StandEach first.stored vs c.args.args.items × IsReady g.R.Road.way.holds first.program c.args.term.0 vs in
    let (made, has, begun) = running_begun words way first c.laws.ensures goal may t c.loop.waiting.items c.loop.top c.loop.invariant
    (λ vs. record { of_program = refl; in_world = refl }) u c.in_err-advanced.ensures.lost vs (stand, ready) in
    let deep : suc (c.args.depth - 1) ≡ c.args.depth = let some = c.if-depth-eq0.false in omega (arith, some) in
    (made, has, subst (λ (d : ℕ). way.begins first.program (answers_of words first) d c.args.term.0 vs made) deep begun))

pub returns-in_err-frame-clause-lost : goal.returns-in_err-frame-clause-lost
returns-in_err-frame-clause-lost g c = on_err c.from_residual-in_err-frame.result (λ vs stand ready.
    let way = g.R.Road.way in
    let words = host g.W.World.step g.W.World.constructs g.W.World.extracts in
    let first = state (g.R.Road.compiled c.args.road.now) c.args.world.now c.args.effects.now.items (g.R.Road.stored c.args.road.now) in
    let t = state (g.R.Road.compiled c.loop.road) c.loop.world c.loop.effects.items (g.R.Road.stored c.loop.road) in
    let u = state (g.R.Road.compiled c.advance.new.road) c.advance.new.world c.advance.new.effects.items (g.R.Road.stored c.advance.new.road) in
    let goal : Values → CallOf = λ vs. record {
      program = first.program;
      answers = answers_of words first;
      depth = c.args.depth - 1;
      term = c.args.term.0;
      args = vs;
    } in
    let may : Values → Type 0 = λ vs. StandEach first.stored vs c.args.args.items × IsReady g.R.Road.way.holds first.program c.args.term.0 vs in
    let (made, has, begun) = running_begun words way first c.laws.ensures goal may t c.loop.waiting.items c.loop.top c.loop.invariant
    (λ vs. record { of_program = refl; in_world = refl }) u
    (λ k since open_in is. let (made, has, advances) = c.in_ok-advanced.ensures.advanced k since open_in is in
    (made, has, advances_begun way c.laws.ensures k k u.stored c.advance.new.frame (since ++ made) c.in_ok-advanced.advanced advances))
    vs (stand, ready) in
    let deep : suc (c.args.depth - 1) ≡ c.args.depth = let some = c.if-depth-eq0.false in omega (arith, some) in
    (made, has, subst (λ (d : ℕ). way.begins first.program (answers_of words first) d c.args.term.0 vs made) deep begun))

pub returns-clause-lost : goal.returns-clause-lost
returns-clause-lost g c = λ vs stand ready.
    let way = g.R.Road.way in
    let words = host g.W.World.step g.W.World.constructs g.W.World.extracts in
    let first = state (g.R.Road.compiled c.args.road.now) c.args.world.now c.args.effects.now.items (g.R.Road.stored c.args.road.now) in
    let t = state (g.R.Road.compiled c.loop.road) c.loop.world c.loop.effects.items (g.R.Road.stored c.loop.road) in
    let goal : Values → CallOf = λ vs. record {
      program = first.program;
      answers = answers_of words first;
      depth = c.args.depth - 1;
      term = c.args.term.0;
      args = vs;
    } in
    let may : Values → Type 0 = λ vs. StandEach first.stored vs c.args.args.items × IsReady g.R.Road.way.holds first.program c.args.term.0 vs in
    let (made, has, begun) = running_begun words way first c.laws.ensures goal may t c.loop.waiting.items c.loop.top c.loop.invariant
    (λ vs. record { of_program = refl; in_world = refl }) t
    (λ k since open_in is. (
      [],
      makes_none words t,
      subst (Begins way k) (sym (append-nil since)) (c.laws.ensures.begun k t.stored c.loop.top since is),
    ))
    vs (stand, ready) in
    let deep : suc (c.args.depth - 1) ≡ c.args.depth = let some = c.if-depth-eq0.false in omega (arith, some) in
    (made, has, subst (λ (d : ℕ). way.begins first.program (answers_of words first) d c.args.term.0 vs made) deep begun)
