use Rattle.std.proofs.Common.{sym, ◌∙◌, subst}
use Rattle.isle_calls.specs.Calls.Answers.{answers_in}
use Rattle.isle_calls.specs.Inside.Plain.Underway.{GoesOn, TurnTells, HasMoved}
use Rattle.isle_calls.proofs.Stores.Values.{extends_again}
use Rattle.isle_calls.proofs.PlainRoad.Evaluations.Turns.{top_parted, no_top, later_again, later_same}
use Rattle.isle_calls.proofs.PlainRoad.Evaluations.Loop.{still_first, still_next, still_tells, ends_known, ends_same, all_known}
use Rattle.isle_calls.proofs.plain.evaluation.Evaluating.evaluate.Goals as goal

pub loop-top-init : goal.loop-top-init
loop-top-init g c = still_first c.args.self.now.program.now
    (answers_in c.args.self.now.program.now (g.W.World.constructs c.args.self.now.world.now) (g.W.World.extracts c.args.self.now.world.now))
    c.args.parts.now c.args.variables.now c.args.store.now c.args.evaluation.now c.settle.new.self c.requires.sized
    c.settle.ensures

pub turn-requires-clause-sized : goal.turn-requires-clause-sized
turn-requires-clause-sized g c = c.loop-top.invariant.sized

pub turn-requires-clause-top : goal.turn-requires-clause-top
turn-requires-clause-top g c = top_parted c.loop-top.evaluation c.in-Some.top (sym c.top.ensures ∙ c.in-Some.is)

pub turn-requires-clause-unknown : goal.turn-requires-clause-unknown
turn-requires-clause-unknown g c = c.loop-top.invariant.open_top c.in-Some.top
    (top_parted c.loop-top.evaluation c.in-Some.top (sym c.top.ensures ∙ c.in-Some.is))

pub returns-in_err-evaluated-clause-kept : goal.returns-in_err-evaluated-clause-kept
returns-in_err-evaluated-clause-kept g c = extends_again c.loop-top.invariant.grown c.in_err-evaluated.ensures.kept

pub returns-in-Some-2-clause-evaluated : goal.returns-in-Some-2-clause-evaluated
returns-in-Some-2-clause-evaluated g c =
    still_tells c.args.self.now.program.now
    (answers_in c.args.self.now.program.now (g.W.World.constructs c.args.self.now.world.now) (g.W.World.extracts c.args.self.now.world.now))
    c.args.parts.now c.args.variables.now c.args.store.now c.args.evaluation.now c.loop-top.store c.turn.new.store
    c.loop-top.evaluation c.turn.new.evaluation c.in-Some-2.evaluated c.loop-top.invariant
    (λ s whole around hold h. subst (λ z. TurnTells s c.turn.new.store whole c.turn.new.evaluation z) c.in-Some-2.is
    (c.in_ok-evaluated.ensures.told s whole around hold h))

pub returns-in-Some-2-clause-all : goal.returns-in-Some-2-clause-all
returns-in-Some-2-clause-all g c =
    ends_known c.args.evaluation.now c.loop-top.evaluation c.turn.new.evaluation c.in-Some-2.evaluated
    (subst (λ z. GoesOn c.loop-top.evaluation c.turn.new.evaluation z) c.in-Some-2.is c.in_ok-evaluated.ensures.moved)

pub returns-in-Some-2-clause-later : goal.returns-in-Some-2-clause-later
returns-in-Some-2-clause-later g c =
    later_again c.args.evaluation.now c.loop-top.evaluation c.turn.new.evaluation c.loop-top.invariant.later
    (later_same c.loop-top.evaluation c.turn.new.evaluation
    (ends_same c.loop-top.evaluation c.turn.new.evaluation c.in-Some-2.evaluated
    (subst (λ z. GoesOn c.loop-top.evaluation c.turn.new.evaluation z) c.in-Some-2.is c.in_ok-evaluated.ensures.moved)))

pub returns-in-Some-2-clause-missed : goal.returns-in-Some-2-clause-missed
returns-in-Some-2-clause-missed g c = λ missed. let not = c.if-evaluation.false in absurd cc

pub returns-in-Some-2-clause-kept : goal.returns-in-Some-2-clause-kept
returns-in-Some-2-clause-kept g c = extends_again c.loop-top.invariant.grown c.in_ok-evaluated.ensures.kept

-- a turn that tells nothing comes nearer to the end
moved : (g : _) (c : goal.In_default-2 g) → HasMoved c.loop-top.evaluation c.turn.new.evaluation
moved g c = subst (λ z. GoesOn c.loop-top.evaluation c.turn.new.evaluation z) c.in_default-2.is c.in_ok-evaluated.ensures.moved

pub loop-top-smaller : goal.loop-top-smaller
loop-top-smaller g c = (moved g c).smaller

pub loop-top-preserved : goal.loop-top-preserved
loop-top-preserved g c =
    still_next c.args.self.now.program.now
    (answers_in c.args.self.now.program.now (g.W.World.constructs c.args.self.now.world.now) (g.W.World.extracts c.args.self.now.world.now))
    c.args.parts.now c.args.variables.now c.args.store.now c.args.evaluation.now c.loop-top.store c.turn.new.store
    c.loop-top.evaluation c.turn.new.evaluation c.loop-top.invariant c.in_ok-evaluated.ensures.kept (moved g c)
    (λ s whole around hold h. subst (λ z. TurnTells s c.turn.new.store whole c.turn.new.evaluation z) c.in_default-2.is
    (c.in_ok-evaluated.ensures.told s whole around hold h))

pub returns-clause-evaluated : goal.returns-clause-evaluated
returns-clause-evaluated g c = λ s whole around hold h. (
  c.loop-top.invariant.underway s whole around hold h,
  no_top c.loop-top.evaluation (sym c.top.ensures ∙ c.in_default.is),
)

pub returns-clause-all : goal.returns-clause-all
returns-clause-all g c = λ k among.
    all_known c.args.evaluation.now c.loop-top.evaluation c.loop-top.invariant.later.remains
    (no_top c.loop-top.evaluation (sym c.top.ensures ∙ c.in_default.is)) k among

pub returns-clause-later : goal.returns-clause-later
returns-clause-later g c = c.loop-top.invariant.later

pub returns-clause-missed : goal.returns-clause-missed
returns-clause-missed g c = λ missed. let not = c.if-evaluation.false in absurd cc

pub returns-clause-kept : goal.returns-clause-kept
returns-clause-kept g c = c.loop-top.invariant.grown
