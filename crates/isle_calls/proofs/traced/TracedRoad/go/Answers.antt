use Rattle.std.proofs.Common.{[], sym, subst}
use Rattle.std.proofs.lemmas.List.{append-nil}
use Rattle.isle_calls.specs.Calls.States.{HasGoneOn, host, state}
use Rattle.isle_calls.specs.Calls.Ways.{Begins}
use Rattle.isle_calls.proofs.OpenCalls.Made.{gone_none, made_none, on_err}
use Rattle.isle_calls.proofs.traced.TracedRoad.go.Goals as goal

pub returns-in_err-note-clause-lost : goal.returns-in_err-note-clause-lost
returns-in_err-note-clause-lost g c = on_err c.from_residual.result (λ k since open_in is. (
  [],
  made_none _ _ _ _,
  subst (Begins g.R.Road.way k) (sym (append-nil since))
      (c.laws.ensures.begun k (g.R.Road.stored c.args.self.now.road) c.args.frame.now since is),
))

pub returns-in_err-note-clause-goes_on : goal.returns-in_err-note-clause-goes_on
returns-in_err-note-clause-goes_on g c =
    subst (λ (road : g.row.R.Denot). HasGoneOn (host g.W.World.step g.W.World.constructs g.W.World.extracts)
    (state (g.R.Road.compiled c.args.self.now.road) c.args.world.now c.args.effects.now.items (g.R.Road.stored c.args.self.now.road))
    (state (g.R.Road.compiled road) c.args.world.now c.args.effects.now.items (g.R.Road.stored road)))
    (sym c.note.ensures) (gone_none _ _)
