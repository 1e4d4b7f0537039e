use Rattle.std.proofs.Common.{◌≡◌, ◌∷◌, [], List, None, refl, sym, subst}
use Rattle.std.proofs.lemmas.List.{append-nil}
use Rattle.std.proofs.lemmas.Result.{IfOk-weaker}
use Rattle.isle_meaning.specs.Worlds.{Event}
use Rattle.isle_calls.specs.Inside.Blocks.Frames.{CallBegins, IsFrameOf, tree_way}
use Rattle.isle_calls.specs.Calls.Ways.{TurnsTo}
use Rattle.isle_calls.proofs.TreeRoad.Going.{no_items}
use Rattle.isle_calls.proofs.TreeRoad.Waiting.{frame_has_begun}
use Rattle.isle_calls.proofs.TreeRoad.Walking.{frame_checks, frame_opened, frame_skips}
use Rattle.isle_calls.proofs.OpenCalls.Made.{made_none, on_err}
use Rattle.isle_calls.proofs.machine.road.MachineRoad.go.Goals as goal

pub returns-in_ok-take_step-in-Steps-clause-turned : goal.returns-in_ok-take_step-in-Steps-clause-turned
returns-in_ok-take_step-in-Steps-clause-turned g c = λ k since o f. (
  [],
  made_none _ _ _ _,
  subst (IsFrameOf k c.args.self.now.store c.take_step.new.self) (sym (append-nil since))
      (c.in_ok-take_step-in-Steps.ensures k c.args.self.now.store since c.in-Steps.is f),
)

pub returns-in_err-take_step-in-Steps-clause-lost : goal.returns-in_err-take_step-in-Steps-clause-lost
returns-in_err-take_step-in-Steps-clause-lost g c = on_err c.from_residual.result (λ k since o f. (
  [],
  made_none _ _ _ _,
  subst (CallBegins k) (sym (append-nil since)) (frame_has_begun k c.args.self.now.store c.args.frame.now since f),
))

pub returns-in-None-clause-turned : goal.returns-in-None-clause-turned
returns-in-None-clause-turned g c = IfOk-weaker c.check.result _ _ (λ turn told. λ k since o f.
    let none = no_items c.in-Binds.sites.now c.in-None.ensures.cases in (
      [],
      made_none _ _ _ _,
      subst (λ (s : List Event). TurnsTo tree_way k c.check.new.self.store c.check.new.frame s turn) (sym (append-nil since))
          (told k since o.of_program (frame_checks k c.args.self.now.store c.args.frame.now since c.in-Binds.sites c.in-Binds.check c.in-Binds.behind
          f c.in-Binds.is none)),
    )) c.check.ensures.turned

pub returns-in-None-clause-lost : goal.returns-in-None-clause-lost
returns-in-None-clause-lost g c = on_err c.check.result (λ k since o f. (
  [],
  made_none _ _ _ _,
  subst (CallBegins k) (sym (append-nil since)) (frame_has_begun k c.args.self.now.store c.args.frame.now since f),
))

pub returns-in-None-clause-goes_on : goal.returns-in-None-clause-goes_on
returns-in-None-clause-goes_on g c = record {
  program = c.check.ensures.program;
  same = (refl, refl);
  made = ([], made_none _ _ _ _);
  kept = c.check.ensures.kept;
}

pub returns-in-Some-None-default-clause-turned : goal.returns-in-Some-None-default-clause-turned
returns-in-Some-None-default-clause-turned g c = λ k since o f.
    let w = c.in-Some-None-default in
    let first : c.in-Opens.sites.now ≡ None ∷ w.others.now =
    subst (λ x. c.in-Opens.sites.now ≡ x ∷ w.others.now) w.field-0-0-is w.ensures.cases.0 in (
      [],
      made_none _ _ _ _,
      subst (IsFrameOf k c.args.self.now.store _) (sym (append-nil since))
          (frame_skips k c.args.self.now.store c.args.frame.now since c.in-Opens.sites w.others c.in-Opens.body f c.in-Opens.is first),
    )

pub returns-in-None-split_first-clause-turned : goal.returns-in-None-split_first-clause-turned
returns-in-None-split_first-clause-turned g c = λ k since o f.
    let none = no_items c.in-Opens.sites.now c.in-None-split_first.ensures.cases in (
      [],
      made_none _ _ _ _,
      subst (IsFrameOf k c.args.self.now.store _) (sym (append-nil since))
          (frame_opened k c.args.self.now.store c.args.frame.now since c.in-Opens.sites c.in-Opens.body f c.in-Opens.is none),
    )

pub returns-in-Past-clause-turned : goal.returns-in-Past-clause-turned
returns-in-Past-clause-turned g c = IfOk-weaker c.past.result _ _ (λ turn told. λ k since o f. (
  [],
  made_none _ _ _ _,
  subst (λ (s : List Event). TurnsTo tree_way k c.args.self.now.store c.args.frame.now s turn) (sym (append-nil since))
      (told k since o.of_program c.in-Past.is f),
)) c.past.ensures

pub returns-in-Past-clause-lost : goal.returns-in-Past-clause-lost
returns-in-Past-clause-lost g c = on_err c.past.result (λ k since o f. (
  [],
  made_none _ _ _ _,
  subst (CallBegins k) (sym (append-nil since)) (frame_has_begun k c.args.self.now.store c.args.frame.now since f),
))
