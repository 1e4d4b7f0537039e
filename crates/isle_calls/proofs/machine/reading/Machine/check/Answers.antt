use Rattle.std.proofs.Common.{subst}
use Rattle.std.proofs.lemmas.Result.{IfOk-weaker}
use Rattle.isle_blocks.specs.declared.serializer.views.ControlFlow.{ControlFlow}
use Rattle.isle_calls.specs.Inside.Blocks.Frames.{IsChecking}
use Rattle.isle_calls.proofs.machine.reading.Machine.check.Goals as goal

pub returns-in-Return-clause-turned : goal.returns-in-Return-clause-turned
returns-in-Return-clause-turned c = IfOk-weaker c.give.result _ _ (λ turn told. λ k since same g.
    told k since c.in-Return.rule c.in-Return.pos c.args.behind same
    (subst (λ (f : ControlFlow). IsChecking k c.args.self.now.store c.args.frame.now f c.args.behind since) c.in-Return.is g)) c.give.ensures.turned
