use Rattle.std.proofs.lemmas.Result.{IfOk-weaker}
use Rattle.isle_calls.proofs.plain.frame.Driver.go_on.Goals as goal

pub returns-in-IfLet-clause-ending : goal.returns-in-IfLet-clause-ending
returns-in-IfLet-clause-ending g c = IfOk-weaker c.fit_condition.result _ _ (λ ending told k others tried since runs empty way h.
    told k others tried since runs empty c.in-IfLet.is h) c.fit_condition.ensures.ending

pub returns-in-Right-clause-ending : goal.returns-in-Right-clause-ending
returns-in-Right-clause-ending g c = IfOk-weaker c.next_call.result _ _ (λ ending told k others tried since runs empty way h.
    told k c.args.self.now.store others tried since empty c.in-Right.is h) c.next_call.ensures
