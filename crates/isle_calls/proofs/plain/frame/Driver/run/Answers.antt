use Rattle.std.proofs.Common.{◌≡◌, ◌⊎◌, inl, inr, ℕ, [], subst, sym}
use Rattle.isle_calls.specs.declared.plain.frame.current.At.{At}
use Rattle.isle_calls.specs.declared.plain.frame.current.At.TheVariants.{IfLet, Right}
use Rattle.isle_calls.specs.Inside.Plain.Frames.{IsOnWay}
use Rattle.std.proofs.lemmas.Result.{on_err_weaker}
use Rattle.isle_calls.specs.declared.frames.Advanced.TheVariants.{Missing}
use Rattle.isle_calls.specs.declared.plain.frame.Ending.TheVariants.{Leaves, Comes}
use Rattle.isle_calls.proofs.OpenCalls.Made.{made_none, gone_none}
use Rattle.isle_calls.proofs.PlainRoad.Frames.Told.{at_place}
use Rattle.isle_calls.proofs.PlainRoad.Frames.Turns.{ends_none, left_leads}
use Rattle.isle_calls.proofs.plain.frame.Driver.run.Goals as goal

pub returns-in-Left-clause-ending : goal.returns-in-Left-clause-ending
returns-in-Left-clause-ending g c = λ k others tried since runs h. (
  [],
  made_none _ _ _ _,
  ends_none k c.args.self.now.store c.args.current.now others tried since Leaves (left_leads (at_place c.in-Left.is h)),
)

pub returns-in-Left-clause-goes_on : goal.returns-in-Left-clause-goes_on
returns-in-Left-clause-goes_on g c = gone_none _ _

pub returns-in-Missed-clause-ending : goal.returns-in-Missed-clause-ending
returns-in-Missed-clause-ending g c = λ k others tried since runs h. (
  [],
  made_none _ _ _ _,
  ends_none k c.args.self.now.store c.args.current.now others tried since (Comes Missing) ((at_place c.in-Missed.is h).at),
)

pub returns-in-Missed-clause-goes_on : goal.returns-in-Missed-clause-goes_on
returns-in-Missed-clause-goes_on g c = gone_none _ _

on_way : {at : At} → ((n : ℕ) × (at ≡ IfLet n)) ⊎ ((n : ℕ) × (at ≡ Right n)) → IsOnWay at
on_way (inl (n, is)) = subst IsOnWay (sym is) tt
on_way (inr (n, is)) = subst IsOnWay (sym is) tt

pub returns-in-IfLet-clause-lost : goal.returns-in-IfLet-clause-lost
returns-in-IfLet-clause-lost g c = on_err_weaker c.evaluate.result (λ lost k others tried since runs h.
    lost k others tried since runs (on_way c.in-IfLet.is) h) c.evaluate.ensures.lost
