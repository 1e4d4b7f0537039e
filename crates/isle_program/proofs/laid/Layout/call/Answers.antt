use Rattle.std.proofs.Common.{◌≡◌, Bool, length, subst, sym, refl, arith}
use Rattle.std.proofs.lemmas.Result.{IfOk-weaker}
use Rattle.isle_program.specs.Inside.Plain.LaidOut.Expressions.{LaysCall}
use Rattle.isle_program.specs.declared.laid.Layout.{Layout}
use Rattle.isle_program.proofs.Plain.LaidOut.Parts.{lays_pure, lays_impure}
use Rattle.isle_program.proofs.laid.Layout.call.Goals as goal

pub returns-then-pure-clause-laid : goal.returns-then-pure-clause-laid
returns-then-pure-clause-laid c = IfOk-weaker c.put.result _ _
    (λ number p. subst (λ pure. LaysCall pure c.args.term c.args.args c.args.self.now c.put.new.self number) (sym c.if-pure.true)
    (lays_pure c.args.term c.args.args c.args.self.now c.put.new.self number p c.put.ensures.bound)) c.put.ensures.put

pub returns-clause-laid : goal.returns-clause-laid
returns-clause-laid c =
    let new : Layout = record c.put-2.new.self { calls = c.push.new.self } in
    let place : c.len-place.result ≡ length c.args.self.now.calls.items = omega (arith, c.len-place.ensures) in
    subst (λ (pure : Bool). LaysCall pure c.args.term c.args.args c.args.self.now new c.in_ok-number.number) (sym c.if-pure.false)
    (lays_impure c.args.term c.args.args c.len-place.result c.args.self.now c.put-2.new.self new c.in_ok-number.number
    c.in_ok-number.ensures.put c.in_ok-number.ensures.bound place refl refl c.in_ok-push.ensures.items)
