use Rattle.std.proofs.Common.{◌∙◌, ◌∷◌, [], ◌++◌, ap, reverse}
use Rattle.isle_calls.proofs.TreeRoad.Steps.{check_passed}
use Rattle.isle_calls.proofs.OpenCalls.Stacked.{last_first}
use Rattle.isle_calls.proofs.machine.frame.Frame.pass.Goals as goal

pub returns : goal.returns
returns c = λ k stored since passing.
    let frame = c.args.self.now in
    check_passed k stored frame since c.args.opens c.args.body c.args.behind c.push.new.self passing
    (last_first frame.later.items c.push.new.self.items _
    (c.in_ok-push.ensures.items ∙ ap (λ l. l ++ (record { steps = c.args.behind; bindings = c.len.result } ∷ [])) c.make_room.ensures.items)
    ∙ ap (λ n. record { steps = c.args.behind; bindings = n } ∷ reverse frame.later.items) c.len.ensures)
