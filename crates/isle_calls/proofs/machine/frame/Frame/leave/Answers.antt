use Rattle.std.proofs.Common.{◌≡◌, ◌∙◌, [], ap, refl, sym, reverse}
use Rattle.isle_calls.specs.declared.machine.frame.At.TheVariants.{Steps as AtSteps}
use Rattle.isle_calls.proofs.TreeRoad.Going.{at_end, frame_unreplied, no_items}
use Rattle.isle_calls.proofs.TreeRoad.Steps.{steps_left, none_left}
use Rattle.isle_calls.proofs.OpenCalls.Stacked.{last_first}
use Rattle.isle_calls.proofs.machine.frame.Frame.leave.Goals as goal

pub returns-in-Some : goal.returns-in-Some
returns-in-Some c = λ k stored since end f.
    let frame = c.args.self.now in
    let (steps, at, tree) = at_end frame.at end in
    let next = c.in-Some.field-0 in
    let shown = last_first c.pop.new.self.items frame.later.items next c.in-Some.ensures.items in
    let back = c.back_to.ensures in
    steps_left k stored frame since steps next (reverse c.pop.new.self.items) c.back_to.new.self c.pop.new.self
    (frame_unreplied k stored frame since (AtSteps steps) f at refl) tree shown refl back

pub returns-in-None : goal.returns-in-None
returns-in-None c = λ k stored since end f.
    let frame = c.args.self.now in
    let (steps, at, tree) = at_end frame.at end in
    let old : frame.later.items ≡ [] = no_items frame.later.items (sym frame.later.ok.0 ∙ c.in-None.ensures.cases.0) in
    let new : c.pop.new.self.items ≡ [] = no_items c.pop.new.self.items (sym c.pop.new.self.ok.0 ∙ c.in-None.ensures.cases.1) in
    none_left k stored frame since steps (frame_unreplied k stored frame since (AtSteps steps) f at refl) tree
    (ap reverse old) c.pop.new.self (ap reverse new)
