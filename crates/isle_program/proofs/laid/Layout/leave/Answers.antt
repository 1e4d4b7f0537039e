use Rattle.std.proofs.Common.{◌∙◌}
use Rattle.isle_program.specs.Inside.Plain.LaidOut.Expressions.{stands_for}
use Rattle.isle_program.proofs.Plain.LaidOut.Bound.{undone_turn}
use Rattle.isle_program.proofs.laid.Layout.leave.Goals as goal

pub loop-var-preserved : goal.loop-var-preserved
loop-var-preserved c = record {
  parts = c.bind.ensures.parts ∙ c.loop-var.invariant.parts;
  calls = c.bind.ensures.calls ∙ c.loop-var.invariant.calls;
  same = λ k. undone_turn c.loop-var.hidden.items c.pop.new.self.items (c.in-Some.var, c.in-Some.before)
      (stands_for c.loop-var.self.bound.items) (stands_for c.bind.new.self.bound.items) c.in-Some.ensures.items
      c.in_ok-bind.ensures.bound.each k
      ∙ c.loop-var.invariant.same k;
}
